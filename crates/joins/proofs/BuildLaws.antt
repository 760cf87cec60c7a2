-- Arrays of which a part is used: what is written after the used part is appended to it. So a chain's loop and row are appended, and the
-- arrays hold eight chains.
use Prim.Native.Nat.{ℕ, suc, ◌+◌, ◌*◌, ◌^◌, ◌≤◌, ◌<◌}
use mathlib.Core.Path.{◌≡◌, refl, sym, ap, ◌∙◌}
use mathlib.Core.Bool.{Bool, true, false, ◌&&◌}
use mathlib.Core.List.{List, [], ◌∷◌, ◌++◌}
use native.Mathlib.Nat.{pow-suc, pow-le-pow_right, mul-le-mul}
use native.Mathlib.Numerals.{add-one}
use native.Mathlib.Omega.{arith}
use lib.Dec.{ltb}
use lib.ListN.{length, get_or, set, take, drop, length-take, drop_of_length-le}
use lib.Seq.{take-suc-set, drop-cons}
use Rattle.std.specs.Prelude.{Some, None}
use Rattle.cellsums.specs.declared.Row.{Row}
use Rattle.joins.specs.Flat.{Flat, with_chain, add_chain, add_chains, flat, nothing, Chains, Room, Grown}
use Rattle.joins.specs.declared.Loop.{Loop}
use Rattle.joins.specs.declared.Used.{Used}
use Rattle.joins.proofs.CountLaws.{row_of}
use Rattle.joins.proofs.ChainLaws.{loop_of}

-- ---- one chain

written : {A : Type 0} (xs : List A) (n : ℕ) (x : A) → n < length xs → take (n + 1) (set xs n x) ≡ take n xs ++ (x ∷ [])
written xs n x h = rw (add-one n) (take-suc-set xs n x h)

module _ (u : Used) (L : List Loop) (R : List Row) (n a b c : ℕ) where
  pub shared_added : u.loops < length L → u.rows < length R
      → flat (record { loops = u.loops + 1; rows = u.rows + 1; count = u.count }) (set L u.loops (loop_of (n + 1) (Some u.rows) 0 0 c)) (set R u.rows (row_of 1 a b)) ≡ with_chain true true (flat u L R) n a b c
  unfolding with_chain
  shared_added h k =
      let at : u.rows ≡ length (take u.rows R) = sym (length-take u.rows R ∙ omega arith) in
      λ i. record {
        loops = (written L u.loops _ h ∙ ap (λ p. take u.loops L ++ (loop_of (n + 1) (Some p) 0 0 c ∷ [])) at) i;
        rows = written R u.rows (row_of 1 a b) k i;
        count = u.count;
      }

  pub closed_added : u.rows < length R → flat (record { loops = u.loops; rows = u.rows + 1; count = u.count * (n + 1) }) L (set R u.rows (row_of (n + 1) a b)) ≡ with_chain true false (flat u L R) n a b c
  unfolding with_chain
  closed_added k = λ i. record { loops = take u.loops L; rows = written R u.rows (row_of (n + 1) a b) k i; count = u.count * (n + 1) }

  pub single_added : u.loops < length L → flat (record { loops = u.loops + 1; rows = u.rows; count = u.count }) (set L u.loops (loop_of (n + 1) None a b c)) R ≡ with_chain false true (flat u L R) n a b c
  unfolding with_chain
  single_added h = λ i. record { loops = written L u.loops (loop_of (n + 1) None a b c) h i; rows = take u.rows R; count = u.count }

  pub none_added : flat u L R ≡ with_chain false false (flat u L R) n a b c
  unfolding with_chain
  none_added = refl

-- which chain it is
pub chain_is : (f : Flat) (n a b c : ℕ) (shared kept : Bool) {g : Flat} → shared ≡ (ltb 0 a && ltb 0 b) → kept ≡ ltb 0 c → g ≡ with_chain shared kept f n a b c → g ≡ add_chain f n a b c
chain_is f n a b c shared kept e o h = h ∙ (λ i. with_chain (e i) (o i) f n a b c)

-- ---- all chains

-- the invariant over the chains: what k of them use, and that the others lead from there to the whole
pub record Building (windows lefts rights owns : List ℕ) (L : List Loop) (R : List Row) (u : Used) (k : ℕ) : Type 0 where
  pub most : k ≤ length windows
  pub loops_used : u.loops ≤ k
  pub rows_used : u.rows ≤ k
  pub count_low : u.count ≤ 16 ^ k
  pub loops_length : length L ≡ 8
  pub rows_length : length R ≡ 8
  pub whole : add_chains (flat u L R) (drop k windows) (drop k lefts) (drop k rights) (drop k owns) ≡ add_chains nothing windows lefts rights owns

module _ (windows lefts rights owns : List ℕ) (chains : Chains windows lefts rights owns) where
  pub building_none : (L : List Loop) (R : List Row) → length L ≡ 8 → length R ≡ 8 → Building windows lefts rights owns L R (record { loops = 0; rows = 0; count = 1 }) 0
  building_none L R h k = record { most = omega arith; loops_used = omega arith; rows_used = omega arith; count_low = omega arith; loops_length = h; rows_length = k; whole = refl }

  module _ (L : List Loop) (R : List Row) (u : Used) (k : ℕ) (b : Building windows lefts rights owns L R u k) (h : k < length windows) where
    count_up : u.count * (get_or windows k 0 + 1) ≤ 16 ^ (k + 1)
    count_up =
        let e : get_or windows k 0 + 1 ≤ 16 = omega (arith, chains.messages k) in
        let p : 16 ^ suc k ≡ 16 ^ k * 16 = pow-suc 16 k in
        rw (add-one k) (omega (arith, mul-le-mul b.count_low e, p))

    pub building_room : Room u (get_or windows k 0) (length L) (length R)
    building_room =
        let q : k + 1 ≤ 8 = omega (arith, chains.few) in
        let p : 16 ^ (k + 1) ≤ 16 ^ 8 = pow-le-pow_right {n = 16} (omega arith) q in
        record { loops_room = omega (arith, b.loops_used, chains.few, b.loops_length); rows_room = omega (arith, b.rows_used, chains.few, b.rows_length); window = chains.messages k; count_room = omega (arith, count_up, p) }

    pub building_more : (L' : List Loop) (R' : List Row) (v : Used) → length L' ≡ length L → length R' ≡ length R
        → (flat v L' R' ≡ add_chain (flat u L R) (get_or windows k 0) (get_or lefts k 0) (get_or rights k 0) (get_or owns k 0)) × Grown u v (get_or windows k 0) → Building windows lefts rights owns L' R' v (k + 1)
    unfolding add_chains
    building_more L' R' v el er e = record {
      most = omega arith;
      loops_used = omega (arith, b.loops_used, e.1.loops);
      rows_used = omega (arith, b.rows_used, e.1.rows);
      count_low = omega (arith, count_up, e.1.count);
      loops_length = el ∙ b.loops_length;
      rows_length = er ∙ b.rows_length;
      whole = ap (λ f. add_chains f (drop (k + 1) windows) (drop (k + 1) lefts) (drop (k + 1) rights) (drop (k + 1) owns)) e.0 ∙ sym one_chain ∙ b.whole;
    }
      where
        one_chain : add_chains (flat u L R) (drop k windows) (drop k lefts) (drop k rights) (drop k owns) ≡ add_chains (add_chain (flat u L R) (get_or windows k 0) (get_or lefts k 0) (get_or rights k 0) (get_or owns k 0)) (drop (k + 1) windows) (drop (k + 1) lefts) (drop (k + 1) rights) (drop (k + 1) owns)
        one_chain =
            let n = drop-cons windows k 0 h in
            let x = drop-cons lefts k 0 (omega (arith, chains.lefts_length)) in
            let y = drop-cons rights k 0 (omega (arith, chains.rights_length)) in
            let z = drop-cons owns k 0 (omega (arith, chains.owns_length)) in
            rw (add-one k) (λ i. add_chains (flat u L R) (n i) (x i) (y i) (z i))

  pub built : (L : List Loop) (R : List Row) (u : Used) (k : ℕ) → Building windows lefts rights owns L R u k → length windows ≤ k → (flat u L R ≡ add_chains nothing windows lefts rights owns) × (u.loops ≤ 8) × (u.rows ≤ 8)
  unfolding add_chains
  built L R u k b h = (sym done ∙ b.whole, omega (arith, b.loops_used, b.most, chains.few), omega (arith, b.rows_used, b.most, chains.few))
    where
      done : add_chains (flat u L R) (drop k windows) (drop k lefts) (drop k rights) (drop k owns) ≡ flat u L R
      done = ap (λ ns. add_chains (flat u L R) ns (drop k lefts) (drop k rights) (drop k owns)) (drop_of_length-le windows h)
