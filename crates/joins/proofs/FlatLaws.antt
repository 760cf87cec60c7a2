-- The lists built from windows and strides are those of the join's chains: a stride is 0 exactly where its chain is not partial. And the
-- bounds that make them sound: the chains' last places lie in their nodes, and no cell has more than 16^8 pairs.
use Prim.Native.Nat.{ℕ, suc, ◌+◌, ◌*◌, ◌^◌, ◌≤◌, ◌<◌}
use mathlib.Core.Path.{◌≡◌, refl, sym, ap, ◌∙◌}
use mathlib.Core.Bool.{true, false}
use mathlib.Core.List.{List, [], ◌∷◌, ◌++◌, zip_with, append_assoc, append-nil}
use native.Mathlib.Nat.{mul-one, mul_assoc, mul-le-mul_right, le_refl, le_trans, pow-suc}
use native.Mathlib.Omega.{arith}
use borrow.Author.Tests.{lt-ltb}
use lib.ListN.{length, get_or}
use Rattle.std.specs.Prelude.{Some, None}
use Rattle.network.specs.Coverage.{Coverage, finished, partial, absent}
use Rattle.network.specs.Cells.{span, size, cells, stride, strides}
use Rattle.network.proofs.CoverageLaws.{Meet, Meets}
use Rattle.network.proofs.CellLaws.{cells_pos}
use Rattle.joins.specs.Flat.{Flat, with_chain, add_chain, add_chains}
use Rattle.joins.proofs.CountLaws.{row_of}
use Rattle.joins.proofs.ChainLaws.{Chain, both, ends, one, still, loop_of, loops, rows, row_length}
use Rattle.joins.proofs.MeetLaws.{chain, chains}
use Rattle.joins.proofs.SoundLaws.{more_left, more_right, more_own, ended, most}

-- ---- the lists

abbrev pub extended : Flat → List Chain → Flat
extended f cs = record { loops = f.loops ++ loops (length f.rows) cs; rows = f.rows ++ rows cs; count = f.count * ended cs }

module _ (f : Flat) (n a b c : ℕ) (cs : List Chain) where
  with_both : extended (with_chain true true f n a b c) cs ≡ extended f (both n a b c ∷ cs)
  unfolding with_chain loops rows ended
  with_both =
      let first = loop_of (n + 1) (Some (length f.rows)) 0 0 c in
      λ i. record {
        loops = (append_assoc f.loops (first ∷ []) (loops (length (f.rows ++ (row_of 1 a b ∷ []))) cs) ∙ ap (λ k. f.loops ++ (first ∷ loops k cs)) (sym (row_length f.rows (row_of 1 a b)))) i;
        rows = append_assoc f.rows (row_of 1 a b ∷ []) (rows cs) i;
        count = f.count * ended cs;
      }

  with_ends : extended (with_chain true false f n a b c) cs ≡ extended f (ends n a b ∷ cs)
  unfolding with_chain loops rows ended
  with_ends = λ i. record {
    loops = f.loops ++ loops (sym (row_length f.rows (row_of (n + 1) a b)) i) cs;
    rows = append_assoc f.rows (row_of (n + 1) a b ∷ []) (rows cs) i;
    count = mul_assoc f.count (n + 1) (ended cs) i;
  }

  with_one : extended (with_chain false true f n a b c) cs ≡ extended f (one n a b c ∷ cs)
  unfolding with_chain loops rows ended
  with_one = λ i. record { loops = append_assoc f.loops (loop_of (n + 1) None a b c ∷ []) (loops (length f.rows) cs) i; rows = f.rows ++ rows cs; count = f.count * ended cs }

  with_still : (x : ℕ) → extended (with_chain false false f n a b c) cs ≡ extended f (still x ∷ cs)
  unfolding with_chain loops rows ended
  with_still x = refl

module _ (n a b c : ℕ) (ha : 1 ≤ a) (hb : 1 ≤ b) (hc : 1 ≤ c) (f : Flat) (cs : List Chain) where
  chain_flat : {l r j : Coverage} (t : Meet l r j) → extended (add_chain f n (stride (span l n) a) (stride (span r n) b) (stride (span j n) c)) cs ≡ extended f (chain t n a b c ∷ cs)
  unfolding chain stride span
  chain_flat (Meet.left finished) = with_still f n 0 0 0 cs n
  chain_flat (Meet.left partial) = rw (lt-ltb 0 a ha, lt-ltb 0 c hc) (with_one f n a 0 c cs)
  chain_flat (Meet.left absent) = with_still f n 0 0 0 cs 0
  chain_flat (Meet.right finished) = with_still f n 0 0 0 cs n
  chain_flat (Meet.right partial) = rw (lt-ltb 0 c hc) (with_one f n 0 b c cs)
  chain_flat (Meet.right absent) = with_still f n 0 0 0 cs 0
  chain_flat Meet.shared = rw (lt-ltb 0 a ha, lt-ltb 0 b hb, lt-ltb 0 c hc) (with_both f n a b c cs)
  chain_flat Meet.closed = rw (lt-ltb 0 a ha, lt-ltb 0 b hb) (with_ends f n a b 0 cs)

no_chain : (f : Flat) → f ≡ extended f []
unfolding loops rows ended
no_chain f = λ i. record { loops = sym (append-nil f.loops) i; rows = sym (append-nil f.rows) i; count = sym (mul-one f.count) i }

pub chains_flat : {ls rs js : List Coverage} (ts : Meets ls rs js) (N : List ℕ) (f : Flat) → add_chains f N (strides (zip_with span ls N)) (strides (zip_with span rs N)) (strides (zip_with span js N)) ≡ extended f (chains ts N)
unfolding add_chains chains zip_with strides
chains_flat Meets.none [] f = no_chain f
chains_flat Meets.none (n ∷ N) f = no_chain f
chains_flat (Meets.more t ts) [] f = no_chain f
chains_flat (Meets.more {l = l} {r = r} {j = j} {ls = ls} {rs = rs} {js = js} t ts) (n ∷ N) f =
    let a = cells (zip_with span ls N) in
    let b = cells (zip_with span rs N) in
    let c = cells (zip_with span js N) in
    chains_flat ts N (add_chain f n (stride (span l n) a) (stride (span r n) b) (stride (span j n) c))
    ∙ chain_flat n a b c (cells_pos (zip_with span ls N)) (cells_pos (zip_with span rs N)) (cells_pos (zip_with span js N)) f (chains ts N) t

-- ---- the bounds

module _ (n a b c : ℕ) (cs : List Chain) where
  chain_left : {l r j : Coverage} (t : Meet l r j) → more_left cs < a → more_left (chain t n a b c ∷ cs) < size (span l n) * a
  unfolding chain more_left span size
  chain_left (Meet.left finished) h = omega arith
  chain_left (Meet.left partial) h = omega arith
  chain_left (Meet.left absent) h = omega arith
  chain_left (Meet.right finished) h = omega arith
  chain_left (Meet.right partial) h = omega arith
  chain_left (Meet.right absent) h = omega arith
  chain_left Meet.shared h = omega arith
  chain_left Meet.closed h = omega arith

  chain_right : {l r j : Coverage} (t : Meet l r j) → more_right cs < b → more_right (chain t n a b c ∷ cs) < size (span r n) * b
  unfolding chain more_right span size
  chain_right (Meet.left finished) h = omega arith
  chain_right (Meet.left partial) h = omega arith
  chain_right (Meet.left absent) h = omega arith
  chain_right (Meet.right finished) h = omega arith
  chain_right (Meet.right partial) h = omega arith
  chain_right (Meet.right absent) h = omega arith
  chain_right Meet.shared h = omega arith
  chain_right Meet.closed h = omega arith

  chain_own : {l r j : Coverage} (t : Meet l r j) → more_own cs < c → more_own (chain t n a b c ∷ cs) < size (span j n) * c
  unfolding chain more_own span size
  chain_own (Meet.left finished) h = omega arith
  chain_own (Meet.left partial) h = omega arith
  chain_own (Meet.left absent) h = omega arith
  chain_own (Meet.right finished) h = omega arith
  chain_own (Meet.right partial) h = omega arith
  chain_own (Meet.right absent) h = omega arith
  chain_own Meet.shared h = omega arith
  chain_own Meet.closed h = omega arith

  chain_pairs : {l r j : Coverage} (t : Meet l r j) → n ≤ 15 → ended (chain t n a b c ∷ cs) * most (chain t n a b c ∷ cs) ≤ 16 * (ended cs * most cs)
  unfolding chain ended most
  chain_pairs t h = by t (mul-le-mul_right (ended cs * most cs) (room n h))
    where
      room : (n : ℕ) → n ≤ 15 → n + 1 ≤ 16
      room n h = omega arith

      by : {l r j : Coverage} (t : Meet l r j) → (n + 1) * (ended cs * most cs) ≤ 16 * (ended cs * most cs) → ended (chain t n a b c ∷ cs) * most (chain t n a b c ∷ cs) ≤ 16 * (ended cs * most cs)
      by (Meet.left finished) k = omega arith
      by (Meet.left partial) k = omega arith
      by (Meet.left absent) k = omega arith
      by (Meet.right finished) k = omega arith
      by (Meet.right partial) k = omega arith
      by (Meet.right absent) k = omega arith
      by Meet.shared k = omega arith
      by Meet.closed k = omega arith

pub record Low (ls rs js : List Coverage) (N : List ℕ) (cs : List Chain) : Type 0 where
  pub left : more_left cs < cells (zip_with span ls N)
  pub right : more_right cs < cells (zip_with span rs N)
  pub own : more_own cs < cells (zip_with span js N)
  pub pairs : ended cs * most cs ≤ 16 ^ length N

pub chains_low : {ls rs js : List Coverage} (ts : Meets ls rs js) (N : List ℕ) → length js ≡ length N → ((k : ℕ) → get_or N k 0 ≤ 15) → Low ls rs js N (chains ts N)
unfolding chains zip_with cells more_left more_right more_own rows ended most
chains_low Meets.none [] e h = record { left = le_refl 1; right = le_refl 1; own = le_refl 1; pairs = le_refl 1 }
chains_low Meets.none (n ∷ N) e h = absurd (omega arith)
chains_low (Meets.more t ts) [] e h = absurd (omega arith)
chains_low (Meets.more {ls = ls} {rs = rs} {js = js} t ts) (n ∷ N) e h =
    let a = cells (zip_with span ls N) in
    let b = cells (zip_with span rs N) in
    let c = cells (zip_with span js N) in
    let k = chains_low ts N (omega arith) (λ k. h (suc k)) in
    record {
      left = chain_left n a b c (chains ts N) t k.left;
      right = chain_right n a b c (chains ts N) t k.right;
      own = chain_own n a b c (chains ts N) t k.own;
      pairs = le_trans (chain_pairs n a b c (chains ts N) t (h 0)) (rw (pow-suc 16 (length N)) (omega (arith, k.pairs)));
    }
