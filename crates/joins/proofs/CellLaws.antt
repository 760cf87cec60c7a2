-- All pairs of a cell at once: no pair reads the result cell, so where the whole sum fits each partial sum does, and the walk adds it.
use Prim.Native.Nat.{ℕ, zero, suc, ◌+◌, ◌-◌, ◌*◌, ◌^◌, ◌≤◌, ◌<◌}
use mathlib.Core.Path.{◌≡◌, sym, ap, ◌∙◌}
use mathlib.Core.Bool.{true, false}
use mathlib.Core.List.{List, [], ◌∷◌, ◌++◌, map, flat_map}
use native.Mathlib.Nat.{mul-le-mul_right}
use native.Mathlib.Omega.{arith}
use borrow.Author.Tests.{lt-ltb}
use borrow.Rule.Slice.PartMut.{put_mid}
use lib.ListN.{length, get_or, set, length-set, length-map}
use lib.Seq.{get_or-set_same, get_or-set_other, set-set, set-get_or}
use Rattle.sums.specs.Lists.{from}
use Rattle.sums.specs.Sums.{sum_over}
use Rattle.network.specs.Pairs.{Pair}
use Rattle.network.specs.Run.{sum_at, add}
use Rattle.arith.specs.Capped.{capped}
use Rattle.std.specs.Prelude.{Some}
use Rattle.arith.proofs.CappedLaws.{exact_says}
use Rattle.cellsums.specs.Places.{places, reach_left, reach_right, cells_in, product}
use Rattle.cellsums.specs.declared.Row.{Row}
use Rattle.joins.specs.Walk.{state, attempt, step, walk}
use Rattle.joins.specs.Loops.{pair_at, cell_pairs, Inside}
use Rattle.joins.specs.declared.Join.{Join}
use Rattle.joins.specs.declared.Quota.{Quota}
use Rattle.joins.proofs.PartLaws.{part_at, put_set}
use Rattle.joins.proofs.WalkLaws.{walk_past, walk_over}

module _ {A : Type 0} where
  pub data All (P : A → Type 0) : List A → Type 0 where
    none : All P []
    more : {x : A} {xs : List A} → P x → All P xs → All P (x ∷ xs)

  all_append : {P : A → Type 0} {xs ys : List A} → All P xs → All P ys → All P (xs ++ ys)
  all_append All.none q = q
  all_append (All.more h p) q = All.more h (all_append p q)

  all_map : {P Q : A → Type 0} {xs : List A} → ((x : A) → P x → Q x) → All P xs → All Q xs
  all_map f All.none = All.none
  all_map f (All.more {x = x} h p) = All.more (f x h) (all_map f p)

  all_flat : (P : A → Type 0) (f : ℕ → List A) (k m : ℕ) → ((j : ℕ) → j < k + m → All P (f j)) → All P (flat_map f (from k m))
  unfolding flat_map from
  all_flat P f k zero h = All.none
  all_flat P f k (suc m) h = all_append (h k (omega arith)) (all_flat P f (suc k) m (λ j l. h j (omega arith)))

-- a cell's places stay in reach
Reach : List Row → ℕ → ℕ → ℕ × ℕ → Type 0
Reach rows l r p = (p.0 ≤ l + reach_left rows) × (p.1 ≤ r + reach_right rows)

places_reach : (rows : List Row) (l r : ℕ) → All (Reach rows l r) (places rows l r)
unfolding places Reach reach_left reach_right
places_reach [] l r = All.more {x = (l, r)} (omega arith, omega arith) All.none
places_reach (row ∷ rows) l r =
    all_flat _ (λ j. places rows (l + j * row.left) (r + (row.count - 1 - j) * row.right)) 0 row.count (λ j h.
    let u : j * row.left ≤ (row.count - 1) * row.left = mul-le-mul_right row.left (omega arith) in
    let v : (row.count - 1 - j) * row.right ≤ (row.count - 1) * row.right = mul-le-mul_right row.right (omega arith) in
    all_map (λ p q. (omega (arith, q.0), omega (arith, q.1))) (places_reach rows (l + j * row.left) (r + (row.count - 1 - j) * row.right)))

module _ (join : Join) (t : ℕ) (value : ℕ × ℕ → ℕ) where
  abbrev cell : ℕ
  cell = join.own.from + t

  -- a pair that does not read the result cell, and what it adds
  abbrev pub Adds : List ℕ → ℕ × ℕ → Type 0
  Adds A p = (join.left.from + p.0 < cell) × (join.right.from + p.1 < cell) × (get_or A (join.left.from + p.0) 0 * get_or A (join.right.from + p.1) 0 ≡ value p)

  adds-set : (A : List ℕ) (v : ℕ) (p : ℕ × ℕ) → Adds A p → Adds (set A cell v) p
  adds-set A v p h = (
    h.0,
    h.1,
    (λ i. get_or-set_other A cell (join.left.from + p.0) v 0 (λ e. omega (arith, e, h.0)) i * get_or-set_other A cell (join.right.from + p.1) v 0 (λ e. omega (arith, e, h.1)) i) ∙ h.2,
  )

  first_pair : (p : ℕ × ℕ) (A : List ℕ) (b y : ℕ) → get_or A cell 0 ≡ y → Adds A p → y + value p < 2 ^ 64 → step false 0 (suc b) (pair_at join t p) A ≡ record { skip = 0; budget = b; over = false; area = set A cell (y + value p) }
  unfolding step attempt add sum_at pair_at
  first_pair p A b y e c f =
      let s : get_or A cell 0 + get_or A (join.left.from + p.0) 0 * get_or A (join.right.from + p.1) 0 ≡ y + value p = omega (arith, e, c.2) in
      rw (s, lt-ltb (y + value p) (2 ^ 64) f, s)

  pub walk_sum : (ps : List (ℕ × ℕ)) (A : List ℕ) (b y : ℕ) → cell < length A → get_or A cell 0 ≡ y → All (Adds A) ps → y + sum_over ps value < 2 ^ 64 → length ps ≤ b
      → walk (map (pair_at join t) ps) (record { skip = 0; budget = b; over = false; area = A }) ≡ record { skip = 0; budget = b - length ps; over = false; area = set A cell (y + sum_over ps value) }
  unfolding walk sum_over
  walk_sum [] A b y h e d f g =
      let u : b ≡ b - 0 = omega arith in
      let v : A ≡ set A cell (y + 0) = sym (set-get_or A cell 0) ∙ ap (set A cell) (e ∙ omega arith) in
      λ i. record { skip = 0; budget = u i; over = false; area = v i }
  walk_sum (p ∷ ps) A zero y h e d f g = absurd (omega arith)
  walk_sum (p ∷ ps) A (suc b) y h e (All.more c d) f g =
      ap (walk (map (pair_at join t) ps)) (first_pair p A b y e c (omega arith))
      ∙ walk_sum ps (set A cell (y + value p)) b (y + value p) (rw (length-set A cell (y + value p)) h) (get_or-set_same A cell (y + value p) 0 h) (all_map (λ x k. adds-set A (y + value p) x k) d) (omega arith) (omega arith)
      ∙ (let u : b - length ps ≡ suc b - suc (length ps) = omega arith in
      let v : set (set A cell (y + value p)) cell (y + value p + sum_over ps value) ≡ set A cell (y + (value p + sum_over ps value)) = set-set A cell (y + value p) (y + value p + sum_over ps value) ∙ ap (set A cell) (omega arith) in
      λ i. record { skip = 0; budget = u i; over = false; area = v i })

pub cell_over : (ps : List Pair) (q : Quota) (A : List ℕ) → q.over ≡ true → state q A ≡ walk ps (state q A)
cell_over ps q A y = rw y (sym (walk_over ps q.skip q.budget A))

module _ (n : ℕ) (join : Join) (rows : List Row) (l r t : ℕ) (A : List ℕ) (i : Inside n join rows l r t) (size : n ≡ length A) (count : ℕ) (counted : count ≡ length (places rows l r)) (q : Quota) (h : q.over ≡ false) where
  adds : All (Adds join t (product A join.left join.right) A) (places rows l r)
  unfolding Reach product
  adds =
      all_map (λ p q.
      let a : join.left.from + p.0 < join.left.to = omega (arith, q.0, i.reads.left_reach) in
      let b : join.right.from + p.1 < join.right.to = omega (arith, q.1, i.reads.right_reach) in
      (omega (arith, i.left_before), omega (arith, i.right_before), (λ z. sym (part_at A join.left.from join.left.to p.0 a) z * sym (part_at A join.right.from join.right.to p.1 b) z)))
      (places_reach rows l r)

  pub cell_past : count ≤ q.skip → record { skip = q.skip - count; budget = q.budget; over = q.over; area = A } ≡ walk (cell_pairs join rows l r t) (state q A)
  unfolding cell_pairs
  cell_past k =
      let e : length (map (pair_at join t) (places rows l r)) ≡ count = length-map (places rows l r) (pair_at join t) ∙ sym counted in
      rw h (sym (walk_past (map (pair_at join t) (places rows l r)) q.skip q.budget A (omega (arith, e)) ∙ rw e))

  pub cell_added : q.skip ≤ 0 → count ≤ q.budget → (x v : ℕ) (own : List ℕ) → x ≡ get_or (cells_in A join.own) t 0 → own ≡ set (cells_in A join.own) t v
      → capped (x + sum_over (places rows l r) (product A join.left join.right)) ≡ Some v
      → record { skip = q.skip; budget = q.budget - count; over = q.over; area = put_mid join.own.from (join.own.to - join.own.from) A own } ≡ walk (cell_pairs join rows l r t) (state q A)
  unfolding cell_pairs
  cell_added k b x v own ex eo e =
      let told = exact_says e in
      let z : q.skip ≡ 0 = omega arith in
      let y : get_or A (join.own.from + t) 0 ≡ x = sym (ex ∙ part_at A join.own.from join.own.to t i.own_at) in
      rw (h, z, eo, put_set A join.own.from join.own.to t v i.own_at)
      (sym
      (walk_sum join t (product A join.left join.right) (places rows l r) A q.budget x (omega (arith, i.own_at, i.own_to)) y adds told.low (omega (arith, counted))
      ∙ rw (← counted, ← told.is)))
