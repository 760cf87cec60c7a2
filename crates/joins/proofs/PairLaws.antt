-- One pair of a walk, in each of the ways it can go: the walk is over, the pair is skipped, the budget is spent, it is added, it is too large.
use Prim.Native.Nat.{ℕ, suc, ◌+◌, ◌-◌, ◌*◌, ◌^◌, ◌≤◌, ◌<◌}
use mathlib.Core.Path.{◌≡◌, refl, ap, ◌∙◌}
use mathlib.Core.Bool.{true, false}
use mathlib.Core.List.{List, []}
use native.Mathlib.Omega.{arith}
use borrow.Author.Tests.{lt-ltb, le-ltb}
use borrow.Rule.Slice.PartMut.{put_mid}
use lib.Dec.{ltb}
use lib.ListN.{get_or, set}
use Rattle.sums.specs.Sums.{sum_over}
use Rattle.network.specs.Run.{sum_at, add}
use Rattle.arith.specs.Capped.{capped}
use Rattle.std.specs.Prelude.{Some, None}
use Rattle.arith.proofs.CappedLaws.{exact_says, large_says}
use Rattle.cellsums.specs.Places.{places, reach_left, reach_right, cells_in, product}
use Rattle.joins.specs.Walk.{state, attempt, step, walk}
use Rattle.joins.specs.Loops.{pair_at, cell_pairs, Inside}
use Rattle.joins.specs.declared.Join.{Join}
use Rattle.joins.specs.declared.Quota.{Quota}
use Rattle.joins.proofs.PartLaws.{part_at, put_set}

module _ (join : Join) (l r t : ℕ) (q : Quota) (A : List ℕ) where
  pub pair_over : q.over ≡ true → state q A ≡ walk (cell_pairs join [] l r t) (state q A)
  unfolding walk cell_pairs places step
  pair_over h = rw h

  pub pair_skipped : q.over ≡ false → 0 < q.skip → record { skip = q.skip - 1; budget = q.budget; over = q.over; area = A } ≡ walk (cell_pairs join [] l r t) (state q A)
  unfolding walk cell_pairs places step
  pair_skipped h k = let e : q.skip ≡ suc (q.skip - 1) = omega arith in rw h (go q.skip (q.skip - 1) e)
    where
      go : (n m : ℕ) → n ≡ suc m → record { skip = m; budget = q.budget; over = false; area = A } ≡ step false n q.budget (pair_at join t (l, r)) A
      go n m e = rw e

  pub pair_spent : q.over ≡ false → q.skip ≤ 0 → q.budget ≡ 0 → state q A ≡ walk (cell_pairs join [] l r t) (state q A)
  unfolding walk cell_pairs places step
  pair_spent h k b = let e : q.skip ≡ 0 = omega arith in rw (h, e, b)

module _ (n : ℕ) (join : Join) (l r t x : ℕ) (q : Quota) (A : List ℕ) (i : Inside n join [] l r t) (own-cell : x ≡ get_or (cells_in A join.own) t 0) (h : q.over ≡ false) (k : q.skip ≤ 0) (z : q.budget ≡ 0 → ⊥) where
  sum_is : x + sum_over (places [] l r) (product A join.left join.right) ≡ sum_at A (pair_at join t (l, r))
  unfolding places sum_over product sum_at pair_at reach_left reach_right
  sum_is =
      let a : get_or (cells_in A join.left) l 0 ≡ get_or A (join.left.from + l) 0 = part_at A join.left.from join.left.to l (omega (arith, i.reads.left_reach)) in
      let b : get_or (cells_in A join.right) r 0 ≡ get_or A (join.right.from + r) 0 = part_at A join.right.from join.right.to r (omega (arith, i.reads.right_reach)) in
      let y : get_or (cells_in A join.own) t 0 ≡ get_or A (join.own.from + t) 0 = part_at A join.own.from join.own.to t i.own_at in
      let p : get_or (cells_in A join.left) l 0 * get_or (cells_in A join.right) r 0 ≡ get_or A (join.left.from + l) 0 * get_or A (join.right.from + r) 0 = λ z. a z * b z in
      omega (arith, own-cell, y, p)

  attempted : walk (cell_pairs join [] l r t) (state q A) ≡ attempt (ltb (sum_at A (pair_at join t (l, r))) (2 ^ 64)) (q.budget - 1) (pair_at join t (l, r)) A
  unfolding walk cell_pairs places step
  attempted = let e : q.skip ≡ 0 = omega arith in let f : q.budget ≡ suc (q.budget - 1) = omega (arith, z) in rw (h, e) (go q.budget (q.budget - 1) f)
    where
      go : (b c : ℕ) → b ≡ suc c → step false 0 b (pair_at join t (l, r)) A ≡ attempt (ltb (sum_at A (pair_at join t (l, r))) (2 ^ 64)) c (pair_at join t (l, r)) A
      go b c e = rw e

  pub pair_added : (v : ℕ) (own : List ℕ) → own ≡ set (cells_in A join.own) t v → capped (x + sum_over (places [] l r) (product A join.left join.right)) ≡ Some v
      → record { skip = q.skip; budget = q.budget - 1; over = q.over; area = put_mid join.own.from (join.own.to - join.own.from) A own } ≡ walk (cell_pairs join [] l r t) (state q A)
  unfolding attempt add pair_at
  pair_added v own eo e =
      let told = exact_says e in
      let w : v ≡ sum_at A (pair_at join t (l, r)) = told.is ∙ sum_is in
      let none : q.skip ≡ 0 = omega arith in
      rw (attempted, eo, put_set A join.own.from join.own.to t v i.own_at, w, h, none) (fits (sum_at A (pair_at join t (l, r))) refl (omega (arith, told.low, sum_is)))
    where
      fits : (y : ℕ) → y ≡ sum_at A (pair_at join t (l, r)) → y < 2 ^ 64 → record { skip = 0; budget = q.budget - 1; over = false; area = set A (join.own.from + t) y } ≡ attempt (ltb y (2 ^ 64)) (q.budget - 1) (pair_at join t (l, r)) A
      fits y e h = rw (lt-ltb y (2 ^ 64) h, e)

  pub pair_too_large : capped (x + sum_over (places [] l r) (product A join.left join.right)) ≡ None → record { skip = q.skip; budget = q.budget; over = true; area = A } ≡ walk (cell_pairs join [] l r t) (state q A)
  unfolding attempt
  pair_too_large e =
      let f : q.budget ≡ suc (q.budget - 1) = omega (arith, z) in
      let none : q.skip ≡ 0 = omega arith in
      rw (attempted, none, le-ltb (sum_at A (pair_at join t (l, r))) (2 ^ 64) (omega (arith, large_says e, sum_is))) (ap (λ b. record { skip = 0; budget = b; over = true; area = A }) f)
