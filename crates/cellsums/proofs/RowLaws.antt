-- A loop over one row. The invariant: what is summed and what the turns ahead add make the whole sum, so a turn that is too large means
-- that the whole sum is. A row alone is a loop over no further rows.
use Prim.Native.Nat.{ℕ, suc, ◌+◌, ◌-◌, ◌*◌, ◌≤◌, ◌<◌, ◌^◌}
use mathlib.Core.Path.{◌≡◌, refl, sym}
use mathlib.Core.List.{List, ◌∷◌}
use native.Mathlib.Omega.{arith}
use Rattle.sums.specs.Lists.{from}
use Rattle.sums.specs.Sums.{sum_over}
use Rattle.sums.proofs.SumLaws.{sum_over_flat}
use Rattle.arith.specs.Capped.{capped}
use Rattle.std.specs.Prelude.{Some, None}
use Rattle.arith.proofs.CappedLaws.{capped_exact, capped_large, exact_says, large_says}
use Rattle.cellsums.specs.Places.{places}
use Rattle.cellsums.specs.declared.Row.{Row}

module _ (row : Row) (rows : List Row) (l r : ℕ) (value : ℕ × ℕ → ℕ) where
  -- what turn j adds, and what the turns from j on add
  abbrev pub turn : ℕ → ℕ
  turn j = sum_over (places rows (l + j * row.left) (r + (row.count - 1 - j) * row.right)) value

  pub ahead : ℕ → ℕ
  ahead j = sum_over (from j (row.count - j)) turn

  ahead_all : sum_over (places (row ∷ rows) l r) value ≡ ahead 0
  unfolding places ahead
  ahead_all = let e : row.count - 0 ≡ row.count = omega arith in rw (e, sum_over_flat)

  ahead_more : (j : ℕ) → j < row.count → ahead j ≡ turn j + ahead (j + 1)
  unfolding ahead sum_over from
  ahead_more j h = let e : row.count - j ≡ suc (row.count - (j + 1)) = omega arith in let f : suc j ≡ j + 1 = omega arith in rw (e, f)

  ahead_none : (j : ℕ) → row.count ≤ j → ahead j ≡ 0
  unfolding ahead sum_over from
  ahead_none j h = let e : row.count - j ≡ 0 = omega arith in rw e

  pub record Summed (acc sum j : ℕ) : Type 0 where
    pub turns : j ≤ row.count
    pub low : sum < 2 ^ 64
    pub whole : sum + ahead j ≡ acc + ahead 0

module _ {row : Row} {rows : List Row} {l r : ℕ} {value : ℕ × ℕ → ℕ} where
  pub sum_begins : {acc : ℕ} → acc < 2 ^ 64 → Summed row rows l r value acc acc 0
  sum_begins h = record { turns = omega arith; low = h; whole = refl }

  module _ {acc sum j : ℕ} (s : Summed row rows l r value acc sum j) where
    pub sum_again : {v : ℕ} → j < row.count → capped (sum + turn row rows l r value j) ≡ Some v → Summed row rows l r value acc v (j + 1)
    sum_again h e =
        let t = exact_says e in
        record { turns = omega arith; low = omega (arith, t.is, t.low); whole = omega (arith, t.is, s.whole, ahead_more row rows l r value j h) }

    pub sum_stops : j < row.count → capped (sum + turn row rows l r value j) ≡ None → None ≡ capped (acc + sum_over (places (row ∷ rows) l r) value)
    sum_stops h e = sym (capped_large (omega (arith, large_says e, s.whole, ahead_more row rows l r value j h, ahead_all row rows l r value)))

    pub sum_ends : row.count ≤ j → Some sum ≡ capped (acc + sum_over (places (row ∷ rows) l r) value)
    sum_ends h =
        let e : acc + sum_over (places (row ∷ rows) l r) value ≡ sum = omega (arith, s.whole, ahead_none row rows l r value j h, ahead_all row rows l r value) in
        rw e (sym (capped_exact s.low))
