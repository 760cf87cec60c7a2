-- Rows written as numbers, as a pattern reads them: three of them and the others, or no row.
use Prim.Native.Nat.{ℕ, suc, ◌-◌, ◌≤◌, ◌<◌}
use mathlib.Core.Path.{◌≡◌, refl, sym, ap}
use mathlib.Core.List.{List, [], ◌∷◌}
use native.Mathlib.Omega.{arith}
use lib.ListN.{length, get_or, take, drop}
use lib.Seq.{take_all}
use Rattle.cellsums.specs.Places.{rows_in}

pub first_three : (xs : List ℕ) (d : ℕ) → 3 ≤ length xs
    → rows_in xs ≡ record { count = get_or xs 0 d; left = get_or xs 1 d; right = get_or xs 2 d } ∷ rows_in (take (length xs - 3) (drop 3 xs))
unfolding rows_in
first_three [] d h = absurd (omega arith)
first_three (n ∷ []) d h = absurd (omega arith)
first_three (n ∷ a ∷ []) d h = absurd (omega arith)
first_three (n ∷ a ∷ b ∷ xs) d h =
    ap (λ t. record { count = n; left = a; right = b } ∷ rows_in t) (sym (take_all (suc (suc (suc (length xs))) - 3) xs (omega arith)))

pub too_few : (xs : List ℕ) → length xs < 3 → rows_in xs ≡ []
unfolding rows_in
too_few [] h = refl
too_few (n ∷ []) h = refl
too_few (n ∷ a ∷ []) h = refl
too_few (n ∷ a ∷ b ∷ xs) h = absurd (omega arith)
