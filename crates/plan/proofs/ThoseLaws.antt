-- The elements that pass a test: not more than all of them, and the same for two tests that agree.
use Prim.Native.Nat.{suc, ◌≤◌}
use mathlib.Core.Path.{◌≡◌, refl}
use mathlib.Core.Bool.{Bool, true, false}
use mathlib.Core.List.{List, [], ◌∷◌, ◌++◌, Memᴰ}
use native.Mathlib.Omega.{arith}
use lib.ListN.{length}
use Rattle.sums.specs.Lists.{those, when}

module _ {A : Type 0} where
  pub those_few : (test : A → Bool) (xs : List A) → length (those test xs) ≤ length xs
  unfolding those when
  those_few test [] = omega arith
  those_few test (x ∷ xs) = by (test x) (those_few test xs)
    where
      by : (b : Bool) → length (those test xs) ≤ length xs → length (when b (x ∷ []) ++ those test xs) ≤ suc (length xs)
      by true h = omega arith
      by false h = omega arith

  pub those_cong : (f g : A → Bool) (xs : List A) → ((a : A) → Memᴰ a xs → f a ≡ g a) → those f xs ≡ those g xs
  unfolding those
  those_cong f g [] e = refl
  those_cong f g (x ∷ xs) e = λ i. when (e x (Memᴰ.head refl) i) (x ∷ []) ++ those_cong f g xs (λ a m. e a (Memᴰ.tail m)) i
