-- Sums over a list: append, map, flat_map, scaling, and equal terms.
use Prim.Native.Nat.{ℕ, ◌+◌, ◌*◌}
use mathlib.Core.Path.{◌≡◌, refl, sym, ap, ◌∙◌}
use mathlib.Core.List.{List, [], ◌∷◌, ◌++◌, map, flat_map, Memᴰ}
use native.Mathlib.Omega.{arith}
use native.Mathlib.Nat.{mul-add, mul-zero}
use lib.ListN.{length, length-append}
use Rattle.sums.specs.Sums.{sum_over}

module _ {A : Type 0} where
  pub sum_over-append : (xs ys : List A) (f : A → ℕ) → sum_over (xs ++ ys) f ≡ sum_over xs f + sum_over ys f
  unfolding sum_over
  sum_over-append [] ys f = omega arith
  sum_over-append (x ∷ xs) ys f = omega (arith, sum_over-append xs ys f)

  pub sum_over_ext : (xs : List A) (f g : A → ℕ) → ((a : A) → f a ≡ g a) → sum_over xs f ≡ sum_over xs g
  unfolding sum_over
  sum_over_ext [] f g e = refl
  sum_over_ext (x ∷ xs) f g e = omega (arith, e x, sum_over_ext xs f g e)

  pub sum_over_cong : (xs : List A) (f g : A → ℕ) → ((a : A) → Memᴰ a xs → f a ≡ g a) → sum_over xs f ≡ sum_over xs g
  unfolding sum_over
  sum_over_cong [] f g e = refl
  sum_over_cong (x ∷ xs) f g e = omega (arith, e x (Memᴰ.head refl), sum_over_cong xs f g (λ a m. e a (Memᴰ.tail m)))

  pub sum_over-mul : (c : ℕ) (xs : List A) (f : A → ℕ) → sum_over xs (λ a. c * f a) ≡ c * sum_over xs f
  unfolding sum_over
  sum_over-mul c [] f = sym (mul-zero c)
  sum_over-mul c (x ∷ xs) f = omega (arith, sum_over-mul c xs f, mul-add c (f x) (sum_over xs f))

module _ {A B : Type 0} where
  pub sum_over-map : (g : A → B) (xs : List A) (f : B → ℕ) → sum_over (map g xs) f ≡ sum_over xs (λ a. f (g a))
  unfolding sum_over
  sum_over-map g [] f = refl
  sum_over-map g (x ∷ xs) f = ap (λ n. f (g x) + n) (sum_over-map g xs f)

  pub sum_over_flat : (g : A → List B) (xs : List A) (f : B → ℕ) → sum_over (flat_map g xs) f ≡ sum_over xs (λ a. sum_over (g a) f)
  unfolding sum_over flat_map
  sum_over_flat g [] f = refl
  sum_over_flat g (x ∷ xs) f = sum_over-append (g x) (flat_map g xs) f ∙ ap (λ n. sum_over (g x) f + n) (sum_over_flat g xs f)

  pub length_flat_sum : (g : A → List B) (xs : List A) → length (flat_map g xs) ≡ sum_over xs (λ x. length (g x))
  unfolding sum_over flat_map
  length_flat_sum g [] = refl
  length_flat_sum g (x ∷ xs) = length-append (g x) (flat_map g xs) ∙ ap (λ n. length (g x) + n) (length_flat_sum g xs)
