-- Sums over a list, and the ways to split a number, or a vector of numbers, in two.
use mathlib.Core.List.{List, [], ◌∷◌, map, flat_map}
use Rattle.std.specs.Prelude.{ℕ, zero, suc, ◌+◌}

module _ {A : Type 0} where
  unfoldable pub sum_over : List A → (A → ℕ) → ℕ
  sum_over [] f = 0
  sum_over (x ∷ xs) f = f x + sum_over xs f

-- one more in the first part
abbrev pub one_more : ℕ × ℕ → ℕ × ℕ
one_more p = (suc p.0, p.1)

-- the ways to write n as j + k, as pairs (j, k), j ascending
unfoldable pub splits : ℕ → List (ℕ × ℕ)
splits zero = (0, 0) ∷ []
splits (suc n) = (0, suc n) ∷ map one_more (splits n)

-- a split of one entry set before a split of the rest
abbrev pub before : ℕ × ℕ → List ℕ × List ℕ → List ℕ × List ℕ
before p q = (p.0 ∷ q.0, p.1 ∷ q.1)

-- the same for a vector, entry by entry; the last entry runs fastest
unfoldable pub vector_splits : List ℕ → List (List ℕ × List ℕ)
vector_splits [] = ([], []) ∷ []
vector_splits (n ∷ v) = flat_map (λ p. map (before p) (vector_splits v)) (splits n)
