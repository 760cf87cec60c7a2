-- Lists of numbers in order, elements by number, and the tests "some", "all" and "is among".
use Rattle.std.specs.Prelude.{Bool, true, false, ◌&&◌, ◌||◌, List, [], ◌∷◌, ◌++◌, ℕ, zero, suc, eqb, get_or}

-- n numbers from a upward
unfoldable pub from : ℕ → ℕ → List ℕ
from a zero = []
from a (suc n) = a ∷ from (suc a) n

module _ {A : Type 0} where
  -- the element with a number, counted from 1; `other` where there is none
  unfoldable pub by_number : List A → ℕ → A → A
  by_number xs zero other = other
  by_number xs (suc i) other = get_or xs i other

  unfoldable pub some : (A → Bool) → List A → Bool
  some test [] = false
  some test (x ∷ xs) = test x || some test xs

  unfoldable pub all : (A → Bool) → List A → Bool
  all test [] = true
  all test (x ∷ xs) = test x && all test xs

  -- the elements, if the test holds; none otherwise
  unfoldable pub when : Bool → List A → List A
  when true xs = xs
  when false xs = []

  -- the elements that pass
  unfoldable pub those : (A → Bool) → List A → List A
  those test [] = []
  those test (x ∷ xs) = when (test x) (x ∷ []) ++ those test xs

-- n is among the numbers
unfoldable pub among : List ℕ → ℕ → Bool
among ns n = some (eqb n) ns
