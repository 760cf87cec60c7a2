-- "File refusals come as met from the left, then 10 to 15 in order": of the tests of an accepted file, the first that holds gives its number.
use Rattle.std.specs.Prelude.{ℕ, zero, suc, Bool, false, List, [], ◌∷◌, eqb, get_or}
use Rattle.sums.specs.Choice.{choose}
use Rattle.modelfile.specs.Network.{windows_of}
use Rattle.modelfile.specs.declared.Model.{Model}

-- what is answered: by the first test, in the document's order, that holds; as accepted where none does
module _ {A : Type 0} where
  unfoldable pub first_of : List (ℕ × Bool) → (ℕ → A) → A → A
  first_of [] refusal accepted = accepted
  first_of (test ∷ tests) refusal accepted = choose test.1 (λ u. refusal test.0) (λ u. first_of tests refusal accepted)

-- 11: "lowered chain has window 0"
unfoldable pub window_zero : Model → ℕ → Bool
window_zero m zero = false
window_zero m (suc k) = eqb (get_or (windows_of m) k 0) 0
