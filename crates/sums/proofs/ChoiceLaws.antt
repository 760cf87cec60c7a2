-- A choice between two that differ shows its test.
use mathlib.Core.Path.{◌≡◌, refl}
use mathlib.Core.Bool.{Bool, true, false}
use Rattle.sums.specs.Choice.{choose}

module _ {A : Type 0} where
  pub chose_one : (b : Bool) (one two : A) → (two ≡ one → ⊥) → choose b (λ u. one) (λ u. two) ≡ one → b ≡ true
  chose_one true one two n e = refl
  chose_one false one two n e = absurd (n e)

  pub chose_two : (b : Bool) (one two x : A) → (one ≡ x → ⊥) → choose b (λ u. one) (λ u. two) ≡ x → (b ≡ false) × (two ≡ x)
  chose_two true one two x n e = absurd (n e)
  chose_two false one two x n e = (refl, e)

  pub chose_first : (b : Bool) (one two x : A) → (two ≡ x → ⊥) → choose b (λ u. one) (λ u. two) ≡ x → (b ≡ true) × (one ≡ x)
  chose_first true one two x n e = (refl, e)
  chose_first false one two x n e = absurd (n e)
