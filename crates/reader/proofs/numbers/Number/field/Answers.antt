-- `reader::numbers::Number::field`. The byte, widened, is the number that the constructor is given, and the constructor's choice is the field's.
use mathlib.Core.Path.{◌≡◌, refl, ◌∙◌}
use mathlib.Core.Bool.{Bool, true, false}
use Rattle.std.specs.Prelude.{Some, None, Ok, Err}
use Rattle.std.specs.Option.{ok_or}
use Rattle.sums.specs.Choice.{choose}
use Rattle.reader.specs.Numbers.{numbered, field}
use Rattle.reader.proofs.numbers.Number.field.Goals as goal

chosen : {A E : Type 0} (b : Bool) (x : A) (r : E) → ok_or (choose b (λ u. None) (λ u. Some x)) r ≡ choose b (λ u. Err r) (λ u. Ok x)
chosen true x r = refl
chosen false x r = refl

pub returns : goal.returns
unfolding numbered field
returns g c = c.ok_or.ensures.value ∙ rw (c.new.ensures, c.wide.ensures.0, c.at.ensures) (chosen _ _ _)
