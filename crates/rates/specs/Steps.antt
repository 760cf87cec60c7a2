-- What a run leaves of the area, and what the code tells of the numerators.
use Rattle.std.specs.Prelude.{ℕ, ◌≡◌, List, Option, Some, None, length, drop}
use Rattle.sums.specs.Choice.{choose}
use Rattle.sums.specs.Lists.{some}
use Rattle.modelfile.specs.declared.Model.{Model}
use Rattle.calls.specs.Start.{too_large}
use Rattle.calls.specs.Sheet.{numerators}

-- a run keeps the area's length and what lies past the model's cells
pub record Kept (cells : ℕ) (old new : List ℕ) : Type 0 where
  pub long : length new ≡ length old
  pub past : drop cells new ≡ drop cells old

-- the numerators, if none of them is 2^64 or more
unfoldable pub numerators_of : Model → Option (List ℕ)
numerators_of m = choose (some too_large (numerators m)) (λ u. None) (λ u. Some (numerators m))
