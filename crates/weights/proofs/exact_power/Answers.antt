-- `exact_power` meets its contract: the product fits.
use mathlib.Core.Path.{sym, ◌∙◌}
use Rattle.arith.proofs.CappedLaws.{capped_exact, exact_says}
use Rattle.weights.proofs.exact_power.Goals as goal

pub unwrap-requires : goal.unwrap-requires
unwrap-requires c = rw (c.times_power.ensures ∙ capped_exact c.requires)

pub returns : goal.returns
returns c = (exact_says (sym c.times_power.ensures ∙ c.unwrap.ensures)).is
