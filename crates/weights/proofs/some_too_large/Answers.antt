-- `some_too_large` meets its contract: the weight at the highest index tells of all.
use Rattle.weights.proofs.MonotonyLaws.{fits_of}
use Rattle.weights.proofs.BetweenLaws.{highs_absent, highs-length, some_is_top, too_large_is}
use mathlib.Core.Path.{sym, ◌∙◌}
use Rattle.weights.proofs.some_too_large.Goals as goal

pub weight_of-requires-clause-on_route : goal.weight_of-requires-clause-on_route
weight_of-requires-clause-on_route c = fits_of _ _ (highs-length c.args.chains.now) (highs_absent c.args.chains.now c.requires.sound)

pub returns : goal.returns
returns c = too_large_is _ c.weight_of.ensures c.is_none.ensures ∙ sym (some_is_top c.args.chains.now c.requires.sound)
