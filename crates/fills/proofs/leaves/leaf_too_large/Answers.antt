-- `leaf_too_large` meets its contract: the chains found are the leaf's.
use mathlib.Core.Path.{ap, ◌∙◌}
use Rattle.sums.specs.Lists.{some}
use Rattle.calls.specs.Start.{too_large}
use Rattle.fills.proofs.LeafLaws.{part_cells}
use Rattle.fills.proofs.leaves.leaf_too_large.Goals as goal

pub returns : goal.returns
returns c = c.some_too_large.ensures ∙ ap (some too_large) (part_cells _ _ _ c.requires _ c.reaches-chains.ensures)
