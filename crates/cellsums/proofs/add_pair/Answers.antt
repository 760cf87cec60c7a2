-- `add_pair` meets its contract: the two cells that it reads are those of the pair.
use mathlib.Core.Path.{◌∙◌}
use Rattle.cellsums.proofs.PlaceLaws.{pair_sum}
use Rattle.cellsums.proofs.add_pair.Goals as goal

pub returns : goal.returns
returns c = c.mul_add.ensures ∙ pair_sum _ _ _ _ _ _ _ _ c.cell-x.ensures c.cell-y.ensures
