-- `walk_alone` meets its contract: the cell is passed over by the number of its pairs, or walked.
use mathlib.Core.Path.{refl}
use Rattle.joins.proofs.CellLaws.{cell_over, cell_past}
use Rattle.joins.proofs.walks.walk_alone.Goals as goal

pub returns-then-q : goal.returns-then-q
returns-then-q c = cell_over _ _ _ c.if-q.true

pub returns-then-at-q : goal.returns-then-at-q
returns-then-at-q c = cell_past _ _ _ _ _ _ _ c.requires.inside refl _ c.requires.counted _ c.if-q.false c.if-at-q.true
