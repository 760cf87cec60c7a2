-- `walk_cell` meets its contract: its whole sum is added, or its pairs go one by one.
use mathlib.Core.Path.{refl, sym, ◌∙◌}
use Rattle.joins.proofs.CellLaws.{cell_over, cell_added}
use Rattle.joins.proofs.walks.walk_cell.Goals as goal

pub returns-then-q : goal.returns-then-q
returns-then-q c = cell_over _ _ _ c.if-q.true

pub returns-in-Some : goal.returns-in-Some
returns-in-Some c =
    cell_added _ _ _ _ _ _ _ c.requires.inside refl _ c.requires.counted _ c.if-q.false c.if-q-gt0.false c.if-q-at.false
    _ _ _ c.cell-x.ensures c.put.ensures (sym c.cell_sum.ensures ∙ c.in-Some.is)
