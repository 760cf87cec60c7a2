-- `add_two_rows` meets its contract: one turn a row.
use mathlib.Core.List.{[], ◌∷◌}
use Rattle.cellsums.specs.Places.{product}
use Rattle.cellsums.proofs.RowLaws.{Summed}
use Rattle.cellsums.proofs.add_two_rows.Given as goal

abbrev pub invariant-loop-j : goal.invariant-loop-j
invariant-loop-j l = Summed l.row (l.last ∷ []) l.l l.r (product l.area l.left l.right) l.acc l.sum l.j
