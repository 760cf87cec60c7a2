-- `add_row` meets its contract: one turn a pair.
use mathlib.Core.List.{[]}
use Rattle.cellsums.specs.Places.{product}
use Rattle.cellsums.proofs.RowLaws.{Summed}
use Rattle.cellsums.proofs.add_row.Given as goal

abbrev pub invariant-loop-j : goal.invariant-loop-j
invariant-loop-j l = Summed l.row [] l.l l.r (product l.area l.left l.right) l.acc l.sum l.j
