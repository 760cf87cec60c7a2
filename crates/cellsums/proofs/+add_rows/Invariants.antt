-- `add_rows` meets its contract, by recursion on the rows that are left: one turn of the first row is the others at other places.
use mathlib.Core.Path.{◌≡◌}
use mathlib.Core.List.{◌∷◌}
use lib.ListN.{length}
use Rattle.cellsums.specs.Places.{product, Within}
use Rattle.cellsums.proofs.RowLaws.{Summed}
use Rattle.cellsums.proofs.+add_rows.Given as goal

abbrev pub decreases-add_rows : goal.decreases-add_rows
decreases-add_rows l = length l.rows.now

abbrev pub invariant-loop-j : goal.invariant-loop-j
invariant-loop-j l = record {
  rows_are : l.rows ≡ l.row ∷ l.others;
  within : Within (length l.area) l.left l.right (l.row ∷ l.others) l.l l.r;
  summed : Summed l.row l.others l.l l.r (product l.area l.left l.right) l.acc l.sum l.j;
}
