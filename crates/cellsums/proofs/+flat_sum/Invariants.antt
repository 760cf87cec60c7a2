-- `flat_sum` meets its contract, by recursion on the numbers that are left: one turn of the first row is the others at other places.
use mathlib.Core.Path.{◌≡◌}
use mathlib.Core.List.{◌∷◌}
use lib.ListN.{length}
use Prim.Native.Nat.{◌≤◌}
use Rattle.cellsums.specs.Places.{product, rows_in, Within}
use Rattle.cellsums.proofs.RowLaws.{Summed}
use Rattle.cellsums.proofs.+flat_sum.Given as goal

abbrev pub decreases-flat_sum : goal.decreases-flat_sum
decreases-flat_sum l = length l.rows.now

abbrev pub invariant-loop-j : goal.invariant-loop-j
invariant-loop-j l = record {
  long : 3 ≤ length l.rows;
  rows_are : rows_in l.rows ≡ l.row ∷ rows_in l.others;
  within : Within (length l.area) l.left l.right (l.row ∷ rows_in l.others) l.l l.r;
  summed : Summed l.row (rows_in l.others) l.l l.r (product l.area l.left l.right) l.acc l.sum l.j;
}
