-- `walk_rows` meets its contract, by recursion on the rows that are left: one turn of the first row is the others at other places.
use mathlib.Core.Path.{◌≡◌}
use mathlib.Core.List.{◌∷◌}
use lib.ListN.{length}
use Rattle.joins.specs.Walk.{state}
use Rattle.joins.specs.Loops.{Inside}
use Rattle.joins.proofs.TurnLaws.{Walked, row_turn}
use Rattle.joins.proofs.walks.+walk_rows.Given as goal

abbrev pub decreases-walk_rows : goal.decreases-walk_rows
decreases-walk_rows l = length l.rows.now

abbrev pub invariant-loop-j : goal.invariant-loop-j
invariant-loop-j l = record {
  rows_are : l.rows ≡ l.row ∷ l.others;
  inside : Inside (length l.initial.area) l.join (l.row ∷ l.others) l.l l.r l.t;
  walked : Walked (row_turn l.join l.row l.others l.l l.r l.t) l.row.count (state l.initial.e l.initial.area) (state l.e l.area) l.j;
}
