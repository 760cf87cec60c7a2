-- `walk_last` meets its contract: one turn a cell. In the first loop a turn is only passed over; in the second the rows stay as they were,
-- but for the count that the loop writes.
use Prim.Native.Nat.{ℕ}
use mathlib.Core.Path.{◌≡◌}
use mathlib.Core.List.{[]}
use Rattle.joins.specs.Walk.{state, quota}
use Rattle.joins.specs.Loops.{with_count}
use Rattle.joins.proofs.TurnLaws.{Walked}
use Rattle.joins.proofs.LoopLaws.{loop_turn}
use Rattle.joins.proofs.walks.walk_last.Given as goal

abbrev pub invariant-loop-j : goal.invariant-loop-j
invariant-loop-j l =
    let left = quota l.skip l.fn.q.budget l.fn.q.over in
    record {
      first_is : l.first ≡ l.j;
      walked : Walked (loop_turn l.join l.last [] l.rows l.at.left l.at.right l.at.own) l.last.count (state l.fn.q l.area) (state left l.area) l.j;
    }

abbrev pub invariant-loop-i : goal.invariant-loop-i
invariant-loop-i l = record {
  old_is : with_count l.fn.rows l.last.row l.old ≡ l.fn.rows;
  rows_are : (x : ℕ) → with_count l.rows l.last.row x ≡ with_count l.fn.rows l.last.row x;
  walked : Walked (loop_turn l.join l.last [] l.fn.rows l.at.left l.at.right l.at.own) l.last.count (state l.fn.q l.fn.area) (state l.e l.area) l.i;
}
