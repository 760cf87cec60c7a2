-- `walk_loops` meets its contract, by recursion on the loops that are left: one turn of the first loop is the others at other places. The
-- rows stay as they were, but for the count that the loop writes.
use Prim.Native.Nat.{ℕ}
use mathlib.Core.Path.{◌≡◌}
use mathlib.Core.List.{◌∷◌}
use lib.ListN.{length}
use Rattle.joins.specs.Walk.{state}
use Rattle.joins.specs.Loops.{with_count, Sound}
use Rattle.joins.proofs.TurnLaws.{Walked}
use Rattle.joins.proofs.LoopLaws.{loop_turn}
use Rattle.joins.proofs.walks.+walk_loops.Given as goal

abbrev pub decreases-walk_loops : goal.decreases-walk_loops
decreases-walk_loops l = length l.loops.now

abbrev pub invariant-loop-i : goal.invariant-loop-i
invariant-loop-i l = record {
  loops_are : l.loops ≡ l.one ∷ l.others;
  sound : Sound (length l.initial.area) l.join (l.one ∷ l.others) l.initial.rows l.at.left l.at.right l.at.own l.at.count;
  old_is : with_count l.initial.rows l.one.row l.old ≡ l.initial.rows;
  rows_are : (x : ℕ) → with_count l.rows l.one.row x ≡ with_count l.initial.rows l.one.row x;
  walked : Walked (loop_turn l.join l.one l.others l.initial.rows l.at.left l.at.right l.at.own) l.one.count (state l.initial.e l.initial.area) (state l.e l.area) l.i;
}
