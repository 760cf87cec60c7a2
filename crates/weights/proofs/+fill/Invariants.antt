-- `fill` meets its contract, by recursion on the chains that are left. Each turn of the loop writes the cells with i messages of the
-- first of them; what it asks for and leaves is in FillLaws.
use lib.ListN.{length}
use Rattle.weights.proofs.FillLaws.{Filling}
use Rattle.weights.proofs.+fill.Given as goal

abbrev pub decreases-fill : goal.decreases-fill
decreases-fill l = length l.chains.now

abbrev pub invariant-loop-i : goal.invariant-loop-i
invariant-loop-i l = Filling l.chain l.later l.acc l.before l.at l.initial.out l.i l.power l.next l.out
