-- `busiest` meets its contract. The loop's invariant: `busiest` is the first of the largest among the centres before this one (`Busy`).
use Rattle.busiest.proofs.BusiestLaws.{Busy}
use Rattle.busiest.proofs.busiest.Given as goal

abbrev pub invariant-loop-centre : goal.invariant-loop-centre
invariant-loop-centre l = Busy l.fn.m l.busiest l.most l.centre
