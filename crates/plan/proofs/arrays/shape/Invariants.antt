-- `arrays::shape` meets its contract. The loop's invariant: cells and strides of the chains from k + 1 on (`Shaped`).
use Rattle.plan.proofs.BackLaws.{Shaped}
use Rattle.plan.proofs.arrays.shape.Given as goal

abbrev pub invariant-loop-k : goal.invariant-loop-k
invariant-loop-k l = Shaped l.ch.totals l.ch.windows l.counts l.initial.k l.k l.cells l.strides
