-- `fill` meets its contract: the cells of the nodes passed are written, and the rest is as it was.
use Rattle.fills.proofs.TurnLaws.{Written}
use Rattle.fills.proofs.fill.Given as goal

abbrev pub invariant-loop-n : goal.invariant-loop-n
invariant-loop-n l = Written l.run.model.loads l.ch l.run.table l.initial.area l.area l.n-index
