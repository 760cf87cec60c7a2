-- `reaches` meets its contract: the chains passed are found.
use Rattle.fills.proofs.EndLaws.{Found}
use Rattle.fills.proofs.leaves.reaches.Given as goal

abbrev pub invariant-loop-k : goal.invariant-loop-k
invariant-loop-k l = Found l.loads l.ch l.n l.chains l.k
