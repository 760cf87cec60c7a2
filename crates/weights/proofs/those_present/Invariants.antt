-- `those_present` meets its contract: of the chains passed those present are kept.
use Rattle.weights.proofs.PresentLaws.{Keeping}
use Rattle.weights.proofs.those_present.Given as goal

abbrev pub invariant-loop-chain : goal.invariant-loop-chain
invariant-loop-chain l = Keeping l.chains l.chain-index l.count l.kept
