-- `Run::chains` meets its contract: the chains made of a run's own numbers are the run's.
use Rattle.plan.proofs.PreparedLaws.{chains_made}
use Rattle.plan.proofs.Run.chains.Goals as goal

pub returns : goal.returns
returns c p = chains_made p c.new.ensures
