-- `set_count` meets its contract: only the count is written.
use Rattle.joins.proofs.CountLaws.{counted_is}
use Rattle.joins.proofs.walks.set_count.Goals as goal

pub returns-in-Some : goal.returns-in-Some
returns-in-Some c = rw c.in-Some.is (counted_is _ _ _ _ (rw c.in-Some.is at c.requires))
