-- `count_in` meets its contract: a row that is given the count that it has stays as it was.
use Rattle.joins.proofs.CountLaws.{counted_same}
use Rattle.joins.proofs.walks.count_in.Goals as goal

pub returns-in-Some : goal.returns-in-Some
returns-in-Some c = rw c.in-Some.is (counted_same _ _ _)
