-- `rows::row` meets its contract. The loop's invariant: the row is filled for the first k chains (`Rowed`) by whatever function the closure computes.
use Rattle.plan.proofs.RowLaws.{rowed_first, rowed_turn, rowed_last}
use Rattle.plan.proofs.rows.row.Goals as goal

pub loop-k-init : goal.loop-k-init
loop-k-init g c = λ f e. rowed_first _ _

pub loop-k-preserved : goal.loop-k-preserved
loop-k-preserved g c = λ f e. rowed_turn _ _ (c.loop-k.invariant f e) c.loop-k-test.true c.requires.few (e _ _ c.loop-k-test.true c.number.ensures)

pub returns : goal.returns
returns g c = λ f e. rowed_last _ _ (c.loop-k.invariant f e) c.loop-k-test.false
