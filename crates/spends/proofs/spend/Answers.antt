-- `spend` meets its contract: without a budget the pairs need only be counted, and the table has their number.
use Rattle.spends.proofs.NodeLaws.{quota_over, quota_none}
use Rattle.plan.proofs.PreparedLaws.{pairs_counted}
use Rattle.spends.proofs.spend.Goals as goal

pub returns-then-q : goal.returns-then-q
returns-then-q c = quota_over _ _ _ c.if-q.true

pub returns-then-q-eq0 : goal.returns-then-q-eq0
returns-then-q-eq0 c = quota_none _ _ _ _ _ (pairs_counted c.requires.ready) c.if-q.false c.if-q-eq0.true c.saturating_sub.ensures
