-- `plan` meets its contract: refused as asked, or the table's cells and pairs.
use Rattle.sums.proofs.HandedLaws.{handed_on}
use Rattle.plan.proofs.PlanLaws.{plan-refused, plan_granted}
use Rattle.plan.proofs.plan.Goals as goal

pub returns-in_err-run : goal.returns-in_err-run
returns-in_err-run c = rw (handed_on _ c.from_residual.ensures.1) (plan-refused _ _ c.in_err-run.ensures)

pub returns : goal.returns
returns c = plan_granted _ _ c.in_ok-run.ensures
