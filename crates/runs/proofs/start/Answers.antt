-- `start` meets its contract: refused as asked, or as the prepared run is started.
use mathlib.Core.Path.{refl}
use Rattle.sums.proofs.HandedLaws.{handed_on}
use Rattle.runs.proofs.StartLaws.{left_is, start_refused, start_granted}
use Rattle.runs.proofs.start.Goals as goal

pub returns-in_err-run : goal.returns-in_err-run
returns-in_err-run c = left_is (start_refused _ _ _ c.in_err-run.ensures) (handed_on _ c.from_residual.ensures.1, refl)

pub returns : goal.returns
returns c = left_is (start_granted _ _ _ c.in_ok-run.ensures) (c.start_in.ensures.answer, c.start_in.ensures.left)
