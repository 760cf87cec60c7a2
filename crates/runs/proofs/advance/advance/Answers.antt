-- `advance` meets its contract: refused as asked, or as the prepared run goes on.
use mathlib.Core.Path.{refl}
use Rattle.sums.proofs.HandedLaws.{handed_on}
use Rattle.runs.proofs.StartLaws.{left_is}
use Rattle.runs.proofs.SpentLaws.{advance_refused, advance_granted}
use Rattle.runs.proofs.advance.advance.Goals as goal

pub returns-in_err-run : goal.returns-in_err-run
returns-in_err-run c = left_is (advance_refused _ _ _ _ _ c.in_err-run.ensures) (handed_on _ c.from_residual.ensures.1, refl)

pub returns : goal.returns
returns c = left_is (advance_granted _ _ _ _ _ c.in_ok-run.ensures) (c.advance_in.ensures.answer, c.advance_in.ensures.left)
