-- `sheet` meets its contract: refused as asked, or as the prepared run goes.
use mathlib.Core.Path.{◌∙◌}
use Rattle.sums.proofs.HandedLaws.{handed_on}
use Rattle.ratesheet.proofs.SheetLaws.{file_refused, file_full, file_read}
use Rattle.ratesheet.proofs.sheet.Goals as goal

pub returns-in_err-run : goal.returns-in_err-run
returns-in_err-run c = let e = file_refused c.args.file.now c.args.area.now c.in_err-run.ensures in (handed_on _ c.from_residual.ensures.1 ∙ e.0, e.1)

pub run_and_clear-requires : goal.run_and_clear-requires
run_and_clear-requires c = record { full = file_full c.args.file.now c.args.area.now c.in_ok-run.ensures }

pub returns : goal.returns
returns c = let e = file_read c.args.file.now c.args.area.now c.in_ok-run.ensures in (c.run_and_clear.ensures.answer ∙ e.0, c.run_and_clear.ensures.left ∙ e.1)
