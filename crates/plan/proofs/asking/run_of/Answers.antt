-- `run_of` meets its contract: refused as the chain to lower is, or the table of the windows found.
use mathlib.Core.Path.{refl}
use Rattle.sums.proofs.HandedLaws.{handed_on}
use Rattle.plan.proofs.PlanLaws.{run_refused, lowering-refused, lowering_granted}
use Rattle.plan.proofs.asking.run_of.Goals as goal

pub returns-in_err-windows : goal.returns-in_err-windows
returns-in_err-windows c =
    rw (handed_on _ c.from_residual.ensures.1) (run_refused _ (lowering-refused c.args.m c.args.lower c.in_err-windows.ensures.answer))

pub returns : goal.returns
returns c =
    let windows = c.in_ok-windows.ensures in
    lowering_granted c.args.m c.args.lower refl windows.answer
    (record { guaranteed = c.requires; windows_long = windows.windows.0; windows_low = windows.windows.1; tabled = c.make_table-table.ensures })
