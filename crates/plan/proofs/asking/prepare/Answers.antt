-- `prepare` meets its contract: an accepted file guarantees what its model's run asks.
use Rattle.sums.proofs.HandedLaws.{handed_on}
use Rattle.plan.proofs.PlanLaws.{run_refused, run_same, file_guaranteed, file_asked, file_refused}
use Rattle.plan.proofs.asking.prepare.Goals as goal

pub returns-in_err-reading : goal.returns-in_err-reading
returns-in_err-reading c =
    rw (handed_on _ c.from_residual.ensures.1) (run_refused _ (file_refused c.args.file.now c.args.lower _ c.read_file-reading.ensures c.in_err-reading.was))

pub run_of-requires : goal.run_of-requires
run_of-requires c = file_guaranteed _ c.args.lower _ c.read_file-reading.ensures c.in_ok-reading.was

pub returns : goal.returns
returns c = run_same (file_asked _ _ _ c.read_file-reading.ensures c.in_ok-reading.was) c.run_of.ensures
