-- The run that a sheet begins with: no chain is lowered.
use Rattle.std.specs.Prelude.{◌≡◌}
use Rattle.modelfile.specs.Network.{windows_of}
use Rattle.plan.specs.Table.{windows_in}
use Rattle.plan.specs.Asking.{Ready}
use Rattle.plan.specs.declared.Run.{Run}

pub record Full (run : Run) : Type 0 where
  pub ready : Ready run
  pub whole : windows_in run.model run.windows ≡ windows_of run.model
