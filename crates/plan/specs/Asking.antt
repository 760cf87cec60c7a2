-- What a file and a chain to lower ask for: a refusal, or a run.
use Rattle.std.specs.Prelude.{ℕ, ◌≤◌, ◌≡◌, List, Result, Ok, Err, IfOk, length, get_or, take}
use Rattle.modelfile.specs.declared.Model.{Model}
use Rattle.modelfile.proofs.Guaranteed.{Guaranteed}
use Rattle.calls.specs.Asked.{Asked, refused, granted, cells_in}
use Rattle.calls.specs.declared.Refusal.{Refusal}
use Rattle.plan.specs.Table.{Tabled, windows_in}
use Rattle.plan.specs.declared.Chains.{Chains}
use Rattle.plan.specs.declared.Run.{Run}
use Rattle.plan.specs.declared.Table.{Table}

-- a model of an accepted file, the windows of a run, and their table
pub record Prepared (m : Model) (windows : List ℕ) (t : Table) : Type 0 where
  pub guaranteed : Guaranteed m
  pub windows_long : length windows ≡ 8
  pub windows_low : (k : ℕ) → get_or windows k 0 ≤ 15
  pub tabled : Tabled m windows t

abbrev pub Ready : Run → Type 0
Ready run = Prepared run.model run.windows run.table

-- the windows of a run, one a chain; and that an area of n cells has room for the run's cells
abbrev pub windows_of_run : Run → List ℕ
windows_of_run run = windows_in run.model run.windows

abbrev pub RoomFor : Run → ℕ → Type 0
RoomFor run n = cells_in run.model (windows_of_run run) ≤ n

-- the chains of a run
abbrev pub chains_of : {m : Model} {windows : List ℕ} {t : Table} → Prepared m windows t → Chains
chains_of {m} {windows} {t} p =
    record { count = m.chains; totals = t.totals; windows = windows; chains_few = p.guaranteed.chains_range.1; window_range = p.windows_low }

-- what the code answers, as the definition of the calls has it: the windows of the run stand at the front of their array
unfoldable pub asked_of : Result Run Refusal → Asked
asked_of (Err r) = refused r
asked_of (Ok run) = granted run.model (take run.model.chains run.windows)

pub record RunFor (asked : Asked) (r : Result Run Refusal) : Type 0 where
  pub answer : asked_of r ≡ asked
  pub ready : IfOk r Ready
