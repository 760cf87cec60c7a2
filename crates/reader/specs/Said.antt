-- What a record says, as a step of the reading; and what the code's indices need where it is noted.
use Rattle.std.specs.Prelude.{ℕ, ◌+◌, ◌<◌, ◌≤◌, Result, Ok, Err}
use Rattle.modelfile.specs.Ends.{last_centre, last_chain}
use Rattle.modelfile.specs.Model.{with_size, with_window, with_load, with_leaf, with_join}
use Rattle.modelfile.specs.Records.{more}
use Rattle.modelfile.specs.declared.Model.{Model}
use Rattle.modelfile.specs.declared.Refusal.{Refusal}
use Rattle.modelfile.specs.declared.Step.{Step}
use Rattle.modelfile.specs.declared.Stepped.{Stepped}
use Rattle.modelfile.proofs.StepLaws.{Within}
use Rattle.reader.specs.declared.records.Said.{Said}

-- the model with what a record at `at` says
unfoldable pub said : Model → ℕ → Result Said Refusal → Stepped
said m at (Ok (Said.Size centres chains)) = more (with_size m centres.n chains.n)
said m at (Ok (Said.Window window)) = more (with_window m window)
said m at (Ok (Said.Load centre chain load)) = more (with_load m centre.n chain.n load)
said m at (Ok (Said.Leaf centre)) = more (with_leaf m at centre.n)
said m at (Ok Said.Join) = more (with_join m)
said m at (Ok Said.Last) = record { step = Ok Step.Last; model = m }
said m at (Err r) = record { step = Err r; model = m }

unfoldable pub Room : Model → Result Said Refusal → Type 0
Room m (Ok (Said.Size centres chains)) = Unit
Room m (Ok (Said.Window window)) = m.given < 8
Room m (Ok (Said.Load centre chain load)) = Within 1 last_centre centre.n × Within 1 last_chain chain.n
Room m (Ok (Said.Leaf centre)) = Within 1 last_centre centre.n × (m.count + m.trees ≤ 30)
Room m (Ok Said.Join) = (m.count ≤ 30) × (2 ≤ m.trees)
Room m (Ok Said.Last) = Unit
Room m (Err r) = Unit
