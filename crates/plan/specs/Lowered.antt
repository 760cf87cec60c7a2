-- What the code answers to "a chain to lower", as the definition of the calls has it: the windows of the run stand at the front of their array.
use Rattle.std.specs.Prelude.{ℕ, List, Result, Ok, Err, take}
use Rattle.modelfile.specs.declared.Model.{Model}
use Rattle.calls.specs.Asked.{Asked, refused, granted}
use Rattle.calls.specs.declared.Refusal.{Refusal}

unfoldable pub lowered_of : Model → Result (List ℕ) Refusal → Asked
lowered_of m (Err r) = refused r
lowered_of m (Ok windows) = granted m (take m.chains windows)
