-- What is due of a run, and of the area after a sheet.
use Rattle.std.specs.Prelude.{◌≡◌, ◌≢◌, ℕ, ◌<◌, Option, None, Some, Ok, Err, Result, List, length, take, slice_index, All}
use Rattle.calls.specs.declared.Refusal.{Refusal}
use Rattle.calls.specs.declared.Advanced.{Advanced}
use Rattle.calls.specs.declared.Halted.{Halted}
use Rattle.judge.specs.declared.answers.Run.{Run}
use Rattle.judge.specs.declared.answers.Told.{Told}

-- What an advance told, a halt before a cell of 2^64 as too large, and a refusal with nothing done.
abbrev pub told_of : Result Advanced Halted → Told
told_of (Ok a) = record { done = a.done; value = Ok a.value }
told_of (Err (Halted.Stopped done)) = record { done = done; value = Err Refusal.TooLarge }
told_of (Err (Halted.Refused refusal)) = record { done = 0; value = Err refusal }

-- "2^64 or more" is refused as too large, a chain with no messages to lower as such, and else all pairs are done and the value is the one due.
abbrev pub Tells : Run → Option ℕ → Type 0
Tells r None = r.told.value ≡ Err Refusal.TooLarge
Tells r (Some v) = (v ≡ 0 → r.told.value ≡ Err Refusal.WindowZero) × (v ≢ 0 → (r.told.done ≡ r.plan.pairs) × (r.told.value ≡ Ok v))

-- "14: a cell would reach 2^64"; "15: sheet only: G(N) is below 2^64, a lowered value isn't": which of them, by the whole model's value.
abbrev pub refusal_due : Option ℕ → Refusal
refusal_due None = Refusal.TooLarge
refusal_due (Some v) = Refusal.LoweredTooLarge

-- The model's cells are 0, and the one past them is as it was.
abbrev pub IsCleared : List ℕ → ℕ → ℕ → Type 0
IsCleared area cells foreign = (cells < length area) × (slice_index area cells ≡ foreign) × All (λ x. x ≡ 0) (take cells area)
