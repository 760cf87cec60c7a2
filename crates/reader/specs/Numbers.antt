-- Document 01: "Centre numbers run from 1 to 16 and chain numbers from 1 to 8 .. After the size record a centre or chain number must
-- lie between 1 and the number declared there." A number is taken exactly if it is not outside 1 .. last.
use Rattle.std.specs.Prelude.{ℕ, ◌+◌, List, Option, Some, None, Result, Ok, Err, get_or}
use Rattle.sums.specs.Choice.{choose}
use Rattle.modelfile.specs.Ends.{outside}
use Rattle.modelfile.specs.declared.Fault.{Fault}
use Rattle.modelfile.specs.declared.Refusal.{Refusal}
use Rattle.reader.specs.declared.numbers.Number.{Number}

unfoldable pub numbered : {LAST : ℕ} → ℕ → ℕ → Option (Number LAST)
numbered n last = choose (outside 1 last n) (λ u. None) (λ u. Some (record { n = n }))

-- the number at byte i of a record that begins at `at`; refusal 3 is "a field outside its range", at the first byte of the field
unfoldable pub field : {LAST : ℕ} → List ℕ → ℕ → ℕ → ℕ → Result (Number LAST) Refusal
field rest i at last =
    choose (outside 1 last (get_or rest i 0)) (λ u. Err (record { fault = Fault.OutOfRange; place = at + i })) (λ u. Ok (record { n = get_or rest i 0 }))
