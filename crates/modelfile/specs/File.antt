-- A whole file: a model, or a refusal 1 to 9 with its place.
use Rattle.std.specs.Prelude.{ℕ, zero, suc, List, [], ◌∷◌, Result, Ok, Err}
use Rattle.modelfile.specs.Model.{empty_model}
use Rattle.modelfile.specs.Records.{body_length, read_record}
use Rattle.modelfile.specs.declared.Fault.{Fault}
use Rattle.modelfile.specs.declared.Model.{Model}
use Rattle.modelfile.specs.declared.Refusal.{Refusal}
use Rattle.modelfile.specs.declared.Step.{Step}
use Rattle.modelfile.specs.declared.Reading.{Reading}

abbrev pub refused : Fault → ℕ → Model → Reading
refused fault place m = record { verdict = Err (record { fault = fault; place = place }); model = m }

-- where a record ends the reading, or what the records after it say
abbrev pub onward : Result Step Refusal → Model → Reading → Reading
onward (Ok Step.More) m rest = rest
onward (Ok Step.Last) m rest = record { verdict = Ok tt; model = m }
onward (Err r) m rest = record { verdict = Err r; model = m }

-- "File refusals come as met from the left": record after record; `skip` counts the bytes of the latest record that are still to pass
unfoldable pub read_from : List ℕ → ℕ → ℕ → Model → Reading
read_from [] skip at m = refused Fault.Incomplete at m
read_from (byte ∷ rest) (suc skip) at m = read_from rest skip (suc at) m
read_from (byte ∷ rest) zero at m =
    let r = read_record (byte ∷ rest) at m in
    onward r.step r.model (read_from rest (body_length byte) (suc at) r.model)

unfoldable pub read_file : List ℕ → Reading
read_file file = read_from file 0 0 empty_model
