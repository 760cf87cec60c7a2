-- `reader::tree_part`. An accepted file's first leaf stands before its last byte, so the part lies in the file.
use Prim.Native.Nat.{ℕ, ◌+◌, ◌-◌, ◌≤◌}
use mathlib.Core.Path.{◌≡◌, sym, ap}
use mathlib.Core.List.{List, []}
use native.Mathlib.Omega.{arith}
use lib.ListN.{length, take, drop}
use Rattle.modelfile.specs.File.{read_file}
use Rattle.modelfile.specs.Part.{tree_part, part_from, bytes_on}
use Rattle.std.specs.Prelude.{Ok, Err}
use Rattle.modelfile.specs.declared.Refusal.{Refusal}
use Rattle.modelfile.specs.declared.Reading.{Reading}
use Rattle.modelfile.proofs.PartLaws.{first_inside, part_accepted, part_refused, from_accepted, from_refused}
use Rattle.reader.proofs.tree_part.Goals as goal

-- modelfile's laws of the part, at what `read_file` has given
module _ (file : List ℕ) {r : Reading} (e : r ≡ read_file file) where
  part_inside : r.verdict ≡ Ok tt → r.model.first + 3 ≤ length file
  part_inside f = rw e (first_inside file (rw e at f))

  part-given : r.verdict ≡ Ok tt → take (length file - 1 - r.model.first) (drop r.model.first file) ≡ tree_part file
  part-given f = rw e (sym (part_accepted file (rw e at f)))

  from-given : (address : ℕ × ℕ) → r.verdict ≡ Ok tt → bytes_on address r.model.first ≡ bytes_on address (part_from file)
  from-given address f = ap (bytes_on address) (rw e (sym (from_accepted file (rw e at f))))

  part-empty : (why : Refusal) → r.verdict ≡ Err why → [] ≡ tree_part file
  part-empty why f = sym (part_refused file why (rw e at f))

  from_empty : (address : ℕ × ℕ) (why : Refusal) → r.verdict ≡ Err why → bytes_on address 0 ≡ bytes_on address (part_from file)
  from_empty address why f = ap (bytes_on address) (sym (from_refused file why (rw e at f)))

-- a part from n to n is empty wherever it lies; where that is, its address tells
sub_self : (n : ℕ) → n - n ≡ 0
sub_self n = omega arith

pub overflow_sub-result : goal.overflow_sub-result
overflow_sub-result c = omega (arith, part_inside _ c.read_file-reading.ensures c.in-Ok.is)

pub slice_bounds-result-count : goal.slice_bounds-result-count
slice_bounds-result-count c = omega (arith, part_inside _ c.read_file-reading.ensures c.in-Ok.is)

pub slice_bounds-result-start : goal.slice_bounds-result-start
slice_bounds-result-start c = omega (arith, part_inside _ c.read_file-reading.ensures c.in-Ok.is)

pub returns-in-Ok : goal.returns-in-Ok
returns-in-Ok c = (search part-given, search from-given)

pub returns-in-Err : goal.returns-in-Err
returns-in-Err c = (search (part-empty, sub_self), search from_empty)
