-- The tree part: empty where the file is refused, and only there, since an accepted file has a first leaf of two bytes before its
-- end record (first_inside). That the first leaf's place lies so far back is kept by every step.
use Prim.Native.Nat.{ℕ, ◌+◌, ◌-◌, ◌≤◌}
use mathlib.Core.Path.{◌≡◌, refl, ap}
use mathlib.Core.Bool.{Bool, true, false}
use mathlib.Core.List.{List, []}
use native.Mathlib.Omega.{arith}
use lib.Dec.{eqb}
use lib.ListN.{length, take, drop, length-drop}
use lib.Seq.{length-take-le}
use Rattle.std.specs.Prelude.{Ok, Err}
use Rattle.modelfile.specs.Model.{empty_model, with_size, with_window, with_load, first_place, with_leaf, with_join}
use Rattle.modelfile.specs.File.{read_file}
use Rattle.modelfile.specs.Part.{tree_part, part_from}
use Rattle.modelfile.specs.declared.Model.{Model}
use Rattle.modelfile.specs.declared.Refusal.{Refusal}
use Rattle.modelfile.proofs.StepLaws.{positive, Taken}
use Rattle.modelfile.proofs.WalkLaws.{Keeps, reached}

-- the first leaf lies before this place
record Begun (at : ℕ) (m : Model) : Type 0 where
  begun : 1 ≤ m.count → m.first + 2 ≤ at

begun_step : Keeps Begun
unfolding with_size with_window with_load with_leaf with_join
begun_step at m to n i (Taken.size c k a b d) = record { begun = λ h. omega (arith, i.begun h) }
begun_step at m to n i (Taken.window w a b) = record { begun = λ h. omega (arith, i.begun h) }
begun_step at m to n i (Taken.load c k l a b d e f) = record { begun = λ h. omega (arith, i.begun h) }
begun_step at m to n i (Taken.leaf c a b d e) = record { begun = λ h. by (eqb m.count 0) refl }
  where
    by : (t : Bool) → eqb m.count 0 ≡ t → first_place t at m.first + 2 ≤ at + 2
    by true e = omega arith
    by false e = omega (arith, i.begun (positive m.count e))
begun_step at m to n i (Taken.join a b) = record { begun = λ h. omega (arith, i.begun a) }

pub first_inside : (file : List ℕ) → (read_file file).verdict ≡ Ok tt → (read_file file).model.first + 3 ≤ length file
unfolding empty_model
first_inside file e = let r = reached Begun begun_step (record { begun = λ h. absurd (omega arith) }) file e in omega (arith, r.kept.begun r.ended.nodes_some, r.last)

pub part_refused : (file : List ℕ) (r : Refusal) → (read_file file).verdict ≡ Err r → tree_part file ≡ []
unfolding tree_part
part_refused file r e = rw e

pub part_accepted : (file : List ℕ) → (read_file file).verdict ≡ Ok tt → tree_part file ≡ take (length file - 1 - (read_file file).model.first) (drop (read_file file).model.first file)
unfolding tree_part
part_accepted file e = rw e

pub from_refused : (file : List ℕ) (r : Refusal) → (read_file file).verdict ≡ Err r → part_from file ≡ 0
unfolding part_from
from_refused file r e = rw e

pub from_accepted : (file : List ℕ) → (read_file file).verdict ≡ Ok tt → part_from file ≡ (read_file file).model.first
unfolding part_from
from_accepted file e = rw e

pub part_length : (file : List ℕ) → (read_file file).verdict ≡ Ok tt → (read_file file).model.first + length (tree_part file) + 1 ≡ length file
part_length file e =
    let first = (read_file file).model.first in
    let h = first_inside file e in
    let d = length-drop first file in
    let l = length-take-le (length file - 1 - first) (drop first file) (omega arith) in
    omega (arith, ap length (part_accepted file e))
