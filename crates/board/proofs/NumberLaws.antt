-- Where the tree part stands, as numbers.
use Prim.Native.Nat.{ℕ, ◌+◌, ◌-◌, ◌≤◌}
use mathlib.Core.Path.{◌≡◌, refl, sym, ap, ◌∙◌}
use mathlib.Core.List.{List}
use native.Mathlib.Omega.{arith}
use lib.ListN.{length}
use Rattle.std.specs.Prelude.{⊤, Result, Ok, Err}
use Rattle.modelfile.specs.File.{read_file}
use Rattle.modelfile.specs.Part.{tree_part}
use Rattle.modelfile.specs.declared.Refusal.{Refusal}
use Rattle.modelfile.proofs.PartLaws.{first_inside, part_length, part_refused, from_accepted, from_refused}
use Rattle.calls.specs.Answers.{part_numbers}
use Rattle.calls.specs.Promises.{BoardPartAllows}

-- the tree part: not empty exactly where the file is accepted, and then it ends just before the file's last byte
module _ (file part : List ℕ) (e : part ≡ tree_part file) where
  accepted_some : (read_file file).verdict ≡ Ok tt → ((read_file file).model.first + length part + 1 ≡ length file) × (2 ≤ length part)
  accepted_some v =
      let n : (read_file file).model.first + length part + 1 ≡ length file = rw e (part_length file v) in
      (n, omega (arith, n, first_inside file v))

  refused_none : (r : Refusal) → (read_file file).verdict ≡ Err r → length part ≡ 0
  refused_none r v = ap length (e ∙ part_refused file r v)

  pub part_none : length part ≡ 0 → BoardPartAllows file (record { from = 0; length = 0 })
  unfolding part_numbers
  part_none z = by (read_file file).verdict refl
    where
      by : (v : Result ⊤ Refusal) → (read_file file).verdict ≡ v → record { from = 0; length = 0 } ≡ part_numbers file
      by (Ok u) d = absurd (omega (arith, z, (accepted_some d).1))
      by (Err r) d = λ i. record { from = sym (from_refused file r d) i; length = (sym z ∙ ap length e) i }

  module _ (some : length part ≡ 0 → ⊥) where
    accepted : (read_file file).verdict ≡ Ok tt
    accepted = by (read_file file).verdict refl
      where
        by : (v : Result ⊤ Refusal) → (read_file file).verdict ≡ v → v ≡ Ok tt
        by (Ok u) d = refl
        by (Err r) d = absurd (some (refused_none r d))

    pub part_inside : length part + 1 ≤ length file
    part_inside = omega (arith, (accepted_some accepted).0)

    pub part_some : BoardPartAllows file (record { from = length file - 1 - length part; length = length part })
    unfolding part_numbers
    part_some =
        let f : length file - 1 - length part ≡ (read_file file).model.first = omega (arith, (accepted_some accepted).0) in
        λ i. record { from = (f ∙ sym (from_accepted file accepted)) i; length = length (e i) }
