-- A field that is taken is the byte and lies between its ends; one that is refused is outside, and refused at its place.
use Prim.Native.Nat.{ℕ, ◌+◌, ◌≤◌}
use mathlib.Core.Path.{◌≡◌, sym, ap, ◌∙◌}
use mathlib.Core.Bool.{true, false}
use mathlib.Core.List.{List}
use native.Mathlib.Omega.{arith}
use lib.ListN.{get_or}
use Rattle.std.specs.Prelude.{Result, Ok, Err}
use Rattle.sums.proofs.ChoiceLaws.{chose_first, chose_two}
use Rattle.modelfile.specs.Ends.{outside}
use Rattle.modelfile.specs.declared.Fault.{Fault}
use Rattle.modelfile.specs.declared.Refusal.{Refusal}
use Rattle.modelfile.proofs.StepLaws.{Within, outside-false}
use Rattle.reader.specs.Numbers.{field}
use Rattle.reader.specs.declared.numbers.Number.{Number}

module _ {LAST : ℕ} (rest : List ℕ) (i at last : ℕ) {x : Result (Number LAST) Refusal} (e : x ≡ field rest i at last) where
  module _ {r : Refusal} (f : x ≡ Err r) where
    refused : (outside 1 last (get_or rest i 0) ≡ true) × (◌≡◌ {A = Result (Number LAST) Refusal} (Err (record { fault = Fault.OutOfRange; place = at + i })) (Err r))
    unfolding field
    refused = chose_first _ _ _ _ (λ d. let z : ◌≡◌ {A = ℕ} 0 1 = cc in omega arith) (sym e ∙ f)

    pub field_out : outside 1 last (get_or rest i 0) ≡ true
    field_out = refused.0

    pub field_place : record { fault = Fault.OutOfRange; place = at + i } ≡ r
    field_place = let t = refused.1 in cc

  module _ {c : Number LAST} (f : x ≡ Ok c) where
    taken : (outside 1 last (get_or rest i 0) ≡ false) × (◌≡◌ {A = Result (Number LAST) Refusal} (Ok (record { n = get_or rest i 0 })) (Ok c))
    unfolding field
    taken = chose_two _ _ _ _ (λ d. let z : ◌≡◌ {A = ℕ} 0 1 = cc in omega arith) (sym e ∙ f)

    pub field_in : outside 1 last (get_or rest i 0) ≡ false
    field_in = taken.0

    pub field_is : get_or rest i 0 ≡ c.n
    field_is = let t = taken.1 in let w : record { n = get_or rest i 0 } ≡ c = cc in ap (λ (k : Number LAST). k.n) w

    pub field_within : {top : ℕ} → last ≤ top → Within 1 top c.n
    field_within h = let w = outside-false 1 last (get_or rest i 0) field_in in let d = field_is in record { low = omega arith; high = omega arith }
