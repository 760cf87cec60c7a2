-- The records with fields before the tree, kinds 1 to 3: what their definitions say at each `return` of the code, in plain values.
-- Each law rewrites by the tests that led to that `return`.
use Prim.Native.Nat.{ℕ, ◌+◌, ◌<◌, ◌≤◌}
use mathlib.Core.Path.{◌≡◌}
use mathlib.Core.Bool.{Bool, true, false}
use mathlib.Core.List.{List}
use lib.ListN.{get_or}
use borrow.Author.Tests.{lt-ltb, le-ltb, eq-eqb, ne_eqb}
use Rattle.modelfile.specs.declared.Fault.{Fault}
use Rattle.std.specs.Prelude.{Result, Ok, Err}
use Rattle.modelfile.specs.Ends.{last_centre, last_chain, largest_window, largest_load, outside}
use Rattle.modelfile.specs.Model.{with_size, with_window, slot, with_load}
use Rattle.modelfile.specs.Records.{more, refuse, load_in, read_size, read_window, read_load}
use Rattle.modelfile.specs.declared.Model.{Model}
use Rattle.modelfile.specs.declared.Refusal.{Refusal}
use Rattle.reader.specs.Numbers.{field}
use Rattle.reader.specs.declared.numbers.Number.{Number}
use Rattle.reader.proofs.NumberLaws.{field_out, field_place, field_in, field_is}

module _ (rest : List ℕ) (at : ℕ) (m : Model) where
  -- kind 1
  module _ {x : Result (Number 16) Refusal} (e : x ≡ field rest 1 at last_centre) where
    pub size_centre : {r : Refusal} → x ≡ Err r → record { step = Err r; model = m } ≡ read_size rest at m
    unfolding read_size
    size_centre f = rw (field_out _ _ _ _ e f, ← field_place _ _ _ _ e f)

    module _ {c : Number 16} (f : x ≡ Ok c) {y : Result (Number 8) Refusal} (g : y ≡ field rest 2 at last_chain) where
      pub size_chain : {r : Refusal} → y ≡ Err r → record { step = Err r; model = m } ≡ read_size rest at m
      unfolding read_size
      size_chain h = rw (field_in _ _ _ _ e f, field_out _ _ _ _ g h, ← field_place _ _ _ _ g h)

      pub size_more : {k : Number 8} → y ≡ Ok k → more (with_size m c.n k.n) ≡ read_size rest at m
      unfolding read_size
      size_more h = rw (field_in _ _ _ _ e f, field_in _ _ _ _ g h, field_is _ _ _ _ e f, field_is _ _ _ _ g h)

  -- kind 2
  module _ {a : ℕ} (e : a ≡ get_or rest 1 0) where
    pub window_chain : (a ≡ m.given + 1 → ⊥) → refuse Fault.OutOfRange (at + 1) m ≡ read_window rest at m
    unfolding read_window
    window_chain f = rw (← e, ne_eqb _ _ f)

    module _ (f : a ≡ m.given + 1) {b : ℕ} (g : b ≡ get_or rest 2 0) {u : Bool} (o : u ≡ outside 0 largest_window b) where
      pub window_out : u ≡ true → refuse Fault.OutOfRange (at + 2) m ≡ read_window rest at m
      unfolding read_window
      window_out h = rw (← e, eq-eqb _ _ f, ← g, ← o, h)

      pub window_more : u ≡ false → more (with_window m b) ≡ read_window rest at m
      unfolding read_window
      window_more h = rw (← e, eq-eqb _ _ f, ← g, ← o, h)

  -- kind 3
  module _ {x : Result (Number 16) Refusal} (e : x ≡ field rest 1 at m.centres) where
    pub load_centre : {r : Refusal} → x ≡ Err r → record { step = Err r; model = m } ≡ read_load rest at m
    unfolding read_load
    load_centre f = rw (field_out _ _ _ _ e f, ← field_place _ _ _ _ e f)

    module _ {c : Number 16} (f : x ≡ Ok c) {y : Result (Number 8) Refusal} (g : y ≡ field rest 2 at m.chains) where
      pub load_chain : {r : Refusal} → y ≡ Err r → record { step = Err r; model = m } ≡ read_load rest at m
      unfolding read_load
      load_chain h = rw (field_in _ _ _ _ e f, field_out _ _ _ _ g h, ← field_place _ _ _ _ g h)

      module _ {k : Number 8} (h : y ≡ Ok k) {l : ℕ} (i : l ≡ load_in rest) {u : Bool} (o : u ≡ outside 1 largest_load l) where
        pub load_out : u ≡ true → refuse Fault.OutOfRange (at + 3) m ≡ read_load rest at m
        unfolding read_load
        load_out j = rw (field_in _ _ _ _ e f, field_in _ _ _ _ g h, ← i, ← o, j)

        module _ (j : u ≡ false) {s : ℕ} (p : s ≡ slot c.n k.n) where
          pub load_order : s < m.passed → refuse Fault.OutOfOrder at m ≡ read_load rest at m
          unfolding read_load
          load_order q = rw (field_in _ _ _ _ e f, field_in _ _ _ _ g h, ← i, ← o, j, field_is _ _ _ _ e f, field_is _ _ _ _ g h, ← p, lt-ltb _ _ q)

          pub load_more : m.passed ≤ s → more (with_load m c.n k.n l) ≡ read_load rest at m
          unfolding read_load
          load_more q = rw (field_in _ _ _ _ e f, field_in _ _ _ _ g h, ← i, ← o, j, field_is _ _ _ _ e f, field_is _ _ _ _ g h, ← p, le-ltb _ _ q)
