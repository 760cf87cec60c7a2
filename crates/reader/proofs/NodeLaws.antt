-- The records of the tree, kinds 4 to 6: what their definitions say at each `return` of the code, in plain values.
-- Each law rewrites by the tests that led to that `return`.
use Prim.Native.Nat.{ℕ, ◌+◌, ◌-◌, ◌<◌, ◌≤◌}
use mathlib.Core.Path.{◌≡◌, sym, ◌∙◌}
use mathlib.Core.Bool.{Bool, true, false, not, ◌&&◌}
use mathlib.Core.List.{List}
use native.Mathlib.Omega.{arith}
use lib.Dec.{eqb}
use lib.ListN.{length, get_or}
use borrow.Author.Tests.{lt-ltb, le-ltb, eq-eqb, ne_eqb, eqb-true, not-false}
use Rattle.modelfile.specs.declared.Fault.{Fault}
use Rattle.std.specs.Prelude.{Result, Ok, Err}
use Rattle.modelfile.specs.Model.{with_leaf, with_join}
use Rattle.modelfile.specs.Records.{more, refuse, chain_without_centre, centre_missing, read_leaf, read_join, read_end}
use Rattle.modelfile.specs.declared.Model.{Model}
use Rattle.modelfile.specs.declared.Refusal.{Refusal}
use Rattle.modelfile.specs.declared.Step.{Step}
use Rattle.modelfile.proofs.SoundLaws.{Sound, leaf_room}
use Rattle.reader.specs.Numbers.{field}
use Rattle.reader.specs.declared.numbers.Number.{Number}
use Rattle.reader.proofs.NumberLaws.{field_out, field_place, field_in, field_is, field_within}

-- a centre that is not in the tree yet leaves room for one node more
pub leaf_fits : (rest : List ℕ) (at : ℕ) (m : Model) {x : Result (Number 16) Refusal} {c : Number 16} {v : Bool} → Sound m → x ≡ field rest 1 at m.centres → x ≡ Ok c
    → v ≡ not (eqb (get_or m.placed (c.n - 1) 0) 0) → v ≡ false → m.count + m.trees ≤ 30
leaf_fits rest at m {c = c} s e f i j = leaf_room m s c.n (field_within _ _ _ _ e f (omega arith)) (eqb-true _ _ (not-false _ (sym i ∙ j)))

module _ (rest : List ℕ) (at : ℕ) (m : Model) where
  -- kind 4
  module _ {x : Result (Number 16) Refusal} (e : x ≡ field rest 1 at m.centres) where
    pub leaf_centre : {r : Refusal} → x ≡ Err r → record { step = Err r; model = m } ≡ read_leaf rest at m
    unfolding read_leaf
    leaf_centre f = rw (field_out _ _ _ _ e f, ← field_place _ _ _ _ e f)

    module _ {c : Number 16} (f : x ≡ Ok c) {u : Bool} (g : u ≡ (eqb m.count 0 && chain_without_centre m)) where
      pub leaf_first : {r : Refusal} → r ≡ record { fault = Fault.ChainWithoutCentre; place = at } → u ≡ true → record { step = Err r; model = m } ≡ read_leaf rest at m
      unfolding read_leaf
      leaf_first i h = rw (i, field_in _ _ _ _ e f, ← g, h)

      module _ (h : u ≡ false) {v : Bool} (i : v ≡ not (eqb (get_or m.placed (c.n - 1) 0) 0)) where
        pub leaf_again : {r : Refusal} → r ≡ record { fault = Fault.CentreAgain; place = at + 1 } → v ≡ true → record { step = Err r; model = m } ≡ read_leaf rest at m
        unfolding read_leaf
        leaf_again n j = rw (n, field_in _ _ _ _ e f, ← g, h, field_is _ _ _ _ e f, ← i, j)

        pub leaf_more : v ≡ false → more (with_leaf m at c.n) ≡ read_leaf rest at m
        unfolding read_leaf
        leaf_more j = rw (field_in _ _ _ _ e f, ← g, h, field_is _ _ _ _ e f, ← i, j)

  -- kind 5
  pub join_few : m.trees < 2 → refuse Fault.TooFewSubtrees at m ≡ read_join rest at m
  unfolding read_join
  join_few h = rw (lt-ltb _ _ h)

  pub join_more : 2 ≤ m.trees → more (with_join m) ≡ read_join rest at m
  unfolding read_join
  join_more h = rw (le-ltb _ _ h)

  -- kind 6
  pub end_trees : (m.trees ≡ 1 → ⊥) → refuse Fault.NotOneTree at m ≡ read_end rest at m
  unfolding read_end
  end_trees h = rw (ne_eqb _ _ h)

  module _ (h : m.trees ≡ 1) {u : Bool} (e : u ≡ centre_missing m) where
    pub end_missing : u ≡ true → refuse Fault.NotOneTree at m ≡ read_end rest at m
    unfolding read_end
    end_missing t = rw (eq-eqb _ _ h, ← e, t)

    pub end_after : u ≡ false → 1 < length rest → refuse Fault.PastTheEnd (at + 1) m ≡ read_end rest at m
    unfolding read_end
    end_after t l = rw (eq-eqb _ _ h, ← e, t, lt-ltb _ _ l)

pub end_last : (rest : List ℕ) (at : ℕ) (m : Model) {u : Bool} → m.trees ≡ 1 → u ≡ centre_missing m → u ≡ false → length rest ≤ 1
    → record { step = Ok Step.Last; model = m } ≡ read_end rest at m
unfolding read_end
end_last rest at m h e t l = rw (eq-eqb _ _ h, ← e, t, le-ltb _ _ l)
