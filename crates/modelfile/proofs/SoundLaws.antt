-- What the arrays and counts of a model being read always satisfy, so that each index a record writes to is in range: every leaf has a
-- centre of its own and every join takes one subtree away, so there are at most 16 leaves and 31 nodes.
use Prim.Native.Nat.{ℕ, suc, ◌+◌, ◌-◌, ◌*◌, ◌<◌, ◌≤◌}
use mathlib.Core.Path.{◌≡◌, refl, ◌∙◌}
use mathlib.Core.List.{List}
use native.Mathlib.Omega.{arith}
use lib.ListN.{length, get_or, set, length-set}
use Rattle.modelfile.specs.Model.{empty_model, with_size, with_window, slot, with_load, with_leaf, with_join}
use Rattle.modelfile.specs.Records.{read_record}
use Rattle.modelfile.specs.declared.Model.{Model}
use Rattle.modelfile.specs.declared.Stepped.{Stepped}
use Rattle.modelfile.proofs.StepLaws.{Within, Taken, Outcome, record_outcome}
use Rattle.modelfile.proofs.WalkLaws.{Keeps}
use Rattle.modelfile.proofs.InTreeLaws.{in_tree, in_tree_few, in_tree_more}

pub record Sound (m : Model) : Type 0 where
  pub centres_few : m.centres ≤ 16
  pub chains_few : m.chains ≤ 8
  pub windows_long : length m.windows ≡ 8
  pub loads_long : length m.loads ≡ 128
  pub nodes_long : length m.nodes ≡ 31
  pub placed_long : length m.placed ≡ 16
  pub nodes_few : m.count + m.trees ≡ 2 * length (in_tree 1 m.placed)

pub sound_empty : Sound empty_model
unfolding empty_model in_tree
sound_empty = record { centres_few = omega arith; chains_few = omega arith; windows_long = refl; loads_long = refl; nodes_long = refl; placed_long = refl; nodes_few = refl }

module _ (m : Model) (s : Sound m) where
  -- ---- room for what a record adds

  pub window_room : m.given < m.chains → m.given < 8
  window_room h = omega (arith, s.chains_few)

  pub slot_room : (c k : ℕ) → Within 1 m.centres c → Within 1 m.chains k → slot c k < 128
  slot_room c k wc wk = omega (arith, s.centres_few, s.chains_few)

  -- one centre more is in the tree
  pub leaf_more : (c : ℕ) → Within 1 m.centres c → get_or m.placed (c - 1) 0 ≡ 0 → length (in_tree 1 (set m.placed (c - 1) 1)) ≡ suc (length (in_tree 1 m.placed))
  leaf_more c w e = in_tree_more 1 m.placed (c - 1) (omega (arith, s.placed_long, s.centres_few)) e

  pub leaf_room : (c : ℕ) → Within 1 m.centres c → get_or m.placed (c - 1) 0 ≡ 0 → m.count + m.trees ≤ 30
  leaf_room c w e = omega (arith, s.nodes_few, s.placed_long, leaf_more c w e, in_tree_few 1 (set m.placed (c - 1) 1), length-set m.placed (c - 1) 1)

  pub join_room : 2 ≤ m.trees → m.count ≤ 30
  join_room h = omega (arith, s.nodes_few, s.placed_long, in_tree_few 1 m.placed)

  -- ---- what each record keeps

  pub sound_size : (c k : ℕ) → c ≤ 16 → k ≤ 8 → Sound (with_size m c k)
  unfolding with_size
  sound_size c k hc hk = record { centres_few = hc; chains_few = hk; windows_long = s.windows_long; loads_long = s.loads_long; nodes_long = s.nodes_long; placed_long = s.placed_long; nodes_few = s.nodes_few }

  pub sound_window : (n : ℕ) → Sound (with_window m n)
  unfolding with_window
  sound_window n = record { centres_few = s.centres_few; chains_few = s.chains_few; windows_long = length-set m.windows m.given n ∙ s.windows_long; loads_long = s.loads_long; nodes_long = s.nodes_long; placed_long = s.placed_long; nodes_few = s.nodes_few }

  pub sound_load : (c k l : ℕ) → Sound (with_load m c k l)
  unfolding with_load
  sound_load c k l = record { centres_few = s.centres_few; chains_few = s.chains_few; windows_long = s.windows_long; loads_long = length-set m.loads (slot c k) l ∙ s.loads_long; nodes_long = s.nodes_long; placed_long = s.placed_long; nodes_few = s.nodes_few }

  pub sound_leaf : (at c : ℕ) → Within 1 m.centres c → get_or m.placed (c - 1) 0 ≡ 0 → Sound (with_leaf m at c)
  unfolding with_leaf
  sound_leaf at c w e =
      record {
        centres_few = s.centres_few;
        chains_few = s.chains_few;
        windows_long = s.windows_long;
        loads_long = s.loads_long;
        nodes_long = length-set m.nodes m.count c ∙ s.nodes_long;
        placed_long = length-set m.placed (c - 1) 1 ∙ s.placed_long;
        nodes_few = omega (arith, leaf_more c w e, s.nodes_few);
      }

  pub sound_join : 2 ≤ m.trees → Sound (with_join m)
  unfolding with_join
  sound_join h =
      record {
        centres_few = s.centres_few;
        chains_few = s.chains_few;
        windows_long = s.windows_long;
        loads_long = s.loads_long;
        nodes_long = length-set m.nodes m.count 0 ∙ s.nodes_long;
        placed_long = s.placed_long;
        nodes_few = omega (arith, s.nodes_few);
      }

pub sound_kept : Keeps (λ at m. Sound m)
sound_kept at m to n s (Taken.size c k z wc wk) = sound_size m s c k wc.high wk.high
sound_kept at m to n s (Taken.window w h r) = sound_window m s w
sound_kept at m to n s (Taken.load c k l z wc wk wl o) = sound_load m s c k l
sound_kept at m to n s (Taken.leaf c g w u e) = sound_leaf m s at c w e
sound_kept at m to n s (Taken.join a h) = sound_join m s h

-- after a record of any kind, refused or not
pub sound_record : (rest : List ℕ) (at : ℕ) (m : Model) → Sound m → Sound (read_record rest at m).model
sound_record rest at m s = by (read_record rest at m) (record_outcome rest at m)
  where
    by : (r : Stepped) → Outcome rest at m r → Sound r.model
    by r (Outcome.goes {n} l t) = sound_kept at m _ n s t
    by r (Outcome.ends d l) = s
    by r (Outcome.stops p) = s
