-- Which kinds are due: the definition's list at each stage of the reading, and which kinds are on it; and that a window that is due has room.
use Prim.Native.Nat.{ℕ, ◌<◌, ◌≤◌}
use mathlib.Core.Path.{◌≡◌, refl, sym, ◌∙◌}
use mathlib.Core.Bool.{Bool, true, false}
use mathlib.Core.Logic.{◌⊎◌, inl, inr}
use mathlib.Core.List.{[], ◌∷◌}
use native.Mathlib.Omega.{arith}
use lib.Dec.{eqb}
use borrow.Author.Tests.{lt-ltb, le-ltb, eq-eqb, ne_eqb}
use Rattle.sums.specs.Lists.{some}
use Rattle.modelfile.specs.Records.{due}
use Rattle.modelfile.specs.declared.Model.{Model}
use Rattle.modelfile.proofs.StepLaws.{Due, due_is, window_missing}
use Rattle.modelfile.proofs.SoundLaws.{Sound, window_room}
use Rattle.reader.specs.Kinds.{kind_number}
use Rattle.reader.specs.declared.kinds.Kind.{Kind}

-- ---- the stages

module _ (m : Model) where
  pub at_size : m.centres ≡ 0 → due m ≡ 1 ∷ []
  unfolding due
  at_size a = rw (eq-eqb _ _ a) refl

  module _ (a : m.centres ≡ 0 → ⊥) where
    pub at_window : m.given < m.chains → due m ≡ 2 ∷ []
    unfolding due
    at_window b = rw (ne_eqb _ _ a, lt-ltb _ _ b) refl

    module _ (b : m.chains ≤ m.given) where
      pub at_load : m.count ≡ 0 → due m ≡ 3 ∷ 4 ∷ []
      unfolding due
      at_load d = rw (ne_eqb _ _ a, le-ltb _ _ b, eq-eqb _ _ d) refl

      pub at_tree : (m.count ≡ 0 → ⊥) → due m ≡ 4 ∷ 5 ∷ 6 ∷ []
      unfolding due
      at_tree d = rw (ne_eqb _ _ a, le-ltb _ _ b, ne_eqb _ _ d) refl

-- ---- the kinds on each list, and the others

module _ {kind : Kind} where
  pub load_or_leaf : (kind ≡ Kind.Load) ⊎ (kind ≡ Kind.Leaf) → true ≡ some (eqb (kind_number kind)) (3 ∷ 4 ∷ [])
  unfolding some
  load_or_leaf (inl e) = rw e refl
  load_or_leaf (inr e) = rw e refl

  pub in_tree : (kind ≡ Kind.Leaf) ⊎ (kind ≡ Kind.Join) ⊎ (kind ≡ Kind.End) → true ≡ some (eqb (kind_number kind)) (4 ∷ 5 ∷ 6 ∷ [])
  unfolding some
  in_tree (inl e) = rw e refl
  in_tree (inr (inl e)) = rw e refl
  in_tree (inr (inr e)) = rw e refl

pub not_size : (kind : Kind) → (kind ≡ Kind.Size → ⊥) → false ≡ some (eqb (kind_number kind)) (1 ∷ [])
unfolding some
not_size Kind.Size f = absurd (f refl)
not_size Kind.Window f = refl
not_size Kind.Load f = refl
not_size Kind.Leaf f = refl
not_size Kind.Join f = refl
not_size Kind.End f = refl

pub not_window : (kind : Kind) → (kind ≡ Kind.Window → ⊥) → false ≡ some (eqb (kind_number kind)) (2 ∷ [])
unfolding some
not_window Kind.Size f = refl
not_window Kind.Window f = absurd (f refl)
not_window Kind.Load f = refl
not_window Kind.Leaf f = refl
not_window Kind.Join f = refl
not_window Kind.End f = refl

pub not_load : (kind : Kind) → (kind ≡ Kind.Load → ⊥) → (kind ≡ Kind.Leaf → ⊥) → false ≡ some (eqb (kind_number kind)) (3 ∷ 4 ∷ [])
unfolding some
not_load Kind.Size f g = refl
not_load Kind.Window f g = refl
not_load Kind.Load f g = absurd (f refl)
not_load Kind.Leaf f g = absurd (g refl)
not_load Kind.Join f g = refl
not_load Kind.End f g = refl

pub not_tree : (kind : Kind) → (kind ≡ Kind.Leaf → ⊥) → (kind ≡ Kind.Join → ⊥) → (kind ≡ Kind.End → ⊥) → false ≡ some (eqb (kind_number kind)) (4 ∷ 5 ∷ 6 ∷ [])
unfolding some
not_tree Kind.Size f g h = refl
not_tree Kind.Window f g h = refl
not_tree Kind.Load f g h = refl
not_tree Kind.Leaf f g h = absurd (f refl)
not_tree Kind.Join f g h = absurd (g refl)
not_tree Kind.End f g h = absurd (h refl)

-- a byte that is no kind's is never due
never : (m : Model) {byte : ℕ} → Due m byte → (1 ≤ byte → 6 < byte) → ⊥
never m (Due.size z) h = omega (arith, h (omega arith))
never m (Due.window s w) h = omega (arith, h (omega arith))
never m (Due.load s w z) h = omega (arith, h (omega arith))
never m (Due.leaf s w) h = omega (arith, h (omega arith))
never m (Due.join s w n) h = omega (arith, h (omega arith))
never m (Due.end s w n) h = omega (arith, h (omega arith))

pub none_due : (m : Model) (byte : ℕ) → (1 ≤ byte → 6 < byte) → some (eqb byte) (due m) ≡ false
none_due m byte h = by (some (eqb byte) (due m)) refl
  where
    by : (t : Bool) → some (eqb byte) (due m) ≡ t → some (eqb byte) (due m) ≡ false
    by true e = absurd (never m (due_is m byte e) h)
    by false e = e

-- a window that is due has room
pub window_fits : (m : Model) {u : Bool} → Sound m → u ≡ some (eqb 2) (due m) → u ≡ true → m.given < 8
window_fits m s d y = window_room m s (window_missing (due_is m 2 (sym d ∙ y)))
