-- A join's loops turn by turn: what a turn asks for and leaves, and the row whose count it writes and restores.
use Prim.Native.Nat.{ℕ, ◌+◌, ◌*◌, ◌<◌}
use mathlib.Core.Path.{◌≡◌, refl, sym, ap, ◌∙◌}
use mathlib.Core.List.{List, [], ◌∷◌, flat_map}
use native.Mathlib.Omega.{arith}
use lib.ListN.{length}
use Rattle.std.specs.declared.option.Option.{Option}
use Rattle.sums.specs.Lists.{from}
use Rattle.network.specs.Pairs.{Pair}
use Rattle.cellsums.specs.declared.Row.{Row}
use Rattle.joins.specs.Walk.{State, walk}
use Rattle.joins.specs.Loops.{cell_pairs, loop_pairs, with_count, HasRow, At, Numbers, turn_at, Sound}
use Rattle.joins.specs.declared.Join.{Join}
use Rattle.joins.specs.declared.Loop.{Loop}
use Rattle.joins.specs.declared.Turn.{Turn}
use Rattle.joins.proofs.TurnLaws.{Walked, walk_again}
use Rattle.joins.proofs.CountLaws.{with_again}

-- ---- a turn of a loop

module _ (join : Join) (one : Loop) (loops : List Loop) (rows : List Row) (l r t : ℕ) where
  pub loop_turn : ℕ → List Pair
  loop_turn i = loop_pairs join loops (with_count rows one.row (i + 1)) (l + i * one.left) (r + i * one.right) (t + i * one.own)

  pub loop_again : {s₀ s u : State} {i : ℕ} → Walked loop_turn one.count s₀ s i → i < one.count → {rows' : List Row} → rows' ≡ with_count rows one.row (i + 1) → (count : ℕ) {at : Turn} → at ≡ turn_at one l r t count i
      → u ≡ walk (loop_pairs join loops rows' at.left at.right at.own) s → Walked loop_turn one.count s₀ u (i + 1)
  unfolding loop_turn
  loop_again {s = s} w h er count ea e = walk_again w h (e ∙ (λ j. walk (loop_pairs join loops (er j) (ea j).left (ea j).right (ea j).own) s))

  pub loop_turns : flat_map loop_turn (from 0 one.count) ≡ loop_pairs join (one ∷ loops) rows l r t
  unfolding loop_pairs loop_turn
  loop_turns = refl

pub loops_as : (join : Join) (one : Loop) (loops all : List Loop) (rows : List Row) (l r t : ℕ) (s₀ s : State) → all ≡ one ∷ loops → s ≡ walk (flat_map (loop_turn join one loops rows l r t) (from 0 one.count)) s₀
    → s ≡ walk (loop_pairs join all rows l r t) s₀
loops_as join one loops all rows l r t s₀ s e h = h ∙ ap (λ ps. walk ps s₀) (loop_turns join one loops rows l r t ∙ ap (λ x. loop_pairs join x rows l r t) (sym e))

-- for the length of the area, and the rows, that the code has at hand
module _ (size : ℕ) (join : Join) (one : Loop) (loops : List Loop) (rows : List Row) (l r t count : ℕ) (s : Sound size join (one ∷ loops) rows l r t count) where
  pub row_in : HasRow one.row rows
  unfolding Sound
  row_in = s.0

  module _ (i : ℕ) (h : i < one.count) where
    pub turn_numbers : Numbers (turn_at one l r t count i)
    unfolding Sound
    turn_numbers = (s.1 i h).0

    pub turn_sound : {size' : ℕ} {rows' : List Row} {at : Turn} → size' ≡ size → rows' ≡ with_count rows one.row (i + 1) → at ≡ turn_at one l r t count i → Sound size' join loops rows' at.left at.right at.own at.count
    unfolding Sound
    turn_sound es er ea = rw (es, er, ea) (s.1 i h).1

-- where no loop is left it is one cell
pub last_again : (join : Join) (one : Loop) (rows : List Row) (l r t : ℕ) {s₀ s u : State} {i : ℕ} → Walked (loop_turn join one [] rows l r t) one.count s₀ s i → i < one.count → {rows' : List Row} → rows' ≡ with_count rows one.row (i + 1) → (count : ℕ) {at : Turn} → at ≡ turn_at one l r t count i
    → u ≡ walk (cell_pairs join rows' at.left at.right at.own) s → Walked (loop_turn join one [] rows l r t) one.count s₀ u (i + 1)
unfolding loop_pairs
last_again join one rows l r t w h er count ea e = loop_again join one [] rows l r t w h er count ea e

pub last_at : (size : ℕ) (join : Join) (loops : List Loop) (rows : List Row) (l r t count : ℕ) → length loops < 1 → Sound size join loops rows l r t count → At size join rows l r t count
unfolding Sound
last_at size join [] rows l r t count h s = s
last_at size join (one ∷ loops) rows l r t count h s = absurd (omega arith)

pub last_pairs : (join : Join) (loops : List Loop) (rows : List Row) (l r t : ℕ) (s₀ : State) → length loops < 1 → walk (cell_pairs join rows l r t) s₀ ≡ walk (loop_pairs join loops rows l r t) s₀
unfolding loop_pairs
last_pairs join [] rows l r t s₀ h = refl
last_pairs join (one ∷ loops) rows l r t s₀ h = absurd (omega arith)

pub sound_as : (size : ℕ) (join : Join) (rows : List Row) (l r t count : ℕ) {loops loops' : List Loop} → loops ≡ loops' → Sound size join loops rows l r t count → Sound size join loops' rows l r t count
sound_as size join rows l r t count e s = rw (← e) s

-- ---- the row that a loop writes, and restores

pub write_again : (o : Option ℕ) (rows rows₀ rows' : List Row) (n : ℕ) → ((x : ℕ) → with_count rows o x ≡ with_count rows₀ o x) → rows' ≡ with_count rows o n → (x : ℕ) → with_count rows' o x ≡ with_count rows₀ o x
write_again o rows rows₀ rows' n f e x = ap (λ y. with_count y o x) (e ∙ f n) ∙ with_again rows₀ o n x
