-- A walk over a loop's pairs, turn by turn. The invariant: the turns ahead lead from the state that is reached to where the whole loop leads;
-- so once the walk has ended they may be left out. Then a cell's rows as such loops.
use Prim.Native.Nat.{ℕ, suc, ◌+◌, ◌-◌, ◌*◌, ◌≤◌, ◌<◌}
use mathlib.Core.Path.{◌≡◌, refl, sym, ap, ◌∙◌}
use mathlib.Core.Bool.{true}
use mathlib.Core.List.{List, [], ◌∷◌, ◌++◌, map, flat_map}
use native.Mathlib.Omega.{arith}
use Rattle.sums.specs.Lists.{from}
use Rattle.sums.proofs.ListLaws.{map-append}
use Rattle.network.specs.Pairs.{Pair}
use Rattle.cellsums.specs.Places.{places}
use Rattle.cellsums.specs.declared.Row.{Row}
use Rattle.cellsums.proofs.PlaceLaws.{within_turn}
use Rattle.joins.specs.Walk.{State, walk, ended}
use Rattle.joins.specs.Loops.{pair_at, cell_pairs, Inside}
use Rattle.joins.specs.declared.Join.{Join}
use Rattle.joins.proofs.WalkLaws.{walk-append, walk-ended}

-- ---- a loop

module _ (turn : ℕ → List Pair) (n : ℕ) where
  -- the pairs of the turns from j on
  pub ahead : ℕ → List Pair
  ahead j = flat_map turn (from j (n - j))

  ahead_all : ahead 0 ≡ flat_map turn (from 0 n)
  unfolding ahead
  ahead_all = let e : n - 0 ≡ n = omega arith in rw e

  walk_turn : (j : ℕ) (s : State) → j < n → walk (ahead j) s ≡ walk (ahead (j + 1)) (walk (turn j) s)
  unfolding ahead from flat_map
  walk_turn j s h =
      let e : n - j ≡ suc (n - (j + 1)) = omega arith in
      let g : suc j ≡ j + 1 = omega arith in
      rw (e, g) (walk-append (turn j) (flat_map turn (from (j + 1) (n - (j + 1)))) s)

  walk_end : (j : ℕ) (s : State) → n ≤ j → walk (ahead j) s ≡ s
  unfolding ahead from flat_map walk
  walk_end j s h = let e : n - j ≡ 0 = omega arith in rw e

  pub record Walked (s₀ s : State) (j : ℕ) : Type 0 where
    pub turns : j ≤ n
    pub whole : walk (ahead j) s ≡ walk (flat_map turn (from 0 n)) s₀

module _ {turn : ℕ → List Pair} {n : ℕ} where
  pub walk_begins : (s : State) → Walked turn n s s 0
  walk_begins s = record { turns = omega arith; whole = ap (λ ps. walk ps s) (ahead_all turn n) }

  module _ {s₀ s : State} {j : ℕ} (w : Walked turn n s₀ s j) where
    pub walk_again : {u : State} → j < n → u ≡ walk (turn j) s → Walked turn n s₀ u (j + 1)
    walk_again h e = record { turns = omega arith; whole = rw e (sym (walk_turn turn n j s h) ∙ w.whole) }

    pub walk_ends : n ≤ j → s ≡ walk (flat_map turn (from 0 n)) s₀
    walk_ends h = sym (walk_end turn n j s h) ∙ w.whole

    -- nothing ahead would change a walk that has ended
    pub walk_left : ended s.over s.skip s.budget ≡ true → s ≡ walk (flat_map turn (from 0 n)) s₀
    walk_left h = sym (walk-ended (ahead turn n j) s h) ∙ w.whole

pub map_flat : {A B C : Type 0} (f : B → C) (g : A → List B) (xs : List A) → map f (flat_map g xs) ≡ flat_map (λ x. map f (g x)) xs
unfolding flat_map
map_flat f g [] = refl
map_flat f g (x ∷ xs) = map-append f (g x) (flat_map g xs) ∙ ap (λ z. map f (g x) ++ z) (map_flat f g xs)

-- ---- a row

module _ (join : Join) (row : Row) (rows : List Row) (l r t : ℕ) where
  pub row_turn : ℕ → List Pair
  row_turn j = cell_pairs join rows (l + j * row.left) (r + (row.count - 1 - j) * row.right) t

  pub row_turns : flat_map row_turn (from 0 row.count) ≡ cell_pairs join (row ∷ rows) l r t
  unfolding cell_pairs places row_turn
  row_turns = sym (map_flat (pair_at join t) (λ j. places rows (l + j * row.left) (r + (row.count - 1 - j) * row.right)) (from 0 row.count))

  pub row_again : {s₀ s u : State} {j : ℕ} → Walked row_turn row.count s₀ s j → j < row.count
      → u ≡ walk (cell_pairs join rows (l + j * row.left) (r + (row.count - 1 - j) * row.right) t) s → Walked row_turn row.count s₀ u (j + 1)
  unfolding row_turn
  row_again w h e = walk_again w h e

pub rows_as : (join : Join) (row : Row) (rows all : List Row) (l r t : ℕ) (s₀ s : State) → all ≡ row ∷ rows → s ≡ walk (flat_map (row_turn join row rows l r t) (from 0 row.count)) s₀ → s ≡ walk (cell_pairs join all l r t) s₀
rows_as join row rows all l r t s₀ s e h = h ∙ ap (λ ps. walk ps s₀) (row_turns join row rows l r t ∙ ap (λ x. cell_pairs join x l r t) (sym e))

-- ---- places stay inside

module _ {n : ℕ} {join : Join} {l r t : ℕ} where
  pub inside_as : {rows rows' : List Row} → rows ≡ rows' → Inside n join rows l r t → Inside n join rows' l r t
  inside_as e i = rw (← e) i

  pub inside_turn : {row : Row} {rows : List Row} (size : ℕ) → size ≡ n → Inside n join (row ∷ rows) l r t → (j : ℕ) → j < row.count → Inside size join rows (l + j * row.left) (r + (row.count - 1 - j) * row.right) t
  inside_turn size e i j h = rw e (record { reads = within_turn i.reads j h; own_from = i.own_from; own_to = i.own_to; own_at = i.own_at; left_before = i.left_before; right_before = i.right_before })
