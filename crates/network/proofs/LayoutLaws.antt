-- "Nodes lie in postorder, and each node's cells follow those of the node before it": in the list of nodes each one's own cells begin where
-- those of the nodes before it end. By induction on the tree, over lists of nodes that follow one another.
use Prim.Native.Nat.{ℕ, zero, suc, ◌+◌, ◌≤◌, ◌<◌}
use mathlib.Core.Path.{◌≡◌, refl, sym, subst, ◌∙◌}
use mathlib.Core.List.{List, [], ◌∷◌, ◌++◌, flat_map}
use native.Mathlib.Omega.{arith}
use lib.ListN.{length, get_or, take, length-append, length-map}
use Rattle.network.specs.Centre.{Route}
use Rattle.network.specs.Coverage.{Tree, leaf, join}
use Rattle.network.specs.Cells.{indices, cells, spans_at, all_cells, base}
use Rattle.network.proofs.CellLaws.{length-indices}
use Rattle.network.proofs.PostorderLaws.{postorder, array_of, none}

module _ (routes : List Route) (windows : List ℕ) where
  -- the nodes' own cells lie one after the other, from a place to another
  abbrev Following : ℕ → List (Tree × ℕ) → ℕ → Type 0
  Following from [] to = from ≡ to
  Following from (x ∷ xs) to = (base routes windows x.0 x.1 ≡ from) × Following (from + cells (spans_at routes windows x.0)) xs to

  follow_append : (xs ys : List (Tree × ℕ)) (a b d : ℕ) → Following a xs b → Following b ys d → Following a (xs ++ ys) d
  follow_append [] ys a b d p q = subst (λ n. Following n ys d) (sym p) q
  follow_append (x ∷ xs) ys a b d p q = (p.0, follow_append xs ys (a + cells (spans_at routes windows x.0)) b d p.1 q)

  follows : (t : Tree) (start : ℕ) → Following start (postorder routes windows t start) (start + all_cells routes windows t)
  unfolding postorder base all_cells
  follows (leaf c) start = (refl, refl)
  follows (join l r) start =
      let second = start + all_cells routes windows l in
      follow_append (postorder routes windows l start) (postorder routes windows r second ++ ((join l r, start) ∷ [])) start second (start + all_cells routes windows (join l r)) (follows l start)
      (follow_append (postorder routes windows r second) ((join l r, start) ∷ []) second (second + all_cells routes windows r) (start + all_cells routes windows (join l r)) (follows r second) (omega arith, omega arith))

  pub length_array : (f : Tree → List ℕ → ℕ) (x : Tree × ℕ) → length (array_of routes windows f x) ≡ cells (spans_at routes windows x.0)
  length_array f x = length-map (indices (spans_at routes windows x.0)) (f x.0) ∙ length-indices (spans_at routes windows x.0)

  follow_base : (f : Tree → List ℕ → ℕ) (xs : List (Tree × ℕ)) (a b i : ℕ) → Following a xs b → i < length xs
      → base routes windows (get_or xs i (none routes windows)).0 (get_or xs i (none routes windows)).1 ≡ a + length (flat_map (array_of routes windows f) (take i xs))
  unfolding flat_map
  follow_base f [] a b i p h = absurd (omega arith)
  follow_base f (x ∷ xs) a b zero p h = p.0 ∙ omega arith
  follow_base f (x ∷ xs) a b (suc i) p h =
      follow_base f xs (a + cells (spans_at routes windows x.0)) b i p.1 (omega arith)
      ∙ omega (arith, length-append (array_of routes windows f x) (flat_map (array_of routes windows f) (take i xs)), length_array f x)

  pub base_at : (f : Tree → List ℕ → ℕ) (t : Tree) (start i : ℕ) → i < length (postorder routes windows t start)
      → base routes windows (get_or (postorder routes windows t start) i (none routes windows)).0 (get_or (postorder routes windows t start) i (none routes windows)).1 ≡ start + length (flat_map (array_of routes windows f) (take i (postorder routes windows t start)))
  base_at f t start i h = follow_base f (postorder routes windows t start) start (start + all_cells routes windows t) i (follows t start) h

  follow_end : (xs : List (Tree × ℕ)) (a b : ℕ) → Following a xs b → a ≤ b
  follow_end [] a b p = omega arith
  follow_end (x ∷ xs) a b p = omega (arith, follow_end xs (a + cells (spans_at routes windows x.0)) b p.1)

  follow_room : (xs : List (Tree × ℕ)) (a b i : ℕ) → Following a xs b → i < length xs
      → base routes windows (get_or xs i (none routes windows)).0 (get_or xs i (none routes windows)).1 + cells (spans_at routes windows (get_or xs i (none routes windows)).0) ≤ b
  follow_room [] a b i p h = absurd (omega arith)
  follow_room (x ∷ xs) a b zero p h = omega (arith, p.0, follow_end xs (a + cells (spans_at routes windows x.0)) b p.1)
  follow_room (x ∷ xs) a b (suc i) p h = follow_room xs (a + cells (spans_at routes windows x.0)) b i p.1 (omega arith)

  pub room_at : (t : Tree) (start i : ℕ) → i < length (postorder routes windows t start)
      → base routes windows (get_or (postorder routes windows t start) i (none routes windows)).0 (get_or (postorder routes windows t start) i (none routes windows)).1 + cells (spans_at routes windows (get_or (postorder routes windows t start) i (none routes windows)).0) ≤ start + all_cells routes windows t
  room_at t start i h = follow_room (postorder routes windows t start) start (start + all_cells routes windows t) i (follows t start) h
