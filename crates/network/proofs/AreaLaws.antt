-- Areas laid out over a tree: each node's cells hold a function of the node and the index (Laid). A spread area is laid out so; what is laid
-- out stays so where no cell of the subtree changes; and a cell's number lies within its subtree.
use Prim.Native.Nat.{ℕ, suc, ◌+◌, ◌≤◌, ◌<◌}
use mathlib.Core.Path.{◌≡◌, refl, sym, subst, ◌∙◌}
use mathlib.Core.List.{List, [], ◌∷◌, ◌++◌, map, zip_with, append_assoc}
use native.Mathlib.Omega.{arith}
use native.Mathlib.Nat.{le_refl, mul-le-mul}
use lib.ListN.{length, get_or, length-append, length-map, get_or-append}
use lib.Seq.{get_or-append-add}
use Rattle.network.specs.Centre.{Route}
use Rattle.network.specs.Coverage.{Coverage, finished, partial, absent, Tree, leaf, join, coverages}
use Rattle.network.specs.Cells.{span, size, indices, cells, place, spans_at, all_cells, base, cell_of, spread}
use Rattle.network.proofs.CellLaws.{Inside, place-lt, length-indices, cells_pos, array_at}

module _ (routes : List Route) (windows : List ℕ) where
  -- a node's own cells hold f
  abbrev pub Holds : (Tree → List ℕ → ℕ) → List ℕ → Tree → ℕ → Type 0
  Holds f A t start = (v : List ℕ) → Inside (spans_at routes windows t) v → get_or A (cell_of routes windows t start v) 0 ≡ f t v

  -- and so do those of every node below it
  abbrev pub Laid : (Tree → List ℕ → ℕ) → List ℕ → Tree → ℕ → Type 0
  Laid f A (leaf c) start = Holds f A (leaf c) start
  Laid f A (join l r) start = Laid f A l start × Laid f A r (start + all_cells routes windows l) × Holds f A (join l r) start

  pub laid_own : (f : Tree → List ℕ → ℕ) (A : List ℕ) (t : Tree) (start : ℕ) → Laid f A t start → Holds f A t start
  laid_own f A (leaf c) start h = h
  laid_own f A (join l r) start h = h.2

  -- a node's own cells are the last of its subtree's
  pub base_is : (t : Tree) (start : ℕ) → base routes windows t start + cells (spans_at routes windows t) ≡ start + all_cells routes windows t
  unfolding base all_cells
  base_is (leaf c) start = refl
  base_is (join l r) start = omega arith

  pub base_from : (t : Tree) (start : ℕ) → start ≤ base routes windows t start
  unfolding base
  base_from (leaf c) start = omega arith
  base_from (join l r) start = omega arith

  pub base-join : (l r : Tree) (start : ℕ) → base routes windows (join l r) start ≡ start + (all_cells routes windows l + all_cells routes windows r)
  unfolding base
  base-join l r start = refl

  pub base_room : (t : Tree) (start : ℕ) → base routes windows t start ≤ start + all_cells routes windows t
  base_room t start = omega (arith, base_is t start)

  pub cell_in : (t : Tree) (start : ℕ) (v : List ℕ) → Inside (spans_at routes windows t) v → (base routes windows t start ≤ cell_of routes windows t start v) × (cell_of routes windows t start v < start + all_cells routes windows t)
  unfolding cell_of
  cell_in t start v i = (omega arith, omega (arith, place-lt i, base_is t start))

  pub cells_some : (t : Tree) → 1 ≤ all_cells routes windows t
  unfolding all_cells
  cells_some (leaf c) = cells_pos (spans_at routes windows (leaf c))
  cells_some (join l r) = omega (arith, cells_pos (spans_at routes windows (join l r)))

  -- A and B agree on the cells from a up to b
  abbrev pub Agree : List ℕ → List ℕ → ℕ → ℕ → Type 0
  Agree A B a b = (i : ℕ) → a ≤ i → i < b → get_or B i 0 ≡ get_or A i 0

  pub laid_agree : (f : Tree → List ℕ → ℕ) (A B : List ℕ) (t : Tree) (start : ℕ) → Agree A B start (start + all_cells routes windows t) → Laid f A t start → Laid f B t start
  unfolding all_cells
  laid_agree f A B (leaf c) start s h = λ v i. let b = cell_in (leaf c) start v i in s (cell_of routes windows (leaf c) start v) (omega (arith, base_from (leaf c) start)) b.1 ∙ h v i
  laid_agree f A B (join l r) start s h = (
    laid_agree f A B l start (λ i a b. s i a (omega arith)) h.0,
    laid_agree f A B r (start + all_cells routes windows l) (λ i a b. s i (omega arith) (omega arith)) h.1,
    λ v i. let b = cell_in (join l r) start v i in s (cell_of routes windows (join l r) start v) (omega (arith, base_from (join l r) start)) b.1 ∙ h.2 v i,
  )

  -- ---- a spread area

  pub length-spread : (f : Tree → List ℕ → ℕ) (t : Tree) → length (spread routes windows f t) ≡ all_cells routes windows t
  unfolding spread all_cells
  length-spread f (leaf c) = length-map (indices (spans_at routes windows (leaf c))) (f (leaf c)) ∙ length-indices (spans_at routes windows (leaf c))
  length-spread f (join l r) =
      let own = map (f (join l r)) (indices (spans_at routes windows (join l r))) in
      length-append (spread routes windows f l) (spread routes windows f r ++ own)
      ∙ omega (arith, length-spread f l, length-spread f r, length-append (spread routes windows f r) own, length-map (indices (spans_at routes windows (join l r))) (f (join l r)), length-indices (spans_at routes windows (join l r)))

  -- an array in the middle of an area
  array_in : (f : List ℕ → ℕ) (t : Tree) (pre post v : List ℕ) (n : ℕ) → n ≡ length pre → Inside (spans_at routes windows t) v → get_or (pre ++ (map f (indices (spans_at routes windows t)) ++ post)) (n + place (spans_at routes windows t) v) 0 ≡ f v
  array_in f t pre post v n e i =
      let own = map f (indices (spans_at routes windows t)) in
      rw e (get_or-append-add pre (own ++ post) (place (spans_at routes windows t) v) 0
      ∙ get_or-append own post 0 (place (spans_at routes windows t) v) (omega (arith, place-lt i, length-map (indices (spans_at routes windows t)) f, length-indices (spans_at routes windows t)))
      ∙ array_at f i)

  pub spread_laid : (f : Tree → List ℕ → ℕ) (t : Tree) (pre post : List ℕ) (start : ℕ) → start ≡ length pre → Laid f (pre ++ (spread routes windows f t ++ post)) t start
  unfolding spread cell_of base
  spread_laid f (leaf c) pre post start e = λ v i. array_in (f (leaf c)) (leaf c) pre post v start e i
  spread_laid f (join l r) pre post start e =
      let L = spread routes windows f l in
      let R = spread routes windows f r in
      let M = map (f (join l r)) (indices (spans_at routes windows (join l r))) in
      let x : pre ++ (L ++ (R ++ (M ++ post))) ≡ pre ++ ((L ++ (R ++ M)) ++ post) = simp append_assoc in
      let y : (pre ++ L) ++ (R ++ (M ++ post)) ≡ pre ++ ((L ++ (R ++ M)) ++ post) = simp append_assoc in
      let z : ((pre ++ L) ++ R) ++ (M ++ post) ≡ pre ++ ((L ++ (R ++ M)) ++ post) = simp append_assoc in
      let b : start + all_cells routes windows l ≡ length (pre ++ L) = omega (arith, length-append pre L, length-spread f l) in
      let d : start + (all_cells routes windows l + all_cells routes windows r) ≡ length ((pre ++ L) ++ R) = omega (arith, length-append (pre ++ L) R, length-append pre L, length-spread f l, length-spread f r) in (
        subst (λ A. Laid f A l start) x (spread_laid f l pre (R ++ (M ++ post)) start e),
        subst (λ A. Laid f A r (start + all_cells routes windows l)) y (spread_laid f r (pre ++ L) (M ++ post) (start + all_cells routes windows l) b),
        subst (λ A. (v : List ℕ) → Inside (spans_at routes windows (join l r)) v → get_or A (start + (all_cells routes windows l + all_cells routes windows r) + place (spans_at routes windows (join l r)) v) 0 ≡ f (join l r) v) z
            (λ v i. array_in (f (join l r)) (join l r) ((pre ++ L) ++ R) post v (start + (all_cells routes windows l + all_cells routes windows r)) d i),
      )

-- ---- fewer messages, no more cells

sizes_rise : (cs : List Coverage) (ns ms : List ℕ) → length ns ≡ length ms → ((k : ℕ) → get_or ns k 0 ≤ get_or ms k 0) → cells (zip_with span cs ns) ≤ cells (zip_with span cs ms)
unfolding zip_with cells span size
sizes_rise [] ns ms e f = le_refl 1
sizes_rise (c ∷ cs) [] [] e f = le_refl 1
sizes_rise (c ∷ cs) [] (m ∷ ms) e f = absurd (omega arith)
sizes_rise (c ∷ cs) (n ∷ ns) [] e f = absurd (omega arith)
sizes_rise (finished ∷ cs) (n ∷ ns) (m ∷ ms) e f = mul-le-mul (le_refl 1) (sizes_rise cs ns ms (omega arith) (λ k. f (suc k)))
sizes_rise (partial ∷ cs) (n ∷ ns) (m ∷ ms) e f = let h : suc n ≤ suc m = omega (arith, f 0) in mul-le-mul h (sizes_rise cs ns ms (omega arith) (λ k. f (suc k)))
sizes_rise (absent ∷ cs) (n ∷ ns) (m ∷ ms) e f = mul-le-mul (le_refl 1) (sizes_rise cs ns ms (omega arith) (λ k. f (suc k)))

own_rise : (routes : List Route) (ns ms : List ℕ) → length ns ≡ length ms → ((k : ℕ) → get_or ns k 0 ≤ get_or ms k 0) → (t : Tree) → cells (spans_at routes ns t) ≤ cells (spans_at routes ms t)
unfolding spans_at
own_rise routes ns ms e f t = subst (λ n. cells (zip_with span (coverages routes n t) ns) ≤ cells (zip_with span (coverages routes (length ms) t) ms)) (sym e) (sizes_rise (coverages routes (length ms) t) ns ms e f)

pub cells_rise : (routes : List Route) (ns ms : List ℕ) → length ns ≡ length ms → ((k : ℕ) → get_or ns k 0 ≤ get_or ms k 0) → (t : Tree) → all_cells routes ns t ≤ all_cells routes ms t
unfolding all_cells
cells_rise routes ns ms e f (leaf c) = own_rise routes ns ms e f (leaf c)
cells_rise routes ns ms e f (join l r) = omega (arith, cells_rise routes ns ms e f l, cells_rise routes ns ms e f r, own_rise routes ns ms e f (join l r))
