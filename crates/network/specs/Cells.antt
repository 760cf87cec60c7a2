-- Document 01, "Coverage, cells and pairs": a node's array, where its cells lie in the work area, and what a start writes.
use Rattle.std.specs.Prelude.{ℕ, suc, ◌+◌, ◌*◌, length}
use mathlib.Core.List.{List, [], ◌∷◌, ◌++◌, map, flat_map, zip_with}
use Rattle.sums.specs.Lists.{from, by_number}
use Rattle.network.specs.Centre.{Route, Centre, routes_of}
use Rattle.network.specs.Coverage.{Coverage, finished, partial, absent, Tree, leaf, join, coverages}

-- what a chain's index at a node may be: one value, or all of 0 to n
pub data Span : Type 0 where
  only : ℕ → Span
  upto : ℕ → Span

-- "A node's array has one index for each partial chain, 0 to N; finished chains stand at N, absent ones at 0."
unfoldable pub span : Coverage → ℕ → Span
span partial n = upto n
span finished n = only n
span absent n = only 0

unfoldable pub index_values : Span → List ℕ
index_values (only n) = n ∷ []
index_values (upto n) = from 0 (suc n)

-- every index, one entry a chain; the last chain runs fastest
unfoldable pub indices : List Span → List (List ℕ)
indices [] = [] ∷ []
indices (s ∷ spans) = flat_map (λ i. map (λ index. i ∷ index) (indices spans)) (index_values s)

-- "Its cells are the product of N + 1 over partial chains (1 if there are none)."
unfoldable pub size : Span → ℕ
size (only n) = 1
size (upto n) = suc n

unfoldable pub cells : List Span → ℕ
cells [] = 1
cells (s ∷ spans) = size s * cells spans

-- "Within a node partial chains ascend and the last index runs fastest": how far apart two cells are whose index differs by one
-- in this chain, and the indices in the order in which their cells lie
unfoldable pub stride : Span → ℕ → ℕ
stride (only n) later = 0
stride (upto n) later = later

unfoldable pub strides : List Span → List ℕ
strides [] = []
strides (s ∷ spans) = stride s (cells spans) ∷ strides spans

abbrev pub lying : List Span → List (List ℕ)
lying spans = indices spans

-- a cell's place in its node: stride times index, added over the chains
unfoldable pub along : List ℕ → List ℕ → ℕ
along [] index = 0
along (s ∷ ss) [] = 0
along (s ∷ ss) (i ∷ index) = s * i + along ss index

abbrev pub place : List Span → List ℕ → ℕ
place spans index = along (strides spans) index

-- ---- the tree's nodes in the area, for given routes and windows

module _ (routes : List Route) (windows : List ℕ) where
  unfoldable pub spans_at : Tree → List Span
  spans_at t = zip_with span (coverages routes (length windows) t) windows

  -- "Nodes lie in postorder, and each node's cells follow those of the node before it. .. The model's cells are the sum over all
  -- nodes": the cells of a node and of all below it
  unfoldable pub all_cells : Tree → ℕ
  all_cells (leaf c) = cells (spans_at (leaf c))
  all_cells (join l r) = all_cells l + (all_cells r + cells (spans_at (join l r)))

  -- where a node's own cells begin, if the first of its subtree's begins at `start`
  unfoldable pub base : Tree → ℕ → ℕ
  base (leaf c) start = start
  base (join l r) start = start + (all_cells l + all_cells r)

  unfoldable pub cell_of : Tree → ℕ → List ℕ → ℕ
  cell_of t start index = base t start + place (spans_at t) index

  -- the area that has f of a node and an index in each cell
  unfoldable pub spread : (Tree → List ℕ → ℕ) → Tree → List ℕ
  spread f (leaf c) = map (f (leaf c)) (lying (spans_at (leaf c)))
  spread f (join l r) = spread f l ++ (spread f r ++ map (f (join l r)) (lying (spans_at (join l r))))

-- ---- what a start writes

-- the centre with a number, counted from 1; one that nobody visits where there is none
abbrev pub centre_by : List Centre → ℕ → Centre
centre_by centres c = by_number centres c (record { route = []; weigh = λ ns. 0 })

-- "A start writes each leaf's weights and sets every cell of a join to 0."
unfoldable pub start_cell : List Centre → Tree → List ℕ → ℕ
start_cell centres (leaf c) index = (centre_by centres c).weigh index
start_cell centres (join l r) index = 0

unfoldable pub filled : List Centre → List ℕ → Tree → List ℕ
filled centres windows t = spread (routes_of centres) windows (start_cell centres) t
