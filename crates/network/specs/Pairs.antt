-- Document 01, "Coverage, cells and pairs": the index pairs in the listed order, and how many there are.
use Rattle.std.specs.Prelude.{ℕ, ◌+◌, ◌*◌, ◌-◌, ◌/◌, length}
use mathlib.Core.List.{List, [], ◌∷◌, ◌++◌, map, flat_map}
use Rattle.sums.specs.Sums.{splits, before}
use Rattle.network.specs.Centre.{Route}
use Rattle.network.specs.Coverage.{Coverage, finished, partial, absent, Tree, leaf, join, coverages}
use Rattle.network.specs.Cells.{indices, spans_at, all_cells, cell_of}

-- one chain's left and right index for a result index i: "chains partial in both children are shared; for each of these j runs from
-- 0 to i .. the left index is j and the right is i - j; a chain partial in one child only keeps i there". Where a chain is absent
-- it stands at 0, and where it is finished it is absent in the other child.
unfoldable pub chain_pairs : Coverage → Coverage → ℕ → List (ℕ × ℕ)
chain_pairs partial partial i = splits i
chain_pairs partial finished i = (i, 0) ∷ []
chain_pairs partial absent i = (i, 0) ∷ []
chain_pairs finished r i = (i, 0) ∷ []
chain_pairs absent r i = (0, i) ∷ []

-- the index pairs of a result index: "The last shared chain runs fastest."
unfoldable pub index_pairs : List Coverage → List Coverage → List ℕ → List (List ℕ × List ℕ)
index_pairs ls rs [] = ([], []) ∷ []
index_pairs [] rs (i ∷ index) = ([], []) ∷ []
index_pairs (l ∷ ls) [] (i ∷ index) = ([], []) ∷ []
index_pairs (l ∷ ls) (r ∷ rs) (i ∷ index) = flat_map (λ p. map (before p) (index_pairs ls rs index)) (chain_pairs l r i)

-- "A pair adds left cell times right cell to the result cell": the three by their numbers in the area
pub record Pair : Type 0 where
  pub left : ℕ
  pub right : ℕ
  pub result : ℕ

-- "(N+1)(N+2)/2", the pairs (j, i) with j at most i and i at most N
abbrev pub triangle : ℕ → ℕ
triangle n = (n + 1) * (n + 2) / 2

-- one chain's factor of a join's number of pairs, by its coverage left, right and at the result: "(N+1)(N+2)/2 for each shared chain
-- still partial, N + 1 for each shared chain now finished, and N + 1 for each chain partial in one child"
unfoldable pub factor : Coverage → Coverage → Coverage → ℕ → ℕ
factor partial partial partial n = triangle n
factor partial partial finished n = n + 1
factor partial partial absent n = 1
factor partial finished result n = n + 1
factor partial absent result n = n + 1
factor finished partial result n = n + 1
factor finished finished result n = 1
factor finished absent result n = 1
factor absent partial result n = n + 1
factor absent finished result n = 1
factor absent absent result n = 1

unfoldable pub factors : List Coverage → List Coverage → List Coverage → List ℕ → ℕ
factors [] rs js windows = 1
factors (l ∷ ls) [] js windows = 1
factors (l ∷ ls) (r ∷ rs) [] windows = 1
factors (l ∷ ls) (r ∷ rs) (j ∷ js) [] = 1
factors (l ∷ ls) (r ∷ rs) (j ∷ js) (n ∷ windows) = factor l r j n * factors ls rs js windows

module _ (routes : List Route) (windows : List ℕ) where
  abbrev pub covered_at : Tree → List Coverage
  covered_at t = coverages routes (length windows) t

  -- the cells of a join's left subtree begin at `start`, and the right one's follow
  abbrev pub pair_at : Tree → Tree → ℕ → List ℕ → List ℕ × List ℕ → Pair
  pair_at l r start index p =
      record { left = cell_of routes windows l start p.0; right = cell_of routes windows r (start + all_cells routes windows l) p.1; result = cell_of routes windows (join l r) start index }

  -- a join's pairs, "result cell by result cell"
  unfoldable pub own_pairs : Tree → Tree → ℕ → List Pair
  own_pairs l r start = flat_map (λ index. map (pair_at l r start index) (index_pairs (covered_at l) (covered_at r) index)) (indices (spans_at routes windows (join l r)))

  -- "The pairs go join by join in postorder"
  unfoldable pub listed : Tree → ℕ → List Pair
  listed (leaf c) start = []
  listed (join l r) start = listed l start ++ (listed r (start + all_cells routes windows l) ++ own_pairs l r start)

  -- the number of pairs, from routes, windows and tree alone
  unfoldable pub all_pairs : Tree → ℕ
  all_pairs (leaf c) = 0
  all_pairs (join l r) = all_pairs l + (all_pairs r + factors (covered_at l) (covered_at r) (covered_at (join l r)) windows)

-- "(centres - 1) times the product over all chains of (N+1)(N+2)/2"
unfoldable pub triangles : List ℕ → ℕ
triangles [] = 1
triangles (n ∷ windows) = triangle n * triangles windows

unfoldable pub plain_pairs : ℕ → List ℕ → ℕ
plain_pairs centres windows = (centres - 1) * triangles windows
