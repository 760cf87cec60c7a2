-- The cells of one node as the code finds them, from the table's entry, the chains and the loads.
use Rattle.std.specs.Prelude.{ℕ, zero, suc, ◌+◌, ◌-◌, ◌*◌, ◌≤◌, ◌≡◌, List, ◌++◌, map, length, get_or, take, drop, replicate}
use Rattle.network.specs.Cells.{Span, span, cells, indices}
use Rattle.network.specs.Weight.{weight}
use Rattle.network.proofs.CoverageLaws.{coverage_by_count}
use Rattle.weights.specs.Leaf.{reaches, LeafEnds}
use Rattle.plan.specs.Steps.{spans_by}
use Rattle.plan.specs.declared.Chains.{Chains}
use Rattle.plan.specs.declared.Node.{Node}

-- a chain's span at a node, by counting; and all of them
abbrev pub span_at : Chains → List ℕ → ℕ → Span
span_at ch counts k = span (coverage_by_count (get_or counts k 0) (get_or ch.totals k 0)) (get_or ch.windows k 0)

abbrev pub spans_in : Chains → Node → List Span
spans_in ch n = spans_by ch.totals ch.windows n.counts 0 ch.count

-- the loads of a leaf's centre, one a chain
abbrev pub loads_in : List ℕ → Chains → Node → List ℕ
loads_in loads ch n = take ch.count (drop ((n.centre - 1) * 8) loads)

unfoldable pub leaf_cells : List ℕ → Chains → Node → List ℕ
leaf_cells loads ch n = map (weight (loads_in loads ch n)) (indices (spans_in ch n))

-- a join's cells are 0
unfoldable pub cells_by : ℕ → List ℕ → List ℕ → List ℕ
cells_by zero joined leaf = joined
cells_by (suc c) joined leaf = leaf

unfoldable pub node_cells : List ℕ → Chains → Node → List ℕ
node_cells loads ch n = cells_by n.centre (replicate n.cells 0) (leaf_cells loads ch n)

-- an area with other cells from a place on
unfoldable pub put : ℕ → List ℕ → List ℕ → List ℕ
put at cells area = take at area ++ (cells ++ drop (at + length cells) area)

-- a leaf whose cells can be written
pub record LeafIn (loads : List ℕ) (ch : Chains) (n : Node) : Type 0 where
  pub centre_range : (1 ≤ n.centre) × (n.centre ≤ 16)
  pub loads_long : length loads ≡ 128
  pub ends : LeafEnds (reaches (loads_in loads ch n) (spans_in ch n))
  pub cells_are : n.cells ≡ cells (spans_in ch n)

-- any node: a join needs nothing more than room
abbrev pub NodeIn : List ℕ → Chains → Node → Type 0
NodeIn loads ch n = (n.centre ≡ 0 → ⊥) → LeafIn loads ch n
