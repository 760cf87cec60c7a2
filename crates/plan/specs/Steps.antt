-- What each function of the code answers, by the numbers it is given; the laws in proofs/ lead from here to the table.
use Rattle.std.specs.Prelude.{ℕ, zero, suc, ◌+◌, ◌-◌, ◌*◌, ◌≤◌, ◌≡◌, Bool, List, [], ◌∷◌, map, length, get_or, set, replicate}
use Rattle.sums.specs.Lists.{from, those}
use Rattle.network.specs.Centre.{visit}
use Rattle.network.specs.Coverage.{Coverage, finished, partial, absent}
use Rattle.network.specs.Cells.{Span, span, cells, strides}
use Rattle.network.specs.Pairs.{factors}
use Rattle.network.proofs.CoverageLaws.{coverage_by_count}
use Rattle.plan.specs.Table.{padded, row}
use Rattle.plan.specs.declared.Cover.{Cover}
use Rattle.plan.specs.declared.Chains.{Chains}
use Rattle.plan.specs.declared.Shape.{Shape}
use Rattle.plan.specs.declared.Node.{Node}
use Rattle.plan.specs.declared.Table.{Table}

unfoldable pub covering : Cover → Coverage
covering Cover.Finished = finished
covering Cover.Partial = partial
covering Cover.Absent = absent

-- chain k + 1 visits centre c, by the loads
unfoldable pub loaded_by : List ℕ → ℕ → ℕ → Bool
loaded_by loads k c = visit (get_or loads ((c - 1) * 8 + k) 0)

-- how many of the centres it visits
unfoldable pub count_by : List ℕ → ℕ → List ℕ → ℕ
count_by loads k cs = length (those (loaded_by loads k) cs)

unfoldable pub added : ℕ → List ℕ → List ℕ → List ℕ
added chains xs ys = row chains (λ k. get_or xs k 0 + get_or ys k 0)

-- n chains from chain k + 1 on: their coverage by counts, and their spans
unfoldable pub covers_by : List ℕ → List ℕ → ℕ → ℕ → List Coverage
covers_by totals counts k n = map (λ i. coverage_by_count (get_or counts i 0) (get_or totals i 0)) (from k n)

unfoldable pub spans_by : List ℕ → List ℕ → List ℕ → ℕ → ℕ → List Span
spans_by totals windows counts k n = map (λ i. span (coverage_by_count (get_or counts i 0) (get_or totals i 0)) (get_or windows i 0)) (from k n)

unfoldable pub factors_by : List ℕ → List ℕ → List ℕ → List ℕ → List ℕ → ℕ → ℕ → ℕ
factors_by totals windows ls rs js k n =
    factors (covers_by totals ls k n) (covers_by totals rs k n) (covers_by totals js k n) (map (λ i. get_or windows i 0) (from k n))

unfoldable pub shape_by : Chains → List ℕ → Shape
shape_by ch counts =
    let spans = spans_by ch.totals ch.windows counts 0 ch.count in
    record { cells = cells spans; strides = padded ch.count (strides spans) }

unfoldable pub pairs_by : Chains → List ℕ → List ℕ → List ℕ → ℕ
pairs_by ch ls rs js = factors_by ch.totals ch.windows ls rs js 0 ch.count

-- ---- one node

unfoldable pub node_leaf : Chains → List ℕ → ℕ → ℕ → Node
node_leaf ch loads c b =
    let counts = row ch.count (λ k. count_by loads k (c ∷ [])) in
    record {
      centre = c;
      span = 1;
      counts = counts;
      base = b;
      cells = (shape_by ch counts).cells;
      strides = (shape_by ch counts).strides;
      pairs = 0;
    }

unfoldable pub node_joined : Chains → Node → Node → ℕ → Node
node_joined ch l r b =
    let counts = added ch.count l.counts r.counts in
    record {
      centre = 0;
      span = l.span + r.span + 1;
      counts = counts;
      base = b;
      cells = (shape_by ch counts).cells;
      strides = (shape_by ch counts).strides;
      pairs = pairs_by ch l.counts r.counts counts;
    }

-- 0 is a join, any other number a leaf's centre
unfoldable pub node_by : Chains → List ℕ → Node → Node → ℕ → ℕ → Node
node_by ch loads l r b zero = node_joined ch l r b
node_by ch loads l r b (suc c) = node_leaf ch loads (suc c) b

-- an entry whose numbers are small enough to be added
pub record Small (e : Node) : Type 0 where
  pub short : e.span ≤ 31
  pub low : (k : ℕ) → get_or e.counts k 0 ≤ 31

-- ---- the table with one node more

-- what stands past the end of a list of nodes
abbrev pub no_node : Node
no_node = record { centre = 0; span = 0; counts = []; base = 0; cells = 0; strides = []; pairs = 0 }

-- the children of a join at place i: the entry before it, and the one before that one's subtree
unfoldable pub right_of : Table → ℕ → Node
right_of t i = get_or t.nodes (i - 1) no_node

unfoldable pub left_of : Table → ℕ → Node
left_of t i = get_or t.nodes (i - 1 - (right_of t i).span) no_node

unfoldable pub node_made : Chains → List ℕ → Table → ℕ → Node
node_made ch loads t node = node_by ch loads (left_of t t.count) (right_of t t.count) t.cells node

unfoldable pub with_node : Table → Node → Table
with_node t e = record { nodes = set t.nodes t.count e; count = t.count + 1; totals = t.totals; cells = t.cells + e.cells; pairs = t.pairs + e.pairs }

unfoldable pub empty_table : List ℕ → Table
empty_table totals =
    let none : Node = record { centre = 0; span = 0; counts = replicate 8 0; base = 0; cells = 0; strides = replicate 8 0; pairs = 0 } in
    record { nodes = replicate 31 none; count = 0; totals = totals; cells = 0; pairs = 0 }

-- the next node can be made: a leaf's centre is one, a join's children are small
pub record Ready (t : Table) (node : ℕ) : Type 0 where
  pub few : t.count ≤ 31
  pub leaf_range : node ≤ 16
  pub left_small : node ≡ 0 → Small (left_of t t.count)
  pub right_small : node ≡ 0 → Small (right_of t t.count)
