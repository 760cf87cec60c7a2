-- The node table of a tree under given routes and windows: an entry for each node in postorder, each field by the definitions of
-- document 01, "Coverage, cells and pairs".
use Rattle.std.specs.Prelude.{◌≡◌, ℕ, suc, ◌+◌, ◌-◌, List, [], ◌∷◌, ◌++◌, map, length, take, replicate}
use Rattle.sums.specs.Lists.{from, those}
use Rattle.network.specs.Centre.{Route, routes_of}
use Rattle.network.specs.Coverage.{Tree, leaf, join, under, visits, chain_centres}
use Rattle.network.specs.Cells.{cells, strides, spans_at, all_cells, base}
use Rattle.network.specs.Pairs.{factors, covered_at, all_pairs}
use Rattle.network.proofs.PostorderLaws.{nodes_in}
use Rattle.modelfile.specs.Network.{centres_of, tree_of}
use Rattle.modelfile.specs.declared.Model.{Model}
use Rattle.plan.specs.declared.Node.{Node}
use Rattle.plan.specs.declared.Table.{Table}

-- eight numbers, one a chain, chain 1 first; 0 past the chains
unfoldable pub padded : ℕ → List ℕ → List ℕ
padded chains xs = xs ++ replicate (8 - chains) 0

abbrev pub row : ℕ → (ℕ → ℕ) → List ℕ
row chains f = padded chains (map f (from 0 chains))

-- a leaf's centre; 0 for a join
unfoldable pub centre_at : Tree → ℕ
centre_at (leaf c) = c
centre_at (join l r) = 0

module _ (routes : List Route) (windows : List ℕ) where
  -- how many of each chain's centres lie under a node, and how many each chain has in all
  unfoldable pub counts_at : Tree → List ℕ
  counts_at t = row (length windows) (λ k. length (those (visits routes (suc k)) (under t)))

  unfoldable pub totals_of : List ℕ
  totals_of = row (length windows) (λ k. length (chain_centres routes (suc k)))

  -- a node's own pairs
  unfoldable pub pairs_at : Tree → ℕ
  pairs_at (leaf c) = 0
  pairs_at (join l r) = factors (covered_at routes windows l) (covered_at routes windows r) (covered_at routes windows (join l r)) windows

  -- the entry of a node, if the first cell of its subtree is at `start`
  unfoldable pub entry : Tree → ℕ → Node
  entry t start =
      record {
        centre = centre_at t;
        span = nodes_in t;
        counts = counts_at t;
        base = base routes windows t start;
        cells = cells (spans_at routes windows t);
        strides = padded (length windows) (strides (spans_at routes windows t));
        pairs = pairs_at t;
      }

  -- the entries of a node's subtree, in postorder
  unfoldable pub entries : Tree → ℕ → List Node
  entries (leaf c) start = entry (leaf c) start ∷ []
  entries (join l r) start = entries l start ++ (entries r (start + all_cells routes windows l) ++ (entry (join l r) start ∷ []))

-- ---- of a model, under the windows of a run

-- the first entries of the array of windows are the run's
abbrev pub windows_in : Model → List ℕ → List ℕ
windows_in m windows = take m.chains windows

abbrev pub routes_in : Model → List Route
routes_in m = routes_of (centres_of m)

-- t is the model's table: its first nodes are the tree's
pub record Tabled (m : Model) (windows : List ℕ) (t : Table) : Type 0 where
  pub nodes_long : length t.nodes ≡ 31
  pub nodes_are : take t.count t.nodes ≡ entries (routes_in m) (windows_in m windows) (tree_of m) 0
  pub count_is : t.count ≡ m.count
  pub totals_are : t.totals ≡ totals_of (routes_in m) (windows_in m windows)
  pub cells_are : t.cells ≡ all_cells (routes_in m) (windows_in m windows) (tree_of m)
  pub pairs_are : t.pairs ≡ all_pairs (routes_in m) (windows_in m windows) (tree_of m)
