-- Document 01, "Coverage, cells and pairs": "For the set of centres under a node, a chain is finished if all its centres are in
-- the set, absent if none is, and partial otherwise."
use Rattle.std.specs.Prelude.{ℕ, Bool, true, false, List, [], ◌∷◌, ◌++◌, map, length}
use Rattle.sums.specs.Lists.{from, by_number, some, all, among, those}
use Rattle.network.specs.Centre.{Route}

pub data Coverage : Type 0 where
  finished : Coverage
  partial : Coverage
  absent : Coverage

-- a node of the tree: a leaf has the number of its centre, a join its two children
pub data Tree : Type 0 where
  leaf : ℕ → Tree
  join : Tree → Tree → Tree

-- the centres under a node
unfoldable pub under : Tree → List ℕ
under (leaf c) = c ∷ []
under (join l r) = under l ++ under r

-- chain k visits centre c; both are counted from 1
unfoldable pub visits : List Route → ℕ → ℕ → Bool
visits routes k c = by_number (by_number routes c []) k false

-- a chain's centres
unfoldable pub chain_centres : List Route → ℕ → List ℕ
chain_centres routes k = those (visits routes k) (from 1 (length routes))

-- by whether some of the chain's centres are in the set, and whether all are
unfoldable pub coverage_by : Bool → Bool → Coverage
coverage_by false every = absent
coverage_by true true = finished
coverage_by true false = partial

unfoldable pub coverage : List Route → List ℕ → ℕ → Coverage
coverage routes set k = coverage_by (some (among set) (chain_centres routes k)) (all (among set) (chain_centres routes k))

-- of every chain, chain 1 first
unfoldable pub coverages : List Route → ℕ → Tree → List Coverage
coverages routes chains t = map (coverage routes (under t)) (from 1 chains)
