-- Document 01, "Readings that look right", and what is right instead, on B: 3 centres, 2 chains, windows 1 and 1, tree 1 2 join 3 join.
-- Each line is computed, so a definition that follows the wrong reading is refused here.
use Prim.Native.Nat.{ℕ}
use mathlib.Core.Path.{◌≡◌, refl}
use mathlib.Core.List.{List, [], ◌∷◌, flat_map, zip_with}
use lib.ListN.{length}
use Rattle.sums.specs.Lists.{from, by_number, some, all, when, those, among}
use Rattle.sums.specs.Sums.{sum_over, splits, vector_splits}
use Rattle.network.specs.Weight.{binomial, multinomial, powers, weight}
use Rattle.network.specs.Centre.{Centre, routes_of, visit, queue, fits}
use Rattle.network.specs.States.{empty_states, states, state_weight, value}
use Rattle.network.specs.Coverage.{Coverage, finished, partial, absent, Tree, leaf, join, under, visits, chain_centres, coverage_by, coverage, coverages}
use Rattle.network.specs.Cells.{span, index_values, indices, size, cells, stride, strides, along, spans_at, all_cells, base, cell_of}
use Rattle.network.specs.Pairs.{chain_pairs, index_pairs, factor, factors, own_pairs, listed, all_pairs}

unfoldable pub centres_b : List Centre
centres_b = queue (1 ∷ 2 ∷ []) ∷ queue (3 ∷ 0 ∷ []) ∷ queue (0 ∷ 1 ∷ []) ∷ []

unfoldable pub tree_b : Tree
tree_b = join (join (leaf 1) (leaf 2)) (leaf 3)

unfoldable pub windows_b : List ℕ
windows_b = 1 ∷ 1 ∷ []

unfoldable pub coverage_b : Tree → List Coverage
coverage_b t = coverages (routes_of centres_b) 2 t

pub record Readings : Type 0 where
  -- "A chain is finished when the leaf with its highest centre has passed. It is finished only when all its centres are under the node."
  pub leaf_1 : coverage_b (leaf 1) ≡ partial ∷ partial ∷ []
  pub leaf_2 : coverage_b (leaf 2) ≡ partial ∷ absent ∷ []
  pub leaf_3 : coverage_b (leaf 3) ≡ absent ∷ partial ∷ []
  pub first_join : coverage_b (join (leaf 1) (leaf 2)) ≡ finished ∷ partial ∷ []
  pub top : coverage_b tree_b ≡ finished ∷ finished ∷ []
  -- "The multinomial may be left out, as with one chain. Then B gives 12."
  pub value_B : value centres_b windows_b ≡ 14
  -- "A shared chain that finishes still runs over all i. Only i = N is kept."
  pub cells_B : all_cells (routes_of centres_b) windows_b tree_b ≡ 11
  pub pairs_B : all_pairs (routes_of centres_b) windows_b tree_b ≡ 6
  pub listed_B : length (listed (routes_of centres_b) windows_b tree_b 0) ≡ 6

pub readings : Readings
unfolding flat_map zip_with from by_number some all when those among sum_over splits vector_splits
    binomial multinomial powers weight visit fits empty_states states state_weight value
    under visits chain_centres coverage_by coverage coverages span index_values indices size cells stride strides along spans_at all_cells base cell_of
    chain_pairs index_pairs factor factors own_pairs listed all_pairs centres_b tree_b windows_b coverage_b
readings = record { leaf_1 = refl; leaf_2 = refl; leaf_3 = refl; first_join = refl; top = refl; value_B = refl; cells_B = refl; pairs_B = refl; listed_B = refl }
