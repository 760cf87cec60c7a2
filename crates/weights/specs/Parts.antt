-- A weight in parts, chain after chain: what some of the chains make of it, and a leaf's cells in the same way.
use Rattle.std.specs.Prelude.{ℕ, ◌+◌, ◌*◌, ◌^◌, ◌≤◌, ◌<◌, List, map, length}
use Rattle.std.specs.List.{All}
use Rattle.network.specs.Weight.{multinomial, powers}
use Rattle.weights.specs.declared.Reach.{Reach}
use Rattle.weights.specs.Leaf.{loads_of, highs_of, between, Sound}

-- what these chains make of a weight, where the chains before have `before` messages there
unfoldable pub weight_after : ℕ → List ℕ → List ℕ → ℕ
weight_after before loads ns = multinomial before ns * powers loads ns

-- the cells over the indices of these chains, where the chains before make `acc`
unfoldable pub cells_from : ℕ → ℕ → List Reach → List ℕ
cells_from acc before chains = map (λ ns. acc * weight_after before (loads_of chains) ns) (between chains)

-- the cells of these chains are to be written from `at` on, into `room` cells
pub record ToFill (chains : List Reach) (acc before at room : ℕ) : Type 0 where
  pub sound : All Sound chains
  pub messages : before + 15 * length chains ≤ 120
  pub largest : acc * weight_after before (loads_of chains) (highs_of chains) < 2 ^ 64
  pub space : at + length (between chains) ≤ room
