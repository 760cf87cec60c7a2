-- The chains that are present at a leaf: those whose highest value is not 0. The others stand at 0.
use Rattle.std.specs.Prelude.{ℕ, ltb, ◌≤◌, ◌≡◌, List, length, take}
use Rattle.std.specs.List.{filter}
use Rattle.weights.specs.declared.Reach.{Reach}

abbrev pub present : List Reach → List Reach
present chains = filter (λ r. ltb 0 r.high) chains

-- the first `count` of `kept` are these
pub record Kept (chains : List Reach) (count : ℕ) (kept : List Reach) : Type 0 where
  pub room : length kept ≡ 8
  pub few : count ≤ 8
  pub list : take count kept ≡ present chains
