-- The cells of one leaf, from what each chain has there: its load, and the lowest and the highest value of its index.
use Rattle.std.specs.Prelude.{ℕ, suc, ◌-◌, ◌≤◌, ◌≡◌, length}
use Rattle.std.specs.List.{All}
use mathlib.Core.List.{List, [], ◌∷◌, map, flat_map, zip_with}
use Rattle.sums.specs.Lists.{from}
use Rattle.network.specs.Cells.{Span, only, upto}
use Rattle.weights.specs.declared.Reach.{Reach}

-- a span's ends: "finished chains stand at N, absent ones at 0", partial ones run from 0 to N
unfoldable pub lowest : Span → ℕ
lowest (only n) = n
lowest (upto n) = 0

unfoldable pub highest : Span → ℕ
highest (only n) = n
highest (upto n) = n

-- the chains of a leaf, by their loads at its centre and their spans
abbrev pub reach_by : ℕ → Span → Reach
reach_by load s = record { load = load; low = lowest s; high = highest s }

abbrev pub reaches : List ℕ → List Span → List Reach
reaches loads spans = zip_with reach_by loads spans

abbrev pub loads_of : List Reach → List ℕ
loads_of chains = map (λ r. r.load) chains

-- the highest index
abbrev pub highs_of : List Reach → List ℕ
highs_of chains = map (λ r. r.high) chains

-- every index from the lowest to the highest, entry by entry; the last chain runs fastest
unfoldable pub between : List Reach → List (List ℕ)
between [] = [] ∷ []
between (r ∷ chains) = flat_map (λ i. map (λ index. i ∷ index) (between chains)) (from r.low (suc r.high - r.low))

-- a window is at most 15
abbrev pub InWindow : Reach → Type 0
InWindow r = r.high ≤ 15

-- what a chain of a leaf keeps to: one that does not visit stands at 0
pub record Sound (r : Reach) : Type 0 where
  pub ordered : r.low ≤ r.high
  pub window : InWindow r
  pub absent : r.load ≡ 0 → r.high ≡ 0

pub record LeafEnds (chains : List Reach) : Type 0 where
  pub few : length chains ≤ 8
  pub sound : All Sound chains
