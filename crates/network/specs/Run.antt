-- Pairs spent on an area, one after the other, until one would make its cell reach the limit: that one and those after it are left.
use Rattle.std.specs.Prelude.{ℕ, suc, ◌+◌, ◌*◌, Bool, true, false, List, [], ◌∷◌, ltb, get_or, set}
use Rattle.sums.specs.Choice.{choose}
use Rattle.network.specs.Pairs.{Pair}

-- what a pair makes of its result cell
unfoldable pub sum_at : List ℕ → Pair → ℕ
sum_at area p = get_or area p.result 0 + get_or area p.left 0 * get_or area p.right 0

unfoldable pub add : List ℕ → Pair → List ℕ
add area p = set area p.result (sum_at area p)

-- what pairs leave in an area, one after the other, with no limit
unfoldable pub leave : List Pair → List ℕ → List ℕ
leave [] area = area
leave (p ∷ ps) area = leave ps (add area p)

-- stands where a list of pairs has none
abbrev pub no_pair : Pair
no_pair = record { left = 0; right = 0; result = 0 }

-- the pairs done in all, what they left, and whether a pair was stopped
pub record Progress : Type 0 where
  pub done : ℕ
  pub area : List ℕ
  pub stopped : Bool

-- `limit` is 2^64 in every call
unfoldable pub spend : ℕ → List Pair → ℕ → List ℕ → Progress
spend limit [] done area = record { done = done; area = area; stopped = false }
spend limit (p ∷ ps) done area =
    choose (ltb (sum_at area p) limit) (λ u. spend limit ps (suc done) (add area p)) (λ u. record { done = done; area = area; stopped = true })
