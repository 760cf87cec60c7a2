-- The pairs of one result cell, as places in the left child and in the right one: a row for each shared chain, the last one fastest.
use Rattle.std.specs.Prelude.{ℕ, ◌+◌, ◌-◌, ◌*◌, ◌≤◌, ◌<◌, get_or, take, drop}
use mathlib.Core.List.{List, [], ◌∷◌, flat_map}
use Rattle.sums.specs.Lists.{from}
use Rattle.cellsums.specs.declared.Part.{Part}
use Rattle.cellsums.specs.declared.Row.{Row}

-- "the left index is j and the right is i - j": as j goes up the left place grows, and the right one falls
unfoldable pub places : List Row → ℕ → ℕ → List (ℕ × ℕ)
places [] l r = (l, r) ∷ []
places (row ∷ rows) l r = flat_map (λ j. places rows (l + j * row.left) (r + (row.count - 1 - j) * row.right)) (from 0 row.count)

-- rows written as numbers, three a row; one or two numbers left over are no row
unfoldable pub rows_in : List ℕ → List Row
rows_in [] = []
rows_in (n ∷ []) = []
rows_in (n ∷ a ∷ []) = []
rows_in (n ∷ a ∷ b ∷ rows) = record { count = n; left = a; right = b } ∷ rows_in rows

-- how far the places reach
unfoldable pub reach_left : List Row → ℕ
reach_left [] = 0
reach_left (row ∷ rows) = (row.count - 1) * row.left + reach_left rows

unfoldable pub reach_right : List Row → ℕ
reach_right [] = 0
reach_right (row ∷ rows) = (row.count - 1) * row.right + reach_right rows

-- a node's cells
abbrev pub cells_in : List ℕ → Part → List ℕ
cells_in area part = take (part.to - part.from) (drop part.from area)

-- left cell times right cell
unfoldable pub product : List ℕ → Part → Part → ℕ × ℕ → ℕ
product area left right p = get_or (cells_in area left) p.0 0 * get_or (cells_in area right) p.1 0

-- the children's cells lie in an area of n cells, and the places in the children's cells
pub record Within (n : ℕ) (left right : Part) (rows : List Row) (l r : ℕ) : Type 0 where
  pub left_from : left.from ≤ left.to
  pub left_to : left.to ≤ n
  pub left_reach : left.from + (l + reach_left rows) < left.to
  pub right_from : right.from ≤ right.to
  pub right_to : right.to ≤ n
  pub right_reach : right.from + (r + reach_right rows) < right.to
