-- A join's pairs as loops: one for each chain that is partial at the result, the last one fastest, and within a result cell a row for each
-- shared chain. What the code walks.
use Rattle.std.specs.Prelude.{ℕ, zero, suc, ◌+◌, ◌*◌, ◌^◌, ◌≤◌, ◌<◌, ◌≡◌, Some, None, length}
use mathlib.Core.List.{List, [], ◌∷◌, map, flat_map}
use Rattle.std.specs.declared.option.Option.{Option}
use Rattle.sums.specs.Lists.{from}
use Rattle.network.specs.Pairs.{Pair}
use Rattle.cellsums.specs.Places.{places, Within}
use Rattle.cellsums.specs.declared.Row.{Row}
use Rattle.joins.specs.declared.Join.{Join}
use Rattle.joins.specs.declared.Loop.{Loop}
use Rattle.joins.specs.declared.Turn.{Turn}

-- a pair of places in the children as cell numbers, for the result cell at a place of the join's own cells
unfoldable pub pair_at : Join → ℕ → ℕ × ℕ → Pair
pair_at join t p = record { left = join.left.from + p.0; right = join.right.from + p.1; result = join.own.from + t }

unfoldable pub cell_pairs : Join → List Row → ℕ → ℕ → ℕ → List Pair
cell_pairs join rows l r t = map (pair_at join t) (places rows l r)

-- the rows, of which the p-th has n pairs
unfoldable pub counted : List Row → ℕ → ℕ → List Row
counted [] p n = []
counted (row ∷ rows) zero n = record { count = n; left = row.left; right = row.right } ∷ rows
counted (row ∷ rows) (suc p) n = row ∷ counted rows p n

-- the rows, of which a loop's, if it has one, has n pairs
abbrev pub with_count : List Row → Option ℕ → ℕ → List Row
with_count rows None n = rows
with_count rows (Some p) n = counted rows p n

abbrev pub HasRow : Option ℕ → List Row → Type 0
HasRow None rows = Unit {0}
HasRow (Some p) rows = p < length rows

-- the chain of a loop at i: its row, if it has one, has i + 1 pairs
unfoldable pub loop_pairs : Join → List Loop → List Row → ℕ → ℕ → ℕ → List Pair
loop_pairs join [] rows l r t = cell_pairs join rows l r t
loop_pairs join (one ∷ loops) rows l r t =
    flat_map (λ i. loop_pairs join loops (with_count rows one.row (i + 1)) (l + i * one.left) (r + i * one.right) (t + i * one.own)) (from 0 one.count)

-- ---- what the code asks for

-- the children's cells and the join's own lie in an area of n cells, the join's own last, and the places lie in them
pub record Inside (n : ℕ) (join : Join) (rows : List Row) (l r t : ℕ) : Type 0 where
  pub reads : Within n join.left join.right rows l r
  pub own_from : join.own.from ≤ join.own.to
  pub own_to : join.own.to ≤ n
  pub own_at : join.own.from + t < join.own.to
  pub left_before : join.left.to ≤ join.own.from
  pub right_before : join.right.to ≤ join.own.from

-- a cell with its number of pairs
pub record At (n : ℕ) (join : Join) (rows : List Row) (l r t count : ℕ) : Type 0 where
  pub inside : Inside n join rows l r t
  pub counted : count ≡ length (places rows l r)

-- a cell's number of pairs, once a chain's i is chosen: i + 1 times as many where the chain has a row
abbrev pub times : Option ℕ → ℕ → ℕ → ℕ
times None count n = count
times (Some p) count n = count * n

-- a loop's i-th turn, from where the loop begins and the number of pairs there
abbrev pub turn_at : Loop → ℕ → ℕ → ℕ → ℕ → ℕ → Turn
turn_at one l r t count i = record { left = l + i * one.left; right = r + i * one.right; own = t + i * one.own; count = times one.row count (i + 1) }

pub record Numbers (x : Turn) : Type 0 where
  pub left_low : x.left < 2 ^ 64
  pub right_low : x.right < 2 ^ 64
  pub own_low : x.own < 2 ^ 64
  pub count_low : x.count < 2 ^ 64

-- every cell that the loops come to lies inside, and its number of pairs is right; each loop's row is one of the rows
unfoldable pub Sound : ℕ → Join → List Loop → List Row → ℕ → ℕ → ℕ → ℕ → Type 0
Sound n join [] rows l r t count = At n join rows l r t count
Sound n join (one ∷ loops) rows l r t count =
    HasRow one.row rows
    × ((i : ℕ) → i < one.count →
    Numbers (turn_at one l r t count i)
    × Sound n join loops (with_count rows one.row (i + 1)) (l + i * one.left) (r + i * one.right) (t + i * one.own) (times one.row count (i + 1)))
