-- Which join of a network a call is about.
use Rattle.std.specs.Prelude.{ℕ, ◌+◌, ◌≤◌, ◌≡◌, length, get_or}
use mathlib.Core.List.{List, ◌++◌, Permᴰ}
use Rattle.sums.specs.Lists.{from}
use Rattle.network.specs.Centre.{Route}
use Rattle.network.specs.Coverage.{Tree, join, under}
use Rattle.network.specs.Cells.{strides, spans_at, all_cells, base}
use Rattle.joins.specs.declared.Join.{Join}

-- the windows, the strides at both children and at the join, and the three parts of an area of `size` cells are those of the join of two trees
-- whose cells begin at `start`
pub record JoinOf (windows lefts rights owns : List ℕ) (parts : Join) (size : ℕ) : Type 0 where
  pub routes : List Route
  pub left : Tree
  pub right : Tree
  pub start : ℕ
  -- the centres under the join, with the others, are all centres, each once
  pub others : List ℕ
  pub parted : Permᴰ (under (join left right) ++ others) (from 1 (length routes))
  pub chains : length windows ≤ 8
  pub messages : (k : ℕ) → get_or windows k 0 ≤ 15
  pub left_strides : lefts ≡ strides (spans_at routes windows left)
  pub right_strides : rights ≡ strides (spans_at routes windows right)
  pub own_strides : owns ≡ strides (spans_at routes windows (join left right))
  pub left_from : parts.left.from ≡ base routes windows left start
  pub left_to : parts.left.to ≡ start + all_cells routes windows left
  pub right_from : parts.right.from ≡ base routes windows right (start + all_cells routes windows left)
  pub right_to : parts.right.to ≡ start + all_cells routes windows left + all_cells routes windows right
  pub own_from : parts.own.from ≡ base routes windows (join left right) start
  pub own_to : parts.own.to ≡ start + all_cells routes windows (join left right)
  pub room : start + all_cells routes windows (join left right) ≤ size
