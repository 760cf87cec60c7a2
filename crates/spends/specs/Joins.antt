-- A node as the table has it, with its children: the pairs it gives are its own, and a leaf has none.
use Rattle.std.specs.Prelude.{ℕ, ◌+◌, ◌≤◌, ◌≡◌, List, [], length, take}
use Rattle.network.specs.Centre.{Route}
use Rattle.network.specs.Coverage.{Tree, leaf, join, under}
use Rattle.network.specs.Cells.{all_cells}
use Rattle.network.specs.Pairs.{Pair, own_pairs}
use Rattle.network.proofs.CoverageLaws.{Parted}
use Rattle.plan.specs.Table.{entry}
use Rattle.plan.specs.declared.Chains.{Chains}
use Rattle.plan.specs.declared.Node.{Node}
use Rattle.cellsums.specs.declared.Part.{Part}

-- where a node's own cells lie
abbrev pub part_of : Node → Part
part_of node = record { from = node.base; to = node.base + node.cells }

-- a join: of which routes, windows and subtrees, where their cells begin, and that they lie in an area of n cells
pub record JoinIn (ch : Chains) (left right own : Node) (n : ℕ) : Type 0 where
  pub routes : List Route
  pub windows : List ℕ
  pub l : Tree
  pub r : Tree
  pub start : ℕ
  pub count_is : ch.count ≡ length windows
  pub windows_are : take ch.count ch.windows ≡ windows
  pub left_is : left ≡ entry routes windows l start
  pub right_is : right ≡ entry routes windows r (start + all_cells routes windows l)
  pub own_is : own ≡ entry routes windows (join l r) start
  pub rest : List ℕ
  pub parted : Parted routes (under (join l r)) rest
  pub room : start + all_cells routes windows (join l r) ≤ n

pub data NodeIn (ch : Chains) (left right own : Node) (n : ℕ) : Type 0 where
  alone : (routes : List Route) (windows : List ℕ) (c start : ℕ) → own ≡ entry routes windows (leaf c) start → 1 ≤ c → NodeIn ch left right own n
  joined : JoinIn ch left right own n → NodeIn ch left right own n

module _ {ch : Chains} {left right own : Node} {n : ℕ} where
  abbrev pub join_pairs : JoinIn ch left right own n → List Pair
  join_pairs j = own_pairs j.routes j.windows j.l j.r j.start

  abbrev pub node_pairs : NodeIn ch left right own n → List Pair
  node_pairs (NodeIn.alone routes windows c start e h) = []
  node_pairs (NodeIn.joined j) = join_pairs j
