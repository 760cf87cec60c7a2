-- A join's entries in the table hold what the walk over its pairs asks for: the strides, and where the cells of the children and its own lie.
use Prim.Native.Nat.{ℕ, ◌+◌, ◌-◌, ◌≤◌}
use mathlib.Core.Path.{◌≡◌, sym, ap, subst, ◌∙◌}
use mathlib.Core.List.{List, ◌++◌}
use native.Mathlib.Omega.{arith}
use lib.ListN.{length, take, replicate, length-append, length-replicate}
use lib.Seq.{take-append_seam}
use Rattle.network.specs.Centre.{Route}
use Rattle.network.specs.Coverage.{Tree, join}
use Rattle.network.specs.Cells.{strides, spans_at, all_cells, base}
use Rattle.network.specs.Pairs.{own_pairs}
use Rattle.network.proofs.NodeLaws.{spans_length}
use Rattle.network.proofs.AreaLaws.{base_is, base-join}
use Rattle.calls.proofs.FileLaws.{take_low}
use Rattle.plan.specs.Table.{padded, entry}
use Rattle.plan.specs.declared.Chains.{Chains}
use Rattle.plan.specs.declared.Node.{Node}
use Rattle.joins.specs.Join.{JoinOf}
use Rattle.joins.specs.Walk.{State, walk}
use Rattle.cellsums.specs.declared.Part.{Part}
use Rattle.joins.specs.declared.Join.{Join}
use Rattle.joins.proofs.JoinLaws.{length-strides}
use Rattle.spends.specs.Joins.{part_of, JoinIn, join_pairs}

-- an entry's strides, and its cells
module _ (routes : List Route) (windows : List ℕ) (x : Node) (t : Tree) (start : ℕ) (is : x ≡ entry routes windows t start) where
  length_own : length (strides (spans_at routes windows t)) ≡ length windows
  length_own = length-strides (spans_at routes windows t) ∙ spans_length routes windows t

  strides_are : x.strides ≡ padded (length windows) (strides (spans_at routes windows t))
  unfolding entry
  strides_are = ap (λ e. e.strides) is

  strides_taken : take (length windows) x.strides ≡ strides (spans_at routes windows t)
  unfolding padded
  strides_taken =
      ap (take (length windows)) strides_are
      ∙ ap (λ n. take n (strides (spans_at routes windows t) ++ replicate (8 - length windows) 0)) (sym length_own)
      ∙ take-append_seam (strides (spans_at routes windows t)) (replicate (8 - length windows) 0)

  strides_long : length windows ≤ 8 → length x.strides ≡ 8
  unfolding padded
  strides_long h = ap length strides_are ∙ length-append (strides (spans_at routes windows t)) (replicate (8 - length windows) 0) ∙ omega (arith, length_own, length-replicate {A = ℕ} (8 - length windows) 0)

  base_at : x.base ≡ base routes windows t start
  unfolding entry
  base_at = ap (λ e. e.base) is

  end_at : x.base + x.cells ≡ start + all_cells routes windows t
  unfolding entry
  end_at = ap (λ e. e.base + e.cells) is ∙ base_is routes windows t start

abbrev parts_by : Part → Part → Part → Join
parts_by x y z = record { left = x; right = y; own = z }

abbrev pub parts_of : Node → Node → Node → Join
parts_of left right own = parts_by (part_of left) (part_of right) (part_of own)

pub parts_are : {x y z : Part} (left right own : Node) → x ≡ part_of left → y ≡ part_of right → z ≡ part_of own → parts_by x y z ≡ parts_of left right own
parts_are {x} {y} {z} left right own a b c =
    ap (λ v. parts_by v y z) a ∙ ap (λ v. parts_by (part_of left) v z) b ∙ ap (λ v. parts_by (part_of left) (part_of right) v) c

module _ {ch : Chains} {left right own : Node} {n : ℕ} (j : JoinIn ch left right own n) where
  few_windows : length j.windows ≤ 8
  few_windows = omega (arith, j.count_is, ch.chains_few)

  -- the ends of all parts
  pub ends : (left.base + left.cells ≤ n) × (right.base + right.cells ≤ n) × (own.base + own.cells ≤ n)
  ends =
      let a = end_at j.routes j.windows left j.l j.start j.left_is in
      let b = end_at j.routes j.windows right j.r (j.start + all_cells j.routes j.windows j.l) j.right_is in
      let c = end_at j.routes j.windows own (join j.l j.r) j.start j.own_is in
      let d = base-join j.routes j.windows j.l j.r j.start in
      let e = base_is j.routes j.windows (join j.l j.r) j.start in
      (omega (arith, a, d, e, j.room), omega (arith, b, d, e, j.room), omega (arith, c, j.room))

  pub left_long : length left.strides ≡ 8
  left_long = strides_long j.routes j.windows left j.l j.start j.left_is few_windows

  pub right_long : length right.strides ≡ 8
  right_long = strides_long j.routes j.windows right j.r (j.start + all_cells j.routes j.windows j.l) j.right_is few_windows

  pub own_long : length own.strides ≡ 8
  own_long = strides_long j.routes j.windows own (join j.l j.r) j.start j.own_is few_windows

  windows_taken : take ch.count ch.windows ≡ j.windows
  windows_taken = j.windows_are

  strided : (x : Node) (t : Tree) (start : ℕ) → x ≡ entry j.routes j.windows t start → take ch.count x.strides ≡ strides (spans_at j.routes (take ch.count ch.windows) t)
  strided x t start e = ap (λ c. take c x.strides) j.count_is ∙ strides_taken j.routes j.windows x t start e ∙ ap (λ w. strides (spans_at j.routes w t)) (sym windows_taken)

  pub join_of : {parts : Join} → parts ≡ parts_of left right own
      → JoinOf (take ch.count ch.windows) (take ch.count left.strides) (take ch.count right.strides) (take ch.count own.strides) parts n
  join_of is =
      let w = sym windows_taken in
      record {
        routes = j.routes;
        left = j.l;
        right = j.r;
        start = j.start;
        others = j.rest;
        parted = j.parted;
        chains = omega (arith, ap length windows_taken, few_windows);
        messages = take_low ch.count ch.windows 15 ch.window_range;
        left_strides = strided left j.l j.start j.left_is;
        right_strides = strided right j.r (j.start + all_cells j.routes j.windows j.l) j.right_is;
        own_strides = strided own (join j.l j.r) j.start j.own_is;
        left_from = ap (λ p. p.left.from) is ∙ base_at j.routes j.windows left j.l j.start j.left_is ∙ ap (λ w. base j.routes w j.l j.start) w;
        left_to = ap (λ p. p.left.to) is ∙ end_at j.routes j.windows left j.l j.start j.left_is ∙ ap (λ w. j.start + all_cells j.routes w j.l) w;
        right_from =
            ap (λ p. p.right.from) is ∙ base_at j.routes j.windows right j.r (j.start + all_cells j.routes j.windows j.l) j.right_is
            ∙ ap (λ w. base j.routes w j.r (j.start + all_cells j.routes w j.l)) w;
        right_to =
            ap (λ p. p.right.to) is ∙ end_at j.routes j.windows right j.r (j.start + all_cells j.routes j.windows j.l) j.right_is
            ∙ ap (λ w. j.start + all_cells j.routes w j.l + all_cells j.routes w j.r) w;
        own_from =
            ap (λ p. p.own.from) is ∙ base_at j.routes j.windows own (join j.l j.r) j.start j.own_is
            ∙ ap (λ w. base j.routes w (join j.l j.r) j.start) w;
        own_to =
            ap (λ p. p.own.to) is ∙ end_at j.routes j.windows own (join j.l j.r) j.start j.own_is
            ∙ ap (λ w. j.start + all_cells j.routes w (join j.l j.r)) w;
        room = subst (λ w. j.start + all_cells j.routes w (join j.l j.r) ≤ n) w j.room;
      }

  -- and walking it is walking the join's pairs
  pub join_walked : {parts : Join} (is : parts ≡ parts_of left right own) (s : State)
      → walk (own_pairs (join_of is).routes (take ch.count ch.windows) (join_of is).left (join_of is).right (join_of is).start) s ≡ walk (join_pairs j) s
  unfolding join_of
  join_walked is s = ap (λ w. walk (own_pairs j.routes w j.l j.r j.start) s) windows_taken
