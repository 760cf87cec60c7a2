-- `join_pairs` meets its contract: the table's entries describe the join.
use mathlib.Core.Path.{◌∙◌}
use native.Mathlib.Omega.{arith}
use Rattle.spends.proofs.JoinLaws.{ends, parts_are, join_of, join_walked}
use Rattle.spends.proofs.join_pairs.Goals as goal

pub part_of-requires : goal.part_of-requires
part_of-requires c = omega (arith, (ends c.requires).0, c.well_formed)

pub part_of-requires-2 : goal.part_of-requires-2
part_of-requires-2 c = omega (arith, (ends c.requires).1, c.well_formed)

pub part_of-requires-3 : goal.part_of-requires-3
part_of-requires-3 c = omega (arith, (ends c.requires).2, c.well_formed)

pub walk_join-requires : goal.walk_join-requires
walk_join-requires c = join_of c.requires (parts_are c.args.left.now c.args.right.now c.args.own.now c.part_of.ensures c.part_of-2.ensures c.part_of-3.ensures)

pub returns : goal.returns
returns c j =
    let is = parts_are c.args.left.now c.args.right.now c.args.own.now c.part_of.ensures c.part_of-2.ensures c.part_of-3.ensures in
    c.walk_join.ensures (join_of j is) ∙ join_walked j is _
