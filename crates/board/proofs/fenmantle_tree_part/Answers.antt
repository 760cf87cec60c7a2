-- `fenmantle_tree_part` meets its contract: the part is empty, or it ends just before the file's last byte.
use native.Mathlib.Omega.{arith}
use Rattle.board.proofs.NumberLaws.{part_none, part_inside, part_some}
use Rattle.board.proofs.fenmantle_tree_part.Goals as goal

pub returns-then-length-eq0 : goal.returns-then-length-eq0
returns-then-length-eq0 c = part_none _ _ c.tree_part-part.ensures.0 c.if-length-eq0.true

pub overflow_sub-from : goal.overflow_sub-from
overflow_sub-from c = omega (arith, part_inside _ _ c.tree_part-part.ensures.0 c.if-length-eq0.false)

pub overflow_sub-from-2 : goal.overflow_sub-from-2
overflow_sub-from-2 c = omega (arith, part_inside _ _ c.tree_part-part.ensures.0 c.if-length-eq0.false)

pub returns : goal.returns
returns c = part_some _ _ c.tree_part-part.ensures.0 c.if-length-eq0.false
