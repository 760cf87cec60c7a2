-- `walk_rows` meets its contract, by recursion on the rows that are left: one turn of the first row is the others at other places.
use mathlib.Core.Path.{sym, ap, ◌∙◌}
use native.Mathlib.Omega.{arith}
use lib.ListN.{length}
use Rattle.cellsums.proofs.PlaceLaws.{left_low, right_low, first_rest}
use Rattle.joins.proofs.TurnLaws.{walk_begins, walk_ends, walk_left, row_again, rows_as, inside_as, inside_turn}
use Rattle.joins.proofs.walks.+walk_rows.Goals as goal

pub loop-j-init : goal.loop-j-init
loop-j-init t c = let e = first_rest c.args.rows.now _ c.in-len1-up.len_at_least in record { rows_are = e; inside = inside_as e c.requires; walked = walk_begins _ }

pub overflow_mul-j : goal.overflow_mul-j
overflow_mul-j t c = omega (arith, left_low c.loop-j.invariant.inside.reads _ c.loop-j-test.true)

pub overflow_add-l : goal.overflow_add-l
overflow_add-l t c = omega (arith, left_low c.loop-j.invariant.inside.reads _ c.loop-j-test.true)

pub overflow_mul-k : goal.overflow_mul-k
overflow_mul-k t c = omega (arith, right_low c.loop-j.invariant.inside.reads _ c.loop-j-test.true)

pub overflow_add-r : goal.overflow_add-r
overflow_add-r t c = omega (arith, right_low c.loop-j.invariant.inside.reads _ c.loop-j-test.true)

pub walk_rows-e-requires : goal.walk_rows-e-requires
walk_rows-e-requires t c = let i = c.loop-j.invariant in (omega (arith, ap length i.rows_are), inside_turn _ c.loop-j.auto.area i.inside _ c.loop-j-test.true)

pub loop-j-preserved : goal.loop-j-preserved
loop-j-preserved t c =
    let i = c.loop-j.invariant in
    record { rows_are = i.rows_are; inside = i.inside; walked = row_again _ _ _ _ _ _ i.walked c.loop-j-test.true c.walk_rows-e.ensures }

pub returns-after-loop-j : goal.returns-after-loop-j
returns-after-loop-j t c = let i = c.loop-j.invariant in rows_as _ _ _ _ _ _ _ _ _ i.rows_are (walk_ends i.walked c.loop-j-test.false)

pub returns-then-ended : goal.returns-then-ended
returns-then-ended t c =
    let i = c.loop-j.invariant in
    rows_as _ _ _ _ _ _ _ _ _ i.rows_are (walk_left (row_again _ _ _ _ _ _ i.walked c.loop-j-test.true c.walk_rows-e.ensures) (sym c.ended.ensures ∙ c.if-ended.true))
