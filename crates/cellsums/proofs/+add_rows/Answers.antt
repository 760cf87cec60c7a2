-- `add_rows` meets its contract, by recursion on the rows that are left: one turn of the first row is the others at other places.
use mathlib.Core.Path.{sym, ap, ◌∙◌}
use lib.ListN.{length}
use native.Mathlib.Omega.{arith}
use Rattle.cellsums.proofs.RowLaws.{sum_again, sum_stops, sum_ends}
use Rattle.cellsums.proofs.PlaceLaws.{within_turn, left_low, right_low, sum_as}
use Rattle.cellsums.proofs.+add_rows.Goals as goal

pub overflow_mul-j : goal.overflow_mul-j
overflow_mul-j t c = omega (arith, left_low c.loop-j.invariant.within _ c.loop-j-test.true)

pub overflow_add-l : goal.overflow_add-l
overflow_add-l t c = omega (arith, left_low c.loop-j.invariant.within _ c.loop-j-test.true)

pub overflow_mul-k : goal.overflow_mul-k
overflow_mul-k t c = omega (arith, right_low c.loop-j.invariant.within _ c.loop-j-test.true)

pub overflow_add-r : goal.overflow_add-r
overflow_add-r t c = omega (arith, right_low c.loop-j.invariant.within _ c.loop-j-test.true)

pub add_rows-requires : goal.add_rows-requires
add_rows-requires t c = (omega (arith, ap length c.loop-j.invariant.rows_are), within_turn c.loop-j.invariant.within _ c.loop-j-test.true)

pub returns-in_err-sum : goal.returns-in_err-sum
returns-in_err-sum t c =
    let i = c.loop-j.invariant in
    c.from_residual.ensures ∙ sum_stops i.summed c.loop-j-test.true (sym c.add_rows.ensures ∙ c.in_err-sum.was) ∙ sum_as i.rows_are _ _ _ _

pub loop-j-preserved : goal.loop-j-preserved
loop-j-preserved t c =
    let i = c.loop-j.invariant in
    record { rows_are = i.rows_are; within = i.within; summed = sum_again i.summed c.loop-j-test.true (sym c.add_rows.ensures ∙ c.in_ok-sum.was) }

pub returns : goal.returns
returns t c = let i = c.loop-j.invariant in sum_ends i.summed c.loop-j-test.false ∙ sum_as i.rows_are _ _ _ _
