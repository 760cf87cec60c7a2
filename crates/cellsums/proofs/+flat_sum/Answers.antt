-- `flat_sum` meets its contract, by recursion on the numbers that are left: one turn of the first row is the others at other places.
use mathlib.Core.Path.{sym, ◌∙◌}
use native.Mathlib.Omega.{arith}
use Rattle.cellsums.proofs.RowLaws.{sum_begins, sum_again, sum_stops, sum_ends}
use Rattle.cellsums.proofs.PlaceLaws.{within_turn, within_as, left_low, right_low, sum_as}
use Rattle.cellsums.proofs.FlatLaws.{first_three, too_few}
use Rattle.cellsums.proofs.+flat_sum.Goals as goal

pub add_pair-requires : goal.add_pair-requires
add_pair-requires t c = within_as (too_few c.args.rows.now c.in_default.len_below) c.requires

pub returns-in_default : goal.returns-in_default
returns-in_default t c = c.add_pair.ensures ∙ sum_as (too_few c.args.rows.now c.in_default.len_below) _ _ _ _

pub loop-j-init : goal.loop-j-init
loop-j-init t c =
    let e = first_three c.args.rows.now _ c.in-len3-up.len_at_least in
    record { long = c.in-len3-up.len_at_least; rows_are = e; within = within_as e c.requires; summed = sum_begins (omega arith) }

pub overflow_mul-j : goal.overflow_mul-j
overflow_mul-j t c = omega (arith, left_low c.loop-j.invariant.within _ c.loop-j-test.true)

pub overflow_add-l : goal.overflow_add-l
overflow_add-l t c = omega (arith, left_low c.loop-j.invariant.within _ c.loop-j-test.true)

pub overflow_mul-k : goal.overflow_mul-k
overflow_mul-k t c = omega (arith, right_low c.loop-j.invariant.within _ c.loop-j-test.true)

pub overflow_add-r : goal.overflow_add-r
overflow_add-r t c = omega (arith, right_low c.loop-j.invariant.within _ c.loop-j-test.true)

pub flat_sum-requires : goal.flat_sum-requires
flat_sum-requires t c = (omega (arith, c.loop-j.invariant.long), within_turn c.loop-j.invariant.within _ c.loop-j-test.true)

pub returns-in_err-sum : goal.returns-in_err-sum
returns-in_err-sum t c =
    let i = c.loop-j.invariant in
    c.from_residual.ensures ∙ sum_stops i.summed c.loop-j-test.true (sym c.flat_sum.ensures ∙ c.in_err-sum.was) ∙ sum_as i.rows_are _ _ _ _

pub loop-j-preserved : goal.loop-j-preserved
loop-j-preserved t c =
    let i = c.loop-j.invariant in
    record { long = i.long; rows_are = i.rows_are; within = i.within; summed = sum_again i.summed c.loop-j-test.true (sym c.flat_sum.ensures ∙ c.in_ok-sum.was) }

pub returns : goal.returns
returns t c = let i = c.loop-j.invariant in sum_ends i.summed c.loop-j-test.false ∙ sum_as i.rows_are _ _ _ _
