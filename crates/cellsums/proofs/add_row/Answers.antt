-- `add_row` meets its contract: one turn a pair.
use mathlib.Core.Path.{sym, ◌∙◌}
use native.Mathlib.Omega.{arith}
use Rattle.cellsums.proofs.RowLaws.{sum_again, sum_stops, sum_ends}
use Rattle.cellsums.proofs.PlaceLaws.{within_turn, left_low, right_low}
use Rattle.cellsums.proofs.add_row.Goals as goal

pub overflow_mul-j : goal.overflow_mul-j
overflow_mul-j c = omega (arith, left_low c.requires _ c.loop-j-test.true)

pub overflow_add-l : goal.overflow_add-l
overflow_add-l c = omega (arith, left_low c.requires _ c.loop-j-test.true)

pub overflow_mul-k : goal.overflow_mul-k
overflow_mul-k c = omega (arith, right_low c.requires _ c.loop-j-test.true)

pub overflow_add-r : goal.overflow_add-r
overflow_add-r c = omega (arith, right_low c.requires _ c.loop-j-test.true)

pub add_pair-requires : goal.add_pair-requires
add_pair-requires c = within_turn c.requires _ c.loop-j-test.true

pub returns-in_err-sum : goal.returns-in_err-sum
returns-in_err-sum c = c.from_residual.ensures ∙ sum_stops c.loop-j.invariant c.loop-j-test.true (sym c.add_pair.ensures ∙ c.in_err-sum.was)

pub loop-j-preserved : goal.loop-j-preserved
loop-j-preserved c = sum_again c.loop-j.invariant c.loop-j-test.true (sym c.add_pair.ensures ∙ c.in_ok-sum.was)

pub returns : goal.returns
returns c = sum_ends c.loop-j.invariant c.loop-j-test.false
