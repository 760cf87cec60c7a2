-- A product of positive numbers is positive.
use Prim.Native.Nat.{◌<◌}
use Rattle.states.proofs.table.Table.set_digits.Given as goal

abbrev pub invariant-loop-digit : goal.invariant-loop-digit
invariant-loop-digit l = 0 < l.step
