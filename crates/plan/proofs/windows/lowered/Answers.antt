-- `windows::lowered` meets its contract, test by test.
use Prim.Native.Nat.{◌-◌}
use native.Mathlib.Omega.{arith}
use Rattle.plan.proofs.LowerLaws.{lower_none, lower_above, lower_empty, lower_less}
use Rattle.plan.proofs.windows.lowered.Goals as goal

pub returns-then-lower-eq0-clause-answer : goal.returns-then-lower-eq0-clause-answer
returns-then-lower-eq0-clause-answer c = lower_none _ _ c.if-lower-eq0.true

pub returns-then-m-k-clause-answer : goal.returns-then-m-k-clause-answer
returns-then-m-k-clause-answer c = lower_above _ _ (c.args.lower - 1) (omega (arith, c.if-lower-eq0.false)) c.if-m-k.true

pub returns-then-windows-k-eq0-clause-answer : goal.returns-then-windows-k-eq0-clause-answer
returns-then-windows-k-eq0-clause-answer c = lower_empty _ _ (c.args.lower - 1) (omega (arith, c.if-lower-eq0.false)) c.if-m-k.false c.if-windows-k-eq0.true

pub returns-clause-answer : goal.returns-clause-answer
returns-clause-answer c = lower_less _ _ (c.args.lower - 1) (omega (arith, c.if-lower-eq0.false)) c.if-m-k.false c.if-windows-k-eq0.false
