-- `times_power` meets its contract. The loop's invariant: `product` is `acc` times as many loads as turns were made.
use mathlib.Core.Path.{sym, ◌∙◌}
use native.Mathlib.Omega.{arith}
use borrow.Author.Rules.{rules}
use Rattle.weights.proofs.PowerLaws.{power_exact, power_large, power_done}
use Rattle.weights.proofs.times_power.Goals as goal

pub returns-in_err-product : goal.returns-in_err-product
returns-in_err-product c =
    c.from_residual.ensures ∙ sym (power_large _ _ c.loop.counter c.loop.product c.loop.invariant.0 _ (search rules) (sym c.mul.ensures ∙ c.in_err-product.was))

pub loop-preserved : goal.loop-preserved
loop-preserved c = power_exact _ _ c.loop.counter c.loop.product c.loop.invariant.0 (sym c.mul.ensures ∙ c.in_ok-product.was)

pub returns : goal.returns
returns c = sym (power_done _ _ c.loop.counter c.loop.product c.loop.invariant.0 _ (omega arith) (search rules))
