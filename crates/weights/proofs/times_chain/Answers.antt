-- `times_chain` meets its contract: the power, then the binomial, which is at least 1.
use mathlib.Core.Path.{sym, ◌∙◌}
use Rattle.weights.proofs.PowerLaws.{then_exact, then_large}
use Rattle.weights.proofs.WeightLaws.{binomial_pos}
use Rattle.weights.proofs.times_chain.Goals as goal

pub returns-in_err-power : goal.returns-in_err-power
returns-in_err-power c = c.from_residual.ensures ∙ sym (then_large _ _ (binomial_pos c.args.before c.args.n) (sym c.times_power.ensures ∙ c.in_err-power.was))

pub returns : goal.returns
returns c = c.mul.ensures ∙ then_exact _ _ (sym c.times_power.ensures ∙ c.in_ok-power.was) c.binomial.ensures
