-- `nodes::pairs` meets its contract. The loop's invariant: the product of the factors from chain k + 1 on (`Product`).
use Rattle.plan.proofs.BackLaws.{Product}
use Rattle.plan.proofs.nodes.pairs.Given as goal

abbrev pub invariant-loop-k : goal.invariant-loop-k
invariant-loop-k l = Product l.ch.totals l.ch.windows l.left l.right l.joined l.initial.k l.k l.product
