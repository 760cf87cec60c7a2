-- `nodes::pairs` meets its contract. The loop's invariant: the product of the factors from chain k + 1 on (`Product`).
use Rattle.plan.proofs.BackLaws.{product_first, product_few, product_turn, pairs_are}
use native.Mathlib.Omega.{arith}
use Rattle.plan.proofs.nodes.pairs.Goals as goal

pub loop-k-init : goal.loop-k-init
loop-k-init c = product_first _ _ _ _ _ _

pub overflow_mul-product : goal.overflow_mul-product
overflow_mul-product c = record {
  fits = omega (
    arith,
    product_few _ _ _ _ _ _ c.args.ch.now.chains_few c.args.ch.now.window_range
        (product_turn _ _ _ _ _ _ _ _ _ (omega arith) c.loop-k.invariant c.coverage-l.ensures c.coverage-r.ensures c.coverage-j.ensures c.factor-product.ensures),
  );
}

pub loop-k-preserved : goal.loop-k-preserved
loop-k-preserved c = product_turn _ _ _ _ _ _ _ _ _ (omega arith) c.loop-k.invariant c.coverage-l.ensures c.coverage-r.ensures c.coverage-j.ensures c.factor-product.ensures

pub returns : goal.returns
returns c = pairs_are _ _ _ _ c.loop-k.invariant c.loop-k-test.false
