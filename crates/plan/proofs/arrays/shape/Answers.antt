-- `arrays::shape` meets its contract. The loop's invariant: cells and strides of the chains from k + 1 on (`Shaped`).
use Rattle.plan.proofs.BackLaws.{shaped_first, shaped_few, shaped_turn, shape_is}
use native.Mathlib.Omega.{arith}
use Rattle.plan.proofs.arrays.shape.Goals as goal

pub loop-k-init : goal.loop-k-init
loop-k-init c = shaped_first _ _ _ _ c.args.ch.now.chains_few

pub overflow_mul-cells : goal.overflow_mul-cells
overflow_mul-cells c = record {
  fits = omega (
    arith,
    shaped_few _ _ _ _ c.args.ch.now.chains_few c.args.ch.now.window_range
        (shaped_turn _ _ _ _ _ (omega arith) c.loop-k.invariant c.coverage-cover.ensures c.stride.ensures c.size-cells.ensures),
  );
}

pub loop-k-preserved : goal.loop-k-preserved
loop-k-preserved c = shaped_turn _ _ _ _ _ (omega arith) c.loop-k.invariant c.coverage-cover.ensures c.stride.ensures c.size-cells.ensures

pub returns : goal.returns
returns c = shape_is _ _ c.loop-k.invariant c.loop-k-test.false
