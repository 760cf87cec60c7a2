-- `busiest` meets its contract. The loop's invariant: `busiest` is the first of the largest among the centres before this one (`Busy`).
use Prim.Native.Nat.{◌+◌, ◌<◌}
use mathlib.Core.Path.{◌∙◌}
use native.Mathlib.Omega.{arith}
use Rattle.busiest.proofs.BusiestLaws.{busy_first, busy_new, busy_kept, busy_last}
use Rattle.busiest.proofs.busiest.Goals as goal
use Rattle.busiest.proofs.busiest.Goals.{then-most-sum, else-most-sum}

pub loop-centre-init : goal.loop-centre-init
loop-centre-init c = busy_first _

pub loop-centre-preserved : goal.loop-centre-preserved
loop-centre-preserved c =
    let loop = c.loop-centre in
    elim c.if-most-sum.branch [
      | then-most-sum w ↦ rw (w.busiest-is, w.most-is) (busy_new loop.invariant c.loop-centre-test.true c.load_sum-sum.ensures w.if-most-sum.true)
      | else-most-sum w ↦ rw (w.busiest-is, w.most-is) (busy_kept loop.invariant c.loop-centre-test.true c.load_sum-sum.ensures w.if-most-sum.false)
    ]

pub returns-after-most-sum : goal.returns-after-most-sum
returns-after-most-sum c =
    let loop = c.loop-centre in
    let last : c.args.m.centres < c.loop-centre.centre + 1 = omega arith in
    elim c.if-most-sum.branch [
      | then-most-sum w ↦ w.busiest-is ∙ busy_last (busy_new loop.invariant c.loop-centre-test.true c.load_sum-sum.ensures w.if-most-sum.true) last
      | else-most-sum w ↦ w.busiest-is ∙ busy_last (busy_kept loop.invariant c.loop-centre-test.true c.load_sum-sum.ensures w.if-most-sum.false) last
    ]
