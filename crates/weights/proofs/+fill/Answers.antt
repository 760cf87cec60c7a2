-- `fill` meets its contract, by recursion on the chains that are left. Each turn of the loop writes the cells with i messages of the
-- first of them; what it asks for and leaves is in FillLaws.
use Prim.Native.Nat.{◌+◌}
use mathlib.Core.Path.{◌≡◌, refl, sym, ap}
use native.Mathlib.Omega.{arith}
use lib.ListN.{length}
use borrow.Author.Tests.{eqb-true}
use Rattle.weights.proofs.FillLaws.{one_cell, last_filled, start_low, filling_start, filling_more, filling_stored, filling_end, product_low, deeper, cell_inside}
use Rattle.weights.proofs.+fill.Goals as goal
use Rattle.weights.proofs.+fill.Goals.{then-is_empty, else-is_empty}

pub bounds-out-at : goal.bounds-out-at
bounds-out-at t c = omega (arith, one_cell c.args.chains.now c.in-None.ensures.cases, c.requires.space)

pub returns-in-None-clause-next_place : goal.returns-in-None-clause-next_place
returns-in-None-clause-next_place t c = ap (λ n. c.args.at + n) (sym (one_cell c.args.chains.now c.in-None.ensures.cases))

pub returns-in-None-clause-written : goal.returns-in-None-clause-written
returns-in-None-clause-written t c =
    last_filled c.args.chains.now c.in-None.ensures.cases _ _ _ _ (omega (arith, one_cell c.args.chains.now c.in-None.ensures.cases, c.requires.space))

pub exact_power-power-requires : goal.exact_power-power-requires
exact_power-power-requires t c = start_low c.in-Some.ensures.cases.0 c.requires

pub loop-i-init : goal.loop-i-init
loop-i-init t c = filling_start _ _ _ _ _ _ _ c.exact_power-power.ensures

pub overflow_mul-cell : goal.overflow_mul-cell
overflow_mul-cell t c = record { fits = product_low c.in-Some.ensures.cases.0 c.requires c.loop-i.invariant c.loop-i-test.true c.binomial.ensures }

pub offset_bounds-out-next : goal.offset_bounds-out-next
offset_bounds-out-next t c =
    let none : length c.in-Some.later.now ≡ 0 = eqb-true _ _ (sym c.if-is_empty.ensures) in
    omega (arith, cell_inside c.in-Some.ensures.cases.0 c.requires c.loop-i.invariant c.loop-i-test.true c.binomial.ensures c.loop-i.auto.out none)

pub bounds-out-next : goal.bounds-out-next
bounds-out-next t c =
    let none : length c.in-Some.later.now ≡ 0 = eqb-true _ _ (sym c.if-is_empty.ensures) in
    omega (arith, cell_inside c.in-Some.ensures.cases.0 c.requires c.loop-i.invariant c.loop-i-test.true c.binomial.ensures c.loop-i.auto.out none)

pub overflow_add-next : goal.overflow_add-next
overflow_add-next t c =
    let none : length c.in-Some.later.now ≡ 0 = eqb-true _ _ (sym c.if-is_empty.ensures) in
    omega (arith, cell_inside c.in-Some.ensures.cases.0 c.requires c.loop-i.invariant c.loop-i-test.true c.binomial.ensures c.loop-i.auto.out none)

pub fill-next-requires : goal.fill-next-requires
fill-next-requires t c = (
  omega (arith, c.in-Some.ensures.cases.1),
  deeper c.in-Some.ensures.cases.0 c.requires c.loop-i.invariant c.loop-i-test.true c.binomial.ensures c.loop-i.auto.out,
)

pub loop-i-preserved : goal.loop-i-preserved
loop-i-preserved t c =
    elim c.if-is_empty.branch [
      | then-is_empty w ↦
          let none : length c.in-Some.later.now ≡ 0 = eqb-true _ _ (sym w.if-is_empty.ensures) in
          let inside = cell_inside c.in-Some.ensures.cases.0 c.requires c.loop-i.invariant c.loop-i-test.true c.binomial.ensures c.loop-i.auto.out none in
          rw (w.next-is, w.out-is)
          (filling_stored c.in-Some.ensures.cases.0 c.requires c.loop-i.invariant c.loop-i-test.true c.binomial.ensures refl none inside refl)
      | else-is_empty w ↦
          rw (w.next-is, w.out-is)
          (filling_more c.in-Some.ensures.cases.0 c.requires c.loop-i.invariant c.loop-i-test.true c.binomial.ensures
          w.fill-next.ensures.next_place w.fill-next.ensures.written refl)
    ]

pub returns-after-loop-i-clause-next_place : goal.returns-after-loop-i-clause-next_place
returns-after-loop-i-clause-next_place t c =
    (filling_end c.in-Some.ensures.cases.0 c.requires c.loop-i.invariant c.loop-i.auto.i-end c.loop-i-test.false).0

pub returns-after-loop-i-clause-written : goal.returns-after-loop-i-clause-written
returns-after-loop-i-clause-written t c =
    (filling_end c.in-Some.ensures.cases.0 c.requires c.loop-i.invariant c.loop-i.auto.i-end c.loop-i-test.false).1
