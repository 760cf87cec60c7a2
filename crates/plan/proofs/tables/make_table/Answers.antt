-- `tables::make_table` meets its contract. The loop's invariant: the table holds the entries of the subtrees that the nodes so far
-- leave (`Growing`).
use mathlib.Core.Path.{refl, sym, subst}
use Rattle.plan.specs.Table.{Tabled}
use Rattle.plan.specs.declared.Chains.{Chains}
use Rattle.plan.specs.Steps.{with_node}
use Rattle.plan.proofs.GrownLaws.{Growing, growing_first, growing_last, count_low, node_low, children_small, cells_fit, pairs_fit, turn_growing}
use native.Mathlib.Omega.{arith}
use Rattle.plan.proofs.tables.make_table.Goals as goal

pub loop-node-init : goal.loop-node-init
loop-node-init c =
    subst (λ ch. Growing c.args.m ch c.empty_table-t.result 0)
    (sym (c.new-ch.ensures c.requires.0.chains_range.1 c.requires.1))
    (growing_first _ c.requires.0 refl c.requires.2 c.totals_of-totals.ensures c.empty_table-t.ensures)

pub made-e-requires : goal.made-e-requires
made-e-requires c =
    let w = c.loop-node.invariant in
    let h = c.loop-node-test.true in
    (node_low w h, children_small w h c.children.ensures.left c.children.ensures.right)

pub bounds-t-n : goal.bounds-t-n
bounds-t-n c = omega (arith, count_low c.loop-node.invariant c.loop-node-test.true)

pub overflow_add-t-in-loop-node : goal.overflow_add-t-in-loop-node
overflow_add-t-in-loop-node c =
    let w = c.loop-node.invariant in
    record { fits = cells_fit w c.loop-node-test.true c.children.ensures.left c.children.ensures.right c.made-e.ensures }

pub overflow_add-t-in-loop-node-2 : goal.overflow_add-t-in-loop-node-2
overflow_add-t-in-loop-node-2 c =
    let w = c.loop-node.invariant in
    record { fits = pairs_fit w c.loop-node-test.true c.children.ensures.left c.children.ensures.right c.made-e.ensures }

pub loop-node-preserved : goal.loop-node-preserved
unfolding with_node
loop-node-preserved c = turn_growing c.loop-node.invariant c.loop-node-test.true c.children.ensures.left c.children.ensures.right c.made-e.ensures

pub returns : goal.returns
returns c =
    subst (λ (ch : Chains). Tabled c.args.m ch.windows c.loop-node.t)
    (c.new-ch.ensures c.requires.0.chains_range.1 c.requires.1)
    (growing_last c.loop-node.invariant c.loop-node-test.false)
