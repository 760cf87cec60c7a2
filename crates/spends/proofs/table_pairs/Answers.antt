-- `table_pairs` meets its contract: after i nodes the walk has gone over the pairs of the first i.
use mathlib.Core.Path.{sym, ◌∙◌}
use Rattle.spends.proofs.TableLaws.{walked_first, walked_turn, walked_last, walked_left, node_ready}
use Rattle.spends.proofs.table_pairs.Goals as goal

pub loop-i-init : goal.loop-i-init
loop-i-init c = walked_first _ _ _ _

pub node_pairs-e-requires : goal.node_pairs-e-requires
node_pairs-e-requires c =
    let p = c.requires.ready in
    node_ready p _ c.loop-i-test.true (c.chains-ch.ensures p) c.children.ensures.left c.children.ensures.right _ _ c.loop-i.invariant.long c.requires.room

pub loop-i-preserved : goal.loop-i-preserved
loop-i-preserved c =
    walked_turn c.loop-i.invariant c.loop-i-test.true c.children.ensures.left c.children.ensures.right _ _ c.node_pairs-e.auto.area c.node_pairs-e.ensures

pub returns-after-loop-i : goal.returns-after-loop-i
returns-after-loop-i c =
    let p = c.requires.ready in walked_last c.loop-i.invariant _ _ p (c.chains-ch.ensures p) c.requires.room c.loop-i-test.false

pub returns-then-ended : goal.returns-then-ended
returns-then-ended c =
    let p = c.requires.ready in
    let turn = walked_turn c.loop-i.invariant c.loop-i-test.true c.children.ensures.left c.children.ensures.right _ _ c.node_pairs-e.auto.area c.node_pairs-e.ensures in
    walked_left turn _ _ p (c.chains-ch.ensures p) c.requires.room (sym c.ended.ensures ∙ c.if-ended.true)
