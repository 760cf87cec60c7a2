-- `write_node` meets its contract: a join's part is cleared and put back, a leaf's weights are written.
use mathlib.Core.Path.{sym, ap, ◌∙◌}
use Rattle.sums.specs.Lists.{some}
use Rattle.calls.specs.Start.{too_large}
use Rattle.fills.specs.Nodes.{put}
use Rattle.fills.proofs.LeafLaws.{part_room}
use Rattle.fills.proofs.NodeLaws.{leaf_cells_lem, join_put}
use Rattle.fills.proofs.write_node.Goals as goal

pub returns-then-n-eq0 : goal.returns-then-n-eq0
returns-then-n-eq0 c =
    join_put _ c.args.ch.now c.args.n.now c.args.area.now c.if-n-eq0.true c.clear.ensures (part_room _ _ _ c.requires.room)

pub write_leaf-requires-clause-none_large : goal.write_leaf-requires-clause-none_large
write_leaf-requires-clause-none_large c = ap (some too_large) (sym (leaf_cells_lem _ _ _ c.if-n-eq0.false)) ∙ c.requires.none_large

pub returns-else-n-eq0 : goal.returns-else-n-eq0
returns-else-n-eq0 c =
    c.write_leaf.ensures ∙ ap (λ l. put c.args.n.now.base l c.args.area.now) (sym (leaf_cells_lem _ _ _ c.if-n-eq0.false))
