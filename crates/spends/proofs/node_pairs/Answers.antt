-- `node_pairs` meets its contract, case by case of its tests.
use Rattle.spends.proofs.NodeLaws.{node_leaf, node_past, node_join, node_walked, quota_over}
use Rattle.spends.proofs.node_pairs.Goals as goal
use Rattle.spends.proofs.node_pairs.Goals.{then-own-ne0-via-then-own-ne0, then-own-ne0-via-else-own-ne0+then-q}

pub returns-then-own-ne0 : goal.returns-then-own-ne0
returns-then-own-ne0 c x =
    elim c.then-own-ne0.branch [
      | then-own-ne0-via-then-own-ne0 w ↦ node_leaf _ x w.if-own-ne0.true
      | then-own-ne0-via-else-own-ne0+then-q w ↦ quota_over _ _ _ w.if-q.true
    ]

pub returns-then-pairs-q : goal.returns-then-pairs-q
returns-then-pairs-q c x = node_past _ _ x c.if-own-ne0.false c.if-q.false c.if-pairs-q.true

pub join_pairs-requires : goal.join_pairs-requires
join_pairs-requires c = node_join c.requires c.if-own-ne0.false

pub returns : goal.returns
returns c x = node_walked _ _ x c.if-own-ne0.false c.join_pairs.ensures
