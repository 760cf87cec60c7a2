-- `flatten` meets its contract: one turn a chain.
use Rattle.joins.proofs.BuildLaws.{building_room, building_more, built}
use Rattle.joins.proofs.flat.flatten.Goals as goal

pub add_chain-u-requires : goal.add_chain-u-requires
add_chain-u-requires c = building_room _ _ _ _ c.requires.2 _ _ _ _ c.loop-k.invariant c.loop-k-test.true

pub loop-k-preserved : goal.loop-k-preserved
loop-k-preserved c = building_more _ _ _ _ c.requires.2 _ _ _ _ c.loop-k.invariant c.loop-k-test.true _ _ _ c.add_chain-u.auto.loops c.add_chain-u.auto.rows c.add_chain-u.ensures

pub returns : goal.returns
returns c = built _ _ _ _ c.requires.2 _ _ _ _ c.loop-k.invariant c.loop-k-test.false
