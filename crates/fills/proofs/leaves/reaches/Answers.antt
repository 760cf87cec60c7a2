-- `reaches` meets its contract: the chains passed are found.
use mathlib.Core.Path.{refl}
use native.Mathlib.Omega.{arith}
use Rattle.sums.specs.Lists.{from}
use Rattle.fills.proofs.EndLaws.{found_turn, found_all}
use Rattle.fills.proofs.leaves.reaches.Goals as goal

pub loop-k-init : goal.loop-k-init
unfolding from
loop-k-init c = record { room = refl; list = refl }

pub loop-k-preserved : goal.loop-k-preserved
loop-k-preserved c = found_turn c.requires _ c.loop-k.invariant c.loop-k-test.true c.coverage-cover.ensures c.reach.ensures

pub returns : goal.returns
returns c = found_all c.requires c.loop-k.invariant (omega arith)
