-- `weight_of` meets its contract. The loop's invariant: `acc` is the part of the weight that the chains passed make, `before` the sum
-- of their messages.
use Prim.Native.Nat.{◌*◌, ◌^◌, ◌≤◌, ◌<◌}
use Rattle.weights.specs.Leaf.{loads_of, highs_of}
use Rattle.weights.proofs.WeightLaws.{Reached}
use Rattle.weights.proofs.weight_of.Given as goal

abbrev pub invariant-loop-chain : goal.invariant-loop-chain
invariant-loop-chain l = record {
  sum : l.before ≤ 15 * l.chain-index;
  low : l.acc < 2 ^ 64;
  reached : Reached (loads_of l.chains) (highs_of l.chains) l.acc l.before l.chain-index;
}
