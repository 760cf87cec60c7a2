-- `weight_of` meets its contract. The loop's invariant: `acc` is the part of the weight that the chains passed make, `before` the sum
-- of their messages.
use Prim.Native.Nat.{◌<◌}
use mathlib.Core.Path.{sym, ◌∙◌}
use native.Mathlib.Omega.{arith}
use lib.ListN.{length, length-map}
use Rattle.sums.proofs.ListLaws.{get_or-map_in}
use Rattle.weights.specs.declared.Reach.{Reach}
use Rattle.weights.specs.Leaf.{loads_of}
use Rattle.weights.proofs.WeightLaws.{reached_none, reached_done, part_exact, part_large}
use Rattle.weights.proofs.weight_of.Goals as goal

abbrev absent : Reach
absent = record { load = 0; low = 0; high = 0 }

pub loop-chain-init : goal.loop-chain-init
loop-chain-init c = record { sum = omega arith; low = omega arith; reached = reached_none _ _ }

pub returns-in_err-acc : goal.returns-in_err-acc
returns-in_err-acc c =
    let h : c.loop-chain.chain-index < length (loads_of c.args.chains.now) = omega (arith, length-map c.args.chains.now (λ r. r.load)) in
    let el = get_or-map_in (λ r. r.load) c.args.chains.now c.loop-chain.chain-index 0 absent c.loop-chain-test.true in
    let en = get_or-map_in (λ r. r.high) c.args.chains.now c.loop-chain.chain-index 0 absent c.loop-chain-test.true in
    c.from_residual.ensures ∙ sym (part_large _ _ c.requires.on_route _ _ _ c.loop-chain.invariant.reached h el en (sym c.times_chain.ensures
    ∙ c.in_err-acc.was))

pub loop-chain-preserved : goal.loop-chain-preserved
loop-chain-preserved c =
    let h : c.loop-chain.chain-index < length (loads_of c.args.chains.now) = omega (arith, length-map c.args.chains.now (λ r. r.load)) in
    let el = get_or-map_in (λ r. r.load) c.args.chains.now c.loop-chain.chain-index 0 absent c.loop-chain-test.true in
    let en = get_or-map_in (λ r. r.high) c.args.chains.now c.loop-chain.chain-index 0 absent c.loop-chain-test.true in
    let r = part_exact _ _ c.requires.on_route _ _ _ c.loop-chain.invariant.reached h el en (sym c.times_chain.ensures ∙ c.in_ok-acc.was) in
    record { sum = omega (arith, c.requires.few_chains.1 c.loop-chain.chain-index absent c.loop-chain-test.true); low = r.1; reached = r.0 }

pub returns : goal.returns
returns c =
    let v = c.loop-chain.invariant in
    sym (reached_done _ _ c.requires.on_route _ _ _ v.reached (omega (arith, length-map c.args.chains.now (λ r. r.load))) v.low)
