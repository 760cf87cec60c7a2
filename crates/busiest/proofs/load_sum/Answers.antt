-- `load_sum` meets its contract: the loads are those of the centre's chains, each at most 65535.
use mathlib.Core.Path.{◌≡◌, ◌∙◌}
use Prim.Native.Nat.{◌<◌, ◌^◌}
use borrow.Author.Rules.{rules}
use Rattle.std.specs.Prelude.{sum}
use Rattle.std.proofs.iter.runs.Made.{chains}
use Rattle.busiest.proofs.BusiestLaws.{loads_at, sum_low, sum_loads}
use Rattle.busiest.proofs.load_sum.Goals as goal

pub sum-requires-clause-fits : goal.sum-requires-clause-fits
sum-requires-clause-fits c =
    let h : sum (loads_at c.args.m c.requires.0 c.args.centre) < 2 ^ 64 = sum_low c.args.m c.requires.0 c.args.centre in
    search (rules, chains)

pub returns : goal.returns
returns c =
    let e : c.sum.result ≡ sum (loads_at c.args.m c.requires.0 c.args.centre) = search (rules, chains) in
    e ∙ sum_loads c.args.m c.requires.0 c.args.centre
