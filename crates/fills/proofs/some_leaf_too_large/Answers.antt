-- `some_leaf_too_large` meets its contract: a cell is too large where a node of the table has one.
use borrow.Author.Rules.{rules}
use borrow.Author.Tests.{tests}
use lib.ListN.{take}
use mathlib.Core.Bool.{true, false}
use mathlib.Core.Path.{◌≡◌}
use Rattle.std.proofs.lemmas.Iterator.{YieldsList-from_slice, cases_from_any}
use Rattle.std.proofs.lemmas.Iterator.Adapters.{serves_from_places}
use Rattle.sums.specs.Lists.{some}
use Rattle.calls.specs.Start.{too_large}
use Rattle.fills.specs.Nodes.{node_cells}
use Rattle.fills.proofs.TurnLaws.{item_ready, any_is}
use Rattle.fills.proofs.some_leaf_too_large.Goals as goal

pub any-requires-clause-callable : goal.any-requires-clause-callable
any-requires-clause-callable c =
    serves_from_places (YieldsList-from_slice (take c.args.run.now.table.count c.args.run.now.table.nodes) cc) (λ x q k. search rules)
    (λ x k l e _ _ _ _ _ _. item_ready _ c.args.run.now.windows _ c.requires (c.chains-ch.ensures c.requires) l e)

pub returns : goal.returns
returns c =
    let cells = node_cells c.args.run.now.model.loads c.chains-ch.result in
    any_is _ c.args.run.now.windows _ c.requires (c.chains-ch.ensures c.requires) _
    (cases_from_any _ _ _ (λ n. some too_large (cells n) ≡ true) (λ n. some too_large (cells n) ≡ false)
    c.any.ensures.ran (YieldsList-from_slice (take c.args.run.now.table.count c.args.run.now.table.nodes) cc) (λ x q k. search (rules, tests)) (λ x q k. search (rules, tests)))
