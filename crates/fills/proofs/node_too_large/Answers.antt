-- `node_too_large` meets its contract: a join's cells are 0, and a leaf's are asked.
use mathlib.Core.Path.{sym, ap, ◌∙◌}
use mathlib.Core.Bool.{not}
use Rattle.std.specs.Prelude.{nat_eq}
use Rattle.sums.specs.Lists.{some}
use Rattle.calls.specs.Start.{too_large}
use Rattle.fills.proofs.NodeLaws.{leaf_cells_lem, join_low}
use Rattle.fills.proofs.node_too_large.Goals as goal

pub returns-then-n-ne0 : goal.returns-then-n-ne0
returns-then-n-ne0 c = c.leaf_too_large.ensures ∙ ap (some too_large) (sym (leaf_cells_lem _ _ _ c.if-n-ne0.true))

pub returns-else-n-ne0 : goal.returns-else-n-ne0
returns-else-n-ne0 c = ap (λ x. not (nat_eq x 0)) c.if-n-ne0.false ∙ join_low _ _ _ c.if-n-ne0.false
