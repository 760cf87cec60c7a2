-- `reader::model::first_leaf_fails`. Where no node stands yet, the chains decide.
use mathlib.Core.Path.{◌∙◌}
use borrow.Author.Tests.{eq-eqb}
use Rattle.reader.proofs.SomeLaws.{without_is}
use Rattle.reader.proofs.model.first_leaf_fails.Goals as goal

pub returns-then-m-eq0 : goal.returns-then-m-eq0
returns-then-m-eq0 c = rw (eq-eqb _ _ c.if-m-eq0.true) (c.chain_without_centre.ensures ∙ without_is _)
