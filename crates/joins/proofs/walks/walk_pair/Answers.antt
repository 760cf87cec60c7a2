-- `walk_pair` meets its contract: each way out is one of the ways that a pair can go.
use mathlib.Core.Path.{sym, ◌∙◌}
use Rattle.joins.proofs.PairLaws.{pair_over, pair_skipped, pair_spent, pair_added, pair_too_large}
use Rattle.joins.proofs.walks.walk_pair.Goals as goal

pub returns-then-q : goal.returns-then-q
returns-then-q c = pair_over _ _ _ _ _ _ c.if-q.true

pub returns-then-q-gt0 : goal.returns-then-q-gt0
returns-then-q-gt0 c = pair_skipped _ _ _ _ _ _ c.if-q.false c.if-q-gt0.true

pub returns-then-q-eq0 : goal.returns-then-q-eq0
returns-then-q-eq0 c = pair_spent _ _ _ _ _ _ c.if-q.false c.if-q-gt0.false c.if-q-eq0.true

pub returns-in-Some : goal.returns-in-Some
returns-in-Some c = pair_added _ _ _ _ _ _ _ _ c.requires c.cell-x.ensures c.if-q.false c.if-q-gt0.false c.if-q-eq0.false _ _ c.put.ensures (sym c.add_pair.ensures ∙ c.in-Some.is)

pub returns-in-None : goal.returns-in-None
returns-in-None c = pair_too_large _ _ _ _ _ _ _ _ c.requires c.cell-x.ensures c.if-q.false c.if-q-gt0.false c.if-q-eq0.false (sym c.add_pair.ensures ∙ c.in-None.is)
