-- `run_value` meets its contract: a leaf too large, a pair that stops, or all pairs done.
use mathlib.Core.Path.{refl, ap, ◌∙◌}
use Rattle.std.specs.Prelude.{Some}
use Rattle.runs.proofs.WholeLaws.{whole_large, whole_kept, whole_stopped, whole_exact, last_inside}
use Rattle.runs.proofs.whole.run_value.Goals as goal

pub returns-then-some_leaf_too_large : goal.returns-then-some_leaf_too_large
returns-then-some_leaf_too_large c = record { value = whole_large _ _ _ c.requires.ready c.args.area.now c.requires.room c.some_leaf_too_large.ensures c.if-some_leaf_too_large.true; long = refl; past = refl }

pub returns-then-left : goal.returns-then-left
returns-then-left c = record { value = whole_stopped _ _ _ c.requires.ready _ c.requires.room c.some_leaf_too_large.ensures c.if-some_leaf_too_large.false c.fill.ensures c.spend-left.ensures c.if-left.true; long = (whole_kept _ _ _ c.requires.ready _ c.requires.room c.some_leaf_too_large.ensures c.if-some_leaf_too_large.false c.fill.ensures c.spend-left.ensures).0; past = (whole_kept _ _ _ c.requires.ready _ c.requires.room c.some_leaf_too_large.ensures c.if-some_leaf_too_large.false c.fill.ensures c.spend-left.ensures).1 }

pub last_cell-requires : goal.last_cell-requires
last_cell-requires c = last_inside _ _ _ c.requires.ready _ c.requires.room c.some_leaf_too_large.ensures c.if-some_leaf_too_large.false c.fill.ensures c.spend-left.ensures c.if-left.false

pub returns : goal.returns
returns c = record { value = ap Some c.last_cell.ensures ∙ whole_exact _ _ _ c.requires.ready _ c.requires.room c.some_leaf_too_large.ensures c.if-some_leaf_too_large.false c.fill.ensures c.spend-left.ensures c.if-left.false; long = (whole_kept _ _ _ c.requires.ready _ c.requires.room c.some_leaf_too_large.ensures c.if-some_leaf_too_large.false c.fill.ensures c.spend-left.ensures).0; past = (whole_kept _ _ _ c.requires.ready _ c.requires.room c.some_leaf_too_large.ensures c.if-some_leaf_too_large.false c.fill.ensures c.spend-left.ensures).1 }
