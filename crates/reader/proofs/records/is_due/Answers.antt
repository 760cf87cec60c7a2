-- `reader::records::is_due`. The tests lead to one of four stages, at which the definition's list is known.
use mathlib.Core.Path.{refl}
use Rattle.sums.specs.Lists.{some}
use Rattle.reader.proofs.DueLaws.{at_size, at_window, at_load, at_tree, load_or_leaf, in_tree, not_size, not_window, not_load, not_tree}
use Rattle.reader.proofs.records.is_due.Goals as goal

pub returns-in-Size : goal.returns-in-Size
unfolding some
returns-in-Size c = rw (at_size c.args.m c.if-m-eq0.true, c.in-Size.is) refl

pub returns-in_default : goal.returns-in_default
returns-in_default c = rw (at_size c.args.m c.if-m-eq0.true) (not_size _ c.in_default.not-Size)

pub returns-in-Window : goal.returns-in-Window
unfolding some
returns-in-Window c = rw (at_window c.args.m c.if-m-eq0.false c.if-m.true, c.in-Window.is) refl

pub returns-in_default-matches : goal.returns-in_default-matches
returns-in_default-matches c = rw (at_window c.args.m c.if-m-eq0.false c.if-m.true) (not_window _ c.in_default-matches.not-Window)

pub returns-in-Load : goal.returns-in-Load
returns-in-Load c = rw (at_load c.args.m c.if-m-eq0.false c.if-m.false c.if-m-eq0-2.true) (load_or_leaf c.in-Load.is)

pub returns-in_default-matches-2 : goal.returns-in_default-matches-2
returns-in_default-matches-2 c =
    rw (at_load c.args.m c.if-m-eq0.false c.if-m.false c.if-m-eq0-2.true) (not_load _ c.in_default-matches-2.not-Load c.in_default-matches-2.not-Leaf)

pub returns-in-Leaf : goal.returns-in-Leaf
returns-in-Leaf c = rw (at_tree c.args.m c.if-m-eq0.false c.if-m.false c.if-m-eq0-2.false) (in_tree c.in-Leaf.is)

pub returns-in_default-matches-3 : goal.returns-in_default-matches-3
returns-in_default-matches-3 c =
    let other = c.in_default-matches-3 in
    rw (at_tree c.args.m c.if-m-eq0.false c.if-m.false c.if-m-eq0-2.false) (not_tree _ other.not-Leaf other.not-Join other.not-End)
