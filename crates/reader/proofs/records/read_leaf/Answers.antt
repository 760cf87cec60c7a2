-- `reader::records::read_leaf`. At each `return` a law of NodeLaws turns the tests that led there into the definition's value. A
-- centre that is not in the tree yet leaves room for one node more.
use mathlib.Core.Path.{refl}
use Rattle.reader.specs.Said.{said, Room}
use Rattle.sums.proofs.HandedLaws.{handed_on}
use Rattle.reader.proofs.NodeLaws.{leaf_centre, leaf_first, leaf_again, leaf_fits, leaf_more}
use Rattle.reader.proofs.NumberLaws.{field_within}
use Rattle.reader.proofs.records.read_leaf.Goals as goal

pub returns-in_err-centre : goal.returns-in_err-centre
unfolding said Room
returns-in_err-centre c = rw (handed_on _ c.from_residual.ensures.1) (leaf_centre _ _ _ c.in_err-centre.ensures refl, tt)

pub is_placed-requires : goal.is_placed-requires
is_placed-requires c = field_within _ _ _ _ c.field.ensures c.in_ok-centre.was c.requires.sound.centres_few

pub returns-then-first_leaf_fails : goal.returns-then-first_leaf_fails
unfolding said Room
returns-then-first_leaf_fails c = (search (leaf_first c.args.rest.now c.args.at c.args.m c.field.ensures c.in_ok-centre.was), tt)

pub returns-then-is_placed : goal.returns-then-is_placed
unfolding said Room
returns-then-is_placed c = (search (leaf_again c.args.rest.now c.args.at c.args.m c.field.ensures c.in_ok-centre.was), tt)

pub returns : goal.returns
unfolding said Room
returns c = (
  search (leaf_more c.args.rest.now c.args.at c.args.m c.field.ensures c.in_ok-centre.was),
  (field_within _ _ _ _ c.field.ensures c.in_ok-centre.was c.requires.sound.centres_few, leaf_fits _ _ _ c.requires.sound c.field.ensures c.in_ok-centre.was c.is_placed.ensures c.if-is_placed.false),
)
