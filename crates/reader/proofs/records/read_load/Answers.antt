-- `reader::records::read_load`. At each `return` a law of FieldLaws turns the tests that led there into the definition's value.
use mathlib.Core.Path.{refl}
use Rattle.reader.specs.Said.{said, Room}
use Rattle.sums.proofs.HandedLaws.{handed_on}
use Rattle.reader.proofs.FieldLaws.{load_centre, load_chain, load_out, load_order, load_more}
use Rattle.reader.proofs.NumberLaws.{field_within}
use Rattle.reader.proofs.records.read_load.Goals as goal

pub returns-in_err-centre : goal.returns-in_err-centre
unfolding said Room
returns-in_err-centre c = rw (handed_on _ c.from_residual.ensures.1) (load_centre _ _ _ c.in_err-centre.ensures refl, tt)

pub returns-in_err-chain : goal.returns-in_err-chain
unfolding said Room
returns-in_err-chain c =
    rw (handed_on _ c.from_residual-in_err-chain.ensures.1) (load_chain _ _ _ c.field.ensures c.in_ok-centre.was c.in_err-chain.ensures refl, tt)

pub returns-then-is_outside : goal.returns-then-is_outside
unfolding said Room
returns-then-is_outside c = rw c.at.ensures (load_out _ _ _ c.field.ensures c.in_ok-centre.was c.field-2.ensures c.in_ok-chain.was c.load_in-load.ensures c.is_outside.ensures c.if-is_outside.true, tt)

pub slot_of-requires : goal.slot_of-requires
slot_of-requires c =
    (field_within _ _ _ _ c.field.ensures c.in_ok-centre.was c.requires.sound.centres_few, field_within _ _ _ _ c.field-2.ensures c.in_ok-chain.was c.requires.sound.chains_few)

pub returns-then-slot_of-m : goal.returns-then-slot_of-m
unfolding said Room
returns-then-slot_of-m c =
    rw c.at-then-slot_of-m.ensures
    (load_order _ _ _ c.field.ensures c.in_ok-centre.was c.field-2.ensures c.in_ok-chain.was c.load_in-load.ensures c.is_outside.ensures c.if-is_outside.false c.slot_of.ensures c.if-slot_of-m.true, tt)

pub returns : goal.returns
unfolding said Room
returns c = (
  load_more _ _ _ c.field.ensures c.in_ok-centre.was c.field-2.ensures c.in_ok-chain.was c.load_in-load.ensures c.is_outside.ensures c.if-is_outside.false c.slot_of.ensures c.if-slot_of-m.false,
  (field_within _ _ _ _ c.field.ensures c.in_ok-centre.was c.requires.sound.centres_few, field_within _ _ _ _ c.field-2.ensures c.in_ok-chain.was c.requires.sound.chains_few),
)
