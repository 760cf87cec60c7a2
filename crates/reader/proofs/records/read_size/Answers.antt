-- `reader::records::read_size`. At each `return` a law of FieldLaws turns the tests that led there into the definition's value.
use mathlib.Core.Path.{refl}
use Rattle.reader.specs.Said.{said, Room}
use Rattle.sums.proofs.HandedLaws.{handed_on}
use Rattle.reader.proofs.FieldLaws.{size_centre, size_chain, size_more}
use Rattle.reader.proofs.records.read_size.Goals as goal

pub returns-in_err-centres : goal.returns-in_err-centres
unfolding said Room
returns-in_err-centres c = rw (handed_on _ c.from_residual.ensures.1) (size_centre _ _ _ c.in_err-centres.ensures refl, tt)

pub returns-in_err-chains : goal.returns-in_err-chains
unfolding said Room
returns-in_err-chains c =
    rw (handed_on _ c.from_residual-in_err-chains.ensures.1) (size_chain _ _ _ c.field.ensures c.in_ok-centres.was c.in_err-chains.ensures refl, tt)

pub returns : goal.returns
unfolding said Room
returns c = (size_more _ _ _ c.field.ensures c.in_ok-centres.was c.field-2.ensures c.in_ok-chains.was, tt)
