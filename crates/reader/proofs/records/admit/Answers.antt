-- `reader::records::admit`. At each refusal a law of KindLaws turns the test that led there into the definition's value.
use Rattle.reader.specs.Said.{said}
use Rattle.reader.proofs.KindLaws.{kind_not_due, kind_short}
use Rattle.reader.proofs.records.admit.Goals as goal

pub returns-then-not-is_due-clause-refused : goal.returns-then-not-is_due-clause-refused
unfolding said
returns-then-not-is_due-clause-refused c = rw c.at.ensures (kind_not_due _ _ _ _ c.requires.kind_byte c.is_due.ensures c.if-not-is_due.true)

pub returns-then-rest-body_length-clause-refused : goal.returns-then-rest-body_length-clause-refused
unfolding said
returns-then-rest-body_length-clause-refused c =
    rw c.at-then-rest-body_length.ensures
    (kind_short _ _ _ _ c.requires.kind_byte c.is_due.ensures c.if-not-is_due.false c.body_length.ensures c.if-rest-body_length.true)
