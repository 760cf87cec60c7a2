-- `reader::records::read_end`. At each `return` a law of NodeLaws turns the tests that led there into the definition's value.
use Rattle.reader.specs.Said.{said, Room}
use Rattle.reader.proofs.NodeLaws.{end_trees, end_missing, end_after, end_last}
use Rattle.reader.proofs.records.read_end.Goals as goal
use Rattle.reader.proofs.records.read_end.Goals.{then-m-ne1-via-then-m-ne1, then-m-ne1-via-else-m-ne1+then-centre_missing}

pub returns-then-m-ne1 : goal.returns-then-m-ne1
unfolding said Room
returns-then-m-ne1 c =
    rw c.at.ensures (
      elim c.then-m-ne1.branch [
        | then-m-ne1-via-then-m-ne1 w ↦ end_trees _ _ _ w.if-m-ne1.true
        | then-m-ne1-via-else-m-ne1+then-centre_missing w ↦ end_missing _ _ _ w.if-m-ne1.false w.centre_missing.ensures w.if-centre_missing.true
      ],
      tt,
    )

pub returns-then-rest-gt1 : goal.returns-then-rest-gt1
unfolding said Room
returns-then-rest-gt1 c =
    rw c.at-then-rest-gt1.ensures (end_after _ _ _ c.if-m-ne1.false c.centre_missing.ensures c.if-centre_missing.false c.if-rest-gt1.true, tt)

pub returns : goal.returns
unfolding said Room
returns c = (end_last _ _ _ c.if-m-ne1.false c.centre_missing.ensures c.if-centre_missing.false c.if-rest-gt1.false, tt)
