-- `reader::records::read_join`. At each `return` a law of NodeLaws turns the test that led there into the definition's value.
use native.Mathlib.Omega.{arith}
use Rattle.reader.specs.Said.{said, Room}
use Rattle.modelfile.proofs.SoundLaws.{join_room}
use Rattle.reader.proofs.NodeLaws.{join_few, join_more}
use Rattle.reader.proofs.records.read_join.Goals as goal

pub returns-then-m-lt2 : goal.returns-then-m-lt2
unfolding said Room
returns-then-m-lt2 c = rw c.at.ensures (join_few _ _ _ (omega (arith, c.if-m-lt2.true)), tt)

pub returns : goal.returns
unfolding said Room
returns c = (search join_more, search join_room)
