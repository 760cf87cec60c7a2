-- `reader::records::read_window`. At each `return` a law of FieldLaws turns the tests that led there into the definition's value.
use Rattle.reader.specs.Said.{said, Room}
use Rattle.reader.proofs.FieldLaws.{window_chain, window_out, window_more}
use Rattle.reader.proofs.records.read_window.Goals as goal

pub returns-then-wide-m : goal.returns-then-wide-m
unfolding said Room
returns-then-wide-m c = rw c.at.ensures (search window_chain, tt)

pub returns-then-is_outside : goal.returns-then-is_outside
unfolding said Room
returns-then-is_outside c = rw c.at-then-is_outside.ensures (search window_out, tt)

pub returns : goal.returns
unfolding said Room
returns c = (search window_more, c.requires.window_left)
