-- `reader::read_file`. The loop's invariant: from the place reached, with the model so far, the definition reads what it reads from
-- the start. What a record says is noted in the model's own fields, which makes it the definition's next model.
use Prim.Native.Nat.{◌-◌}
use lib.ListN.{length}
use Rattle.reader.proofs.FileLaws.{Reached}
use Rattle.reader.proofs.read_file.Given as goal

abbrev pub invariant-loop-at : goal.invariant-loop-at
invariant-loop-at l = Reached l.file l.at l.m

abbrev pub decreases-loop-at : goal.decreases-loop-at
decreases-loop-at l = length l.file - l.at
