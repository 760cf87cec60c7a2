-- `table_pairs` meets its contract: after i nodes the walk has gone over the pairs of the first i.
use Rattle.spends.proofs.TableLaws.{Walked}
use Rattle.spends.proofs.table_pairs.Given as goal

abbrev pub invariant-loop-i : goal.invariant-loop-i
invariant-loop-i l = Walked l.run.table l.ch l.initial.e l.initial.area l.e l.area l.i
