-- To count the values that are left comes to what is due.
use mathlib.Core.Path.{◌≡◌}
use lib.ListN.{drop}
use Rattle.judge.specs.Counts.{values_counted}
use Rattle.judge.proofs.tally.Tally.count_values.Given as goal

abbrev pub invariant-loop-value : goal.invariant-loop-value
invariant-loop-value l = values_counted l.self.0 (drop l.value-index l.due) ≡ values_counted l.fn.self.0 l.due
