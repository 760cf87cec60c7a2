-- A sum of eight numbers of 16 bits is below 2^64.
use Rattle.std.proofs.Common.{rules}
use Rattle.std.proofs.iter.runs.Sources.{sums}
use Rattle.states.proofs.model.sum_of.Goals as goal

pub sum-requires-clause-fits : goal.sum-requires-clause-fits
sum-requires-clause-fits c = search (rules, sums)
