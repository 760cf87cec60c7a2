-- `numerators` meets its contract. The loop's invariant: the numerators of the first k chains stand in their places, each below 2^64
-- (`Lowerings`).
use Rattle.std.proofs.Common.{drop, replicate, ◌++◌}
use Rattle.rates.proofs.NumberedLaws.{Lowerings}
use Rattle.rates.proofs.numerators.Given as goal

abbrev pub invariant-loop-k : goal.invariant-loop-k
invariant-loop-k l = Lowerings l.m l.initial.area l.area (l.number-items ++ drop l.m.chains (replicate 8 0)) l.k
