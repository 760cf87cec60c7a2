-- The busiest centre of those left, past those passed, is the busiest of all.
use mathlib.Core.Path.{◌≡◌}
use Rattle.std.proofs.Common.{drop}
use Rattle.states.specs.Busiest.{busiest, busiest_past}
use Rattle.states.proofs.model.Model.busiest.Given as goal

abbrev pub invariant-loop-c : goal.invariant-loop-c
invariant-loop-c l = busiest_past l.c l.best l.most (drop l.c l.self.loads) ≡ busiest l.fn.self.loads
