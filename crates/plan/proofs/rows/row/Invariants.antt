-- `rows::row` meets its contract. The loop's invariant: the row is filled for the first k chains (`Rowed`) by whatever function the closure computes.
use Prim.Native.Nat.{ℕ, ◌<◌}
use mathlib.Core.Path.{◌≡◌}
use Rattle.plan.proofs.RowLaws.{Rowed}
use Rattle.plan.proofs.rows.row.Given as goal

abbrev pub invariant-loop-k : goal.invariant-loop-k
invariant-loop-k g l = (f : ℕ → ℕ) → ((k n : ℕ) → k < l.chains → goal.F-post g l.number k n → n ≡ f k) → Rowed f l.chains l.all l.k
