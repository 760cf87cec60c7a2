-- The counts up to the index are sums, the others as they were.
use Prim.Native.Nat.{◌≤◌, ◌<◌}
use mathlib.Core.Path.{◌≡◌}
use Rattle.std.proofs.Common.{ℕ, slice_index}
use Rattle.judge.specs.Counts.{sum_at}
use Rattle.judge.proofs.tally.Tally.add.Given as goal

abbrev pub invariant-loop-k : goal.invariant-loop-k
invariant-loop-k l =
    ((k : ℕ) → k < l.k → slice_index l.n-items k ≡ sum_at l.fn.self.0 l.other.0 k) × ((k : ℕ) → l.k ≤ k → slice_index l.n-items k ≡ slice_index l.fn.self.0 k)
