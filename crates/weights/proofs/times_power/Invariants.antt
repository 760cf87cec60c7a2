-- `times_power` meets its contract. The loop's invariant: `product` is `acc` times as many loads as turns were made.
use Prim.Native.Nat.{◌*◌, ◌^◌, ◌<◌}
use mathlib.Core.Path.{◌≡◌}
use Rattle.weights.proofs.times_power.Given as goal

abbrev pub invariant-loop : goal.invariant-loop
invariant-loop l = (l.product ≡ l.acc * l.load ^ l.counter) × (l.product < 2 ^ 64)
