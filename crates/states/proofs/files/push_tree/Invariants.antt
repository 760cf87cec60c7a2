-- There are no more leaves than turns, and no more open subtrees than leaves.
use Prim.Native.Nat.{◌≤◌}
use Rattle.states.proofs.files.push_tree.Given as goal

abbrev pub invariant-loop-i : goal.invariant-loop-i
invariant-loop-i l = (l.leaves ≤ l.i) × (l.open ≤ l.leaves)
