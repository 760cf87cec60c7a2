-- `flatten` meets its contract: one turn a chain.
use Rattle.joins.proofs.BuildLaws.{Building}
use Rattle.joins.proofs.flat.flatten.Given as goal

abbrev pub invariant-loop-k : goal.invariant-loop-k
invariant-loop-k l = Building l.windows l.left l.right l.own l.loops l.rows l.u l.k
