-- `tables::make_table` meets its contract. The loop's invariant: the table holds the entries of the subtrees that the nodes so far
-- leave (`Growing`).
use Rattle.plan.proofs.GrownLaws.{Growing}
use Rattle.plan.proofs.tables.make_table.Given as goal

abbrev pub invariant-loop-node : goal.invariant-loop-node
invariant-loop-node l = Growing l.fn.m l.ch l.t l.node-index
