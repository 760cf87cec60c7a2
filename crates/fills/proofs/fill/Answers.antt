-- `fill` meets its contract: the cells of the nodes passed are written, and the rest is as it was.
use native.Mathlib.Omega.{arith}
use borrow.Author.Rules.{rules}
use Rattle.fills.proofs.TurnLaws.{ready_here, written_first, written_last, written_turn, next_low, next_room, among_first, past_first, first_at}
use Rattle.fills.proofs.fill.Goals as goal

pub loop-n-init : goal.loop-n-init
loop-n-init c = written_first _ _ _ _

pub write_node-requires : goal.write_node-requires
write_node-requires c =
    let p = c.requires.ready in
    let h = among_first _ c.args.run.now.windows _ p (c.chains-ch.ensures p) c.loop-n-test.true (omega arith) in
    let e = first_at _ c.args.run.now.windows _ p (c.chains-ch.ensures p) c.loop-n-test.true (omega arith) in
    record {
      node = rw e (ready_here _ c.args.run.now.windows _ p (c.chains-ch.ensures p) _ h);
      room = rw e (next_room _ c.args.run.now.windows _ p (c.chains-ch.ensures p) h c.loop-n.invariant c.requires.room);
      none_large = rw e (next_low _ c.args.run.now.windows _ p (c.chains-ch.ensures p) h c.requires.none_large);
    }

pub loop-n-preserved : goal.loop-n-preserved
loop-n-preserved c =
    let p = c.requires.ready in
    let h = among_first _ c.args.run.now.windows _ p (c.chains-ch.ensures p) c.loop-n-test.true (omega arith) in
    written_turn _ c.args.run.now.windows _ p (c.chains-ch.ensures p) h c.loop-n.invariant c.requires.room
    (rw (first_at _ c.args.run.now.windows _ p (c.chains-ch.ensures p) c.loop-n-test.true (omega arith)) at c.write_node.ensures) (search rules)

pub returns : goal.returns
returns c =
    let p = c.requires.ready in
    let made = c.chains-ch.ensures p in
    written_last _ c.args.run.now.windows _ p made c.loop-n.invariant (past_first _ c.args.run.now.windows _ p made c.loop-n-test.false (omega arith))
