-- `walk_loops` meets its contract, by recursion on the loops that are left: one turn of the first loop is the others at other places. The
-- rows stay as they were, but for the count that the loop writes.
use mathlib.Core.Path.{refl, sym, ap, ◌∙◌}
use native.Mathlib.Omega.{arith}
use lib.ListN.{length}
use Rattle.cellsums.proofs.PlaceLaws.{first_rest}
use Rattle.joins.specs.Walk.{state}
use Rattle.joins.proofs.TurnLaws.{walk_begins, walk_ends, walk_left}
use Rattle.joins.proofs.CountLaws.{has_as}
use Rattle.joins.proofs.LoopLaws.{loop_again, loops_as, row_in, turn_numbers, turn_sound, last_at, last_pairs, sound_as, write_again}
use Rattle.joins.proofs.walks.+walk_loops.Goals as goal
use Rattle.joins.proofs.walks.+walk_loops.Goals.{else-loop-i-test, then-loop-i-test+then-ended}

pub walk_alone-requires-clause-inside : goal.walk_alone-requires-clause-inside
walk_alone-requires-clause-inside t c = (last_at _ _ _ _ _ _ _ _ c.in_default.len_below c.requires).inside

pub walk_alone-requires-clause-counted : goal.walk_alone-requires-clause-counted
walk_alone-requires-clause-counted t c = (last_at _ _ _ _ _ _ _ _ c.in_default.len_below c.requires).counted

pub returns-in_default : goal.returns-in_default
returns-in_default t c = (c.walk_alone.ensures ∙ last_pairs _ _ _ _ _ _ _ c.in_default.len_below, refl)

pub count_in-old-requires : goal.count_in-old-requires
count_in-old-requires t c = row_in _ _ _ _ _ _ _ _ _ (sound_as _ _ _ _ _ _ _ (first_rest c.args.loops.now _ c.in-len1-up.len_at_least) c.requires)

pub loop-i-init : goal.loop-i-init
loop-i-init t c =
    let e = first_rest c.args.loops.now _ c.in-len1-up.len_at_least in
    record { loops_are = e; sound = sound_as _ _ _ _ _ _ _ e c.requires; old_is = c.count_in-old.ensures; rows_are = (λ x. refl); walked = walk_begins _ }

pub set_count-requires : goal.set_count-requires
set_count-requires t c = has_as _ c.args.rows.now _ (sym c.loop-i.auto.rows) (row_in _ _ _ _ _ _ _ _ _ c.loop-i.invariant.sound)

pub turn-requires-clause-numbers : goal.turn-requires-clause-numbers
turn-requires-clause-numbers t c = turn_numbers _ _ _ _ _ _ _ _ _ c.loop-i.invariant.sound _ c.loop-i-test.true

pub walk_loops-e-requires : goal.walk_loops-e-requires
walk_loops-e-requires t c =
    let i = c.loop-i.invariant in
    (omega (arith, ap length i.loops_are), turn_sound _ _ _ _ _ _ _ _ _ i.sound _ c.loop-i-test.true c.loop-i.auto.area (c.set_count.ensures ∙ i.rows_are _) c.turn.ensures)

pub loop-i-preserved : goal.loop-i-preserved
loop-i-preserved t c =
    let i = c.loop-i.invariant in
    record {
      loops_are = i.loops_are;
      sound = i.sound;
      old_is = i.old_is;
      rows_are = write_again _ c.loop-i.rows _ _ _ i.rows_are (c.walk_loops-e.ensures.1 ∙ c.set_count.ensures);
      walked = loop_again _ _ _ _ _ _ _ i.walked c.loop-i-test.true (c.set_count.ensures ∙ i.rows_are _) _ c.turn.ensures c.walk_loops-e.ensures.0;
    }

pub set_count-requires-2 : goal.set_count-requires-2
set_count-requires-2 t c = has_as _ c.args.rows.now _ (sym (c.loop-i-test.auto.rows ∙ c.loop-i.auto.rows)) (row_in _ _ _ _ _ _ _ _ _ c.loop-i.invariant.sound)

pub returns : goal.returns
returns t c =
    let i = c.loop-i.invariant in
    elim c.loop-i-test.branch [
      | else-loop-i-test w ↦ (
        (λ j. state (w.e-is j) (w.area-is j)) ∙ loops_as _ _ _ _ _ _ _ _ _ _ i.loops_are (walk_ends i.walked w.loop-i-test.false),
        c.set_count-2.ensures ∙ rw w.rows-is (i.rows_are _) ∙ i.old_is,
      )
      | then-loop-i-test+then-ended w ↦ (
        (λ j. state (w.e-is j) (w.area-is j))
            ∙ loops_as _ _ _ _ _ _ _ _ _ _ i.loops_are
            (walk_left (loop_again _ _ _ _ _ _ _ i.walked w.loop-i-test.true (w.set_count.ensures ∙ i.rows_are _) _ w.turn.ensures w.walk_loops-e.ensures.0) (sym w.ended.ensures ∙ w.if-ended.true)),
        c.set_count-2.ensures ∙ rw w.rows-is (write_again _ c.loop-i.rows _ _ _ i.rows_are (w.walk_loops-e.ensures.1 ∙ w.set_count.ensures) _) ∙ i.old_is,
      )
    ]
