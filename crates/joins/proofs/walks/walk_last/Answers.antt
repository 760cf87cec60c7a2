-- `walk_last` meets its contract: one turn a cell. In the first loop a turn is only passed over; in the second the rows stay as they were,
-- but for the count that the loop writes.
use mathlib.Core.Path.{refl, sym, ◌∙◌}
use native.Mathlib.Omega.{arith}
use Rattle.joins.specs.Walk.{state}
use Rattle.joins.proofs.TurnLaws.{walk_begins, walk_ends, walk_left}
use Rattle.joins.proofs.CellLaws.{cell_over, cell_past}
use Rattle.joins.proofs.CountLaws.{has_as}
use Rattle.joins.proofs.LoopLaws.{last_again, loops_as, row_in, turn_numbers, turn_sound, last_at, write_again}
use Rattle.joins.proofs.walks.walk_last.Goals as goal
use Rattle.joins.proofs.walks.walk_last.Goals.{else-loop-i-test, then-loop-i-test+then-ended}

pub returns-then-q : goal.returns-then-q
returns-then-q c = (cell_over _ _ _ c.if-q.true, refl)

pub loop-j-init : goal.loop-j-init
loop-j-init c = record { first_is = refl; walked = walk_begins _ }

pub turn-turn-requires-clause-numbers : goal.turn-turn-requires-clause-numbers
turn-turn-requires-clause-numbers c = turn_numbers _ _ _ _ _ _ _ _ _ c.requires _ c.loop-j-test.true

pub loop-j-preserved : goal.loop-j-preserved
loop-j-preserved c =
    let i = c.loop-j.invariant in
    let at = last_at _ _ _ _ _ _ _ _ (omega arith) (turn_sound _ _ _ _ _ _ _ _ _ c.requires _ c.loop-j-test.true refl refl c.turn-turn.ensures) in
    let past = cell_past _ _ _ _ _ _ _ at.inside refl _ at.counted _ c.if-q.false c.if-skip-turn.false in
    record { first_is = refl; walked = last_again _ _ _ _ _ _ i.walked c.loop-j-test.true refl _ c.turn-turn.ensures past }

pub returns-then-first-last : goal.returns-then-first-last
returns-then-first-last c =
    let i = c.loop-j.invariant in
    (loops_as _ _ _ _ _ _ _ _ _ _ refl (walk_ends i.walked (omega (arith, i.first_is, c.if-first-last.true))), refl)

pub count_in-old-requires : goal.count_in-old-requires
count_in-old-requires c = row_in _ _ _ _ _ _ _ _ _ c.requires

pub loop-i-init : goal.loop-i-init
loop-i-init c = record { old_is = c.count_in-old.ensures; rows_are = (λ x. refl); walked = rw c.loop-j.invariant.first_is c.loop-j.invariant.walked }

pub set_count-requires : goal.set_count-requires
set_count-requires c = has_as _ c.args.rows.now _ (sym c.loop-i.auto.rows) (row_in _ _ _ _ _ _ _ _ _ c.requires)

pub turn-requires-clause-numbers : goal.turn-requires-clause-numbers
turn-requires-clause-numbers c = turn_numbers _ _ _ _ _ _ _ _ _ c.requires _ c.loop-i-test.true

pub walk_cell-e-requires : goal.walk_cell-e-requires
walk_cell-e-requires c =
    let i = c.loop-i.invariant in
    let at = last_at _ _ _ _ _ _ _ _ (omega arith) (turn_sound _ _ _ _ _ _ _ _ _ c.requires _ c.loop-i-test.true c.loop-i.auto.area (c.set_count.ensures ∙ i.rows_are _) c.turn.ensures) in
    record { inside = at.inside; counted = at.counted }

pub loop-i-preserved : goal.loop-i-preserved
loop-i-preserved c =
    let i = c.loop-i.invariant in
    record {
      old_is = i.old_is;
      rows_are = write_again _ c.loop-i.rows _ _ _ i.rows_are c.set_count.ensures;
      walked = last_again _ _ _ _ _ _ i.walked c.loop-i-test.true (c.set_count.ensures ∙ i.rows_are _) _ c.turn.ensures c.walk_cell-e.ensures;
    }

pub set_count-requires-2 : goal.set_count-requires-2
set_count-requires-2 c = has_as _ c.args.rows.now _ (sym (c.loop-i-test.auto.rows ∙ c.loop-i.auto.rows)) (row_in _ _ _ _ _ _ _ _ _ c.requires)

pub returns : goal.returns
returns c =
    let i = c.loop-i.invariant in
    elim c.loop-i-test.branch [
      | else-loop-i-test w ↦ (
        (λ j. state ((c.copied.ensures ∙ w.e-is) j) (w.area-is j)) ∙ loops_as _ _ _ _ _ _ _ _ _ _ refl (walk_ends i.walked w.loop-i-test.false),
        c.set_count-2.ensures ∙ rw w.rows-is (i.rows_are _) ∙ i.old_is,
      )
      | then-loop-i-test+then-ended w ↦ (
        (λ j. state ((c.copied.ensures ∙ w.e-is) j) (w.area-is j))
            ∙ loops_as _ _ _ _ _ _ _ _ _ _ refl
            (walk_left (last_again _ _ _ _ _ _ i.walked w.loop-i-test.true (w.set_count.ensures ∙ i.rows_are _) _ w.turn.ensures w.walk_cell-e.ensures) (sym w.ended.ensures ∙ w.if-ended.true)),
        c.set_count-2.ensures ∙ rw w.rows-is (write_again _ c.loop-i.rows _ _ _ i.rows_are w.set_count.ensures _) ∙ i.old_is,
      )
    ]
