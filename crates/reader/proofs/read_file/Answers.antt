-- `reader::read_file`. The loop's invariant: from the place reached, with the model so far, the definition reads what it reads from
-- the start. What a record says is noted in the model's own fields, which makes it the definition's next model.
use mathlib.Core.Path.{ap, ◌∙◌}
use native.Mathlib.Omega.{arith}
use Rattle.std.specs.Prelude.{Ok}
use Rattle.modelfile.specs.Model.{with_size, with_window, with_load, with_leaf, with_join}
use Rattle.reader.specs.Said.{said}
use Rattle.reader.proofs.FileLaws.{reached_start, part_holds, window_at, load_at, slot_low, leaf_at, join_at, reached_next, reached_last, reached_refused, reached_over}
use Rattle.reader.proofs.read_file.Goals as goal

pub loop-at-init : goal.loop-at-init
loop-at-init c = search reached_start

pub overflow_add-at-in-loop-at : goal.overflow_add-at-in-loop-at
overflow_add-at-in-loop-at c = omega (arith, c.body_length.ensures.1, c.loop-at-test.true)

pub read_record-requires : goal.read_record-requires
read_record-requires c = record { holds = part_holds c.args.file.now c.loop-at.at c.loop-at-test.true (omega arith); sound = c.loop-at.invariant.sound }

pub loop-at-preserved-in-Ok-Size : goal.loop-at-preserved-in-Ok-Size
unfolding said with_size
loop-at-preserved-in-Ok-Size c = reached_next _ _ c.loop-at.invariant c.loop-at-test.true c.read_record.result c.read_record.ensures.0 (ap (said c.loop-at.m c.loop-at.at) (c.in-Ok-Size.is ∙ ap Ok c.in-Ok-Size.field-0-is)) c.wide.ensures.0 c.body_length.ensures.0

pub offset_bounds-m-i : goal.offset_bounds-m-i
offset_bounds-m-i c = omega (arith, window_at _ (c.in-Ok-Window.is ∙ ap Ok c.in-Ok-Window.field-0-is) c.read_record.ensures.1)

pub bounds-m-i : goal.bounds-m-i
bounds-m-i c = omega (arith, window_at _ (c.in-Ok-Window.is ∙ ap Ok c.in-Ok-Window.field-0-is) c.read_record.ensures.1, c.loop-at.invariant.sound.windows_long)

pub overflow_add-m : goal.overflow_add-m
overflow_add-m c = record { fits = omega (arith, window_at _ (c.in-Ok-Window.is ∙ ap Ok c.in-Ok-Window.field-0-is) c.read_record.ensures.1) }

pub loop-at-preserved-in-Ok-Window : goal.loop-at-preserved-in-Ok-Window
unfolding said with_window
loop-at-preserved-in-Ok-Window c = reached_next _ _ c.loop-at.invariant c.loop-at-test.true c.read_record.result c.read_record.ensures.0 (ap (said c.loop-at.m c.loop-at.at) (c.in-Ok-Window.is ∙ ap Ok c.in-Ok-Window.field-0-is)) c.wide.ensures.0 c.body_length.ensures.0

pub slot_of-i-requires : goal.slot_of-i-requires
slot_of-i-requires c = load_at _ (c.in-Ok-Load.is ∙ ap Ok c.in-Ok-Load.field-0-is) c.read_record.ensures.1

pub offset_bounds-m-i-in-Ok-Load : goal.offset_bounds-m-i-in-Ok-Load
offset_bounds-m-i-in-Ok-Load c = omega (arith, slot_low (load_at _ (c.in-Ok-Load.is ∙ ap Ok c.in-Ok-Load.field-0-is) c.read_record.ensures.1) c.slot_of-i.ensures)

pub bounds-m-i-in-Ok-Load : goal.bounds-m-i-in-Ok-Load
bounds-m-i-in-Ok-Load c = omega (arith, slot_low (load_at _ (c.in-Ok-Load.is ∙ ap Ok c.in-Ok-Load.field-0-is) c.read_record.ensures.1) c.slot_of-i.ensures, c.loop-at.invariant.sound.loads_long)

pub overflow_add-m-in-Ok-Load : goal.overflow_add-m-in-Ok-Load
overflow_add-m-in-Ok-Load c = record { fits = omega (arith, slot_low (load_at _ (c.in-Ok-Load.is ∙ ap Ok c.in-Ok-Load.field-0-is) c.read_record.ensures.1) c.slot_of-i.ensures) }

pub loop-at-preserved-in-Ok-Load : goal.loop-at-preserved-in-Ok-Load
unfolding said with_load
loop-at-preserved-in-Ok-Load c = rw c.slot_of-i.ensures (reached_next _ _ c.loop-at.invariant c.loop-at-test.true c.read_record.result c.read_record.ensures.0 (ap (said c.loop-at.m c.loop-at.at) (c.in-Ok-Load.is ∙ ap Ok c.in-Ok-Load.field-0-is)) c.wide.ensures.0 c.body_length.ensures.0)

pub offset_bounds-m-i-in-Ok-Leaf : goal.offset_bounds-m-i-in-Ok-Leaf
offset_bounds-m-i-in-Ok-Leaf c = omega (arith, (leaf_at _ (c.in-Ok-Leaf.is ∙ ap Ok c.in-Ok-Leaf.field-0-is) c.read_record.ensures.1).1)

pub bounds-m-i-in-Ok-Leaf : goal.bounds-m-i-in-Ok-Leaf
bounds-m-i-in-Ok-Leaf c = omega (arith, (leaf_at _ (c.in-Ok-Leaf.is ∙ ap Ok c.in-Ok-Leaf.field-0-is) c.read_record.ensures.1).1, c.loop-at.invariant.sound.nodes_long)

pub overflow_add-m-in-Ok-Leaf : goal.overflow_add-m-in-Ok-Leaf
overflow_add-m-in-Ok-Leaf c = record { fits = omega (arith, (leaf_at _ (c.in-Ok-Leaf.is ∙ ap Ok c.in-Ok-Leaf.field-0-is) c.read_record.ensures.1).1) }

pub overflow_add-m-in-Ok-Leaf-2 : goal.overflow_add-m-in-Ok-Leaf-2
overflow_add-m-in-Ok-Leaf-2 c = record { fits = omega (arith, (leaf_at _ (c.in-Ok-Leaf.is ∙ ap Ok c.in-Ok-Leaf.field-0-is) c.read_record.ensures.1).1) }

pub overflow_sub-m : goal.overflow_sub-m
overflow_sub-m c = omega (arith, (leaf_at _ (c.in-Ok-Leaf.is ∙ ap Ok c.in-Ok-Leaf.field-0-is) c.read_record.ensures.1).0.low)

pub offset_bounds-m-centre : goal.offset_bounds-m-centre
offset_bounds-m-centre c = omega (arith, (leaf_at _ (c.in-Ok-Leaf.is ∙ ap Ok c.in-Ok-Leaf.field-0-is) c.read_record.ensures.1).0.high)

pub bounds-m-centre : goal.bounds-m-centre
bounds-m-centre c = omega (arith, (leaf_at _ (c.in-Ok-Leaf.is ∙ ap Ok c.in-Ok-Leaf.field-0-is) c.read_record.ensures.1).0.low, (leaf_at _ (c.in-Ok-Leaf.is ∙ ap Ok c.in-Ok-Leaf.field-0-is) c.read_record.ensures.1).0.high, c.loop-at.invariant.sound.placed_long)

pub loop-at-preserved-in-Ok-Leaf : goal.loop-at-preserved-in-Ok-Leaf
unfolding said with_leaf
loop-at-preserved-in-Ok-Leaf c = rw c.first_place.ensures (reached_next _ _ c.loop-at.invariant c.loop-at-test.true c.read_record.result c.read_record.ensures.0 (ap (said c.loop-at.m c.loop-at.at) (c.in-Ok-Leaf.is ∙ ap Ok c.in-Ok-Leaf.field-0-is)) c.wide.ensures.0 c.body_length.ensures.0)

pub offset_bounds-m-i-in-Ok-Join : goal.offset_bounds-m-i-in-Ok-Join
offset_bounds-m-i-in-Ok-Join c = omega (arith, (join_at _ (c.in-Ok-Join.is ∙ ap Ok c.in-Ok-Join.field-0-is) c.read_record.ensures.1).0)

pub bounds-m-i-in-Ok-Join : goal.bounds-m-i-in-Ok-Join
bounds-m-i-in-Ok-Join c = omega (arith, (join_at _ (c.in-Ok-Join.is ∙ ap Ok c.in-Ok-Join.field-0-is) c.read_record.ensures.1).0, c.loop-at.invariant.sound.nodes_long)

pub overflow_add-m-in-Ok-Join : goal.overflow_add-m-in-Ok-Join
overflow_add-m-in-Ok-Join c = record { fits = omega (arith, (join_at _ (c.in-Ok-Join.is ∙ ap Ok c.in-Ok-Join.field-0-is) c.read_record.ensures.1).0) }

pub overflow_sub-m-in-Ok-Join : goal.overflow_sub-m-in-Ok-Join
overflow_sub-m-in-Ok-Join c = omega (arith, (join_at _ (c.in-Ok-Join.is ∙ ap Ok c.in-Ok-Join.field-0-is) c.read_record.ensures.1).1)

pub loop-at-preserved : goal.loop-at-preserved
unfolding said with_join
loop-at-preserved c = reached_next _ _ c.loop-at.invariant c.loop-at-test.true c.read_record.result c.read_record.ensures.0 (ap (said c.loop-at.m c.loop-at.at) (c.in-Ok-Join.is ∙ ap Ok c.in-Ok-Join.field-0-is)) c.wide.ensures.0 c.body_length.ensures.0

pub returns-in-Ok-Last : goal.returns-in-Ok-Last
returns-in-Ok-Last c = c.reading.ensures ∙ reached_last _ _ c.loop-at.invariant c.loop-at-test.true c.read_record.result c.read_record.ensures.0 (c.in-Ok-Last.is ∙ ap Ok c.in-Ok-Last.field-0-is)

pub returns-in-Err : goal.returns-in-Err
returns-in-Err c = c.reading-in-Err.ensures ∙ reached_refused _ _ c.loop-at.invariant c.loop-at-test.true c.read_record.result c.read_record.ensures.0 c.in-Err.is

pub returns : goal.returns
returns c = c.reading-2.ensures ∙ rw c.at.ensures (reached_over _ _ c.loop-at.invariant c.loop-at-test.false)
