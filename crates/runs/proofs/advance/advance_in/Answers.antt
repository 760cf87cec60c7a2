-- `advance_in` meets its contract: no room, more done than there are pairs, or the pairs are spent.
use mathlib.Core.Path.{refl}
use native.Mathlib.Omega.{arith}
use Rattle.runs.proofs.StartLaws.{left_is}
use Rattle.runs.proofs.SpentLaws.{budget_low, done_low, value_room, advance_full, advance_high, advance_stopped, advance_advanced}
use Rattle.runs.proofs.advance.advance_in.Goals as goal

pub returns-then-no_room : goal.returns-then-no_room
returns-then-no_room c = let both = left_is (advance_full _ _ _ c.requires _ _ _ c.no_room.ensures c.if-no_room.true) (refl, refl) in record { answer = both.0; left = both.1 }

pub returns-then-run-done : goal.returns-then-run-done
returns-then-run-done c = let both = left_is (advance_high _ _ _ c.requires _ _ _ c.no_room.ensures c.if-no_room.false c.if-run-done.true) (refl, refl) in record { answer = both.0; left = both.1 }

pub overflow_sub-after : goal.overflow_sub-after
overflow_sub-after c = budget_low _ _ _ c.requires _ _ _ c.spend-left.ensures

pub overflow_add-after : goal.overflow_add-after
overflow_add-after c = let h = done_low _ _ _ c.requires _ _ _ c.spend-left.ensures c.if-run-done.false in omega (arith, h, c.ranges)

pub returns-then-left : goal.returns-then-left
returns-then-left c = let both = left_is (advance_stopped _ _ _ c.requires _ _ _ c.no_room.ensures c.if-no_room.false c.if-run-done.false c.spend-left.ensures c.if-left.true) (refl, refl) in record { answer = both.0; left = both.1 }

pub value_at-requires : goal.value_at-requires
value_at-requires c = value_room _ _ _ c.requires _ _ _ c.no_room.ensures c.if-no_room.false c.spend-left.ensures

pub returns : goal.returns
returns c = let both = left_is (advance_advanced _ _ _ c.requires _ _ _ c.no_room.ensures c.if-no_room.false c.if-run-done.false c.spend-left.ensures c.if-left.false _ c.value_at.ensures) (refl, refl) in record { answer = both.0; left = both.1 }
