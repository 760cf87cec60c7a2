-- The start call, test by test: what is asked is refused, or the model has no room, or a leaf is too large, or its cells are written.
use Prim.Native.Nat.{ℕ, ◌≤◌}
use mathlib.Core.Path.{◌≡◌, refl, sym, ap, ◌∙◌}
use mathlib.Core.Bool.{Bool, true, false, ◌||◌, true≢false}
use mathlib.Core.List.{List, ◌++◌}
use lib.Dec.{ltb}
use lib.ListN.{length, drop}
use borrow.Author.Tests.{ltb-false}
use Rattle.std.specs.Prelude.{Ok, Err}
use Rattle.calls.specs.declared.Refusal.{Refusal}
use Rattle.sums.specs.Lists.{some}
use Rattle.modelfile.specs.declared.Model.{Model}
use Rattle.calls.specs.Answers.{Left}
use Rattle.calls.specs.Asked.{ask, cells_in, filled_by}
use Rattle.calls.specs.Start.{no_room, too_large, no_start, start_in, start}
use Rattle.calls.specs.Answers.{is_started}
use Rattle.plan.specs.Table.{windows_in}
use Rattle.plan.specs.Asking.{Prepared, asked_of, RunFor}
use Rattle.plan.specs.declared.Run.{Run}
use Rattle.plan.specs.declared.Table.{Table}

-- an answer and the area left are what a definition says
pub left_is : {Answer : Type 0} {x y : Left Answer} {answer : Answer} {area : List ℕ} → x ≡ y → (answer ≡ y.answer) × (area ≡ y.area) → (answer ≡ x.answer) × (area ≡ x.area)
left_is e w = (w.0 ∙ sym (ap (λ l. l.answer) e), w.1 ∙ sym (ap (λ l. l.area) e))

module _ (m : Model) (windows : List ℕ) (t : Table) (p : Prepared m windows t) (area : List ℕ) {full : Bool} (e : full ≡ (ltb 8192 t.cells || ltb (length area) t.cells)) where
  abbrev ws : List ℕ
  ws = windows_in m windows

  pub room_is : no_room (cells_in m ws) area ≡ full
  unfolding no_room
  room_is = sym (e ∙ ap (λ n. ltb 8192 n || ltb (length area) n) p.tabled.cells_are)

  pub start_full : full ≡ true → start_in m ws area ≡ no_start Refusal.NoRoom area
  unfolding start_in
  start_full f = rw (room_is ∙ f)

  module _ (f : full ≡ false) where
    pub room : cells_in m ws ≤ length area
    unfolding no_room
    room = ltb-false (length area) (cells_in m ws) (second (ltb 8192 (cells_in m ws)) (room_is ∙ f))
      where
        second : (a : Bool) {b : Bool} → (a || b) ≡ false → b ≡ false
        second true g = absurd (true≢false g)
        second false g = g

    module _ {large : Bool} (el : large ≡ some too_large (filled_by m ws)) where
      pub start_large : large ≡ true → start_in m ws area ≡ no_start Refusal.TooLarge area
      unfolding start_in
      start_large g = rw (room_is ∙ f, sym el ∙ g)

      pub start_filled : large ≡ false → start_in m ws area ≡ record { answer = is_started; area = filled_by m ws ++ drop (cells_in m ws) area }
      unfolding start_in
      start_filled g = rw (room_is ∙ f, sym el ∙ g)

module _ (file : List ℕ) (lower : ℕ) (area : List ℕ) where
  pub start_refused : {r : Refusal} → RunFor (ask file lower) (Err r) → start file lower area ≡ no_start r area
  unfolding start asked_of
  start_refused w = rw (← w.answer) refl

  pub start_granted : {run : Run} → RunFor (ask file lower) (Ok run) → start file lower area ≡ start_in run.model (windows_in run.model run.windows) area
  unfolding start asked_of
  start_granted w = rw (← w.answer) refl
