-- The sheet, case by case: the file is refused, the area has no room, a value is too large, or the numbers make the answer; and the
-- area, whose cells past the model's were kept by the runs, with the model's own cells 0.
use Prim.Native.Nat.{ℕ, ◌≤◌, ◌^◌}
use mathlib.Core.Path.{◌≡◌, refl, sym, ap, ◌∙◌}
use mathlib.Core.Bool.{Bool, true, false, ◌||◌}
use mathlib.Core.List.{List, ◌++◌}
use native.Mathlib.Omega.{arith}
use lib.Dec.{ltb}
use lib.ListN.{length, take, drop, replicate}
use lib.Seq.{length-take-le}
use borrow.Author.Tests.{le-leb, lt-leb}
use Rattle.std.specs.Prelude.{Option, Some, None, Ok, Err}
use Rattle.sums.specs.Choice.{choose}
use Rattle.sums.specs.Lists.{some}
use Rattle.network.specs.States.{value}
use Rattle.modelfile.specs.Network.{windows_of, centres_of}
use Rattle.modelfile.specs.declared.Model.{Model}
use Rattle.arith.specs.Capped.{capped}
use Rattle.arith.proofs.CappedLaws.{exact_says, large_says}
use Rattle.calls.specs.Answers.{SheetAnswer}
use Rattle.calls.specs.Asked.{ask, granted, windows_for, model_of, cells_in, pairs_in}
use Rattle.calls.specs.Start.{no_room, too_large}
use Rattle.calls.specs.Sheet.{full_value, numerators, busiest, full_sheet, sheet_of, cleared, sheet_in, sheet}
use Rattle.calls.specs.declared.Refusal.{Refusal}
use Rattle.calls.proofs.ExactLaws.{room_cells}
use Rattle.calls.proofs.GrantedLaws.{granted_is}
use Rattle.plan.specs.Table.{windows_in}
use Rattle.plan.specs.Asking.{asked_of, RunFor}
use Rattle.plan.specs.declared.Run.{Run}
use Rattle.rates.specs.Steps.{Kept, numerators_of}
use Rattle.ratesheet.specs.Steps.{Full}

-- ---- the runs

module _ {run : Run} (f : Full run) where
  abbrev M : Model
  M = run.model

  abbrev W : List ℕ
  W = windows_in run.model run.windows

  pub cells_full : cells_in M W ≡ cells_in M (windows_of M)
  cells_full = ap (cells_in M) f.whole

  pub kept_full : {old new : List ℕ} → length new ≡ length old → drop (cells_in M W) new ≡ drop (cells_in M W) old → Kept (cells_in M (windows_of M)) old new
  kept_full {old} {new} l p = record { long = l; past = ap (λ n. drop n new) (sym cells_full) ∙ p ∙ ap (λ n. drop n old) cells_full }

  module _ {r : Option ℕ} (d : r ≡ capped (value (centres_of M) W)) where
    told : r ≡ capped (full_value M)
    unfolding full_value
    told = d ∙ ap (λ w. capped (value (centres_of M) w)) f.whole

    pub value_large : r ≡ None → Err Refusal.TooLarge ≡ sheet_of M
    unfolding sheet_of
    value_large e = rw (le-leb (2 ^ 64) (full_value M) (large_says (sym told ∙ e))) refl

    module _ {v : ℕ} (e : r ≡ Some v) {n : Option (List ℕ)} (g : n ≡ numerators_of M) where
      low : too_large (full_value M) ≡ false
      low = lt-leb (2 ^ 64) (full_value M) (exact_says (sym told ∙ e)).low

      pub numerator_large : n ≡ None → Err Refusal.LoweredTooLarge ≡ sheet_of M
      unfolding sheet_of numerators_of
      numerator_large h = by (some too_large (numerators M)) refl (sym g ∙ h)
        where
          by : (t : Bool) → some too_large (numerators M) ≡ t → choose t (λ u. None) (λ u. Some (numerators M)) ≡ None
              → Err Refusal.LoweredTooLarge ≡ choose (too_large (full_value M)) (λ u. Err Refusal.TooLarge) (λ u. choose (some too_large (numerators M)) (λ u. Err Refusal.LoweredTooLarge) (λ u. Ok (full_sheet M)))
          by true o k = rw (low, o) refl
          by false o k = let z : ◌≡◌ {A = ℕ} 0 1 = cc in absurd (omega arith)

      pub sheet_made : {numbers : List ℕ} {pairs cells b : ℕ} → n ≡ Some numbers → pairs ≡ pairs_in M W → cells ≡ cells_in M W → b ≡ busiest M
          → Ok (record { value = v; pairs = pairs; cells = cells; chains = M.chains; numerators = numbers; busiest = b }) ≡ sheet_of M
      unfolding sheet_of full_sheet numerators_of
      sheet_made {numbers} {pairs} {cells} {b} h p q u = by (some too_large (numerators M)) refl (sym g ∙ h)
        where
          parts : numbers ≡ numerators M → ◌≡◌ {A = SheetAnswer} (Ok (record { value = v; pairs = pairs; cells = cells; chains = M.chains; numerators = numbers; busiest = b })) (Ok (full_sheet M))
          parts j = λ i. Ok (record {
            value = (exact_says (sym told ∙ e)).is i;
            pairs = (p ∙ ap (pairs_in M) f.whole) i;
            cells = (q ∙ cells_full) i;
            chains = M.chains;
            numerators = j i;
            busiest = u i;
          })

          by : (t : Bool) → some too_large (numerators M) ≡ t → choose t (λ u. None) (λ u. Some (numerators M)) ≡ Some numbers
              → Ok (record { value = v; pairs = pairs; cells = cells; chains = M.chains; numerators = numbers; busiest = b })
              ≡ choose (too_large (full_value M)) (λ u. Err Refusal.TooLarge) (λ u. choose (some too_large (numerators M)) (λ u. Err Refusal.LoweredTooLarge) (λ u. Ok (full_sheet M)))
          by true o k = let z : ◌≡◌ {A = ℕ} 0 1 = cc in absurd (omega arith)
          by false o k = rw (low, o) (parts (let z : numerators M ≡ numbers = cc in sym z))

  -- ---- the room, by the code's table and test

  pub pairs_are : run.table.pairs ≡ pairs_in M W
  pairs_are = f.ready.tabled.pairs_are

  pub cells_are : run.table.cells ≡ cells_in M W
  cells_are = f.ready.tabled.cells_are

  pub all_cells_are : run.table.cells ≡ cells_in M (windows_of M)
  all_cells_are = cells_are ∙ cells_full

  module _ (area : List ℕ) {r : Bool} (e : r ≡ (ltb 8192 run.table.cells || ltb (length area) run.table.cells)) where
    room_told : r ≡ no_room (cells_in M (windows_of M)) area
    unfolding no_room
    room_told = e ∙ ap (λ n. ltb 8192 n || ltb (length area) n) all_cells_are

    pub room_none : r ≡ true → (Err Refusal.NoRoom ≡ (sheet_in M (windows_of M) area).answer) × (area ≡ (sheet_in M (windows_of M) area).area)
    unfolding sheet_in
    room_none d = let n : no_room (cells_in M (windows_of M)) area ≡ true = sym room_told ∙ d in (rw n refl, rw n refl)

    module _ (d : r ≡ false) where
      none : no_room (cells_in M (windows_of M)) area ≡ false
      none = sym room_told ∙ d

      pub room_is : cells_in M (windows_of M) ≤ length area
      room_is = (room_cells M (windows_of M) area none).1

      module _ {new : List ℕ} (k : Kept (cells_in M (windows_of M)) area new) where
        pub part_fits : run.table.cells ≤ length new
        part_fits = omega (arith, room_is, all_cells_are, k.long)

        -- the part is set to 0, what lies past it is as the runs left it
        pub room_some : {a : SheetAnswer} {part : List ℕ} → a ≡ sheet_of M → part ≡ replicate (length (take run.table.cells new)) 0
            → (a ≡ (sheet_in M (windows_of M) area).answer) × (part ++ drop run.table.cells new ≡ (sheet_in M (windows_of M) area).area)
        unfolding sheet_in cleared
        room_some {a} {part} g h =
            let p : part ≡ replicate (cells_in M (windows_of M)) 0 = h ∙ ap (λ n. replicate n 0) (length-take-le run.table.cells new part_fits ∙ all_cells_are) in
            let q : drop run.table.cells new ≡ drop (cells_in M (windows_of M)) area = ap (λ n. drop n new) all_cells_are ∙ k.past in
            (rw none g, rw none (ap (λ l. l ++ drop run.table.cells new) p ∙ ap (λ l. replicate (cells_in M (windows_of M)) 0 ++ l) q))

-- ---- the file

module _ (file area : List ℕ) where
  pub file_refused : {r : Refusal} → RunFor (ask file 0) (Err r) → (Err r ≡ (sheet file area).answer) × (area ≡ (sheet file area).area)
  unfolding sheet asked_of
  file_refused w = (rw (← w.answer) refl, rw (← w.answer) refl)

  module _ {run : Run} (w : RunFor (ask file 0) (Ok run)) where
    whole_is : granted run.model (windows_in run.model run.windows) ≡ granted (model_of file) (windows_for file 0)
    unfolding asked_of
    whole_is = w.answer ∙ granted_is file 0 run.model (windows_in run.model run.windows) (sym w.answer)

    pub file_full : Full run
    file_full =
        let e = whole_is in
        let m : run.model ≡ model_of file = cc in
        let ws : windows_in run.model run.windows ≡ windows_for file 0 = cc in
        record { ready = w.ready; whole = ws ∙ ap windows_of (sym m) }

    pub file_read : ((sheet_in run.model (windows_of run.model) area).answer ≡ (sheet file area).answer) × ((sheet_in run.model (windows_of run.model) area).area ≡ (sheet file area).area)
    unfolding sheet asked_of
    file_read = (rw (← w.answer, ← file_full.whole) refl, rw (← w.answer, ← file_full.whole) refl)
