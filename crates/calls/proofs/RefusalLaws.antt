-- The order of the tests: each call of an accepted file answers by the first test that holds. Read off the definitions, by cases on the tests.
use Prim.Native.Nat.{ℕ, zero, suc, ◌≤◌}
use mathlib.Core.Path.{◌≡◌, refl, sym, ap, ◌∙◌}
use mathlib.Core.Bool.{Bool, true, false}
use mathlib.Core.List.{List, [], ◌∷◌, ◌++◌}
use native.Mathlib.Omega.{arith}
use lib.Dec.{ltb, eqb}
use lib.ListN.{get_or, drop, replicate}
use borrow.Author.Tests.{le-ltb}
use Rattle.calls.specs.Answers.{number_of, place_of, sheet_numbers}
use Rattle.sums.specs.Choice.{choose}
use Rattle.sums.specs.Lists.{some}
use Rattle.modelfile.specs.File.{read_file}
use Rattle.modelfile.specs.Network.{windows_of}
use Rattle.modelfile.specs.declared.Model.{Model}
use Rattle.std.specs.Prelude.{Ok, Err}
use Rattle.calls.specs.declared.Refusal.{Refusal}
use Rattle.calls.specs.Answers.{Left, tell, plan_numbers, start_numbers, advance_numbers, no_sheet}
use Rattle.calls.specs.Asked.{Asked, refused, granted, pick_asked, less_one, run_windows, lowering, on_verdict, ask, on_granted, model_of, cells_in, pairs_in, filled_by}
use Rattle.calls.specs.Refusals.{first_of, window_zero}
use Rattle.calls.specs.Plan.{plan}
use Rattle.calls.specs.Start.{no_room, too_large, no_start, start_in, start}
use Rattle.calls.specs.Advance.{no_advance, told, advance_in, advance}
use Rattle.calls.specs.Sheet.{full_value, numerators, full_sheet, sheet_of, cleared, sheet_in, sheet}
use Rattle.calls.specs.Answers.{PlanAnswer, planned_as}
use Rattle.calls.specs.Answers.{is_started}
use Rattle.calls.specs.Answers.{AdvanceAnswer}
use Rattle.calls.specs.Answers.{SheetAnswer}
use Rattle.calls.proofs.SlotLaws.{spent}

-- the two tests of lowering, and what comes after them
module _ {A B : Type 0} (m : Model) (tells : A → B) (stop : Refusal → A) (on : Model → List ℕ → A) (later : List ℕ → List (ℕ × Bool)) (refusal : ℕ → B) (accepted : List ℕ → B)
    (ten : tells (stop Refusal.NoSuchChain) ≡ refusal 10) (eleven : tells (stop Refusal.WindowZero) ≡ refusal 11) (goes : (windows : List ℕ) → tells (on m windows) ≡ first_of (later windows) refusal (accepted windows)) where
  pub by-lowering : (lower : ℕ) → tells (on_granted (lowering m lower) stop on)
      ≡ first_of ((10, ltb m.chains lower) ∷ (11, window_zero m lower) ∷ later (run_windows m lower)) refusal (accepted (run_windows m lower))
  unfolding lowering first_of window_zero
  by-lowering zero =
      goes (windows_of m)
      ∙ ap (λ t. choose t (λ u. refusal 10) (λ u. first_of (later (windows_of m)) refusal (accepted (windows_of m)))) (sym (le-ltb m.chains 0 (omega arith)))
  by-lowering (suc k) = by (ltb m.chains (suc k)) (eqb (get_or (windows_of m) k 0) 0)
    where
      windows : List ℕ
      windows = less_one (windows_of m) k

      by : (a z : Bool) → tells (on_granted (pick_asked a (refused Refusal.NoSuchChain) (pick_asked z (refused Refusal.WindowZero) (granted m windows))) stop on)
          ≡ choose a (λ u. refusal 10) (λ u. choose z (λ u. refusal 11) (λ u. first_of (later windows) refusal (accepted windows)))
      by true z = ten
      by false true = eleven
      by false false = goes windows

-- ask of an accepted file
pub ask_accepted : (file : List ℕ) → (read_file file).verdict ≡ Ok tt → (lower : ℕ) → ask file lower ≡ lowering (model_of file) lower
unfolding ask
ask_accepted file e lower = ap (λ v. on_verdict v (lowering (model_of file) lower)) e

module _ (m : Model) (area windows : List ℕ) where
  start_first : tell start_numbers (start_in m windows area)
      ≡ first_of ((12, no_room (cells_in m windows) area) ∷ (14, some too_large (filled_by m windows)) ∷ []) (λ number. record { answer = record { refusal = number; place = 0 }; area = area })
      (record { answer = record { refusal = 0; place = 0 }; area = filled_by m windows ++ drop (cells_in m windows) area })
  unfolding start_in first_of start_numbers number_of place_of
  start_first = by (no_room (cells_in m windows) area) (some too_large (filled_by m windows))
    where
      ready : List ℕ
      ready = filled_by m windows ++ drop (cells_in m windows) area

      by : (r t : Bool) → tell start_numbers (choose r (λ u. no_start Refusal.NoRoom area) (λ u. choose t (λ u. no_start Refusal.TooLarge area) (λ u. record { answer = is_started; area = ready })))
          ≡ choose r (λ u. record { answer = record { refusal = 12; place = 0 }; area = area }) (λ u.
          choose t (λ u. record { answer = record { refusal = 14; place = 0 }; area = area }) (λ u. record { answer = record { refusal = 0; place = 0 }; area = ready }))
      by true t = refl
      by false true = refl
      by false false = refl

  advance_first : (done budget : ℕ) → tell advance_numbers (advance_in m windows done budget area)
      ≡ first_of ((12, no_room (cells_in m windows) area) ∷ (13, ltb (pairs_in m windows) done) ∷ []) (λ number. record { answer = record { refusal = number; place = 0; done = 0; value = 0 }; area = area })
      (tell advance_numbers (told m windows (spent m windows done budget area)))
  unfolding advance_in first_of advance_numbers number_of place_of
  advance_first done budget = by (no_room (cells_in m windows) area) (ltb (pairs_in m windows) done)
    where
      went : Left AdvanceAnswer
      went = told m windows (spent m windows done budget area)

      by : (r h : Bool) → tell advance_numbers (choose r (λ u. no_advance Refusal.NoRoom area) (λ u. choose h (λ u. no_advance Refusal.PastTotal area) (λ u. went)))
          ≡ choose r (λ u. record { answer = record { refusal = 12; place = 0; done = 0; value = 0 }; area = area }) (λ u.
          choose h (λ u. record { answer = record { refusal = 13; place = 0; done = 0; value = 0 }; area = area }) (λ u. tell advance_numbers went))
      by true h = refl
      by false true = refl
      by false false = refl

pub sheet_first : (m : Model) (area : List ℕ) → (let windows = windows_of m in let zeros = replicate (cells_in m windows) 0 ++ drop (cells_in m windows) area in
    tell sheet_numbers (sheet_in m windows area)
    ≡ first_of ((12, no_room (cells_in m windows) area) ∷ []) (λ number. record { answer = no_sheet number 0; area = area })
    (first_of ((14, too_large (full_value m)) ∷ (15, some too_large (numerators m)) ∷ []) (λ number. record { answer = no_sheet number 0; area = zeros })
    (record { answer = sheet_numbers (Ok (full_sheet m)); area = zeros })))
unfolding sheet_in sheet_of first_of cleared sheet_numbers number_of place_of
sheet_first m area = by (no_room (cells_in m (windows_of m)) area) (too_large (full_value m)) (some too_large (numerators m))
  where
    zeros : List ℕ
    zeros = replicate (cells_in m (windows_of m)) 0 ++ drop (cells_in m (windows_of m)) area

    by : (r t l : Bool) → tell sheet_numbers (choose {A = Left SheetAnswer} r (λ u. record { answer = Err Refusal.NoRoom; area = area }) (λ u.
        record { answer = choose t (λ u. Err Refusal.TooLarge) (λ u. choose l (λ u. Err Refusal.LoweredTooLarge) (λ u. Ok (full_sheet m))); area = zeros }))
        ≡ choose r (λ u. record { answer = no_sheet 12 0; area = area }) (λ u.
        choose t (λ u. record { answer = no_sheet 14 0; area = zeros }) (λ u. choose l (λ u. record { answer = no_sheet 15 0; area = zeros }) (λ u. record { answer = sheet_numbers (Ok (full_sheet m)); area = zeros })))
    by true t l = refl
    by false true l = refl
    by false false true = refl
    by false false false = refl

-- where the first test that holds has a number, the refusal is by that number
pub first_refused : {A : Type 0} (tests : List (ℕ × Bool)) (refusal : ℕ → A) (accepted : A) (number : ℕ) → 1 ≤ number → first_of tests (λ n. n) 0 ≡ number → first_of tests refusal accepted ≡ refusal number
unfolding first_of
first_refused [] refusal accepted number h e = absurd (omega (arith, e))
first_refused (test ∷ tests) refusal accepted number h e = by test.1 e (first_refused tests refusal accepted number h)
  where
    by : (t : Bool) → choose t (λ u. test.0) (λ u. first_of tests (λ n. n) 0) ≡ number → (first_of tests (λ n. n) 0 ≡ number → first_of tests refusal accepted ≡ refusal number)
        → choose t (λ u. refusal test.0) (λ u. first_of tests refusal accepted) ≡ refusal number
    by true d k = ap refusal d
    by false d k = k d

module _ (file : List ℕ) (e : (read_file file).verdict ≡ Ok tt) where
  abbrev M : Model
  M = model_of file

  pub plan_all : (lower : ℕ) → plan_numbers (plan file lower)
      ≡ first_of ((10, ltb M.chains lower) ∷ (11, window_zero M lower) ∷ []) (λ number. record { refusal = number; place = 0; cells = 0; pairs = 0 })
      (record { refusal = 0; place = 0; cells = cells_in M (run_windows M lower); pairs = pairs_in M (run_windows M lower) })
  unfolding plan plan_numbers number_of place_of first_of
  plan_all lower =
      ap (λ a. plan_numbers (answered a)) (ask_accepted file e lower)
      ∙ by-lowering M plan_numbers (λ r. Err r) (λ m windows. planned_as (cells_in m windows) (pairs_in m windows)) (λ windows. [])
      (λ number. record { refusal = number; place = 0; cells = 0; pairs = 0 }) (λ windows. record { refusal = 0; place = 0; cells = cells_in M windows; pairs = pairs_in M windows }) refl refl (λ windows. refl) lower
    where
      answered : Asked → PlanAnswer
      answered a = on_granted a (λ r. Err r) (λ m windows. planned_as (cells_in m windows) (pairs_in m windows))

  pub start_all : (lower : ℕ) (area : List ℕ) → (let windows = run_windows M lower in
      tell start_numbers (start file lower area)
      ≡ first_of ((10, ltb M.chains lower) ∷ (11, window_zero M lower) ∷ (12, no_room (cells_in M windows) area) ∷ (14, some too_large (filled_by M windows)) ∷ [])
      (λ number. record { answer = record { refusal = number; place = 0 }; area = area })
      (record { answer = record { refusal = 0; place = 0 }; area = filled_by M windows ++ drop (cells_in M windows) area }))
  unfolding start start_numbers number_of place_of
  start_all lower area =
      ap (λ a. tell start_numbers (on_granted a (λ r. no_start r area) (λ m windows. start_in m windows area))) (ask_accepted file e lower)
      ∙ by-lowering M (tell start_numbers) (λ r. no_start r area) (λ m windows. start_in m windows area)
      (λ windows. (12, no_room (cells_in M windows) area) ∷ (14, some too_large (filled_by M windows)) ∷ [])
      (λ number. record { answer = record { refusal = number; place = 0 }; area = area })
      (λ windows. record { answer = record { refusal = 0; place = 0 }; area = filled_by M windows ++ drop (cells_in M windows) area }) refl refl (start_first M area) lower

  pub advance_all : (lower done budget : ℕ) (area : List ℕ) → (let windows = run_windows M lower in
      tell advance_numbers (advance file lower done budget area)
      ≡ first_of ((10, ltb M.chains lower) ∷ (11, window_zero M lower) ∷ (12, no_room (cells_in M windows) area) ∷ (13, ltb (pairs_in M windows) done) ∷ [])
      (λ number. record { answer = record { refusal = number; place = 0; done = 0; value = 0 }; area = area }) (tell advance_numbers (told M windows (spent M windows done budget area))))
  unfolding advance advance_numbers number_of place_of
  advance_all lower done budget area =
      ap (λ a. tell advance_numbers (on_granted a (λ r. no_advance r area) (λ m windows. advance_in m windows done budget area))) (ask_accepted file e lower)
      ∙ by-lowering M (tell advance_numbers) (λ r. no_advance r area) (λ m windows. advance_in m windows done budget area)
      (λ windows. (12, no_room (cells_in M windows) area) ∷ (13, ltb (pairs_in M windows) done) ∷ [])
      (λ number. record { answer = record { refusal = number; place = 0; done = 0; value = 0 }; area = area })
      (λ windows. tell advance_numbers (told M windows (spent M windows done budget area))) refl refl (λ windows. advance_first M area windows done budget) lower

  pub sheet_all : (area : List ℕ) → (let windows = windows_of M in let zeros = replicate (cells_in M windows) 0 ++ drop (cells_in M windows) area in
      tell sheet_numbers (sheet file area)
      ≡ first_of ((12, no_room (cells_in M windows) area) ∷ []) (λ number. record { answer = no_sheet number 0; area = area })
      (first_of ((14, too_large (full_value M)) ∷ (15, some too_large (numerators M)) ∷ []) (λ number. record { answer = no_sheet number 0; area = zeros })
      (record { answer = sheet_numbers (Ok (full_sheet M)); area = zeros })))
  unfolding sheet lowering
  sheet_all area =
      ap (λ a. tell sheet_numbers (on_granted a (λ r. record { answer = Err r; area = area }) (λ m windows. sheet_in m windows area))) (ask_accepted file e 0)
      ∙ sheet_first M area
