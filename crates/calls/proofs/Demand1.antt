-- Demand 1. Every call ends with an answer. "Every public call takes any bytes, any numbers and any work area. It has no `requires`. A bad model, too little
-- room or a value of 2^64 or more is refused by its number; what the refusal returns and what it leaves in the work area is fixed." The calls are total
-- functions; the record Demand1 says, for every file, each call's whole answer (number, place, and zeros beside them) and the whole area it leaves.
use Prim.Native.Nat.{ℕ, ◌-◌, ◌≤◌}
use mathlib.Core.Path.{◌≡◌, refl, subst, ◌∙◌}
use mathlib.Core.Logic.{◌⊎◌, inl, inr}
use mathlib.Core.List.{List, [], ◌∷◌, ◌++◌}
use native.Mathlib.Omega.{arith}
use lib.Dec.{ltb}
use lib.ListN.{length, get_or, take, drop, replicate}
use Rattle.modelfile.specs.Refusals.{fault_number}
use Rattle.calls.specs.Answers.{number_of, place_of, sheet_numbers}
use Rattle.calls.specs.declared.SheetNumbers.{SheetNumbers}
use Rattle.modelfile.specs.declared.Refusal.{Refusal as FileRefusal}
use Rattle.sums.specs.Lists.{some}
use Rattle.modelfile.specs.File.{read_file}
use Rattle.modelfile.specs.Part.{tree_part}
use Rattle.modelfile.specs.Network.{windows_of}
use Rattle.modelfile.specs.declared.Model.{Model}
use Rattle.std.specs.Prelude.{⊤, Result, Ok, Err}
use Rattle.modelfile.proofs.PartLaws.{part_refused, part_accepted, part_length, from_refused, from_accepted}
use Rattle.modelfile.proofs.WalkLaws.{refused_range}
use Rattle.calls.specs.Answers.{tell, plan_numbers, start_numbers, advance_numbers, no_sheet, part_numbers}
use Rattle.calls.specs.Asked.{run_windows, lowering, on_verdict, ask, on_granted, model_of, windows_for, cells_in, pairs_in, filled_by}
use Rattle.calls.specs.Refusals.{first_of, window_zero}
use Rattle.calls.specs.Plan.{plan}
use Rattle.calls.specs.Start.{no_room, too_large, no_start, start_in, start}
use Rattle.calls.specs.Advance.{no_advance, advance_in, advance}
use Rattle.calls.specs.Sheet.{full_value, numerators, busiest, full_sheet, sheet_in, sheet}
use Rattle.calls.specs.Spending.{Spending, GoesOn}
use Rattle.calls.specs.Answers.{planned_as}
use Rattle.calls.specs.Answers.{stopped_at}
use Rattle.calls.proofs.ExactLaws.{room_none}
use Rattle.calls.proofs.GrantedLaws.{planned}
use Rattle.calls.proofs.SpendingLaws.{advance_spending, goes_on}
use Rattle.calls.proofs.RefusalLaws.{plan_all, start_all, advance_all, first_refused, sheet_all}
use Rattle.calls.proofs.PastLaws.{start_past, advance_past, sheet_past}

-- ---- the statement

-- "A refusal returns zeros beside its number and place": in the sheet
abbrev pub sheet_refused : ℕ → ℕ → SheetNumbers
sheet_refused number place =
    record { refusal = number; place = place; value = 0; pairs = 0; cells = 0; chains = 0; numerators = 0 ∷ 0 ∷ 0 ∷ 0 ∷ 0 ∷ 0 ∷ 0 ∷ 0 ∷ []; busiest = 0 }

-- 1 to 9: the same number and place in every call, zeros beside them, the area untouched; the tree part is empty
pub record FileRefused (file : List ℕ) (number place : ℕ) : Type 0 where
  pub range : (1 ≤ number) × (number ≤ 9) × (place ≤ length file)
  pub planned : (lower : ℕ) → plan_numbers (plan file lower) ≡ record { refusal = number; place = place; cells = 0; pairs = 0 }
  pub started : (lower : ℕ) (area : List ℕ) → tell start_numbers (start file lower area) ≡ record { answer = record { refusal = number; place = place }; area = area }
  pub advanced : (lower done budget : ℕ) (area : List ℕ) → tell advance_numbers (advance file lower done budget area)
      ≡ record { answer = record { refusal = number; place = place; done = 0; value = 0 }; area = area }
  pub sheeted : (area : List ℕ) → tell sheet_numbers (sheet file area) ≡ record { answer = sheet_refused number place; area = area }
  pub part : tree_part file ≡ []
  pub part_place : part_numbers file ≡ record { from = 0; length = 0 }

-- an accepted file: 10 to 15, "in order"; plan gives 10 and 11, start 10 to 12 and 14, advance 10 to 14, the sheet 12, 14 and 15
pub record FileAccepted (file : List ℕ) (m : Model) : Type 0 where
  pub planned : (lower : ℕ) → (let windows = run_windows m lower in
      plan_numbers (plan file lower)
      ≡ first_of ((10, ltb m.chains lower) ∷ (11, window_zero m lower) ∷ [])
      (λ number. record { refusal = number; place = 0; cells = 0; pairs = 0 })
      (record { refusal = 0; place = 0; cells = cells_in m windows; pairs = pairs_in m windows }))
  -- "Start gives 14 exactly if a leaf cell is 2^64 or more"; a refusal leaves the area untouched
  pub started : (lower : ℕ) (area : List ℕ) → (let windows = run_windows m lower in
      tell start_numbers (start file lower area)
      ≡ first_of ((10, ltb m.chains lower) ∷ (11, window_zero m lower) ∷ (12, no_room (cells_in m windows) area) ∷ (14, some too_large (filled_by m windows)) ∷ [])
      (λ number. record { answer = record { refusal = number; place = 0 }; area = area })
      (record { answer = record { refusal = 0; place = 0 }; area = filled_by m windows ++ drop (cells_in m windows) area }))
  -- advance: 10 to 13, with the area untouched
  pub advance_refused : (lower done budget : ℕ) (area : List ℕ) (number : ℕ) → 1 ≤ number
      → (let windows = run_windows m lower in
      first_of ((10, ltb m.chains lower) ∷ (11, window_zero m lower) ∷ (12, no_room (cells_in m windows) area) ∷ (13, ltb (pairs_in m windows) done) ∷ []) (λ n. n) 0 ≡ number)
      → tell advance_numbers (advance file lower done budget area) ≡ record { answer = record { refusal = number; place = 0; done = 0; value = 0 }; area = area }
  -- "Advance at 14 returns the pairs done before the failing one and keeps them in the area": from any number done and any contents, which pairs are
  -- done and kept, which pair would have reached 2^64, and what is told (specs/Spending)
  pub advanced : (lower done budget : ℕ) (area : List ℕ) (cells pairs : ℕ) → plan file lower ≡ planned_as cells pairs → cells ≤ 8192 → cells ≤ length area → done ≤ pairs
      → Spending m (run_windows m lower) done budget budget area (advance file lower done budget area)
  pub goes_on : (lower done budget : ℕ) (area : List ℕ) (d : ℕ) → (advance file lower done budget area).answer ≡ stopped_at d
      → GoesOn file lower d (advance file lower done budget area).area
  -- "The sheet at 14 or 15 leaves the model's cells 0", as an accepted one does; 12 leaves the area untouched
  pub sheeted : (area : List ℕ) → (let windows = windows_of m in let zeros = replicate (cells_in m windows) 0 ++ drop (cells_in m windows) area in
      tell sheet_numbers (sheet file area)
      ≡ first_of ((12, no_room (cells_in m windows) area) ∷ []) (λ number. record { answer = sheet_refused number 0; area = area })
      (first_of ((14, too_large (full_value m)) ∷ (15, some too_large (numerators m)) ∷ []) (λ number. record { answer = sheet_refused number 0; area = zeros })
      (record {
        answer = record { refusal = 0; place = 0; value = full_value m; pairs = pairs_in m windows; cells = cells_in m windows; chains = m.chains; numerators = numerators m; busiest = busiest m };
        area = zeros;
      })))
  -- "Cells past the model's are never written."
  pub start_past : (lower : ℕ) (area : List ℕ) (i : ℕ) → cells_in m (run_windows m lower) ≤ i → get_or (start file lower area).area i 0 ≡ get_or area i 0
  pub advance_past : (lower done budget : ℕ) (area : List ℕ) (i : ℕ) → cells_in m (run_windows m lower) ≤ i → get_or (advance file lower done budget area).area i 0 ≡ get_or area i 0
  pub sheet_past : (area : List ℕ) (i : ℕ) → cells_in m (windows_of m) ≤ i → get_or (sheet file area).area i 0 ≡ get_or area i 0
  -- the tree part: "from the first leaf up to but without the end record", which is the last byte
  pub part : tree_part file ≡ take (length file - 1 - m.first) (drop m.first file)
  pub part_place : part_numbers file ≡ record { from = m.first; length = length file - 1 - m.first }

pub record Demand1 (file : List ℕ) : Type 0 where
  pub either : ((read_file file).verdict ≡ Ok tt) ⊎ ((r : FileRefusal) × ((read_file file).verdict ≡ Err r))
  pub refused : (r : FileRefusal) → (read_file file).verdict ≡ Err r → FileRefused file (fault_number r.fault) r.place
  pub accepted : (read_file file).verdict ≡ Ok tt → FileAccepted file (model_of file)

-- ---- the proof

file_refused : (file : List ℕ) (r : FileRefusal) → (read_file file).verdict ≡ Err r → FileRefused file (fault_number r.fault) r.place
unfolding plan start advance sheet ask plan_numbers start_numbers advance_numbers sheet_numbers number_of place_of no_sheet part_numbers
file_refused file r e = record {
  range = refused_range file r e;
  planned = λ lower i. plan_numbers (on_granted (on_verdict (e i) (lowering (model_of file) lower)) (λ r. Err r) (λ m windows. planned_as (cells_in m windows) (pairs_in m windows)));
  started = λ lower area i. tell start_numbers (on_granted (on_verdict (e i) (lowering (model_of file) lower)) (λ r. no_start r area) (λ m windows. start_in m windows area));
  advanced = λ lower done budget area i. tell advance_numbers (on_granted (on_verdict (e i) (lowering (model_of file) lower)) (λ r. no_advance r area) (λ m windows. advance_in m windows done budget area));
  sheeted = λ area i. tell sheet_numbers (on_granted (on_verdict (e i) (lowering (model_of file) 0)) (λ r. record { answer = Err r; area = area }) (λ m windows. sheet_in m windows area));
  part = part_refused file r e;
  part_place = λ i. record { from = from_refused file r e i; length = length (part_refused file r e i) };
}

part_size : (file : List ℕ) → (read_file file).verdict ≡ Ok tt → length (tree_part file) ≡ length file - 1 - (model_of file).first
part_size file e = omega (arith, part_length file e)

file_accepted : (file : List ℕ) → (read_file file).verdict ≡ Ok tt → FileAccepted file (model_of file)
unfolding no_sheet full_sheet sheet_numbers part_numbers
file_accepted file e = record {
  planned = plan_all file e;
  started = start_all file e;
  advance_refused = λ lower done budget area number h d. advance_all file e lower done budget area ∙ first_refused _ _ _ number h d;
  advanced = λ lower done budget area cells pairs p small fits low.
      let q = planned file lower cells pairs p in
      advance_spending file lower (model_of file) (windows_for file lower) q.asked done area
      (room_none (cells_in (model_of file) (windows_for file lower)) area (subst (λ n. n ≤ 8192) q.cells_are small) (subst (λ n. n ≤ length area) q.cells_are fits)) (subst (λ n. done ≤ n) q.pairs_are low) budget;
  goes_on = λ lower done budget area. goes_on file lower done budget area;
  sheeted = sheet_all file e;
  start_past = λ lower area. start_past file lower area;
  advance_past = λ lower done budget area. advance_past file lower done budget area;
  sheet_past = λ area. sheet_past file area;
  part = part_accepted file e;
  part_place = λ i. record { from = from_accepted file e i; length = part_size file e i };
}

pub demand_1 : (file : List ℕ) → Demand1 file
demand_1 file = record { either = by (read_file file).verdict; refused = file_refused file; accepted = file_accepted file }
  where
    by : (v : Result ⊤ FileRefusal) → (v ≡ Ok tt) ⊎ ((r : FileRefusal) × (v ≡ Err r))
    by (Ok u) = inl refl
    by (Err r) = inr (r, refl)
