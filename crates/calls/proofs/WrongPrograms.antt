-- The five wrong programs of document 01, "What the contracts have to settle", for every call that each could be written for: each contradicts that call's
-- promise (specs/Promises) on a concrete input, B or another starred file. What the calls answer there is computed (Starred).
use Prim.Native.Nat.{ℕ, ◌≤◌}
use mathlib.Core.Path.{◌≡◌, ap, ◌∙◌}
use mathlib.Core.List.{List}
use native.Mathlib.Omega.{arith}
use lib.ListN.{get_or, replicate}
use Rattle.calls.specs.declared.SheetNumbers.{SheetNumbers}
use Rattle.calls.specs.Answers.{sheet_numbers}
use Rattle.calls.specs.Answers.{plan_numbers, start_numbers, advance_numbers}
use Rattle.calls.specs.Promises.{PlanAllows, StartAllows, AdvanceAllows, SheetAllows, BoardSheetAllows}
use Rattle.calls.specs.Answers.{PlanAnswer}
use Rattle.calls.specs.Answers.{StartAnswer}
use Rattle.calls.specs.Answers.{AdvanceAnswer}
use Rattle.calls.specs.Answers.{SheetAnswer}
use Rattle.calls.proofs.Starred.{B, two, started, advanced, run_of, starred}

-- the area after a start of B in 11 and in 12 cells that held 7
abbrev begun : ℕ → List ℕ
begun n = (started n B 0).area

-- 1. One that refuses everything, whatever number it gives (demand 2)
pub refuses_all_plan : (r : PlanAnswer) → 1 ≤ (plan_numbers r).refusal → PlanAllows B 0 r → ⊥
refuses_all_plan r h e = omega (arith, ap (λ a. (plan_numbers a).refusal) e ∙ ap (λ n. n.refusal) starred.B_cells_pairs)

pub refuses_all_start : (r : StartAnswer) (left : List ℕ) → 1 ≤ (start_numbers r).refusal → StartAllows B 0 (replicate 12 7) r left → ⊥
unfolding started
refuses_all_start r left h e = omega (arith, ap (λ a. (start_numbers a).refusal) e.0 ∙ ap (λ n. n.refusal) starred.B_started)

pub refuses_all_advance : (r : AdvanceAnswer) (left : List ℕ) → 1 ≤ (advance_numbers r).refusal → AdvanceAllows B 0 0 6 (begun 11) r left → ⊥
unfolding run_of advanced
refuses_all_advance r left h e = omega (arith, ap (λ a. (advance_numbers a).refusal) e.0 ∙ ap (λ n. n.refusal) starred.B_run)

pub refuses_all_sheet : (r : SheetAnswer) (left : List ℕ) → 1 ≤ (sheet_numbers r).refusal → SheetAllows B (replicate 11 7) r left → ⊥
refuses_all_sheet r left h e = omega (arith, ap (λ a. (sheet_numbers a).refusal) e.0 ∙ ap (λ n. n.refusal) starred.B_sheet)

-- 2. One that answers a fixed value: B and the model with two centres have different ones (demand 2)
pub fixed_value_advance : (r s : AdvanceAnswer) (left other : List ℕ) → (advance_numbers r).value ≡ (advance_numbers s).value
    → AdvanceAllows B 0 0 6 (begun 11) r left → AdvanceAllows two 0 0 3 (started 7 two 0).area s other → ⊥
unfolding run_of advanced
fixed_value_advance r s left other same p q =
    let x : (advance_numbers r).value ≡ 14 = ap (λ a. (advance_numbers a).value) p.0 ∙ ap (λ n. n.value) starred.B_run in
    let y : (advance_numbers s).value ≡ 7 = ap (λ a. (advance_numbers a).value) q.0 ∙ ap (λ n. n.value) starred.two_run in
    omega (arith, same, x, y)

pub fixed_value_sheet : (r s : SheetAnswer) (left other : List ℕ) → (sheet_numbers r).value ≡ (sheet_numbers s).value → SheetAllows B (replicate 11 7) r left → SheetAllows two (replicate 7 7) s other → ⊥
fixed_value_sheet r s left other same p q =
    let x : (sheet_numbers r).value ≡ 14 = ap (λ a. (sheet_numbers a).value) p.0 ∙ ap (λ n. n.value) starred.B_sheet in
    let y : (sheet_numbers s).value ≡ 7 = ap (λ a. (sheet_numbers a).value) q.0 ∙ ap (λ n. n.value) starred.two_sheet in
    omega (arith, same, x, y)

-- 3. One that touches no cell: a start of B, or an advance by one pair, changes the area (demand 3)
pub touches_nothing_start : (r : StartAnswer) → StartAllows B 0 (replicate 12 7) r (replicate 12 7) → ⊥
unfolding started
touches_nothing_start r e = omega (arith, ap (λ l. get_or l 0 0) e.1 ∙ ap (λ l. get_or l 0 0) starred.B_started_area)

pub touches_nothing_advance : (r : AdvanceAnswer) → AdvanceAllows B 0 0 1 (begun 12) r (begun 12) → ⊥
unfolding advanced
touches_nothing_advance r e =
    let x : get_or (begun 12) 6 0 ≡ 3 = ap (λ l. get_or l 6 0) e.1 ∙ ap (λ l. get_or l 6 0) starred.B_area_1 in
    omega (arith, x, ap (λ l. get_or l 6 0) starred.B_started_area)

-- 4. One that works through all pairs on the first budget and idles later: after a budget of 1 the area is not that of all 6 (demand 3)
pub all_at_once : (r : AdvanceAnswer) → AdvanceAllows B 0 0 1 (begun 12) r (advanced 12 B 0 6).area → ⊥
unfolding advanced
all_at_once r e =
    let x : get_or (advanced 12 B 0 6).area 10 0 ≡ 0 = ap (λ l. get_or l 10 0) e.1 ∙ ap (λ l. get_or l 10 0) starred.B_area_1 in
    omega (arith, x, ap (λ l. get_or l 10 0) starred.B_area_6)

-- 5. One that reports an invented number of pairs (demand 3)
pub invented_pairs_plan : (r : PlanAnswer) → ((plan_numbers r).pairs ≡ 6 → ⊥) → PlanAllows B 0 r → ⊥
invented_pairs_plan r f e = f (ap (λ a. (plan_numbers a).pairs) e ∙ ap (λ n. n.pairs) starred.B_cells_pairs)

pub invented_pairs_sheet : (r : SheetAnswer) (left : List ℕ) → ((sheet_numbers r).pairs ≡ 6 → ⊥) → SheetAllows B (replicate 11 7) r left → ⊥
invented_pairs_sheet r left f e = f (ap (λ a. (sheet_numbers a).pairs) e.0 ∙ ap (λ n. n.pairs) starred.B_sheet)

-- ---- the sheet's call for boards, which answers the numbers themselves

pub board_refuses_all_sheet : (r : SheetNumbers) (left : List ℕ) → 1 ≤ r.refusal → BoardSheetAllows B (replicate 11 7) r left → ⊥
board_refuses_all_sheet r left h e = omega (arith, ap (λ n. n.refusal) e.0 ∙ ap (λ n. n.refusal) starred.B_sheet)

pub board_fixed_value_sheet : (r s : SheetNumbers) (left other : List ℕ) → r.value ≡ s.value
    → BoardSheetAllows B (replicate 11 7) r left → BoardSheetAllows two (replicate 7 7) s other → ⊥
board_fixed_value_sheet r s left other same p q =
    let x : r.value ≡ 14 = ap (λ n. n.value) p.0 ∙ ap (λ n. n.value) starred.B_sheet in
    let y : s.value ≡ 7 = ap (λ n. n.value) q.0 ∙ ap (λ n. n.value) starred.two_sheet in
    omega (arith, same, x, y)

pub board_invented_pairs_sheet : (r : SheetNumbers) (left : List ℕ) → (r.pairs ≡ 6 → ⊥) → BoardSheetAllows B (replicate 11 7) r left → ⊥
board_invented_pairs_sheet r left f e = f (ap (λ n. n.pairs) e.0 ∙ ap (λ n. n.pairs) starred.B_sheet)
