-- What each public call promises of its answer r and, where an area is lent, of what that holds at exit. The contracts in the source cite
-- these, and so do the theorems about the contracts (Determined, WrongPrograms). The tree part's promise stands in modelfile/specs/Part.
use Rattle.std.specs.Prelude.{ℕ, ◌≡◌, List}
use Rattle.calls.specs.Answers.{plan_numbers, start_numbers, advance_numbers, sheet_numbers, part_numbers}
use Rattle.calls.specs.Plan.{plan}
use Rattle.calls.specs.Start.{start}
use Rattle.calls.specs.Advance.{advance}
use Rattle.calls.specs.Sheet.{sheet}
use Rattle.calls.specs.Answers.{PlanAnswer}
use Rattle.calls.specs.declared.SheetNumbers.{SheetNumbers}
use Rattle.calls.specs.declared.PlanNumbers.{PlanNumbers}
use Rattle.calls.specs.Answers.{StartAnswer}
use Rattle.calls.specs.declared.StartNumbers.{StartNumbers}
use Rattle.calls.specs.Answers.{AdvanceAnswer}
use Rattle.calls.specs.declared.AdvanceNumbers.{AdvanceNumbers}
use Rattle.calls.specs.Answers.{SheetAnswer}
use Rattle.calls.specs.declared.PartNumbers.{PartNumbers}

abbrev pub PlanAllows : List ℕ → ℕ → PlanAnswer → Type 0
PlanAllows file lower r = r ≡ plan file lower

abbrev pub StartAllows : List ℕ → ℕ → List ℕ → StartAnswer → List ℕ → Type 0
StartAllows file lower area r left = (r ≡ (start file lower area).answer) × (left ≡ (start file lower area).area)

abbrev pub AdvanceAllows : List ℕ → ℕ → ℕ → ℕ → List ℕ → AdvanceAnswer → List ℕ → Type 0
AdvanceAllows file lower done budget area r left = (r ≡ (advance file lower done budget area).answer) × (left ≡ (advance file lower done budget area).area)

abbrev pub SheetAllows : List ℕ → List ℕ → SheetAnswer → List ℕ → Type 0
SheetAllows file area r left = (r ≡ (sheet file area).answer) × (left ≡ (sheet file area).area)

-- ---- the calls for boards: the same, told as numbers

abbrev pub BoardPlanAllows : List ℕ → ℕ → PlanNumbers → Type 0
BoardPlanAllows file lower r = r ≡ plan_numbers (plan file lower)

abbrev pub BoardStartAllows : List ℕ → ℕ → List ℕ → StartNumbers → List ℕ → Type 0
BoardStartAllows file lower area r left = (r ≡ start_numbers (start file lower area).answer) × (left ≡ (start file lower area).area)

abbrev pub BoardAdvanceAllows : List ℕ → ℕ → ℕ → ℕ → List ℕ → AdvanceNumbers → List ℕ → Type 0
BoardAdvanceAllows file lower done budget area r left =
    (r ≡ advance_numbers (advance file lower done budget area).answer) × (left ≡ (advance file lower done budget area).area)

abbrev pub BoardSheetAllows : List ℕ → List ℕ → SheetNumbers → List ℕ → Type 0
BoardSheetAllows file area r left = (r ≡ sheet_numbers (sheet file area).answer) × (left ≡ (sheet file area).area)

abbrev pub BoardPartAllows : List ℕ → PartNumbers → Type 0
BoardPartAllows file r = r ≡ part_numbers file
