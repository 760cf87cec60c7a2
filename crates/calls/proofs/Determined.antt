-- For each public call, any two results that its promise allows coincide: every field of the answer, every cell of the area, the tree part's bytes and
-- its address. The promises (specs/Promises, and modelfile/specs/Part) are what the contracts in the source cite, and are equations with the calls'
-- definitions, so this is one step for each.
use Prim.Native.Nat.{ℕ}
use mathlib.Core.Path.{◌≡◌, sym, ◌∙◌}
use mathlib.Core.List.{List}
use denote.Ref.{Bor}
use Rattle.modelfile.specs.Part.{PartAllows}
use Rattle.calls.specs.Promises.{PlanAllows, StartAllows, AdvanceAllows, SheetAllows, BoardPlanAllows, BoardStartAllows, BoardAdvanceAllows, BoardSheetAllows, BoardPartAllows}

-- a promise of an answer alone, and one of an answer and an area
abbrev Alone : {A : Type 0} → (A → Type 0) → Type 0
Alone {A} Allows = (r s : A) → Allows r → Allows s → r ≡ s

abbrev Both : {A : Type 0} → (A → List ℕ → Type 0) → Type 0
Both {A} Allows = (r s : A) (left other : List ℕ) → Allows r left → Allows s other → (r ≡ s) × (left ≡ other)

one : {A : Type 0} {x y z : A} → x ≡ z → y ≡ z → x ≡ y
one p q = p ∙ sym q

pub plan_determined : (file : List ℕ) (lower : ℕ) → Alone (PlanAllows file lower)
plan_determined file lower r s p q = one p q

pub start_determined : (file : List ℕ) (lower : ℕ) (area : List ℕ) → Both (StartAllows file lower area)
start_determined file lower area r s left other p q = (one p.0 q.0, one p.1 q.1)

pub advance_determined : (file : List ℕ) (lower done budget : ℕ) (area : List ℕ) → Both (AdvanceAllows file lower done budget area)
advance_determined file lower done budget area r s left other p q = (one p.0 q.0, one p.1 q.1)

pub sheet_determined : (file area : List ℕ) → Both (SheetAllows file area)
sheet_determined file area r s left other p q = (one p.0 q.0, one p.1 q.1)

-- the tree part is a reference into the file: its bytes and its address
pub part_determined : (file r s : Bor (List ℕ)) → PartAllows file r → PartAllows file s → (r.now ≡ s.now) × (r.ref_ptr ≡ s.ref_ptr)
part_determined file r s p q = (one p.0 q.0, one p.1 q.1)

-- ---- the calls for boards

pub board_plan_determined : (file : List ℕ) (lower : ℕ) → Alone (BoardPlanAllows file lower)
board_plan_determined file lower r s p q = one p q

pub board_start_determined : (file : List ℕ) (lower : ℕ) (area : List ℕ) → Both (BoardStartAllows file lower area)
board_start_determined file lower area r s left other p q = (one p.0 q.0, one p.1 q.1)

pub board_advance_determined : (file : List ℕ) (lower done budget : ℕ) (area : List ℕ) → Both (BoardAdvanceAllows file lower done budget area)
board_advance_determined file lower done budget area r s left other p q = (one p.0 q.0, one p.1 q.1)

pub board_sheet_determined : (file area : List ℕ) → Both (BoardSheetAllows file area)
board_sheet_determined file area r s left other p q = (one p.0 q.0, one p.1 q.1)

pub board_part_determined : (file : List ℕ) → Alone (BoardPartAllows file)
board_part_determined file r s p q = one p q
