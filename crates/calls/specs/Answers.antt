-- What the calls answer, and document 01's number, place and values for each case: "A refusal returns zeros beside its number and place";
-- number 0 stands for no refusal. The promises of the calls for boards cite these.
use Rattle.std.specs.Prelude.{ℕ, ⊤, List, Result, Ok, Err, length, replicate}
use Rattle.modelfile.specs.Refusals.{fault_number}
use Rattle.modelfile.specs.Part.{tree_part, part_from}
use Rattle.calls.specs.declared.Refusal.{Refusal}
use Rattle.calls.specs.declared.Planned.{Planned}
use Rattle.calls.specs.declared.Advanced.{Advanced}
use Rattle.calls.specs.declared.Halted.{Halted}
use Rattle.calls.specs.declared.Sheet.{Sheet}
use Rattle.calls.specs.declared.PlanNumbers.{PlanNumbers}
use Rattle.calls.specs.declared.StartNumbers.{StartNumbers}
use Rattle.calls.specs.declared.AdvanceNumbers.{AdvanceNumbers}
use Rattle.calls.specs.declared.SheetNumbers.{SheetNumbers}
use Rattle.calls.specs.declared.PartNumbers.{PartNumbers}

-- ---- the answers

abbrev pub PlanAnswer : Type 0
PlanAnswer = Result Planned Refusal

abbrev pub StartAnswer : Type 0
StartAnswer = Result ⊤ Refusal

abbrev pub AdvanceAnswer : Type 0
AdvanceAnswer = Result Advanced Halted

abbrev pub SheetAnswer : Type 0
SheetAnswer = Result Sheet Refusal

abbrev pub planned_as : ℕ → ℕ → PlanAnswer
planned_as cells pairs = Ok (record { cells = cells; pairs = pairs })

abbrev pub is_started : StartAnswer
is_started = Ok tt

abbrev pub advanced_to : ℕ → ℕ → AdvanceAnswer
advanced_to done value = Ok (record { done = done; value = value })

abbrev pub stopped_at : ℕ → AdvanceAnswer
stopped_at done = Err (Halted.Stopped done)

-- ---- the numbers: document 01, "Refusals"; 10 to 15 have place 0

unfoldable pub number_of : Refusal → ℕ
number_of (Refusal.File r) = fault_number r.fault
number_of Refusal.NoSuchChain = 10
number_of Refusal.WindowZero = 11
number_of Refusal.NoRoom = 12
number_of Refusal.PastTotal = 13
number_of Refusal.TooLarge = 14
number_of Refusal.LoweredTooLarge = 15

unfoldable pub place_of : Refusal → ℕ
place_of (Refusal.File r) = r.place
place_of Refusal.NoSuchChain = 0
place_of Refusal.WindowZero = 0
place_of Refusal.NoRoom = 0
place_of Refusal.PastTotal = 0
place_of Refusal.TooLarge = 0
place_of Refusal.LoweredTooLarge = 0

unfoldable pub plan_numbers : PlanAnswer → PlanNumbers
plan_numbers (Ok p) = record { refusal = 0; place = 0; cells = p.cells; pairs = p.pairs }
plan_numbers (Err r) = record { refusal = number_of r; place = place_of r; cells = 0; pairs = 0 }

unfoldable pub start_numbers : StartAnswer → StartNumbers
start_numbers (Ok u) = record { refusal = 0; place = 0 }
start_numbers (Err r) = record { refusal = number_of r; place = place_of r }

-- "Advance at 14 returns the pairs done before the failing one"
unfoldable pub advance_numbers : AdvanceAnswer → AdvanceNumbers
advance_numbers (Ok a) = record { refusal = 0; place = 0; done = a.done; value = a.value }
advance_numbers (Err (Halted.Stopped done)) = record { refusal = number_of Refusal.TooLarge; place = place_of Refusal.TooLarge; done = done; value = 0 }
advance_numbers (Err (Halted.Refused r)) = record { refusal = number_of r; place = place_of r; done = 0; value = 0 }

unfoldable pub no_sheet : ℕ → ℕ → SheetNumbers
no_sheet number place = record { refusal = number; place = place; value = 0; pairs = 0; cells = 0; chains = 0; numerators = replicate 8 0; busiest = 0 }

unfoldable pub sheet_numbers : SheetAnswer → SheetNumbers
sheet_numbers (Ok s) =
    record { refusal = 0; place = 0; value = s.value; pairs = s.pairs; cells = s.cells; chains = s.chains; numerators = s.numerators; busiest = s.busiest }
sheet_numbers (Err r) = no_sheet (number_of r) (place_of r)

-- where the tree part begins in a file, and how long it is
unfoldable pub part_numbers : List ℕ → PartNumbers
part_numbers file = record { from = part_from file; length = length (tree_part file) }

-- an answer, and the area that the call leaves
pub record Left (Answer : Type 0) : Type 0 where
  pub answer : Answer
  pub area : List ℕ

-- the answer told as numbers, with the area as it is left
module _ {A B : Type 0} where
  abbrev pub tell : (A → B) → Left A → Left B
  tell numbers l = record { answer = numbers l.answer; area = l.area }
