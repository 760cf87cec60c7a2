-- "A start writes each leaf's weights and sets every cell of a join to 0", or gives 1 to 12 or 14 and leaves the area as it is.
use Rattle.std.specs.Prelude.{Err}
use Rattle.std.specs.Prelude.{ℕ, ◌^◌, Bool, ◌||◌, List, ◌++◌, ltb, leb, length, drop}
use Rattle.sums.specs.Choice.{choose}
use Rattle.sums.specs.Lists.{some}
use Rattle.modelfile.specs.declared.Model.{Model}
use Rattle.calls.specs.declared.Refusal.{Refusal}
use Rattle.calls.specs.Answers.{Left}
use Rattle.calls.specs.Asked.{ask, on_granted, cells_in, filled_by}
use Rattle.calls.specs.Answers.{StartAnswer, is_started}

-- 12: "cells above 8192 or above the area's length"
unfoldable pub no_room : ℕ → List ℕ → Bool
no_room cells area = ltb 8192 cells || ltb (length area) cells

-- a number of 2^64 or more
abbrev pub too_large : ℕ → Bool
too_large n = leb (2 ^ 64) n

abbrev pub no_start : Refusal → List ℕ → Left StartAnswer
no_start r area = record { answer = Err r; area = area }

-- "Start gives 14 exactly if a leaf cell is 2^64 or more." "Cells past the model's are never written."
unfoldable pub start_in : Model → List ℕ → List ℕ → Left StartAnswer
start_in m windows area =
    choose (no_room (cells_in m windows) area) (λ u. no_start Refusal.NoRoom area) λ u.
    choose (some too_large (filled_by m windows)) (λ u. no_start Refusal.TooLarge area) λ u.
    record { answer = is_started; area = filled_by m windows ++ drop (cells_in m windows) area }

unfoldable pub start : List ℕ → ℕ → List ℕ → Left StartAnswer
start file lower area = on_granted (ask file lower) (λ r. no_start r area) λ m windows. start_in m windows area
