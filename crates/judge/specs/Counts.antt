-- What a tally has once more is counted; a count stays at 2^64 - 1.
use Rattle.std.specs.Prelude.{ℕ, ◌+◌, ◌-◌, ◌^◌, ◌==◌, nat_le, List, [], ◌∷◌, Option, None, Some, min, slice_index, slice_set, Bool, true, false, if◌then◌else◌}
use Rattle.judge.specs.declared.tally.Count.{Count}
use Rattle.judge.specs.declared.tally.Count.TheVariants.{Models, Trees, Runs, Values, Large, Below, Edges, Differences}

abbrev pub place : Count → ℕ
place Models = 0
place Trees = 1
place Runs = 2
place Values = 3
place Large = 4
place Below = 5
place Edges = 6
place Differences = 7

abbrev pub counted : List ℕ → Count → List ℕ
counted counts what = slice_set counts (place what) (min (slice_index counts (place what) + 1) (2 ^ 64 - 1))

-- What does not agree is a difference too.
abbrev pub held : List ℕ → Count → Bool → List ℕ
held counts what true = counted counts what
held counts what false = counted (counted counts what) Differences

-- The value of a run, which is not 0.
abbrev pub value_counted : List ℕ → Option ℕ → List ℕ
value_counted counts None = counted (counted counts Values) Large
value_counted counts (Some v) = (if v == 0 then counts else (if nat_le (2 ^ 63) v then counted (counted counts Values) Below else counted counts Values))

abbrev pub values_counted : List ℕ → List (Option ℕ) → List ℕ
values_counted counts [] = counts
values_counted counts (value ∷ values) = values_counted (value_counted counts value) values

-- What two tallies have of one thing.
abbrev pub sum_at : List ℕ → List ℕ → ℕ → ℕ
sum_at counts more k = min (slice_index counts k + slice_index more k) (2 ^ 64 - 1)
