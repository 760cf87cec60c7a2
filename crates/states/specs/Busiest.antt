-- The first centre with the largest sum of loads.
use Rattle.std.specs.Prelude.{ℕ, ◌+◌, nat_lt, List, [], ◌∷◌, sum, if◌then◌else◌}

-- Past `passed` centres, of which `best` has the most.
abbrev pub busiest_past : ℕ → ℕ → ℕ → List (List ℕ) → ℕ
busiest_past passed best most [] = best
busiest_past passed best most (loads ∷ rest) =
    (if nat_lt most (sum loads) then busiest_past (passed + 1) (passed + 1) (sum loads) rest else busiest_past (passed + 1) best most rest)

-- Centre 1 where there are no loads.
abbrev pub busiest : List (List ℕ) → ℕ
busiest = busiest_past 0 1 0
