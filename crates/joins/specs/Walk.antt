-- A walk over pairs: some are skipped, then as many are added as the budget has; a pair that would make its cell reach 2^64 ends the walk.
use Rattle.std.specs.Prelude.{ℕ, zero, suc, ◌^◌, Bool, true, false, ◌||◌, ◌&&◌, ◌==◌, List, [], ◌∷◌, ltb}
use Rattle.network.specs.Pairs.{Pair}
use Rattle.network.specs.Run.{sum_at, add}
use Rattle.joins.specs.declared.Quota.{Quota}

abbrev pub quota : ℕ → ℕ → Bool → Quota
quota skip budget over = record { skip = skip; budget = budget; over = over }

pub record State : Type 0 where
  pub skip : ℕ
  pub budget : ℕ
  pub over : Bool
  pub area : List ℕ

abbrev pub state : Quota → List ℕ → State
state q area = record { skip = q.skip; budget = q.budget; over = q.over; area = area }

-- a pair that is neither skipped nor too late, by whether its sum is below 2^64
unfoldable pub attempt : Bool → ℕ → Pair → List ℕ → State
attempt true budget p area = record { skip = 0; budget = budget; over = false; area = add area p }
attempt false budget p area = record { skip = 0; budget = suc budget; over = true; area = area }

unfoldable pub step : Bool → ℕ → ℕ → Pair → List ℕ → State
step true skip budget p area = record { skip = skip; budget = budget; over = true; area = area }
step false (suc skip) budget p area = record { skip = skip; budget = budget; over = false; area = area }
step false zero zero p area = record { skip = 0; budget = 0; over = false; area = area }
step false zero (suc budget) p area = attempt (ltb (sum_at area p) (2 ^ 64)) budget p area

unfoldable pub walk : List Pair → State → State
walk [] s = s
walk (p ∷ ps) s = walk ps (step s.over s.skip s.budget p s.area)

-- a walk that no pair changes any more: one has ended it, or none is left to skip and the budget is spent
abbrev pub ended : Bool → ℕ → ℕ → Bool
ended over skip budget = over || (skip == 0 && budget == 0)
