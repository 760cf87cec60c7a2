-- Runs in idle slots: "A run is a start and then advances to the last pair, with nothing altered between." Each slot has a budget; the
-- number done and the area are handed from one advance to the next, also where a pair has stopped one: "Advance at 14 returns the pairs
-- done before the failing one", and a board goes on from there.
use Rattle.std.specs.Prelude.{Ok, Err}
use Rattle.std.specs.Prelude.{ℕ, List, [], ◌∷◌}
use Rattle.sums.specs.Sums.{sum_over}
use Rattle.calls.specs.declared.Halted.{Halted}
use Rattle.calls.specs.Answers.{Left}
use Rattle.calls.specs.Start.{start}
use Rattle.calls.specs.Advance.{no_advance, advance}
use Rattle.calls.specs.Answers.{StartAnswer}
use Rattle.calls.specs.Answers.{AdvanceAnswer}

-- the next advance, with the number done that this one returned; none where it was refused
abbrev pub on_done : AdvanceAnswer → List ℕ → (ℕ → Left AdvanceAnswer) → Left AdvanceAnswer
on_done (Ok a) area next = next a.done
on_done (Err (Halted.Stopped done)) area next = next done
on_done (Err (Halted.Refused r)) area next = no_advance r area

-- what budgets add up to
abbrev pub sum : List ℕ → ℕ
sum bs = sum_over bs (λ b. b)

-- the last of the budgets b and then bs
unfoldable pub last_of : ℕ → List ℕ → ℕ
last_of b [] = b
last_of b (c ∷ bs) = last_of c bs

-- advances with the budgets b and then bs: what the last one answers and leaves
unfoldable pub advances : List ℕ → ℕ → ℕ → ℕ → List ℕ → List ℕ → Left AdvanceAnswer
advances file lower done b [] area = advance file lower done b area
advances file lower done b (c ∷ bs) area =
    let r = advance file lower done b area in
    on_done r.answer r.area (λ done. advances file lower done c bs r.area)

abbrev pub on_started : StartAnswer → List ℕ → Left AdvanceAnswer → Left AdvanceAnswer
on_started (Ok u) area next = next
on_started (Err r) area next = no_advance r area

-- a start, and then those advances
unfoldable pub run : List ℕ → ℕ → ℕ → List ℕ → List ℕ → Left AdvanceAnswer
run file lower b bs area =
    let s = start file lower area in
    on_started s.answer s.area (advances file lower 0 b bs s.area)
