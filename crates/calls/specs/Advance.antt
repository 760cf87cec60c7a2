-- "Advance also takes the pairs done and a budget. It returns the new number done and, when that equals the total, the value, which is
-- the model's last cell; otherwise the value returned is 0. It adds pairs to whatever the area holds". It gives 1 to 14.
use Rattle.std.specs.Prelude.{Err}
use Rattle.std.specs.Prelude.{ℕ, ◌-◌, ◌^◌, List, ltb, eqb, get_or, take, drop}
use Rattle.sums.specs.Choice.{choose}
use Rattle.network.specs.Run.{Progress, spend}
use Rattle.modelfile.specs.declared.Model.{Model}
use Rattle.calls.specs.declared.Halted.{Halted}
use Rattle.calls.specs.declared.Refusal.{Refusal}
use Rattle.calls.specs.Answers.{Left}
use Rattle.calls.specs.Asked.{ask, on_granted, cells_in, pairs_in, pairs_listed}
use Rattle.calls.specs.Start.{no_room}
use Rattle.calls.specs.Answers.{AdvanceAnswer, advanced_to, stopped_at}

abbrev pub no_advance : Refusal → List ℕ → Left AdvanceAnswer
no_advance r area = record { answer = Err (Halted.Refused r); area = area }

-- the model's last cell, once all pairs are done
unfoldable pub value_at : Model → List ℕ → ℕ → List ℕ → ℕ
value_at m windows done area = choose (eqb done (pairs_in m windows)) (λ u. get_or area (cells_in m windows - 1) 0) (λ u. 0)

-- "Advance at 14 returns the pairs done before the failing one and keeps them in the area."
unfoldable pub told : Model → List ℕ → Progress → Left AdvanceAnswer
told m windows p =
    choose p.stopped (λ u. record { answer = stopped_at p.done; area = p.area }) λ u.
    record { answer = advanced_to p.done (value_at m windows p.done p.area); area = p.area }

-- 12; 13: "pairs done above the total"; then the listed pairs after those done, as many as the budget has
unfoldable pub advance_in : Model → List ℕ → ℕ → ℕ → List ℕ → Left AdvanceAnswer
advance_in m windows done budget area =
    choose (no_room (cells_in m windows) area) (λ u. no_advance Refusal.NoRoom area) λ u.
    choose (ltb (pairs_in m windows) done) (λ u. no_advance Refusal.PastTotal area) λ u.
    told m windows (spend (2 ^ 64) (take budget (drop done (pairs_listed m windows))) done area)

unfoldable pub advance : List ℕ → ℕ → ℕ → ℕ → List ℕ → Left AdvanceAnswer
advance file lower done budget area =
    on_granted (ask file lower) (λ r. no_advance r area) λ m windows. advance_in m windows done budget area
