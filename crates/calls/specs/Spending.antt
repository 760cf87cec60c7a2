-- What is said of pairs spent on an area, from any number done and on any contents, by one advance or by several: which pairs were done,
-- what they left, which pair would have reached 2^64, and what the board is told. Demands 1 and 3 say it of the calls.
use Rattle.std.specs.Prelude.{ℕ, ◌+◌, ◌-◌, ◌^◌, ◌≤◌, ◌<◌, min, ◌≡◌, ◌&&◌, List, ltb, eqb, get_or, take, drop}
use Rattle.sums.specs.Choice.{choose}
use Rattle.network.specs.Run.{sum_at, leave, no_pair}
use Rattle.modelfile.specs.declared.Model.{Model}
use Rattle.calls.specs.Answers.{Left, advance_numbers}
use Rattle.calls.specs.Asked.{cells_in, pairs_in, pairs_listed}
use Rattle.calls.specs.Advance.{advance}
use Rattle.calls.specs.Answers.{AdvanceAnswer, advanced_to, stopped_at}

-- `n` pairs were to be spent after those done, in budgets of which the last was `last`; r is what the last advance answered and left
pub record Spending (m : Model) (windows : List ℕ) (done n last : ℕ) (area : List ℕ) (r : Left AdvanceAnswer) : Type 0 where
  pub steps : ℕ
  -- so many pairs, or all that are left, and no more
  pub few : steps ≤ min n (pairs_in m windows - done)
  -- "the area holds exactly what the first .. index pairs of the listed order leave", one after the other
  pub left : r.area ≡ leave (take steps (drop done (pairs_listed m windows))) area
  -- each of them stays below 2^64
  pub below : (i : ℕ) → i < steps → sum_at (leave (take i (drop done (pairs_listed m windows))) area) (get_or (pairs_listed m windows) (done + i) no_pair) < 2 ^ 64
  -- "only a pair that would reach 2^64 stops it earlier": the next one
  pub fewer : steps < min n (pairs_in m windows - done) → 2 ^ 64 ≤ sum_at r.area (get_or (pairs_listed m windows) (done + steps) no_pair)
  -- "It returns the new number done and, when that equals the total, the value, which is the model's last cell; otherwise the value
  -- returned is 0"; "Advance at 14 returns the pairs done before the failing one". A last budget of 0 adds nothing and is not stopped.
  pub told : advance_numbers r.answer
      ≡ choose (ltb steps (min n (pairs_in m windows - done)) && ltb 0 last) (λ u. record { refusal = 14; place = 0; done = done + steps; value = 0 }) λ u.
      record { refusal = 0; place = 0; done = done + steps; value = choose (eqb (done + steps) (pairs_in m windows)) (λ u. get_or r.area (cells_in m windows - 1) 0) (λ u. 0) }

-- a board that goes on after 14 with the number it was given back: the area stays as it is, a budget of 1 or more stops again at the same
-- number, and a budget of 0 is told that number, with no refusal and no value
pub record GoesOn (file : List ℕ) (lower done : ℕ) (area : List ℕ) : Type 0 where
  pub again : (budget : ℕ) → 1 ≤ budget → advance file lower done budget area ≡ record { answer = stopped_at done; area = area }
  pub idle : advance file lower done 0 area ≡ record { answer = advanced_to done 0; area = area }
