-- What is said of pairs spent (specs/Spending) holds of every spending: read off the law of a run under a limit (went), and off the law that
-- a pair that has stopped a run stops it again (spend_again).
use Prim.Native.Nat.{ℕ, zero, suc, ◌+◌, ◌-◌, ◌^◌, ◌≤◌, ◌<◌, min}
use mathlib.Core.Path.{◌≡◌, refl, sym, ap, subst, ◌∙◌}
use mathlib.Core.Bool.{Bool, true, false, ◌&&◌, true≢false}
use mathlib.Core.List.{List}
use native.Mathlib.Omega.{arith}
use lib.Dec.{ltb, eqb}
use lib.ListN.{length, get_or, take, drop, length-take, length-drop}
use lib.Seq.{take-take, get_or-take, get_or-drop}
use borrow.Author.Tests.{ltb-false, lt-ltb, le-ltb, ne_eqb}
use Rattle.calls.specs.Answers.{number_of, place_of}
use Rattle.sums.specs.Choice.{choose}
use Rattle.network.specs.Pairs.{Pair}
use Rattle.network.specs.Run.{sum_at, leave, no_pair, Progress, spend}
use Rattle.network.proofs.RunLaws.{trace}
use Rattle.network.proofs.SpendLaws.{spend_again, Went, went, trace_is, lead_at}
use Rattle.modelfile.specs.declared.Model.{Model}
use Rattle.calls.specs.declared.Refusal.{Refusal}
use Rattle.calls.specs.Answers.{Left, advance_numbers}
use Rattle.calls.specs.Asked.{Asked, refused, granted, ask, on_granted, cells_in, pairs_in, pairs_listed}
use Rattle.calls.specs.Start.{no_room}
use Rattle.calls.specs.Advance.{no_advance, value_at, told, advance_in, advance}
use Rattle.calls.specs.Spending.{Spending, GoesOn}
use Rattle.calls.specs.Answers.{AdvanceAnswer, advanced_to, stopped_at}
use Rattle.calls.specs.declared.AdvanceNumbers.{AdvanceNumbers}
use Rattle.calls.proofs.FileLaws.{Fit, granted_fit}
use Rattle.calls.proofs.SlotLaws.{listed_pairs, spent, told_last, advance_is, spent_low, spent_room, last_alone}

-- ---- what is told of a progress

module _ (m : Model) (windows : List ℕ) where
  -- by whether a pair has stopped, the number done and the area
  abbrev numbers_at : Bool → ℕ → List ℕ → AdvanceNumbers
  numbers_at stopped done area =
      choose stopped (λ u. record { refusal = 14; place = 0; done = done; value = 0 }) λ u.
      record { refusal = 0; place = 0; done = done; value = choose (eqb done (pairs_in m windows)) (λ u. get_or area (cells_in m windows - 1) 0) (λ u. 0) }

  module _ (p : Progress) where
    abbrev end : Bool → Left AdvanceAnswer
    end stopped =
        choose stopped (λ u. record { answer = stopped_at p.done; area = p.area }) λ u.
        record { answer = advanced_to p.done (value_at m windows p.done p.area); area = p.area }

    pub told_area : (told m windows p).area ≡ p.area
    unfolding told
    told_area = by p.stopped
      where
        by : (t : Bool) → (end t).area ≡ p.area
        by true = refl
        by false = refl

    told_numbers : advance_numbers (told m windows p).answer ≡ numbers_at p.stopped p.done p.area
    unfolding told advance_numbers number_of place_of value_at
    told_numbers = by p.stopped
      where
        by : (t : Bool) → advance_numbers (end t).answer ≡ numbers_at t p.done p.area
        by true = refl
        by false = refl

    pub told_stopped : (d : ℕ) → (told m windows p).answer ≡ stopped_at d → (p.stopped ≡ true) × (p.done ≡ d)
    unfolding told
    told_stopped d e = by p.stopped refl e
      where
        by : (t : Bool) → p.stopped ≡ t → (end t).answer ≡ stopped_at d → (p.stopped ≡ true) × (p.done ≡ d)
        by true s k = (s, cc)
        by false s k = let z : ◌≡◌ {A = ℕ} 0 1 = cc in absurd (omega arith)

-- ---- a spending of n pairs after those done

module _ (m : Model) (windows : List ℕ) (f : Fit m windows) (done n : ℕ) (A : List ℕ) where
  l : List Pair
  l = pairs_listed m windows

  p : Progress
  p = spent m windows done n A

  w : Went (2 ^ 64) (take n (drop done (pairs_listed m windows))) done A
  w = went (2 ^ 64) (take n (drop done (pairs_listed m windows))) done A

  most : length (take n (drop done (pairs_listed m windows))) ≡ min n (pairs_in m windows - done)
  most = length-take n (drop done (pairs_listed m windows)) ∙ ap (min n) (length-drop done (pairs_listed m windows) ∙ ap (λ k. k - done) (listed_pairs m windows f))

  few_n : w.steps ≤ n
  few_n = omega (arith, w.few, length-take n (drop done (pairs_listed m windows)))

  -- the pair at i of those to be spent
  pair_at : (i : ℕ) → i < n → get_or (take n (drop done (pairs_listed m windows))) i no_pair ≡ get_or (pairs_listed m windows) (done + i) no_pair
  pair_at i h = get_or-take n (drop done (pairs_listed m windows)) i no_pair h ∙ get_or-drop done (pairs_listed m windows) i no_pair

  -- it has stopped exactly if fewer pairs were done than there were to do
  stopped_is : p.stopped ≡ ltb w.steps (min n (pairs_in m windows - done))
  unfolding p
  stopped_is = by (spent m windows done n A).stopped refl
    where
      by : (t : Bool) → (spent m windows done n A).stopped ≡ t → (spent m windows done n A).stopped ≡ ltb w.steps (min n (pairs_in m windows - done))
      by true e = e ∙ sym (lt-ltb w.steps (min n (pairs_in m windows - done)) (omega (arith, (w.reached e).0, most)))
      by false e = e ∙ sym (le-ltb w.steps (min n (pairs_in m windows - done)) (omega (arith, w.onward e, most)))

  pub spending : (last : ℕ) → Spending m windows done n last A (told_last m windows last (spent m windows done n A))
  unfolding p w
  spending last = record {
    steps = w.steps;
    few = omega (arith, w.few, most);
    left = told_area m windows q ∙ w.left ∙ ap (λ ps. leave ps A) (take-take w.steps n (drop done (pairs_listed m windows)) few_n);
    below = λ i h. below_at i h;
    fewer = λ h. subst (λ B. 2 ^ 64 ≤ sum_at B (get_or (pairs_listed m windows) (done + w.steps) no_pair)) (sym (told_area m windows q)) (fewer_at h);
    told = told_numbers m windows q ∙ (λ i. numbers_at m windows (stopped_is i && ltb 0 last) (w.number i) (sym (told_area m windows q) i));
  }
    where
      q : Progress
      q = record { done = (spent m windows done n A).done; area = (spent m windows done n A).area; stopped = (spent m windows done n A).stopped && ltb 0 last }

      below_at : (i : ℕ) → i < w.steps → sum_at (leave (take i (drop done (pairs_listed m windows))) A) (get_or (pairs_listed m windows) (done + i) no_pair) < 2 ^ 64
      below_at i h =
          let ps = take n (drop done (pairs_listed m windows)) in
          let near : i < n = omega (arith, few_n) in
          let sums : get_or (trace ps A) i 0 ≡ sum_at (leave (take i ps) A) (get_or ps i no_pair) = trace_is ps A i no_pair (omega (arith, w.few)) in
          let low : get_or (trace ps A) i 0 < 2 ^ 64 = lead_at (2 ^ 64) (trace ps A) i (subst (λ k. i < k) w.leads h) in
          subst (λ x. x < 2 ^ 64) (sums ∙ (λ j. sum_at (leave (take-take i n (drop done (pairs_listed m windows)) (omega (arith, near)) j) A) (pair_at i near j))) low

      fewer_at : w.steps < min n (pairs_in m windows - done) → 2 ^ 64 ≤ sum_at (spent m windows done n A).area (get_or (pairs_listed m windows) (done + w.steps) no_pair)
      fewer_at h =
          let e : (spent m windows done n A).stopped ≡ true = stopped_is ∙ lt-ltb w.steps (min n (pairs_in m windows - done)) h in
          subst (λ x. 2 ^ 64 ≤ sum_at (spent m windows done n A).area x) (pair_at w.steps (omega (arith, h))) (w.reached e).1

  -- where it has stopped, the total is not reached
  pub stopped_low : (spent m windows done n A).stopped ≡ true → done ≤ pairs_in m windows → (spent m windows done n A).done < pairs_in m windows
  unfolding w
  stopped_low e low = omega (arith, w.number, (w.reached e).0, most)

-- only a budget of 1 or more is stopped
pub stopped_some : (m : Model) (windows : List ℕ) (done n : ℕ) (A : List ℕ) → (spent m windows done n A).stopped ≡ true → 1 ≤ n
unfolding spend
stopped_some m windows done zero A e = absurd (true≢false (sym e))
stopped_some m windows done (suc n) A e = omega arith

-- ---- a board that goes on after 14

module _ (file : List ℕ) (lower : ℕ) (m : Model) (windows : List ℕ) (asked : ask file lower ≡ granted m windows) (done : ℕ) (A : List ℕ) (room : no_room (cells_in m windows) A ≡ false) (low : done ≤ pairs_in m windows) where
  pub goes_on_in : (n : ℕ) → (spent m windows done n A).stopped ≡ true → GoesOn file lower (spent m windows done n A).done (spent m windows done n A).area
  unfolding told value_at
  goes_on_in n e = record { again = λ budget h. by budget ∙ ap (λ t. told m windows (at t)) (lt-ltb 0 budget h); idle = by 0 ∙ ap (λ t. told m windows (at t)) (le-ltb 0 0 (omega arith)) ∙ unfinished }
    where
      f : Fit m windows
      f = (granted_fit file lower m windows asked).1

      p : Progress
      p = spent m windows done n A

      at : Bool → Progress
      at t = record { done = p.done; area = p.area; stopped = t }

      by : (budget : ℕ) → advance file lower p.done budget p.area ≡ told m windows (at (ltb 0 budget))
      by budget =
          advance_is file lower m windows asked p.done p.area (spent_room file lower m windows asked done A room low n) (spent_low file lower m windows asked done A room low n) budget
          ∙ ap (told m windows) (spend_again (2 ^ 64) (pairs_listed m windows) done n budget A e)

      unfinished : told m windows (at false) ≡ record { answer = advanced_to p.done 0; area = p.area }
      unfinished =
          ap (λ t. record { answer = advanced_to p.done (choose t (λ u. get_or p.area (cells_in m windows - 1) 0) (λ u. 0)); area = p.area })
          (ne_eqb p.done (pairs_in m windows) (λ d. omega (arith, stopped_low m windows f done n A e low)))

  -- one advance is a spending of its budget
  pub advance_spending : (budget : ℕ) → Spending m windows done budget budget A (advance file lower done budget A)
  advance_spending budget =
      subst (Spending m windows done budget budget A)
      (sym (advance_is file lower m windows asked done A room low budget ∙ last_alone file lower m windows asked done A room low budget))
      (spending m windows (granted_fit file lower m windows asked).1 done budget A budget)

-- whatever the area held and however many pairs were done
pub goes_on : (file : List ℕ) (lower done budget : ℕ) (area : List ℕ) (d : ℕ) → (advance file lower done budget area).answer ≡ stopped_at d → GoesOn file lower d (advance file lower done budget area).area
unfolding advance advance_in
goes_on file lower done budget area d e = by (ask file lower) refl e
  where
    by : (a : Asked) → ask file lower ≡ a
        → (let r = on_granted a (λ r. no_advance r area) (λ m windows. advance_in m windows done budget area) in r.answer ≡ stopped_at d → GoesOn file lower d r.area)
    by (refused r) k s = let z : ◌≡◌ {A = ℕ} 0 1 = cc in absurd (omega arith)
    by (granted m windows) k s = in_room (no_room (cells_in m windows) area) (ltb (pairs_in m windows) done) refl refl s
      where
        in_room : (full high : Bool) → no_room (cells_in m windows) area ≡ full → ltb (pairs_in m windows) done ≡ high
            → (let r = choose full (λ u. no_advance Refusal.NoRoom area) (λ u. choose high (λ u. no_advance Refusal.PastTotal area) (λ u. told m windows (spent m windows done budget area))) in
            r.answer ≡ stopped_at d → GoesOn file lower d r.area)
        in_room true high r h s = let z : ◌≡◌ {A = ℕ} 0 1 = cc in absurd (omega arith)
        in_room false true r h s = let z : ◌≡◌ {A = ℕ} 0 1 = cc in absurd (omega arith)
        in_room false false r h s =
            let t = told_stopped m windows (spent m windows done budget area) d s in
            subst (λ B. GoesOn file lower d B) (sym (told_area m windows (spent m windows done budget area)))
            (subst (λ x. GoesOn file lower x (spent m windows done budget area).area) t.1 (goes_on_in file lower m windows k done area r (ltb-false (pairs_in m windows) done h) budget t.0))
