-- What a walk over the listed pairs tells of an advance: what is left of the budget gives the number done, which stays within the total, and
-- the rest is as the pairs spent say.
use Prim.Native.Nat.{ℕ, ◌+◌, ◌-◌, ◌≤◌, ◌<◌, ◌^◌}
use mathlib.Core.Path.{◌≡◌, refl, sym, ap, ◌∙◌}
use mathlib.Core.Bool.{Bool, true, false, ◌||◌}
use mathlib.Core.List.{List}
use native.Mathlib.Omega.{arith}
use lib.Dec.{ltb, eqb}
use lib.ListN.{length, get_or, take, drop, length-take, length-drop}
use borrow.Author.Tests.{lt-ltb, le-ltb, eq-eqb, ne_eqb}
use Rattle.std.specs.Prelude.{Ok, Err}
use Rattle.calls.specs.declared.Refusal.{Refusal}
use Rattle.sums.specs.Choice.{choose}
use Rattle.network.specs.Run.{Progress, spend}
use Rattle.network.proofs.SpendLaws.{went, spend-length}
use Rattle.modelfile.specs.declared.Model.{Model}
use Rattle.calls.specs.Asked.{ask, pairs_listed}
use Rattle.calls.specs.Advance.{no_advance, value_at, told, advance_in, advance}
use Rattle.calls.specs.Answers.{advanced_to, stopped_at}
use Rattle.plan.specs.Table.{windows_in}
use Rattle.plan.specs.Asking.{Prepared, asked_of, RunFor}
use Rattle.plan.specs.declared.Run.{Run}
use Rattle.plan.specs.declared.Table.{Table}
use Rattle.plan.proofs.PreparedLaws.{some_cells, pairs_counted}
use Rattle.joins.specs.Walk.{state, walk}
use Rattle.joins.specs.declared.Quota.{Quota}
use Rattle.joins.proofs.WalkLaws.{remains, walk-spend}
use Rattle.runs.proofs.StartLaws.{room_is, room}

-- the last cell once all pairs are done, and else 0
pub value_all : (done all v : ℕ) → done ≡ all → v ≡ choose (eqb done all) (λ u. v) (λ u. 0)
value_all done all v e = rw (eq-eqb done all e)

pub value_some : (done all v : ℕ) → (done ≡ all → ⊥) → 0 ≡ choose (eqb done all) (λ u. v) (λ u. 0)
value_some done all v e = rw (ne_eqb done all e)

-- the quota of an advance
abbrev pub quota_at : ℕ → ℕ → Quota
quota_at done budget = record { skip = done; budget = budget; over = false }

module _ (m : Model) (windows : List ℕ) (t : Table) (p : Prepared m windows t) (done budget : ℕ) (area : List ℕ) where
  abbrev ws : List ℕ
  ws = windows_in m windows

  abbrev pub progress : Progress
  progress = spend (2 ^ 64) (take budget (drop done (pairs_listed m ws))) done area

  -- ---- after the walk

  module _ {left : Quota} {after : List ℕ} (w : state left after ≡ walk (pairs_listed m ws) (state (quota_at done budget) area)) where
    left_is : state left after ≡ remains (done - length (pairs_listed m ws)) (budget + done) progress
    left_is = w ∙ walk-spend (pairs_listed m ws) done budget done area

    pub over_is : left.over ≡ progress.stopped
    over_is = ap (λ s. s.over) left_is

    pub area_is : after ≡ progress.area
    area_is = ap (λ s. s.area) left_is

    budget_is : left.budget ≡ budget + done - progress.done
    budget_is = ap (λ s. s.budget) left_is

    -- no more than the budget is spent, and no more than there is
    pub budget_low : left.budget ≤ budget
    budget_low = let g = went (2 ^ 64) (take budget (drop done (pairs_listed m ws))) done area in omega (arith, budget_is, g.number)

    pub done_is : done + (budget - left.budget) ≡ progress.done
    done_is =
        let g = went (2 ^ 64) (take budget (drop done (pairs_listed m ws))) done area in
        let l = length-take budget (drop done (pairs_listed m ws)) in
        omega (arith, budget_is, g.number, g.few, l)

    pub done_low : done ≤ t.pairs → done + (budget - left.budget) ≤ t.pairs
    done_low h =
        let g = went (2 ^ 64) (take budget (drop done (pairs_listed m ws))) done area in
        let l = length-take budget (drop done (pairs_listed m ws)) in
        let d = length-drop done (pairs_listed m ws) in
        omega (arith, done_is, g.number, g.few, l, d, pairs_counted p)

    after_long : length after ≡ length area
    after_long = ap length area_is ∙ spend-length (2 ^ 64) (take budget (drop done (pairs_listed m ws))) done area

  -- ---- the answer, test by test

  module _ {full : Bool} (e : full ≡ (ltb 8192 t.cells || ltb (length area) t.cells)) where
    pub advance_full : full ≡ true → advance_in m ws done budget area ≡ no_advance Refusal.NoRoom area
    unfolding advance_in
    advance_full f = rw (room_is m windows t p area e ∙ f)

    module _ (f : full ≡ false) where
      pub advance_high : t.pairs < done → advance_in m ws done budget area ≡ no_advance Refusal.PastTotal area
      unfolding advance_in
      advance_high h = rw (room_is m windows t p area e ∙ f, ap (λ n. ltb n done) (sym p.tabled.pairs_are) ∙ lt-ltb t.pairs done h)

      pub value_room : {left : Quota} {after : List ℕ} → state left after ≡ walk (pairs_listed m ws) (state (quota_at done budget) area) → (1 ≤ t.cells) × (t.cells ≤ length after)
      value_room w = (some_cells p, omega (arith, p.tabled.cells_are, room m windows t p area e f, after_long w))

      module _ (h : done ≤ t.pairs) {left : Quota} {after : List ℕ} (w : state left after ≡ walk (pairs_listed m ws) (state (quota_at done budget) area)) where
        advance-told : advance_in m ws done budget area ≡ told m ws progress
        unfolding advance_in
        advance-told = rw (room_is m windows t p area e ∙ f, ap (λ n. ltb n done) (sym p.tabled.pairs_are) ∙ le-ltb t.pairs done h)

        pub advance_stopped : left.over ≡ true → advance_in m ws done budget area ≡ record { answer = stopped_at (done + (budget - left.budget)); area = after }
        unfolding told
        advance_stopped o = advance-told ∙ rw (sym (over_is w) ∙ o, done_is w, area_is w)

        pub advance_advanced : left.over ≡ false → (value : ℕ) → value ≡ choose (eqb (done + (budget - left.budget)) t.pairs) (λ u. get_or after (t.cells - 1) 0) (λ u. 0)
            → advance_in m ws done budget area ≡ record { answer = advanced_to (done + (budget - left.budget)) value; area = after }
        unfolding told value_at
        advance_advanced o value v =
            let x : value_at m ws progress.done progress.area ≡ value = sym (v ∙ (λ i. choose (eqb (done_is w i) (p.tabled.pairs_are i)) (λ u. get_or (area_is w i) (p.tabled.cells_are i - 1) 0) (λ u. 0))) in
            advance-told ∙ rw (sym (over_is w) ∙ o) (λ i. record { answer = advanced_to (sym (done_is w) i) (x i); area = sym (area_is w) i })

-- ---- the call

module _ (file : List ℕ) (lower done budget : ℕ) (area : List ℕ) where
  pub advance_refused : {r : Refusal} → RunFor (ask file lower) (Err r) → advance file lower done budget area ≡ no_advance r area
  unfolding advance asked_of
  advance_refused w = rw (← w.answer) refl

  pub advance_granted : {run : Run} → RunFor (ask file lower) (Ok run) → advance file lower done budget area ≡ advance_in run.model (windows_in run.model run.windows) done budget area
  unfolding advance asked_of
  advance_granted w = rw (← w.answer) refl
