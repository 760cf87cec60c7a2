-- Demand 2. The value is exact. "A run is a start and then advances to the last pair, with nothing altered between. Its value is the sum, over every
-- way to place the windowed messages on their routes, of the product-form weight of report TR-165, exactly. 'Too large' (14) is given by a run exactly
-- when that sum is 2^64 or more, for every tree that fits the area." The statement is the record Demand2 and the type of demand_2.
use Prim.Native.Nat.{ℕ, zero, suc, ◌+◌, ◌-◌, ◌^◌, ◌≤◌, ◌<◌}
use mathlib.Core.Path.{◌≡◌, refl, sym, ap, subst, ◌∙◌}
use mathlib.Core.Bool.{Bool, true, false, ◌&&◌, true≢false}
use mathlib.Core.List.{List, [], ◌∷◌, ◌++◌, Permᴰ}
use native.Mathlib.Omega.{arith}
use lib.Dec.{ltb, eqb}
use lib.ListN.{length, get_or}
use borrow.Author.Tests.{eq-eqb, lt-ltb}
use Rattle.calls.specs.Answers.{number_of}
use Rattle.sums.specs.Choice.{choose}
use Rattle.sums.specs.Lists.{some}
use Rattle.sums.specs.Sums.{sum_over}
use Rattle.network.specs.States.{value}
use Rattle.network.specs.Run.{Progress}
use Rattle.network.proofs.ValueLaws.{G_perm, value-G}
use Rattle.network.proofs.BoundLaws as bound-laws
use Rattle.modelfile.specs.Network.{centres_of}
use Rattle.modelfile.specs.declared.Model.{Model}
use Rattle.calls.specs.declared.Refusal.{Refusal}
use Rattle.calls.specs.Answers.{Left, advance_numbers}
use Rattle.calls.specs.Asked.{ask, granted, model_of, windows_for, cells_in, pairs_in, filled_by}
use Rattle.calls.specs.Plan.{plan}
use Rattle.calls.specs.Start.{no_room, too_large, start}
use Rattle.calls.specs.Advance.{no_advance, value_at, told}
use Rattle.calls.specs.Slots.{sum, last_of, run}
use Rattle.calls.specs.Answers.{planned_as}
use Rattle.calls.specs.Answers.{is_started}
use Rattle.calls.specs.Answers.{AdvanceAnswer, advanced_to, stopped_at}
use Rattle.calls.proofs.FileLaws.{Fit, granted_fit}
use Rattle.calls.proofs.GrantedLaws.{planned, begun}
use Rattle.calls.proofs.SlotLaws.{spent}
use Rattle.calls.proofs.SpendingLaws.{stopped_some}
use Rattle.calls.proofs.ExactLaws.{started_area, room_cells, room_none, run_is, leaf_high, stop_high, cells_le, done_all, last_value, value_low}

-- ---- the statement

-- "the sum, over every way to place the windowed messages on their routes", of the file's model with the chain to lower counted one less
abbrev pub exact : List ℕ → ℕ → ℕ
exact file lower = value (centres_of (model_of file)) (windows_for file lower)

-- some call of a run gives 14: its start, or the advance after the first of its budgets, c and then cs
pub record Gives14 (file : List ℕ) (lower : ℕ) (area : List ℕ) (b : ℕ) (bs : List ℕ) : Type 0 where
  pub c : ℕ
  pub cs : List ℕ
  pub later : List ℕ
  pub so_far : b ∷ bs ≡ (c ∷ cs) ++ later
  pub refused : (advance_numbers (run file lower c cs area).answer).refusal ≡ 14

pub record Demand2 (file : List ℕ) (lower cells pairs : ℕ) (area : List ℕ) (b : ℕ) (bs : List ℕ) : Type 0 where
  -- "Its value is the sum .., exactly"; it stands in the model's last cell, and is at least 1
  pub answered : exact file lower < 2 ^ 64 → (run file lower b bs area).answer ≡ advanced_to pairs (exact file lower)
  pub last_cell : exact file lower < 2 ^ 64 → get_or (run file lower b bs area).area (cells - 1) 0 ≡ exact file lower
  pub at_least_one : 1 ≤ exact file lower
  -- "'Too large' (14) is given by a run exactly when that sum is 2^64 or more"
  pub is_too_large : 2 ^ 64 ≤ exact file lower → Gives14 file lower area b bs
  pub only_then : Gives14 file lower area b bs → 2 ^ 64 ≤ exact file lower
  -- "no needed cell exceeds G(N)", where the start was accepted
  pub never_above : (start file lower area).answer ≡ is_started → (i : ℕ) → i < cells → get_or (run file lower b bs area).area i 0 ≤ exact file lower

-- ---- the proof

-- the budgets up to the last one that is not 0
record Trimmed (b : ℕ) (bs : List ℕ) : Type 0 where
  c : ℕ
  cs : List ℕ
  later : List ℕ
  so_far : b ∷ bs ≡ (c ∷ cs) ++ later
  all : c + sum cs ≡ b + sum bs
  last : 1 ≤ last_of c cs

trim : (b : ℕ) (bs : List ℕ) → 1 ≤ b + sum bs → Trimmed b bs
unfolding sum_over last_of
trim b [] h = record { c = b; cs = []; later = []; so_far = refl; all = refl; last = omega arith }
trim b (x ∷ bs) h = by (x + sum bs) refl (trim x bs)
  where
    by : (n : ℕ) → x + sum bs ≡ n → (1 ≤ x + sum bs → Trimmed x bs) → Trimmed b (x ∷ bs)
    by zero e f = record { c = b; cs = []; later = x ∷ bs; so_far = refl; all = omega arith; last = omega arith }
    by (suc n) e f =
        let t = f (omega arith) in
        record { c = b; cs = t.c ∷ t.cs; later = t.later; so_far = ap (λ l. b ∷ l) t.so_far; all = ap (λ n. b + n) t.all; last = t.last }

module _ (file : List ℕ) (lower : ℕ) (m : Model) (windows : List ℕ) (asked : ask file lower ≡ granted m windows) (area : List ℕ) (room : no_room (cells_in m windows) area ≡ false) where
  f : Fit m windows
  f = (granted_fit file lower m windows asked).1

  held : cells_in m windows ≤ length area
  held = (room_cells m windows area room).1

  begun-at : ℕ → Progress
  begun-at n = spent m windows 0 n (started_area m windows area)

  -- how n pairs end, by whether a stop is told
  abbrev closing : ℕ → Bool → Left AdvanceAnswer
  closing n told =
      let p = spent m windows 0 n (started_area m windows area) in
      choose told (λ u. record { answer = stopped_at p.done; area = p.area }) λ u.
      record { answer = advanced_to p.done (value_at m windows p.done p.area); area = p.area }

  ended : ℕ → ℕ → Bool → Bool → Left AdvanceAnswer
  ended n last leaf stopped = choose leaf (λ u. no_advance Refusal.TooLarge area) (λ u. closing n (stopped && ltb 0 last))

  ends : (b : ℕ) (bs : List ℕ) → run file lower b bs area ≡ ended (b + sum bs) (last_of b bs) (some too_large (filled_by m windows)) (begun-at (b + sum bs)).stopped
  unfolding ended begun-at told
  ends b bs = run_is file lower m windows asked area room b bs

  -- 14 comes only where the value is 2^64 or more, whatever the budgets
  only_large : (b : ℕ) (bs : List ℕ) → (advance_numbers (run file lower b bs area).answer).refusal ≡ 14 → 2 ^ 64 ≤ value (centres_of m) windows
  unfolding begun-at ended advance_numbers number_of
  only_large b bs e =
      by (some too_large (filled_by m windows)) (begun-at (b + sum bs)).stopped (ltb 0 (last_of b bs)) refl refl (sym (ap (λ r. (advance_numbers r.answer).refusal) (ends b bs)) ∙ e)
    where
      at : Bool → Bool → Left AdvanceAnswer
      at leaf told = choose leaf (λ u. no_advance Refusal.TooLarge area) (λ u. closing (b + sum bs) told)

      by : (leaf stopped last : Bool) → some too_large (filled_by m windows) ≡ leaf → (begun-at (b + sum bs)).stopped ≡ stopped → (advance_numbers (at leaf (stopped && last)).answer).refusal ≡ 14 → 2 ^ 64 ≤ value (centres_of m) windows
      by true stopped last x y d = leaf_high m windows f area held x
      by false true last x y d = stop_high m windows f area held (b + sum bs) y
      by false false last x y d = absurd (omega (arith, d))

  -- no cell that a run writes exceeds the value, whatever the budgets
  below_value : some too_large (filled_by m windows) ≡ false → (b : ℕ) (bs : List ℕ) (i : ℕ) → i < cells_in m windows → get_or (run file lower b bs area).area i 0 ≤ value (centres_of m) windows
  unfolding ended begun-at
  below_value low b bs i h =
      subst (λ r. get_or r.area i 0 ≤ value (centres_of m) windows) (sym (ends b bs)) (by (some too_large (filled_by m windows)) ((begun-at (b + sum bs)).stopped && ltb 0 (last_of b bs)) low)
    where
      at : Bool → Bool → Left AdvanceAnswer
      at leaf told = choose leaf (λ u. no_advance Refusal.TooLarge area) (λ u. closing (b + sum bs) told)

      by : (leaf told : Bool) → leaf ≡ false → get_or (at leaf told).area i 0 ≤ value (centres_of m) windows
      by true told x = absurd (true≢false x)
      by false true x = cells_le m windows f area held (b + sum bs) i h
      by false false x = cells_le m windows f area held (b + sum bs) i h

  module _ (b : ℕ) (bs : List ℕ) (reach : pairs_in m windows ≤ b + sum bs) where
    -- below 2^64 neither a leaf nor a pair is too large
    went_on : value (centres_of m) windows < 2 ^ 64 → (some too_large (filled_by m windows) ≡ false) × ((begun-at (b + sum bs)).stopped ≡ false)
    unfolding begun-at
    went_on low = by (some too_large (filled_by m windows)) (begun-at (b + sum bs)).stopped refl refl
      where
        by : (leaf stopped : Bool) → some too_large (filled_by m windows) ≡ leaf → (begun-at (b + sum bs)).stopped ≡ stopped → (some too_large (filled_by m windows) ≡ false) × ((begun-at (b + sum bs)).stopped ≡ false)
        by true stopped x y = absurd (omega (arith, leaf_high m windows f area held x))
        by false true x y = absurd (omega (arith, stop_high m windows f area held (b + sum bs) y))
        by false false x y = (x, y)

    went_ends : value (centres_of m) windows < 2 ^ 64
        → run file lower b bs area ≡ record { answer = advanced_to (pairs_in m windows) (value (centres_of m) windows); area = (begun-at (b + sum bs)).area }
    unfolding value_at begun-at ended
    went_ends low =
        let w = went_on low in
        let d = done_all m windows f area held (b + sum bs) reach w.1 in
        let v = last_value m windows f area held (b + sum bs) reach w.1 in
        let left = (begun-at (b + sum bs)).area in
        ends b bs
        ∙ (λ i. ended (b + sum bs) (last_of b bs) (w.0 i) (w.1 i))
        ∙ (λ i. record { answer = advanced_to (d i) (choose (eqb (d i) (pairs_in m windows)) (λ u. get_or left (cells_in m windows - 1) 0) (λ u. 0)); area = left })
        ∙ (λ i. record { answer = advanced_to (pairs_in m windows) (choose (eq-eqb (pairs_in m windows) (pairs_in m windows) refl i) (λ u. v i) (λ u. 0)); area = left })

    -- from 2^64 on, the start is refused, or the last budget that is not 0 is stopped
    large_ends : 2 ^ 64 ≤ value (centres_of m) windows → Gives14 file lower area b bs
    unfolding begun-at ended advance_numbers number_of
    large_ends high = by (some too_large (filled_by m windows)) (begun-at (b + sum bs)).stopped refl refl
      where
        by : (leaf stopped : Bool) → some too_large (filled_by m windows) ≡ leaf → (begun-at (b + sum bs)).stopped ≡ stopped → Gives14 file lower area b bs
        by true stopped x y =
            record { c = b; cs = []; later = bs; so_far = refl; refused = ap (λ r. (advance_numbers r.answer).refusal) (ends b [] ∙ ap (λ t. ended (b + sum []) (last_of b []) t (begun-at (b + sum [])).stopped) x) }
        by false true x y =
            let t = trim b bs (stopped_some m windows 0 (b + sum bs) (started_area m windows area) y) in
            let stops : (begun-at (t.c + sum t.cs)).stopped ≡ true = ap (λ n. (begun-at n).stopped) t.all ∙ y in
            let told : ended (t.c + sum t.cs) (last_of t.c t.cs) false true ≡ closing (t.c + sum t.cs) true =
            ap (closing (t.c + sum t.cs)) (lt-ltb 0 (last_of t.c t.cs) t.last) in
            record {
              c = t.c;
              cs = t.cs;
              later = t.later;
              so_far = t.so_far;
              refused = ap (λ r. (advance_numbers r.answer).refusal) (ends t.c t.cs ∙ (λ i. ended (t.c + sum t.cs) (last_of t.c t.cs) (x i) (stops i)) ∙ told);
            }
        by false false x y = absurd (omega (arith, value_low m windows f area held (b + sum bs) reach x y))

    at_least_one_in : 1 ≤ value (centres_of m) windows
    at_least_one_in = rw (value-G (centres_of m) (λ c k. (f.wide c k).1) windows) (bound-laws.value_some (centres_of m) (length windows) f.wide f.on f.visited windows refl)

pub demand_2 : (file : List ℕ) (lower cells pairs : ℕ) (area : List ℕ) → plan file lower ≡ planned_as cells pairs → cells ≤ 8192 → cells ≤ length area
    → (b : ℕ) (bs : List ℕ) → pairs ≤ b + sum bs → Demand2 file lower cells pairs area b bs
unfolding begun-at
demand_2 file lower cells pairs area told small fits b bs reach =
    let p = planned file lower cells pairs told in
    let m = model_of file in
    let windows = windows_for file lower in
    let room : no_room (cells_in m windows) area ≡ false = room_none (cells_in m windows) area (subst (λ n. n ≤ 8192) p.cells_are small) (subst (λ n. n ≤ length area) p.cells_are fits) in
    let enough : pairs_in m windows ≤ b + sum bs = subst (λ n. n ≤ b + sum bs) p.pairs_are reach in
    record {
      answered = λ low. ap (λ r. r.answer) (went_ends file lower m windows p.asked area room b bs enough low) ∙ ap (λ n. advanced_to n (value (centres_of m) windows)) (sym p.pairs_are);
      last_cell = λ low.
          ap (λ n. get_or (run file lower b bs area).area (n - 1) 0) p.cells_are
          ∙ ap (λ r. get_or r.area (cells_in m windows - 1) 0) (went_ends file lower m windows p.asked area room b bs enough low)
          ∙ last_value m windows (granted_fit file lower m windows p.asked).1 area (room_cells m windows area room).1 (b + sum bs) enough (went_on file lower m windows p.asked area room b bs enough low).1;
      at_least_one = at_least_one_in file lower m windows p.asked area room b bs enough;
      is_too_large = large_ends file lower m windows p.asked area room b bs enough;
      only_then = λ g. only_large file lower m windows p.asked area room g.c g.cs g.refused;
      never_above = λ s i h. below_value file lower m windows p.asked area room (begun file lower area s).low b bs i (subst (λ n. i < n) p.cells_are h);
    }

-- ---- the order of the centres and the shape of the tree do not matter

-- two files whose centres are the same in any order have the same value; the tree does not stand in it at all
pub order_free : (f g : List ℕ) (lower other : ℕ) → ask f lower ≡ granted (model_of f) (windows_for f lower) → ask g other ≡ granted (model_of g) (windows_for g other)
    → windows_for f lower ≡ windows_for g other → Permᴰ (centres_of (model_of f)) (centres_of (model_of g)) → exact f lower ≡ exact g other
order_free f g lower other p q same perm =
    value-G (centres_of (model_of f)) (λ c k. ((granted_fit f lower (model_of f) (windows_for f lower) p).1.wide c k).1) (windows_for f lower)
    ∙ G_perm perm (windows_for f lower)
    ∙ ap (λ w. Rattle.network.proofs.ValueLaws.G (centres_of (model_of g)) w) same
    ∙ sym (value-G (centres_of (model_of g)) (λ c k. ((granted_fit g other (model_of g) (windows_for g other) q).1.wide c k).1) (windows_for g other))
