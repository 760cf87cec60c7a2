-- What an answer shows of what was asked: where plan tells cells and pairs, or a start is accepted, the file is accepted, and the run is that of
-- its model under the windows that the chain to lower leaves.
use Prim.Native.Nat.{ℕ, zero, suc, ◌-◌, ◌≤◌, ◌<◌}
use mathlib.Core.Path.{◌≡◌, refl, sym, ap, ◌∙◌}
use mathlib.Core.Bool.{Bool, true, false}
use mathlib.Core.List.{List, [], ◌∷◌, ◌++◌}
use native.Mathlib.Omega.{arith}
use lib.Dec.{ltb, eqb}
use lib.ListN.{length, get_or, drop}
use borrow.Author.Tests.{ltb-false, eqb-false}
use Rattle.calls.specs.Answers.{plan_numbers}
use Rattle.std.specs.Prelude.{Err}
use Rattle.sums.specs.Choice.{choose}
use Rattle.sums.specs.Lists.{some}
use Rattle.network.specs.States.{value, lowered}
use Rattle.modelfile.specs.Network.{windows_of, centres_of}
use Rattle.modelfile.specs.declared.Model.{Model}
use Rattle.modelfile.proofs.AcceptedLaws.{accepted}
use Rattle.calls.specs.declared.Refusal.{Refusal}
use Rattle.calls.specs.Answers.{Left}
use Rattle.calls.specs.Asked.{Asked, refused, granted, pick_asked, less_one, run_windows, lowering, ask, model_of, windows_for, on_granted, cells_in, pairs_in, filled_by}
use Rattle.calls.specs.Plan.{plan}
use Rattle.calls.specs.Start.{no_room, too_large, no_start, start_in, start}
use Rattle.calls.specs.Answers.{PlanAnswer, planned_as}
use Rattle.calls.specs.Answers.{StartAnswer, is_started}
use Rattle.calls.proofs.FileLaws.{granted-from, length_windows}

-- the chain to lower is one of the model's and has a message to give, where there is one to lower
unfoldable pub Lowers : Model → ℕ → Type 0
Lowers m zero = 0 ≤ m.chains
Lowers m (suc k) = (k < m.chains) × (get_or (windows_of m) k 0 ≡ 0 → ⊥)

lowering_is : (m : Model) (lower : ℕ) (n : Model) (windows : List ℕ) → lowering m lower ≡ granted n windows → (lowering m lower ≡ granted m (run_windows m lower)) × Lowers m lower
unfolding lowering Lowers
lowering_is m zero n windows e = (refl, omega arith)
lowering_is m (suc k) n windows e = by (ltb m.chains (suc k)) (eqb (get_or (windows_of m) k 0) 0) refl refl e
  where
    by : (a z : Bool) → ltb m.chains (suc k) ≡ a → eqb (get_or (windows_of m) k 0) 0 ≡ z
        → pick_asked a (refused Refusal.NoSuchChain) (pick_asked z (refused Refusal.WindowZero) (granted m (less_one (windows_of m) k))) ≡ granted n windows
        → (pick_asked a (refused Refusal.NoSuchChain) (pick_asked z (refused Refusal.WindowZero) (granted m (less_one (windows_of m) k))) ≡ granted m (less_one (windows_of m) k)) × ((k < m.chains) × (get_or (windows_of m) k 0 ≡ 0 → ⊥))
    by true z p q d = let x : ◌≡◌ {A = ℕ} 0 1 = cc in absurd (omega arith)
    by false true p q d = let x : ◌≡◌ {A = ℕ} 0 1 = cc in absurd (omega arith)
    by false false p q d = (refl, (omega (arith, ltb-false m.chains (suc k) p), eqb-false (get_or (windows_of m) k 0) 0 q))

-- what is granted is the file's own model, under the windows of the run
pub granted_is : (file : List ℕ) (lower : ℕ) (m : Model) (windows : List ℕ) → ask file lower ≡ granted m windows → ask file lower ≡ granted (model_of file) (windows_for file lower)
granted_is file lower m windows e =
    let g = granted-from file lower m windows e in
    e ∙ sym g.1 ∙ (lowering_is (model_of file) lower m windows g.1).0

pub record Planned (file : List ℕ) (lower cells pairs : ℕ) : Type 0 where
  pub asked : ask file lower ≡ granted (model_of file) (windows_for file lower)
  pub cells_are : cells ≡ cells_in (model_of file) (windows_for file lower)
  pub pairs_are : pairs ≡ pairs_in (model_of file) (windows_for file lower)

-- plan tells cells and pairs
pub planned : (file : List ℕ) (lower cells pairs : ℕ) → plan file lower ≡ planned_as cells pairs → Planned file lower cells pairs
unfolding plan plan_numbers
planned file lower cells pairs e = by (ask file lower) refl e
  where
    answered : Asked → PlanAnswer
    answered a = on_granted a (λ r. Err r) (λ m windows. planned_as (cells_in m windows) (pairs_in m windows))

    by : (a : Asked) → ask file lower ≡ a → answered a ≡ planned_as cells pairs → Planned file lower cells pairs
    by (refused r) k d = let x : ◌≡◌ {A = ℕ} 0 1 = cc in absurd (omega arith)
    by (granted m windows) k d =
        let g = granted_is file lower m windows k in
        let same : planned_as cells pairs ≡ planned_as (cells_in (model_of file) (windows_for file lower)) (pairs_in (model_of file) (windows_for file lower)) =
        sym d ∙ sym (ap answered k) ∙ ap answered g in
        record { asked = g; cells_are = ap (λ a. (plan_numbers a).cells) same; pairs_are = ap (λ a. (plan_numbers a).pairs) same }

-- a start is accepted: nothing of 1 to 12 is refused, and no leaf is too large
pub record Begun (file : List ℕ) (lower : ℕ) (area : List ℕ) : Type 0 where
  pub asked : ask file lower ≡ granted (model_of file) (windows_for file lower)
  pub room : no_room (cells_in (model_of file) (windows_for file lower)) area ≡ false
  pub low : some too_large (filled_by (model_of file) (windows_for file lower)) ≡ false

pub begun : (file : List ℕ) (lower : ℕ) (area : List ℕ) → (start file lower area).answer ≡ is_started → Begun file lower area
unfolding start start_in
begun file lower area e = by (ask file lower) refl e
  where
    answered : Asked → Left StartAnswer
    answered a = on_granted a (λ r. no_start r area) (λ m windows. start_in m windows area)

    by : (a : Asked) → ask file lower ≡ a → (answered a).answer ≡ is_started → Begun file lower area
    by (refused r) k d = let x : ◌≡◌ {A = ℕ} 0 1 = cc in absurd (omega arith)
    by (granted m windows) k d =
        let g = granted_is file lower m windows k in
        tests g (no_room (cells_in M W) area) (some too_large (filled_by M W)) refl refl (sym (ap (λ a. (answered a).answer) g) ∙ ap (λ a. (answered a).answer) k ∙ d)
      where
        M : Model
        M = model_of file

        W : List ℕ
        W = windows_for file lower

        tests : ask file lower ≡ granted M W → (full large : Bool) → no_room (cells_in M W) area ≡ full → some too_large (filled_by M W) ≡ large
            → (choose full (λ u. no_start Refusal.NoRoom area) (λ u. choose large (λ u. no_start Refusal.TooLarge area) (λ u. record { answer = is_started; area = filled_by M W ++ drop (cells_in M W) area }))).answer ≡ is_started
            → Begun file lower area
        tests g true large p q d = let x : ◌≡◌ {A = ℕ} 0 1 = cc in absurd (omega arith)
        tests g false true p q d = let x : ◌≡◌ {A = ℕ} 0 1 = cc in absurd (omega arith)
        tests g false false p q d = record { asked = g; room = p; low = q }

-- ---- a lowered run's value is the sheet's numerator: the file's windows with one message less

less_is : (h : List ℕ → ℕ) (windows : List ℕ) (k : ℕ) → k < length windows → (get_or windows k 0 ≡ 0 → ⊥) → h (less_one windows k) ≡ lowered (suc k) h windows
unfolding lowered
less_is h [] k l f = absurd (omega arith)
less_is h (zero ∷ windows) zero l f = absurd (f refl)
less_is h (suc n ∷ windows) zero l f = let d : suc n - 1 ≡ n = omega arith in ap (λ x. h (x ∷ windows)) d
less_is h (n ∷ windows) (suc k) l f = less_is (λ rest. h (n ∷ rest)) windows k (omega arith) f

run_lowered : (m : Model) (lower : ℕ) → length (windows_of m) ≡ m.chains → Lowers m lower → value (centres_of m) (run_windows m lower) ≡ lowered lower (value (centres_of m)) (windows_of m)
unfolding lowered Lowers
run_lowered m zero g l = refl
run_lowered m (suc k) g l = less_is (value (centres_of m)) (windows_of m) k (omega (arith, g, l.0)) l.1

pub lowering-value : (n : Model) (lower : ℕ) (m : Model) (windows : List ℕ) → length (windows_of n) ≡ n.chains → lowering n lower ≡ granted m windows
    → value (centres_of m) windows ≡ lowered lower (value (centres_of m)) (windows_of m)
lowering-value n lower m windows g e =
    let r = lowering_is n lower m windows e in
    let same : granted m windows ≡ granted n (run_windows n lower) = sym e ∙ r.0 in
    let d : m ≡ n = cc in
    let w : windows ≡ run_windows n lower = cc in
    (λ i. value (centres_of (d i)) (w i)) ∙ run_lowered n lower g r.1 ∙ ap (λ x. lowered lower (value (centres_of x)) (windows_of x)) (sym d)

pub lowered-value : (file : List ℕ) (lower : ℕ) → ask file lower ≡ granted (model_of file) (windows_for file lower)
    → value (centres_of (model_of file)) (windows_for file lower) ≡ lowered lower (value (centres_of (model_of file))) (windows_of (model_of file))
lowered-value file lower e =
    let g = granted-from file lower (model_of file) (windows_for file lower) e in
    lowering-value (model_of file) lower (model_of file) (windows_for file lower) (length_windows (model_of file) (accepted file g.0)) g.1
