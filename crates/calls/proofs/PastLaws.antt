-- "Cells past the model's are never written": whatever a call is asked and answers, a cell past those of its run is as it was.
use Prim.Native.Nat.{ℕ, ◌+◌, ◌-◌, ◌^◌, ◌≤◌}
use mathlib.Core.Path.{◌≡◌, refl, sym, ap, ◌∙◌}
use mathlib.Core.Bool.{Bool, true, false}
use mathlib.Core.List.{List, ◌++◌}
use native.Mathlib.Omega.{arith}
use lib.Dec.{ltb}
use lib.ListN.{length, get_or, take, drop, replicate, length-replicate}
use lib.Seq.{get_or-append-add, get_or-drop}
use Rattle.std.specs.Prelude.{Err}
use Rattle.sums.specs.Choice.{choose}
use Rattle.sums.specs.Lists.{some}
use Rattle.sums.proofs.ListLaws.{take_member, drop_member}
use Rattle.network.specs.Centre.{routes_of}
use Rattle.network.proofs.CountLaws.{listed_result}
use Rattle.network.proofs.SpendLaws.{spend_past}
use Rattle.modelfile.specs.Network.{centres_of, tree_of}
use Rattle.modelfile.specs.declared.Model.{Model}
use Rattle.calls.specs.declared.Refusal.{Refusal}
use Rattle.calls.specs.Answers.{Left}
use Rattle.calls.specs.Asked.{Asked, refused, granted, ask, on_granted, model_of, windows_for, cells_in, pairs_in, pairs_listed, filled_by}
use Rattle.calls.specs.Start.{no_room, too_large, no_start, start_in, start}
use Rattle.calls.specs.Advance.{no_advance, told, advance_in, advance}
use Rattle.calls.specs.Sheet.{sheet_of, cleared, sheet_in, sheet}
use Rattle.calls.specs.Answers.{is_started}
use Rattle.calls.specs.Answers.{SheetAnswer}
use Rattle.calls.proofs.GrantedLaws.{granted_is}
use Rattle.calls.proofs.SlotLaws.{spent}
use Rattle.calls.proofs.SpendingLaws.{told_area}
use Rattle.calls.proofs.ExactLaws.{length-filled}

-- n cells put before what was behind the first n
behind : (front area : List ℕ) (n i : ℕ) → length front ≡ n → n ≤ i → get_or (front ++ drop n area) i 0 ≡ get_or area i 0
behind front area n i e h =
    let d : i ≡ length front + (i - n) = omega (arith, e) in
    let f : n + (i - n) ≡ i = omega arith in
    ap (λ k. get_or (front ++ drop n area) k 0) d ∙ get_or-append-add front (drop n area) (i - n) 0 ∙ get_or-drop n area (i - n) 0 ∙ ap (λ k. get_or area k 0) f

-- what holds of a run that is granted, and of a refusal, which leaves the area
module _ {A : Type 0} (file : List ℕ) (lower : ℕ) (area : List ℕ) (i : ℕ) (h : cells_in (model_of file) (windows_for file lower) ≤ i) (stop : Refusal → Left A) (on : Model → List ℕ → Left A) where
  asked_past : ((r : Refusal) → (stop r).area ≡ area) → ((m : Model) (windows : List ℕ) → cells_in m windows ≤ i → get_or (on m windows).area i 0 ≡ get_or area i 0)
      → get_or (on_granted (ask file lower) stop on).area i 0 ≡ get_or area i 0
  asked_past same past = by (ask file lower) refl
    where
      by : (a : Asked) → ask file lower ≡ a → get_or (on_granted a stop on).area i 0 ≡ get_or area i 0
      by (refused r) e = ap (λ B. get_or B i 0) (same r)
      by (granted m windows) e =
          ap (λ a. get_or (on_granted a stop on).area i 0) (sym e ∙ granted_is file lower m windows e) ∙ past (model_of file) (windows_for file lower) h

pub start_past : (file : List ℕ) (lower : ℕ) (area : List ℕ) (i : ℕ) → cells_in (model_of file) (windows_for file lower) ≤ i → get_or (start file lower area).area i 0 ≡ get_or area i 0
unfolding start start_in
start_past file lower area i h = asked_past file lower area i h (λ r. no_start r area) (λ m windows. start_in m windows area) (λ r. refl) (λ m windows k. by m windows k (no_room (cells_in m windows) area) (some too_large (filled_by m windows)))
  where
    by : (m : Model) (windows : List ℕ) → cells_in m windows ≤ i → (r t : Bool)
        → get_or (choose r (λ u. no_start Refusal.NoRoom area) (λ u. choose t (λ u. no_start Refusal.TooLarge area) (λ u. record { answer = is_started; area = filled_by m windows ++ drop (cells_in m windows) area }))).area i 0 ≡ get_or area i 0
    by m windows k true t = refl
    by m windows k false true = refl
    by m windows k false false = behind (filled_by m windows) area (cells_in m windows) i (length-filled m windows) k

pub advance_past : (file : List ℕ) (lower done budget : ℕ) (area : List ℕ) (i : ℕ) → cells_in (model_of file) (windows_for file lower) ≤ i → get_or (advance file lower done budget area).area i 0 ≡ get_or area i 0
unfolding advance advance_in
advance_past file lower done budget area i h =
    asked_past file lower area i h (λ r. no_advance r area) (λ m windows. advance_in m windows done budget area) (λ r. refl) (λ m windows k. by m windows k (no_room (cells_in m windows) area) (ltb (pairs_in m windows) done))
  where
    by : (m : Model) (windows : List ℕ) → cells_in m windows ≤ i → (r x : Bool)
        → get_or (choose r (λ u. no_advance Refusal.NoRoom area) (λ u. choose x (λ u. no_advance Refusal.PastTotal area) (λ u. told m windows (spent m windows done budget area)))).area i 0 ≡ get_or area i 0
    by m windows k true x = refl
    by m windows k false true = refl
    by m windows k false false =
        ap (λ B. get_or B i 0) (told_area m windows (spent m windows done budget area))
        ∙ spend_past (2 ^ 64) (take budget (drop done (pairs_listed m windows))) done area i
        (λ p q d. omega (arith, listed_result (routes_of (centres_of m)) windows (tree_of m) 0 p (drop_member done (pairs_listed m windows) (take_member budget (drop done (pairs_listed m windows)) q))))

pub sheet_past : (file area : List ℕ) (i : ℕ) → cells_in (model_of file) (windows_for file 0) ≤ i → get_or (sheet file area).area i 0 ≡ get_or area i 0
unfolding sheet sheet_in cleared
sheet_past file area i h = asked_past file 0 area i h (λ r. record { answer = Err r; area = area }) (λ m windows. sheet_in m windows area) (λ r. refl) (λ m windows k. by m windows k (no_room (cells_in m windows) area))
  where
    by : (m : Model) (windows : List ℕ) → cells_in m windows ≤ i → (r : Bool)
        → get_or (choose {A = Left SheetAnswer} r (λ u. record { answer = Err Refusal.NoRoom; area = area }) (λ u. record { answer = sheet_of m; area = replicate (cells_in m windows) 0 ++ drop (cells_in m windows) area })).area i 0 ≡ get_or area i 0
    by m windows k true = refl
    by m windows k false = behind (replicate (cells_in m windows) 0) area (cells_in m windows) i (length-replicate (cells_in m windows) 0) k
