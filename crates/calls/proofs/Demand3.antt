-- Demand 3. Idle slots. "Take one model whose start is accepted, then spend any budgets, zeros too, with model, area, lowered channel and number done handed
-- back untouched. After budgets that add up to b, the area holds exactly what the first b index pairs of the listed order leave (all of them, if there are
-- fewer); only a pair that would reach 2^64 stops it earlier. The whole number of pairs is known from routes, windows and tree before any load is looked at,
-- and it is never above that of the plain sequential method." The statement is the record Demand3 and the type of demand_3.
use Prim.Native.Nat.{ℕ, ◌+◌, ◌^◌, ◌≤◌, ◌<◌}
use mathlib.Core.Path.{◌≡◌, refl, sym, ap, subst, ◌∙◌}
use mathlib.Core.Bool.{Bool, true, false, ◌&&◌}
use mathlib.Core.List.{List}
use native.Mathlib.Omega.{arith}
use native.Mathlib.Nat.{lt_of_le_of_lt}
use lib.Dec.{ltb}
use lib.ListN.{length}
use Rattle.sums.specs.Choice.{choose}
use Rattle.sums.proofs.ListLaws.{low_member}
use Rattle.network.specs.Centre.{routes_of}
use Rattle.network.specs.Cells.{all_cells}
use Rattle.network.specs.Pairs.{listed, all_pairs, plain_pairs}
use Rattle.network.specs.Run.{Progress}
use Rattle.network.proofs.CountLaws.{pairs_plain, plain_below}
use Rattle.modelfile.specs.File.{read_file}
use Rattle.modelfile.specs.Network.{centres_of, tree_of}
use Rattle.modelfile.specs.declared.Model.{Model}
use Rattle.std.specs.Prelude.{Ok, Err}
use Rattle.calls.specs.declared.Refusal.{Refusal}
use Rattle.calls.specs.Answers.{Left}
use Rattle.calls.specs.Asked.{ask, granted, on_granted, model_of, windows_for, cells_in, pairs_in}
use Rattle.calls.specs.Plan.{plan, SameButLoads}
use Rattle.calls.specs.Start.{no_start, start}
use Rattle.calls.specs.Advance.{no_advance}
use Rattle.calls.specs.Slots.{sum, last_of, run}
use Rattle.calls.specs.Spending.{Spending, GoesOn}
use Rattle.calls.specs.Answers.{planned_as}
use Rattle.calls.specs.Answers.{StartAnswer, is_started}
use Rattle.calls.specs.Answers.{stopped_at}
use Rattle.calls.proofs.FileLaws.{granted_fit, granted-from, length_routes}
use Rattle.calls.proofs.GrantedLaws.{Begun, begun}
use Rattle.calls.proofs.SlotLaws.{listed_pairs, spent, told_last}
use Rattle.calls.proofs.SpendingLaws.{told_area, told_stopped, spending, goes_on_in}
use Rattle.calls.proofs.ExactLaws.{started_area, started_room, start_is, run_is}
use Rattle.calls.proofs.LoadLaws.{loads_free}

-- ---- the statement

-- "The whole number of pairs is known from routes, windows and tree before any load is looked at, and it is never above that of the plain sequential method"
pub record PairsKnown (file : List ℕ) (lower : ℕ) : Type 0 where
  -- plan tells the product formula, summed over the joins; its arguments are routes, windows and tree
  pub planned : (let m = model_of file in let routes = routes_of (centres_of m) in let windows = windows_for file lower in
      plan file lower ≡ planned_as (all_cells routes windows (tree_of m)) (all_pairs routes windows (tree_of m)))
  -- it is the length of the listed order
  pub listed_so : length (listed (routes_of (centres_of (model_of file))) (windows_for file lower) (tree_of (model_of file)) 0) ≡ pairs_in (model_of file) (windows_for file lower)
  pub plain : pairs_in (model_of file) (windows_for file lower) ≤ plain_pairs (model_of file).centres (windows_for file lower)
  -- "Neither reaches 2^63."
  pub low : pairs_in (model_of file) (windows_for file lower) < 2 ^ 63
  pub plain_low : plain_pairs (model_of file).centres (windows_for file lower) < 2 ^ 63
  -- another file that differs in loads only has the same plan
  pub loads_free : (other : List ℕ) → (read_file other).verdict ≡ Ok tt → SameButLoads (model_of file) (model_of other) → plan file lower ≡ plan other lower

pub record Demand3 (file : List ℕ) (lower : ℕ) (area : List ℕ) : Type 0 where
  -- after budgets b and then bs, zeros too: the first b + sum bs pairs from the start's area, or all; the number done; the value; only a pair that would
  -- reach 2^64 stops it (specs/Spending)
  pub slots : (b : ℕ) (bs : List ℕ) → Spending (model_of file) (windows_for file lower) 0 (b + sum bs) (last_of b bs) (start file lower area).area (run file lower b bs area)
  -- how the budgets are cut up makes no difference
  pub cut_up : (b : ℕ) (bs : List ℕ) (c : ℕ) (cs : List ℕ) → b + sum bs ≡ c + sum cs → (run file lower b bs area).area ≡ (run file lower c cs area).area
  -- a board may go on after 14 (specs/Spending)
  pub goes_on : (b : ℕ) (bs : List ℕ) (done : ℕ) → (run file lower b bs area).answer ≡ stopped_at done → GoesOn file lower done (run file lower b bs area).area
  pub pairs : PairsKnown file lower

-- ---- the proof

pub pairs_known : (file : List ℕ) (lower : ℕ) → ask file lower ≡ granted (model_of file) (windows_for file lower) → PairsKnown file lower
unfolding plan
pairs_known file lower asked =
    let m = model_of file in
    let windows = windows_for file lower in
    let g = (granted_fit file lower m windows asked).0 in
    let f = (granted_fit file lower m windows asked).1 in
    let p : pairs_in m windows ≤ plain_pairs m.centres windows = subst (λ n. pairs_in m windows ≤ plain_pairs n windows) (length_routes m g) (pairs_plain (routes_of (centres_of m)) windows (tree_of m) f.every) in
    let l : plain_pairs m.centres windows < 2 ^ 63 = plain_below m.centres windows g.centres_range.1 f.windows_few (λ n k. low_member windows 15 f.windows_low n k) in
    record {
      planned = ap (λ a. on_granted a (λ r. Err r) (λ m windows. planned_as (cells_in m windows) (pairs_in m windows))) asked;
      listed_so = listed_pairs m windows f;
      plain = p;
      low = lt_of_le_of_lt p l;
      plain_low = l;
      loads_free = λ other v s. loads_free file other (granted-from file lower m windows asked).0 v s lower;
    }

module _ (file : List ℕ) (lower : ℕ) (area : List ℕ) (started : (start file lower area).answer ≡ is_started) where
  b₀ : Begun file lower area
  b₀ = begun file lower area started

  abbrev M : Model
  M = model_of file

  abbrev W : List ℕ
  W = windows_for file lower

  -- the start's area, and what a run answers and leaves from there
  start_area : (start file lower area).area ≡ started_area M W area
  start_area =
      ap (λ s. s.area) (start_is file lower M W b₀.asked area b₀.room)
      ∙ ap (λ t. (choose {A = Left StartAnswer} t (λ u. no_start Refusal.TooLarge area) (λ u. record { answer = is_started; area = started_area M W area })).area) b₀.low

  run_told : (b : ℕ) (bs : List ℕ) → run file lower b bs area ≡ told_last M W (last_of b bs) (spent M W 0 (b + sum bs) (started_area M W area))
  run_told b bs =
      run_is file lower M W b₀.asked area b₀.room b bs
      ∙ ap (λ t. choose t (λ u. no_advance Refusal.TooLarge area) (λ u. told_last M W (last_of b bs) (spent M W 0 (b + sum bs) (started_area M W area)))) b₀.low

  last_told : ℕ → Progress → Progress
  last_told last p = record { done = p.done; area = p.area; stopped = p.stopped && ltb 0 last }

  run_area : (b : ℕ) (bs : List ℕ) → (run file lower b bs area).area ≡ (spent M W 0 (b + sum bs) (started_area M W area)).area
  unfolding last_told
  run_area b bs = ap (λ r. r.area) (run_told b bs) ∙ told_area M W (last_told (last_of b bs) (spent M W 0 (b + sum bs) (started_area M W area)))

  and_left : (s t : Bool) → (s && t) ≡ true → s ≡ true
  and_left true t e = refl
  and_left false t e = e

  goes_on_so : (b : ℕ) (bs : List ℕ) (done : ℕ) → (run file lower b bs area).answer ≡ stopped_at done → GoesOn file lower done (run file lower b bs area).area
  unfolding last_told
  goes_on_so b bs done e =
      let p = spent M W 0 (b + sum bs) (started_area M W area) in
      let t = told_stopped M W (last_told (last_of b bs) p) done (sym (ap (λ r. r.answer) (run_told b bs)) ∙ e) in
      subst (λ B. GoesOn file lower done B) (sym (run_area b bs))
      (subst (λ d. GoesOn file lower d p.area) t.1
      (goes_on_in file lower M W b₀.asked 0 (started_area M W area) (started_room file lower M W b₀.asked area b₀.room) (omega arith) (b + sum bs) (and_left p.stopped (ltb 0 (last_of b bs)) t.0)))

  idle_slots : Demand3 file lower area
  idle_slots = record {
    slots = λ b bs.
        subst (λ A. Spending M W 0 (b + sum bs) (last_of b bs) A (run file lower b bs area)) (sym start_area)
        (subst (Spending M W 0 (b + sum bs) (last_of b bs) (started_area M W area)) (sym (run_told b bs))
        (spending M W (granted_fit file lower M W b₀.asked).1 0 (b + sum bs) (started_area M W area) (last_of b bs)));
    cut_up = λ b bs c cs e. run_area b bs ∙ ap (λ n. (spent M W 0 n (started_area M W area)).area) e ∙ sym (run_area c cs);
    goes_on = goes_on_so;
    pairs = pairs_known file lower b₀.asked;
  }

pub demand_3 : (file : List ℕ) (lower : ℕ) (area : List ℕ) → (start file lower area).answer ≡ is_started → Demand3 file lower area
demand_3 = idle_slots
