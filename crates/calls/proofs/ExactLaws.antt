-- One run of a granted model, whatever its budgets: what it answers and leaves (run_is), that a stop or a leaf that is too large means that
-- the value is 2^64 or more, and that a run which is not stopped ends with the value in the model's last cell.
use Prim.Native.Nat.{ℕ, ◌+◌, ◌-◌, ◌^◌, ◌≤◌, ◌<◌}
use mathlib.Core.Path.{◌≡◌, refl, sym, ap, subst, ◌∙◌}
use mathlib.Core.Bool.{Bool, true, false, ◌||◌, true≢false}
use mathlib.Core.Logic.{◌⊎◌, inl, inr}
use mathlib.Core.List.{List, [], ◌++◌, Memᴰ}
use native.Mathlib.Omega.{arith}
use native.Mathlib.Nat.{le_refl, le_trans, zero-add}
use lib.Dec.{ltb}
use lib.ListN.{length, get_or, take, drop, length-append, length-drop, get_or-append}
use lib.Seq.{take_all}
use borrow.Author.Tests.{ltb-false, leb-true, leb-false, le-ltb}
use Rattle.sums.specs.Choice.{choose}
use Rattle.sums.specs.Lists.{some}
use Rattle.sums.proofs.BoolLaws.{some_is, none_of}
use Rattle.sums.proofs.ListLaws.{get_or_in}
use Rattle.network.specs.Centre.{routes_of}
use Rattle.network.specs.States.{value}
use Rattle.network.specs.Cells.{start_cell, filled}
use Rattle.network.specs.Run.{sum_at, leave, no_pair}
use Rattle.network.proofs.RunLaws.{trace, length-trace, trace_at, trace-take}
use Rattle.network.proofs.SpendLaws.{Went, went, lead_below}
use Rattle.network.proofs.AreaLaws.{Laid, length-spread, spread_laid, cells_some}
use Rattle.network.proofs.WholeLaws.{all_under, start_le, cell_or_sum, whole_value, whole_le}
use Rattle.modelfile.specs.Network.{centres_of, tree_of}
use Rattle.modelfile.specs.declared.Model.{Model}
use Rattle.calls.specs.declared.Refusal.{Refusal}
use Rattle.calls.specs.Asked.{granted, ask, on_granted, cells_in, pairs_in, pairs_listed, filled_by}
use Rattle.calls.specs.Start.{no_room, too_large, no_start, start_in, start}
use Rattle.calls.specs.Advance.{no_advance}
use Rattle.calls.specs.Slots as slots
use Rattle.calls.specs.Slots.{on_started, sum, last_of, advances}
use Rattle.calls.specs.Answers.{is_started}
use Rattle.calls.proofs.FileLaws.{Fit}
use Rattle.calls.proofs.SlotLaws as slot_laws
use Rattle.calls.proofs.SlotLaws.{listed_pairs, spent, told_last, room_same}

-- the area after a start
abbrev pub started_area : Model → List ℕ → List ℕ → List ℕ
started_area m windows area = filled_by m windows ++ drop (cells_in m windows) area

pub length-filled : (m : Model) (windows : List ℕ) → length (filled_by m windows) ≡ cells_in m windows
unfolding filled
length-filled m windows = length-spread (routes_of (centres_of m)) windows (start_cell (centres_of m)) (tree_of m)

pub length_started : (m : Model) (windows area : List ℕ) → cells_in m windows ≤ length area → length (started_area m windows area) ≡ length area
length_started m windows area h = length-append (filled_by m windows) (drop (cells_in m windows) area) ∙ omega (arith, length-filled m windows, length-drop (cells_in m windows) area)

pub room_cells : (m : Model) (windows area : List ℕ) → no_room (cells_in m windows) area ≡ false → (cells_in m windows ≤ 8192) × (cells_in m windows ≤ length area)
unfolding no_room
room_cells m windows area e = by (ltb 8192 (cells_in m windows)) (ltb (length area) (cells_in m windows)) refl refl e
  where
    by : (a b : Bool) → ltb 8192 (cells_in m windows) ≡ a → ltb (length area) (cells_in m windows) ≡ b → (a || b) ≡ false → (cells_in m windows ≤ 8192) × (cells_in m windows ≤ length area)
    by true b p q d = absurd (true≢false d)
    by false true p q d = absurd (true≢false d)
    by false false p q d = (ltb-false 8192 (cells_in m windows) p, ltb-false (length area) (cells_in m windows) q)

pub room_none : (cells : ℕ) (area : List ℕ) → cells ≤ 8192 → cells ≤ length area → no_room cells area ≡ false
unfolding no_room
room_none cells area h k = λ i. le-ltb 8192 cells h i || le-ltb (length area) cells k i

-- ---- what a run answers and leaves

module _ (file : List ℕ) (lower : ℕ) (m : Model) (windows : List ℕ) (asked : ask file lower ≡ granted m windows) (area : List ℕ) (room : no_room (cells_in m windows) area ≡ false) where
  pub start_is : start file lower area ≡ choose (some too_large (filled_by m windows)) (λ u. no_start Refusal.TooLarge area) (λ u. record { answer = is_started; area = started_area m windows area })
  unfolding start start_in
  start_is =
      ap (λ a. on_granted a (λ r. no_start r area) (λ m windows. start_in m windows area)) asked
      ∙ ap (λ r. choose r (λ u. no_start Refusal.NoRoom area) (λ u. choose (some too_large (filled_by m windows)) (λ u. no_start Refusal.TooLarge area) (λ u. record { answer = is_started; area = started_area m windows area }))) room

  -- a start that is accepted found no leaf too large
  pub started_low : (start file lower area).answer ≡ is_started → some too_large (filled_by m windows) ≡ false
  started_low e = by (some too_large (filled_by m windows)) refl (sym (ap (λ s. s.answer) start_is) ∙ e)
    where
      by : (t : Bool) → some too_large (filled_by m windows) ≡ t → (choose t (λ u. no_start Refusal.TooLarge area) (λ u. record { answer = is_started; area = started_area m windows area })).answer ≡ is_started → some too_large (filled_by m windows) ≡ false
      by false p d = p
      by true p d = let z : ◌≡◌ {A = ℕ} 0 1 = cc in absurd (omega arith)

  -- the start's area is a room too
  pub started_room : no_room (cells_in m windows) (started_area m windows area) ≡ false
  started_room = room_same (cells_in m windows) area (started_area m windows area) (length_started m windows area (room_cells m windows area room).1) room

  -- 14 at the start, or what the first pairs leave
  pub run_is : (b : ℕ) (bs : List ℕ) → slots.run file lower b bs area
      ≡ choose (some too_large (filled_by m windows)) (λ u. no_advance Refusal.TooLarge area) (λ u. told_last m windows (last_of b bs) (spent m windows 0 (b + sum bs) (started_area m windows area)))
  unfolding slots.run
  run_is b bs = ap (λ s. on_started s.answer s.area (advances file lower 0 b bs s.area)) start_is ∙ by (some too_large (filled_by m windows))
    where
      by : (t : Bool) → (let s = choose t (λ u. no_start Refusal.TooLarge area) (λ u. record { answer = is_started; area = started_area m windows area }) in on_started s.answer s.area (advances file lower 0 b bs s.area))
          ≡ choose t (λ u. no_advance Refusal.TooLarge area) (λ u. told_last m windows (last_of b bs) (spent m windows 0 (b + sum bs) (started_area m windows area)))
      by true = refl
      by false = slot_laws.slots file lower m windows asked bs b 0 (started_area m windows area) started_room (omega arith)

-- ---- what the sums mean

module _ (m : Model) (windows : List ℕ) (f : Fit m windows) (area : List ℕ) (room : cells_in m windows ≤ length area) where
  abbrev exact : ℕ
  exact = value (centres_of m) windows

  laid : Laid (routes_of (centres_of m)) windows (start_cell (centres_of m)) (started_area m windows area) (tree_of m) 0
  unfolding filled
  laid = spread_laid (routes_of (centres_of m)) windows (start_cell (centres_of m)) (tree_of m) [] (drop (cells_in m windows) area) 0 refl

  held : cells_in m windows ≤ length (started_area m windows area)
  held = omega (arith, length_started m windows area room)

  -- a cell that a start writes is at most the value
  pub filled-le : (x : ℕ) → Memᴰ x (filled_by m windows) → x ≤ exact
  unfolding filled
  filled-le x k = start_le (centres_of m) windows f.wide f.on f.visited (tree_of m) [] (all_under (centres_of m) windows f.wide f.on f.visited (tree_of m) f.every) x k

  -- and so is a sum that a pair forms
  pub sums_le : (x : ℕ) → Memᴰ x (trace (pairs_listed m windows) (started_area m windows area)) → x ≤ exact
  sums_le x k = whole_le (centres_of m) windows f.wide f.on f.visited (tree_of m) f.every (started_area m windows area) held laid x k

  -- a leaf that is too large, or a stop, means that the value is
  pub leaf_high : some too_large (filled_by m windows) ≡ true → 2 ^ 64 ≤ exact
  leaf_high e = let r = some_is too_large (filled_by m windows) e in le_trans (leb-true (2 ^ 64) r.0 r.2) (filled-le r.0 r.1)

  module _ (n : ℕ) where
    w : Went (2 ^ 64) (take n (pairs_listed m windows)) 0 (started_area m windows area)
    w = went (2 ^ 64) (take n (pairs_listed m windows)) 0 (started_area m windows area)

    pub stop_high : (spent m windows 0 n (started_area m windows area)).stopped ≡ true → 2 ^ 64 ≤ exact
    stop_high e =
        let r = w.reached e in
        let k : 2 ^ 64 ≤ sum_at (leave (take w.steps (take n (pairs_listed m windows))) (started_area m windows area)) (get_or (take n (pairs_listed m windows)) w.steps no_pair) = subst (λ B. 2 ^ 64 ≤ sum_at B (get_or (take n (pairs_listed m windows)) w.steps no_pair)) w.left r.1 in
        le_trans k (sums_le _ (trace-take n (pairs_listed m windows) (started_area m windows area) _ (trace_at (take n (pairs_listed m windows)) (started_area m windows area) w.steps no_pair r.0)))

    -- no cell of the model ever exceeds the value
    pub cells_le : (i : ℕ) → i < cells_in m windows → get_or (spent m windows 0 n (started_area m windows area)).area i 0 ≤ exact
    cells_le i h = subst (λ B. get_or B i 0 ≤ exact) (sym w.left) (by (cell_or_sum (take w.steps (take n (pairs_listed m windows))) (started_area m windows area) i))
      where
        start_cell_lem : get_or (started_area m windows area) i 0 ≤ exact
        start_cell_lem =
            let b : i < length (filled_by m windows) = omega (arith, length-filled m windows) in
            rw (get_or-append (filled_by m windows) (drop (cells_in m windows) area) 0 i b) (filled-le (get_or (filled_by m windows) i 0) (get_or_in 0 (filled_by m windows) i b))

        by : (get_or (leave (take w.steps (take n (pairs_listed m windows))) (started_area m windows area)) i 0 ≡ get_or (started_area m windows area) i 0)
            ⊎ Memᴰ (get_or (leave (take w.steps (take n (pairs_listed m windows))) (started_area m windows area)) i 0) (trace (take w.steps (take n (pairs_listed m windows))) (started_area m windows area))
            → get_or (leave (take w.steps (take n (pairs_listed m windows))) (started_area m windows area)) i 0 ≤ exact
        by (inl e) = rw e start_cell_lem
        by (inr k) = sums_le _ (trace-take n (pairs_listed m windows) (started_area m windows area) _ (trace-take w.steps (take n (pairs_listed m windows)) (started_area m windows area) _ k))

    module _ (reach : pairs_in m windows ≤ n) where
      all_taken : take n (pairs_listed m windows) ≡ pairs_listed m windows
      all_taken = take_all n (pairs_listed m windows) (omega (arith, listed_pairs m windows f))

      -- a run that is not stopped does all pairs and ends with the value in the last cell
      pub done_all : (spent m windows 0 n (started_area m windows area)).stopped ≡ false → (spent m windows 0 n (started_area m windows area)).done ≡ pairs_in m windows
      done_all e = w.number ∙ zero-add w.steps ∙ w.onward e ∙ ap length all_taken ∙ listed_pairs m windows f

      pub last_value : (spent m windows 0 n (started_area m windows area)).stopped ≡ false → get_or (spent m windows 0 n (started_area m windows area)).area (cells_in m windows - 1) 0 ≡ exact
      last_value e =
          let s : take w.steps (take n (pairs_listed m windows)) ≡ pairs_listed m windows = ap (λ k. take k (take n (pairs_listed m windows))) (w.onward e) ∙ take_all (length (take n (pairs_listed m windows))) (take n (pairs_listed m windows)) (le_refl _) ∙ all_taken in
          ap (λ B. get_or B (cells_in m windows - 1) 0) w.left
          ∙ ap (λ ps. get_or (leave ps (started_area m windows area)) (cells_in m windows - 1) 0) s
          ∙ whole_value (centres_of m) windows f.wide f.on f.visited (tree_of m) f.every (started_area m windows area) held laid

      -- if neither a leaf nor a pair is too large, the value is not
      pub value_low : some too_large (filled_by m windows) ≡ false → (spent m windows 0 n (started_area m windows area)).stopped ≡ false → exact < 2 ^ 64
      value_low a e = subst (λ x. x < 2 ^ 64) (last_value e) (subst (λ B. get_or B (cells_in m windows - 1) 0 < 2 ^ 64) (sym w.left) (by (cell_or_sum (take w.steps (take n (pairs_listed m windows))) (started_area m windows area) (cells_in m windows - 1))))
        where
          here : get_or (started_area m windows area) (cells_in m windows - 1) 0 < 2 ^ 64
          here =
              let b : cells_in m windows - 1 < length (filled_by m windows) = omega (arith, length-filled m windows, cells_some (routes_of (centres_of m)) windows (tree_of m)) in
              rw (get_or-append (filled_by m windows) (drop (cells_in m windows) area) 0 (cells_in m windows - 1) b) (leb-false (2 ^ 64) _ (none_of too_large (get_or_in 0 (filled_by m windows) (cells_in m windows - 1) b) a))

          by : (get_or (leave (take w.steps (take n (pairs_listed m windows))) (started_area m windows area)) (cells_in m windows - 1) 0 ≡ get_or (started_area m windows area) (cells_in m windows - 1) 0)
              ⊎ Memᴰ (get_or (leave (take w.steps (take n (pairs_listed m windows))) (started_area m windows area)) (cells_in m windows - 1) 0) (trace (take w.steps (take n (pairs_listed m windows))) (started_area m windows area))
              → get_or (leave (take w.steps (take n (pairs_listed m windows))) (started_area m windows area)) (cells_in m windows - 1) 0 < 2 ^ 64
          by (inl z) = rw z here
          by (inr k) =
              lead_below (2 ^ 64) (trace (take n (pairs_listed m windows)) (started_area m windows area))
              (sym w.leads ∙ w.onward e ∙ sym (length-trace (take n (pairs_listed m windows)) (started_area m windows area))) _
              (trace-take w.steps (take n (pairs_listed m windows)) (started_area m windows area) _ k)
