-- Budgets add up: advances with any budgets, zeros too, leave what one spending of their sum leaves, from any number done and any area, also
-- past a pair that stops: that pair stops every later budget too, and a budget of 0 is not stopped. One induction over the budgets.
use Prim.Native.Nat.{ℕ, zero, suc, ◌+◌, ◌^◌, ◌≤◌}
use mathlib.Core.Path.{◌≡◌, refl, sym, ap, ◌∙◌}
use mathlib.Core.Bool.{Bool, true, false, ◌||◌, ◌&&◌}
use mathlib.Core.List.{List, [], ◌∷◌}
use native.Mathlib.Omega.{arith}
use native.Mathlib.Nat.{add-zero}
use lib.Dec.{ltb}
use lib.ListN.{length, take, drop, length-take, length-drop}
use lib.Seq.{take-add}
use borrow.Author.Tests.{lt-ltb, le-ltb}
use Rattle.sums.specs.Choice.{choose}
use Rattle.sums.specs.Sums.{sum_over}
use Rattle.network.specs.Centre.{routes_of}
use Rattle.network.specs.Pairs.{Pair}
use Rattle.network.specs.Run.{Progress, spend}
use Rattle.network.proofs.CountLaws.{length-listed}
use Rattle.network.proofs.SpendLaws.{spend-append, spend_done, spend-length, spend_again, portion_next, went}
use Rattle.network.proofs.WholeLaws.{all_under}
use Rattle.modelfile.specs.Network.{centres_of, tree_of}
use Rattle.modelfile.specs.declared.Model.{Model}
use Rattle.calls.specs.declared.Refusal.{Refusal}
use Rattle.calls.specs.Answers.{Left}
use Rattle.calls.specs.Asked.{granted, ask, on_granted, cells_in, pairs_in, pairs_listed}
use Rattle.calls.specs.Start.{no_room}
use Rattle.calls.specs.Advance.{no_advance, value_at, told, advance_in, advance}
use Rattle.calls.specs.Slots.{on_done, sum, last_of, advances}
use Rattle.calls.specs.Answers.{AdvanceAnswer, advanced_to, stopped_at}
use Rattle.calls.proofs.FileLaws.{Fit, granted_fit}

-- the number of pairs is the length of the listed order
pub listed_pairs : (m : Model) (windows : List ℕ) → Fit m windows → length (pairs_listed m windows) ≡ pairs_in m windows
listed_pairs m windows f = length-listed (routes_of (centres_of m)) windows (tree_of m) [] (all_under (centres_of m) windows f.wide f.on f.visited (tree_of m) f.every) 0

-- n pairs spent after those done
abbrev pub spent : Model → List ℕ → ℕ → ℕ → List ℕ → Progress
spent m windows done n A = spend (2 ^ 64) (take n (drop done (pairs_listed m windows))) done A

-- what the last advance is told, if its budget was `last`: one of 0 is not stopped
abbrev pub told_last : Model → List ℕ → ℕ → Progress → Left AdvanceAnswer
told_last m windows last p = told m windows (record { done = p.done; area = p.area; stopped = p.stopped && ltb 0 last })

-- a room stays a room, whatever is written
pub room_same : (cells : ℕ) (A B : List ℕ) → length B ≡ length A → no_room cells A ≡ false → no_room cells B ≡ false
unfolding no_room
room_same cells A B e r = ap (λ n. ltb 8192 cells || ltb n cells) e ∙ r

-- ---- tests of a budget

and_true : (t : Bool) → (t && true) ≡ t
and_true true = refl
and_true false = refl

and_false : (t : Bool) → (t && false) ≡ false
and_false true = refl
and_false false = refl

last_le : (b : ℕ) (bs : List ℕ) → last_of b bs ≤ b + sum bs
unfolding last_of sum_over
last_le b [] = omega arith
last_le b (c ∷ bs) = omega (arith, last_le c bs)

-- a stop is told again by a later budget of n in all exactly if the last of these is not 0
stop_last : (n last : ℕ) → last ≤ n → (ltb 0 n && ltb 0 last) ≡ ltb 0 last
stop_last n zero h = ap (λ t. ltb 0 n && t) (le-ltb 0 0 (omega arith)) ∙ and_false (ltb 0 n) ∙ sym (le-ltb 0 0 (omega arith))
stop_last n (suc last) h = ap (λ t. t && ltb 0 (suc last)) (lt-ltb 0 n (omega arith))

-- ---- one advance

module _ (file : List ℕ) (lower : ℕ) (m : Model) (windows : List ℕ) (asked : ask file lower ≡ granted m windows) where
  f : Fit m windows
  f = (granted_fit file lower m windows asked).1

  module _ (done : ℕ) (A : List ℕ) (room : no_room (cells_in m windows) A ≡ false) (low : done ≤ pairs_in m windows) where
    pub advance_is : (n : ℕ) → advance file lower done n A ≡ told m windows (spent m windows done n A)
    unfolding advance advance_in
    advance_is n =
        let h : ltb (pairs_in m windows) done ≡ false = le-ltb (pairs_in m windows) done low in
        ap (λ a. on_granted a (λ r. no_advance r A) (λ m windows. advance_in m windows done n A)) asked
        ∙ (λ i. choose (room i) (λ u. no_advance Refusal.NoRoom A) (λ u. choose (h i) (λ u. no_advance Refusal.PastTotal A) (λ u. told m windows (spent m windows done n A))))

    -- the number done never passes the total, and the area keeps its length
    pub spent_low : (n : ℕ) → (spent m windows done n A).done ≤ pairs_in m windows
    spent_low n =
        let w = went (2 ^ 64) (take n (drop done (pairs_listed m windows))) done A in
        omega (arith, w.number, w.few, length-take n (drop done (pairs_listed m windows)), length-drop done (pairs_listed m windows), listed_pairs m windows f)

    pub spent_room : (n : ℕ) → no_room (cells_in m windows) (spent m windows done n A).area ≡ false
    spent_room n = room_same (cells_in m windows) A (spent m windows done n A).area (spend-length (2 ^ 64) (take n (drop done (pairs_listed m windows))) done A) room

    -- no pair stops a budget of 0
    pub last_alone : (b : ℕ) → told m windows (spent m windows done b A) ≡ told_last m windows b (spent m windows done b A)
    unfolding spend
    last_alone zero = ap (λ t. told m windows (record { done = done; area = A; stopped = t })) (sym (ap (λ t. false && t) (le-ltb 0 0 (omega arith))))
    last_alone (suc b) =
        let p = spent m windows done (suc b) A in
        ap (λ t. told m windows (record { done = p.done; area = p.area; stopped = t })) (sym (ap (λ t. p.stopped && t) (lt-ltb 0 (suc b) (omega arith)) ∙ and_true p.stopped))

    -- what is spent after a first portion of b pairs, stopped or not, is told as if all had been spent at once
    pub portions : (b n last : ℕ) → last ≤ n
        → (let p = spent m windows done b A in
        told_last m windows last (spent m windows p.done n p.area) ≡ told_last m windows last (spent m windows done (b + n) A))
    portions b n last h = by p.stopped refl
      where
        l : List Pair
        l = pairs_listed m windows

        p : Progress
        p = spent m windows done b A

        both : spent m windows done (b + n) A ≡ choose p.stopped (λ u. p) (λ u. spend (2 ^ 64) (take n (drop b (drop done l))) p.done p.area)
        both =
            ap (λ ps. spend (2 ^ 64) ps done A) (take-add b n (drop done (pairs_listed m windows)))
            ∙ spend-append (2 ^ 64) (take b (drop done (pairs_listed m windows))) (take n (drop b (drop done (pairs_listed m windows)))) done A

        by : (t : Bool) → p.stopped ≡ t → told_last m windows last (spent m windows p.done n p.area) ≡ told_last m windows last (spent m windows done (b + n) A)
        by true e =
            ap (told_last m windows last) (spend_again (2 ^ 64) (pairs_listed m windows) done b n A e)
            ∙ ap (λ t. told m windows (record { done = p.done; area = p.area; stopped = t })) (stop_last n last h ∙ sym (ap (λ t. t && ltb 0 last) e))
            ∙ sym (ap (told_last m windows last) (both ∙ ap (λ t. choose t (λ u. p) (λ u. spend (2 ^ 64) (take n (drop b (drop done l))) p.done p.area)) e))
        by false e =
            let d : p.done ≡ done + length (take b (drop done l)) = spend_done (2 ^ 64) (take b (drop done l)) done A e in
            let under : done ≤ length l = omega (arith, low, listed_pairs m windows f) in
            let ps : take n (drop p.done l) ≡ take n (drop b (drop done l)) = ap (λ k. take n (drop k l)) d ∙ portion_next l done b n under in
            ap (λ qs. told_last m windows last (spend (2 ^ 64) qs p.done p.area)) ps
            ∙ sym (ap (told_last m windows last) (both ∙ ap (λ t. choose t (λ u. p) (λ u. spend (2 ^ 64) (take n (drop b (drop done l))) p.done p.area)) e))

  -- what was told hands on the number done and the area, stopped or not
  on_told : (p : Progress) (next : ℕ → List ℕ → Left AdvanceAnswer) → on_done (told m windows p).answer (told m windows p).area (λ d. next d (told m windows p).area) ≡ next p.done p.area
  unfolding told
  on_told p next = by p.stopped
    where
      end : Bool → Left AdvanceAnswer
      end t = choose t (λ u. record { answer = stopped_at p.done; area = p.area }) (λ u. record { answer = advanced_to p.done (value_at m windows p.done p.area); area = p.area })

      by : (t : Bool) → on_done (end t).answer (end t).area (λ d. next d (end t).area) ≡ next p.done p.area
      by true = refl
      by false = refl

  -- ---- any number of them

  pub slots : (bs : List ℕ) (b done : ℕ) (A : List ℕ) → no_room (cells_in m windows) A ≡ false → done ≤ pairs_in m windows
      → advances file lower done b bs A ≡ told_last m windows (last_of b bs) (spent m windows done (b + sum bs) A)
  unfolding advances sum_over last_of
  slots [] b done A room low =
      advance_is done A room low b ∙ last_alone done A room low b
      ∙ ap (λ n. told_last m windows b (spent m windows done n A)) (sym (add-zero b))
  slots (c ∷ bs) b done A room low =
      let p = spent m windows done b A in
      (λ i. on_done (advance_is done A room low b i).answer (advance_is done A room low b i).area (λ d. advances file lower d c bs (advance_is done A room low b i).area))
      ∙ on_told p (λ d B. advances file lower d c bs B)
      ∙ slots bs c p.done p.area (spent_room done A room low b) (spent_low done A room low b)
      ∙ portions done A room low b (c + sum bs) (last_of c bs) (last_le c bs)
