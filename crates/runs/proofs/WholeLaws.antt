-- A whole run. Filled and with all its pairs spent, a model is stopped only where its value is 2^64 or more, and otherwise ends with the
-- value in its last cell; no pair writes past the model's cells.
use Prim.Native.Nat.{ℕ, suc, ◌-◌, ◌^◌, ◌≤◌, ◌<◌}
use mathlib.Core.Path.{◌≡◌, refl, sym, ap, ◌∙◌}
use mathlib.Core.Bool.{Bool, true, false}
use mathlib.Core.List.{List, [], ◌∷◌, Memᴰ}
use native.Mathlib.Omega.{arith}
use lib.Dec.{ltb}
use lib.ListN.{length, get_or, take, drop}
use lib.Seq.{drop-set-lt, drop_at}
use Rattle.sums.specs.Choice.{choose}
use Rattle.sums.specs.Lists.{some}
use Rattle.sums.proofs.ListLaws.{take_member}
use Rattle.network.specs.States.{value}
use Rattle.network.specs.Pairs.{Pair}
use Rattle.network.specs.Run.{sum_at, add, Progress, spend}
use Rattle.network.proofs.CountLaws.{listed_result}
use Rattle.network.proofs.SpendLaws.{spend-length}
use Rattle.modelfile.specs.Network.{centres_of, tree_of}
use Rattle.modelfile.specs.declared.Model.{Model}
use Rattle.arith.specs.Capped.{capped}
use Rattle.std.specs.Prelude.{Some, None}
use Rattle.arith.proofs.CappedLaws.{capped_exact, capped_large}
use Rattle.calls.specs.Asked.{cells_in, pairs_in, pairs_listed, filled_by}
use Rattle.calls.specs.Start.{too_large}
use Rattle.calls.proofs.ExactLaws.{started_area, length-filled, length_started, leaf_high, stop_high, last_value, value_low}
use Rattle.plan.specs.Table.{windows_in, routes_in}
use Rattle.plan.specs.Asking.{Prepared}
use Rattle.plan.specs.declared.Table.{Table}
use Rattle.plan.proofs.PreparedLaws.{fits, some_cells}
use Rattle.joins.specs.Walk.{state, walk}
use Rattle.joins.specs.declared.Quota.{Quota}
use Rattle.runs.proofs.SpentLaws.{quota_at, over_is, area_is}

-- cells past every pair's result stay
spend_behind : (limit n : ℕ) (ps : List Pair) (done : ℕ) (A : List ℕ) → ((p : Pair) → Memᴰ p ps → p.result < n) → drop n (spend limit ps done A).area ≡ drop n A
unfolding spend add
spend_behind limit n [] done A f = refl
spend_behind limit n (p ∷ ps) done A f = by (ltb (sum_at A p) limit) (spend_behind limit n ps (suc done) (add A p) (λ q k. f q (Memᴰ.tail k)))
  where
    one : drop n (add A p) ≡ drop n A
    one = drop-set-lt n A p.result (sum_at A p) (f p (Memᴰ.head refl))

    by : (t : Bool) → drop n (spend limit ps (suc done) (add A p)).area ≡ drop n (add A p) → drop n (choose t (λ u. spend limit ps (suc done) (add A p)) (λ u. record { done = done; area = A; stopped = true })).area ≡ drop n A
    by true k = k ∙ one
    by false k = refl

module _ (m : Model) (windows : List ℕ) (t : Table) (p : Prepared m windows t) where
  abbrev ws : List ℕ
  ws = windows_in m windows

  module _ (area : List ℕ) (room : cells_in m ws ≤ length area) {large : Bool} (el : large ≡ some too_large (filled_by m ws)) where
    pub whole_large : large ≡ true → None ≡ capped (value (centres_of m) ws)
    whole_large e = sym (capped_large (leaf_high m ws (fits p) area room (sym el ∙ e)))

    module _ (low : large ≡ false) {filled : List ℕ} (ef : filled ≡ started_area m ws area) where
      pub room_filled : cells_in m ws ≤ length filled
      room_filled = omega (arith, ap length ef, length_started m ws area room)

      abbrev spent : Progress
      spent = spend (2 ^ 64) (take t.pairs (pairs_listed m ws)) 0 (started_area m ws area)

      module _ {left : Quota} {after : List ℕ} (w : state left after ≡ walk (pairs_listed m ws) (state (quota_at 0 t.pairs) filled)) where
        walked : state left after ≡ walk (pairs_listed m ws) (state (quota_at 0 t.pairs) (started_area m ws area))
        walked = w ∙ ap (λ A. walk (pairs_listed m ws) (state (quota_at 0 t.pairs) A)) ef

        over : spent.stopped ≡ left.over
        over = sym (over_is m windows t p 0 t.pairs (started_area m ws area) walked)

        area_spent : after ≡ spent.area
        area_spent = area_is m windows t p 0 t.pairs (started_area m ws area) walked

        pub length_whole : length after ≡ length area
        length_whole = ap length area_spent ∙ spend-length (2 ^ 64) (take t.pairs (pairs_listed m ws)) 0 (started_area m ws area) ∙ length_started m ws area room

        pub whole_kept : (length after ≡ length area) × (drop (cells_in m ws) after ≡ drop (cells_in m ws) area)
        whole_kept = (
          length_whole,
          ap (drop (cells_in m ws)) area_spent
              ∙ spend_behind (2 ^ 64) (cells_in m ws) (take t.pairs (pairs_listed m ws)) 0 (started_area m ws area) (λ q k. omega (arith, listed_result (routes_in m) ws (tree_of m) 0 q (take_member t.pairs (pairs_listed m ws) k)))
              ∙ drop_at (filled_by m ws) (drop (cells_in m ws) area) (cells_in m ws) (length-filled m ws),
        )

        pub whole_stopped : left.over ≡ true → None ≡ capped (value (centres_of m) ws)
        whole_stopped e = sym (capped_large (stop_high m ws (fits p) area room t.pairs (over ∙ e)))

        module _ (e : left.over ≡ false) where
          reach : pairs_in m ws ≤ t.pairs
          reach = omega (arith, p.tabled.pairs_are)

          pub whole_exact : Some (get_or after (t.cells - 1) 0) ≡ capped (value (centres_of m) ws)
          whole_exact =
              ap Some ((λ i. get_or (area_spent i) (p.tabled.cells_are i - 1) 0) ∙ last_value m ws (fits p) area room t.pairs reach (over ∙ e))
              ∙ sym (capped_exact (value_low m ws (fits p) area room t.pairs reach (sym el ∙ low) (over ∙ e)))

          pub last_inside : (1 ≤ t.cells) × (t.cells ≤ length after)
          last_inside = (some_cells p, omega (arith, length_whole, p.tabled.cells_are))
