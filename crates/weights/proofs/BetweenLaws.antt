-- The indices of a leaf: the highest is one of them and none lies above it, so one weight tells whether any is too large. From the
-- ends of spans they are the indices of the spans.
use Prim.Native.Nat.{ℕ, zero, suc, ◌+◌, ◌-◌, ◌^◌, ◌≤◌, ◌<◌}
use mathlib.Core.Path.{◌≡◌, refl, sym, ap, subst, ◌∙◌}
use mathlib.Core.Bool.{Bool, true, false, not, true≢false}
use mathlib.Core.List.Memᴰ
use mathlib.Core.List.{List, [], ◌∷◌, map, flat_map, zip_with, Memᴰ}
use native.Mathlib.Nat.{le_refl}
use native.Mathlib.Omega.{arith}
use lib.Dec.{leb, ltb}
use lib.ListN.{length, get_or, length-map}
use borrow.Author.Tests.{lt-leb, le-leb, leb-false, ltb-true, ltb-false}
use Rattle.std.specs.Prelude.{Option}
use Rattle.std.specs.Option.{is_some}
use Rattle.arith.specs.Capped.{capped, exact_if}
use Rattle.std.specs.List.{All}
use Rattle.std.proofs.lemmas.List.Elements.{All-head, All-tail}
use Rattle.sums.specs.Lists.{from, some}
use Rattle.sums.proofs.BoolLaws.{some_of, not_some}
use Rattle.sums.proofs.ListLaws.{flat_in, flat_out, from_in, from_out}
use Rattle.network.specs.Cells.{Span, only, upto, index_values, indices, cells}
use Rattle.network.specs.Weight.{weight}
use Rattle.network.proofs.CellLaws.{length-indices}
use Rattle.weights.specs.declared.Reach.{Reach}
use Rattle.weights.specs.Leaf.{lowest, highest, reaches, loads_of, highs_of, between, Sound}
use Rattle.weights.proofs.WeightLaws.{weight_whole}
use Rattle.weights.proofs.MonotonyLaws.{Under, after_rises}

pub between_top : (chains : List Reach) → All Sound chains → Memᴰ (highs_of chains) (between chains)
unfolding between
between_top [] h = Memᴰ.head refl
between_top (r ∷ chains) h =
    let o : r.low ≤ r.high = (All-head Sound r chains h).ordered in
    let e : r.low + (r.high - r.low) ≡ r.high = omega arith in
    flat_in (λ i. map (λ index. i ∷ index) (between chains))
    (subst (λ i. Memᴰ i (from r.low (suc r.high - r.low))) e (from_in r.low (suc r.high - r.low) (r.high - r.low) (omega arith)))
    (Memᴰ.map (λ index. r.high ∷ index) (between_top chains (All-tail Sound r chains h)))

under_more : {n m : ℕ} (ns ms : List ℕ) → n ≤ m → Under ns ms → Under (n ∷ ns) (m ∷ ms)
under_more ns ms h u zero = h
under_more ns ms h u (suc k) = u k

pub between_under : (chains : List Reach) → All Sound chains → (ns : List ℕ) → Memᴰ ns (between chains)
    → (length ns ≡ length chains) × Under ns (highs_of chains)
unfolding between
between_under [] h ns m = let e = Memᴰ.eq_of_singleton m in (ap length e, λ k. subst (λ l. get_or l k 0 ≤ 0) (sym e) (le_refl 0))
between_under (c ∷ chains) h ns m =
    let o : c.low ≤ c.high = (All-head Sound c chains h).ordered in
    let r = flat_out (λ i. map (λ index. i ∷ index) (between chains)) (from c.low (suc c.high - c.low)) m in
    let t = Memᴰ.of_map (λ index. r.0 ∷ index) (between chains) r.2 in
    let f = from_out c.low (suc c.high - c.low) r.0 r.1 in
    let l : r.0 ≤ c.high = omega arith in
    let u = between_under chains (All-tail Sound c chains h) t.0 t.1 in
    (ap length (sym t.2) ∙ ap suc u.0, subst (λ l. Under l (c.high ∷ highs_of chains)) t.2 (under_more t.0 (highs_of chains) l u.1))

-- ---- chains with given loads and spans

span_values : (s : Span) → from (lowest s) (suc (highest s) - lowest s) ≡ index_values s
unfolding lowest highest index_values from
span_values (only n) = let e : suc n - n ≡ 1 = omega arith in rw e
span_values (upto n) = let e : suc n - 0 ≡ suc n = omega arith in rw e

pub between_spans : (loads : List ℕ) (spans : List Span) → length spans ≡ length loads → between (reaches loads spans) ≡ indices spans
unfolding between indices zip_with
between_spans [] [] e = refl
between_spans [] (s ∷ spans) e = absurd (omega arith)
between_spans (load ∷ loads) [] e = absurd (omega arith)
between_spans (load ∷ loads) (s ∷ spans) e = λ t. flat_map (λ i. map (λ index. i ∷ index) (between_spans loads spans (omega arith) t)) (span_values s t)

pub reaches_loads : (loads : List ℕ) (spans : List Span) → length spans ≡ length loads → loads_of (reaches loads spans) ≡ loads
unfolding zip_with
reaches_loads [] [] e = refl
reaches_loads [] (s ∷ spans) e = absurd (omega arith)
reaches_loads (load ∷ loads) [] e = absurd (omega arith)
reaches_loads (load ∷ loads) (s ∷ spans) e = ap (λ l. load ∷ l) (reaches_loads loads spans (omega arith))

pub reaches-length : (loads : List ℕ) (spans : List Span) → length spans ≡ length loads → length (reaches loads spans) ≡ length loads
reaches-length loads spans e = sym (length-map (reaches loads spans) (λ r. r.load)) ∙ ap length (reaches_loads loads spans e)

pub between-cells : (loads : List ℕ) (spans : List Span) → length spans ≡ length loads → length (between (reaches loads spans)) ≡ cells spans
between-cells loads spans e = ap length (between_spans loads spans e) ∙ length-indices spans

-- ---- the largest weight

exact_or : (n : ℕ) (t : Bool) → ltb n (2 ^ 64) ≡ t → (b : Bool) → is_some (exact_if t n) ≡ not b → b ≡ leb (2 ^ 64) n
unfolding exact_if
exact_or n true t true e = absurd (true≢false e)
exact_or n true t false e = sym (lt-leb (2 ^ 64) n (ltb-true n (2 ^ 64) t))
exact_or n false t true e = sym (le-leb (2 ^ 64) n (ltb-false n (2 ^ 64) t))
exact_or n false t false e = absurd (true≢false (sym e))

pub too_large_is : (n : ℕ) {o : Option ℕ} {b : Bool} → o ≡ capped n → is_some o ≡ not b → b ≡ leb (2 ^ 64) n
unfolding capped
too_large_is n {b = b} d e = exact_or n (ltb n (2 ^ 64)) refl b (sym (ap is_some d) ∙ e)

-- a chain that does not visit stands at 0, in the lists of loads and of highest values
pub highs_absent : (chains : List Reach) → All Sound chains → (k : ℕ) → get_or (loads_of chains) k 0 ≡ 0 → get_or (highs_of chains) k 0 ≡ 0
highs_absent [] h k e = refl
highs_absent (r ∷ chains) h zero e = (All-head Sound r chains h).absent e
highs_absent (r ∷ chains) h (suc k) e = highs_absent chains (All-tail Sound r chains h) k e

pub highs-length : (chains : List Reach) → length (highs_of chains) ≡ length (loads_of chains)
highs-length chains = length-map chains (λ r. r.high) ∙ sym (length-map chains (λ r. r.load))

module _ (chains : List Reach) (sound : All Sound chains) where
  below_top : (ns : List ℕ) → Memᴰ ns (between chains) → weight (loads_of chains) ns ≤ weight (loads_of chains) (highs_of chains)
  below_top ns m =
      let r = between_under chains sound ns m in
      omega (
        arith,
        weight_whole (loads_of chains) ns,
        weight_whole (loads_of chains) (highs_of chains),
        after_rises (loads_of chains) ns (highs_of chains) (r.0
            ∙ sym (length-map chains (λ r. r.load))) (highs-length chains) (le_refl 0) r.1 (highs_absent chains sound),
      )

  pub some_is_top : some (λ n. leb (2 ^ 64) n) (map (weight (loads_of chains)) (between chains)) ≡ leb (2 ^ 64) (weight (loads_of chains) (highs_of chains))
  some_is_top = by (leb (2 ^ 64) (weight (loads_of chains) (highs_of chains))) refl
    where
      by : (b : Bool) → leb (2 ^ 64) (weight (loads_of chains) (highs_of chains)) ≡ b
          → some (λ n. leb (2 ^ 64) n) (map (weight (loads_of chains)) (between chains)) ≡ leb (2 ^ 64) (weight (loads_of chains) (highs_of chains))
      by true e = some_of (λ n. leb (2 ^ 64) n) (Memᴰ.map (weight (loads_of chains)) (between_top chains sound)) e ∙ sym e
      by false e = not_some (λ n. leb (2 ^ 64) n) (map (weight (loads_of chains)) (between chains)) (λ n m.
          let r = Memᴰ.of_map (weight (loads_of chains)) (between chains) m in
          lt-leb (2 ^ 64) n (omega (arith, below_top r.0 r.1, r.2, leb-false (2 ^ 64) (weight (loads_of chains) (highs_of chains)) e))) ∙ sym e

  pub top_low : some (λ n. leb (2 ^ 64) n) (map (weight (loads_of chains)) (between chains)) ≡ false → weight (loads_of chains) (highs_of chains) < 2 ^ 64
  top_low e = leb-false (2 ^ 64) (weight (loads_of chains) (highs_of chains)) (sym some_is_top ∙ e)
