-- The spans of a leaf have ends as `LeafEnds` asks: a chain that does not visit the leaf's centre is absent there, and stands at 0.
use Prim.Native.Nat.{ℕ, zero, suc, ◌+◌, ◌≤◌, zero-le}
use mathlib.Core.Path.{◌≡◌, refl, sym, ap, ◌∙◌}
use mathlib.Core.Bool.{Bool, true, false, true≢false}
use mathlib.Core.List.Memᴰ
use mathlib.Core.List.{List, [], ◌∷◌, map, zip_with}
use native.Mathlib.Nat.{le_refl, le_trans, add-zero, add-suc, suc-add}
use native.Mathlib.Omega.{arith}
use lib.ListN.{length, get_or, get_or-map}
use Rattle.sums.specs.Lists.{from, by_number, all, among}
use Rattle.sums.proofs.BoolLaws.{not_some, those_out, among_is}
use Rattle.network.specs.Centre.{Route, visit}
use Rattle.network.specs.Coverage.{Coverage, finished, partial, absent, leaf, under, visits, chain_centres, coverage_by, coverage, coverages}
use Rattle.network.specs.Cells.{Span, only, upto, span, spans_at}
use Rattle.std.specs.List.{All}
use Rattle.std.proofs.lemmas.List.Elements.{All-nil, All-cons}
use Rattle.weights.specs.Leaf.{lowest, highest, reach_by, reaches, Sound, LeafEnds}
use Rattle.weights.proofs.BetweenLaws.{reaches-length}

abbrev pub AtMost : ℕ → List ℕ → Type 0
AtMost top ns = (k : ℕ) → get_or ns k 0 ≤ top

leaf-absent : (routes : List Route) (c k : ℕ) → visits routes k c ≡ false → coverage routes (under (leaf c)) k ≡ absent
unfolding coverage coverage_by under chain_centres
leaf-absent routes c k e =
    ap (λ b. coverage_by b (all (among (c ∷ [])) (chain_centres routes k)))
    (not_some (among (c ∷ [])) (chain_centres routes k) (λ x m. other x (those_out (visits routes k) (from 1 (length routes)) m).1 (among (c ∷ []) x) refl))
  where
    other : (x : ℕ) → visits routes k x ≡ true → (b : Bool) → among (c ∷ []) x ≡ b → among (c ∷ []) x ≡ false
    other x v false a = a
    other x v true a = absurd (true≢false (sym v ∙ ap (visits routes k) (Memᴰ.eq_of_singleton (among_is (c ∷ []) a)) ∙ e))

-- ---- the spans, from chain a on

span_ordered : (s : Span) → lowest s ≤ highest s
unfolding lowest highest
span_ordered (only n) = le_refl n
span_ordered (upto n) = zero-le

span_low : (s : Coverage) (window : ℕ) → highest (span s window) ≤ window
unfolding highest span
span_low finished window = le_refl window
span_low partial window = le_refl window
span_low absent window = zero-le

module _ (cover : ℕ → Coverage) where
  abbrev spans_from : ℕ → List ℕ → List Span
  spans_from a windows = zip_with span (map cover (from a (length windows))) windows

  spans_length : (a : ℕ) (windows : List ℕ) → length (spans_from a windows) ≡ length windows
  unfolding from zip_with
  spans_length a [] = refl
  spans_length a (w ∷ windows) = ap suc (spans_length (suc a) windows)

  spans_low : (a : ℕ) (windows : List ℕ) (k : ℕ) → get_or (map highest (spans_from a windows)) k 0 ≤ get_or windows k 0
  unfolding from zip_with
  spans_low a [] k = le_refl 0
  spans_low a (w ∷ windows) zero = span_low (cover a) w
  spans_low a (w ∷ windows) (suc k) = spans_low (suc a) windows k

  spans_absent : (a : ℕ) (windows : List ℕ) (k : ℕ) → cover (a + k) ≡ absent → get_or (map highest (spans_from a windows)) k 0 ≡ 0
  unfolding from zip_with highest span
  spans_absent a [] k e = refl
  spans_absent a (w ∷ windows) zero e = ap (λ s. highest (span s w)) (ap cover (sym (add-zero a)) ∙ e)
  spans_absent a (w ∷ windows) (suc k) e = spans_absent (suc a) windows k (ap cover (suc-add a k ∙ sym (add-suc a k)) ∙ e)

-- chains with such spans
sound_all : (loads : List ℕ) (spans : List Span) → length spans ≡ length loads → AtMost 15 (map highest spans)
    → ((k : ℕ) → get_or loads k 0 ≡ 0 → get_or (map highest spans) k 0 ≡ 0) → All Sound (reaches loads spans)
unfolding zip_with
sound_all [] [] e w a = All-nil Sound
sound_all [] (s ∷ spans) e w a = absurd (omega arith)
sound_all (load ∷ loads) [] e w a = absurd (omega arith)
sound_all (load ∷ loads) (s ∷ spans) e w a =
    All-cons Sound (reach_by load s) (reaches loads spans)
    (record { ordered = span_ordered s; window = w 0; absent = a 0 })
    (sound_all loads spans (omega arith) (λ k. w (suc k)) (λ k. a (suc k)))

pub leaf_ends : (routes : List Route) (windows loads : List ℕ) (c : ℕ) → length windows ≤ 8 → length loads ≡ length windows → AtMost 15 windows
    → by_number routes c [] ≡ map visit loads → LeafEnds (reaches loads (spans_at routes windows (leaf c)))
unfolding spans_at coverages visits by_number visit
leaf_ends routes windows loads c few same low route =
    let long = spans_length cover 1 windows ∙ sym same in
    record {
      few = omega (arith, reaches-length loads (spans_from cover 1 windows) long);
      sound = sound_all loads (spans_from cover 1 windows) long (λ k. le_trans (spans_low cover 1 windows k) (low k))
          (λ k e. spans_absent cover 1 windows k (leaf-absent routes c (1 + k) (unvisited k e)));
    }
  where
    cover : ℕ → Coverage
    cover = coverage routes (under (leaf c))

    unvisited : (k : ℕ) → get_or loads k 0 ≡ 0 → visits routes (1 + k) c ≡ false
    unvisited k e =
        let n : 1 + k ≡ suc k = omega arith in
        rw n (ap (λ r. get_or r k false) route ∙ get_or-map visit loads k 0 ∙ ap visit e)
