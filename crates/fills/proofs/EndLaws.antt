-- What the chains have at a leaf, found one after the other.
use Prim.Native.Nat.{ℕ, zero, suc, ◌+◌, ◌-◌, ◌*◌, ◌≤◌, ◌<◌}
use mathlib.Core.Path.{◌≡◌, refl, sym, ap, ◌∙◌}
use mathlib.Core.List.{List, [], ◌∷◌, ◌++◌, map, zip_with}
use native.Mathlib.Omega.{arith}
use native.Mathlib.Numerals.{add-one}
use native.Mathlib.Nat.{add-zero, add-suc, suc-add, zero-add}
use lib.ListN.{length, get_or, set, take, drop, length-map, length-drop, length-set}
use lib.Seq.{get_or-take, get_or-drop, take-suc-set, length-take-le}
use Rattle.sums.specs.Lists.{from}
use Rattle.sums.proofs.ListLaws.{map-append, from_more, length_from}
use Rattle.network.specs.Cells.{Span, span}
use Rattle.network.proofs.CoverageLaws.{coverage_by_count}
use Rattle.weights.specs.declared.Reach.{Reach}
use Rattle.weights.specs.Leaf.{reach_by, reaches}
use Rattle.plan.specs.Steps.{covering, spans_by}
use Rattle.plan.specs.declared.Chains.{Chains}
use Rattle.plan.specs.declared.Cover.{Cover}
use Rattle.plan.specs.declared.Node.{Node}
use Rattle.fills.specs.Nodes.{span_at, spans_in, loads_in, LeafIn}

zip_by : (g : ℕ → ℕ) (sp : ℕ → Span) (n a : ℕ) (xs : List ℕ) → length xs ≡ n → ((i : ℕ) → i < n → get_or xs i 0 ≡ g (a + i))
    → reaches xs (map sp (from a n)) ≡ map (λ i. reach_by (g i) (sp i)) (from a n)
unfolding zip_with from
zip_by g sp zero a [] e h = refl
zip_by g sp zero a (x ∷ xs) e h = absurd (omega arith)
zip_by g sp (suc n) a [] e h = absurd (omega arith)
zip_by g sp (suc n) a (x ∷ xs) e h =
    let here : x ≡ g a = h 0 (omega arith) ∙ ap g (add-zero a) in
    λ t. reach_by (here t) (sp a) ∷ zip_by g sp n (suc a) xs (omega arith) (λ i l. h (suc i) (omega arith) ∙ ap g (add-suc a i ∙ sym (suc-add a i))) t

-- the chain with index k at a leaf; and the first k chains found
abbrev reach_at : List ℕ → Chains → Node → ℕ → Reach
reach_at loads ch n k = reach_by (get_or loads ((n.centre - 1) * 8 + k) 0) (span_at ch n.counts k)

pub record Found (loads : List ℕ) (ch : Chains) (n : Node) (found : List Reach) (k : ℕ) : Type 0 where
  pub room : length found ≡ 8
  pub list : take k found ≡ map (reach_at loads ch n) (from 0 k)

module _ {loads : List ℕ} {ch : Chains} {n : Node} (leaf : LeafIn loads ch n) where
  pub loads_room : (n.centre - 1) * 8 + ch.count ≤ 128
  loads_room = omega (arith, leaf.centre_range.0, leaf.centre_range.1, ch.chains_few)

  pub loads-length : length (loads_in loads ch n) ≡ ch.count
  loads-length = length-take-le ch.count (drop ((n.centre - 1) * 8) loads) (omega (arith, length-drop ((n.centre - 1) * 8) loads, leaf.loads_long, loads_room))

  pub spans-length : length (spans_in ch n) ≡ length (loads_in loads ch n)
  unfolding spans_by
  spans-length = length-map (from 0 ch.count) (span_at ch n.counts) ∙ length_from 0 ch.count ∙ sym loads-length

  pub found_turn : {found : List Reach} {k : ℕ} {r : Reach} (c : Cover) → Found loads ch n found k → k < ch.count
      → covering c ≡ coverage_by_count (get_or n.counts k 0) (get_or ch.totals k 0)
      → r ≡ reach_by (get_or loads ((n.centre - 1) * 8 + k) 0) (span (covering c) (get_or ch.windows k 0)) → Found loads ch n (set found k r) (k + 1)
  found_turn {found} {k} {r} c f h ec er =
      let l : k < length found = omega (arith, f.room, ch.chains_few) in
      let e : r ≡ reach_at loads ch n k = er ∙ ap (λ s. reach_by (get_or loads ((n.centre - 1) * 8 + k) 0) (span s (get_or ch.windows k 0))) ec in
      record {
        room = length-set found k r ∙ f.room;
        list =
            rw (add-one k) (take-suc-set found k r l) ∙ (λ t. f.list t ++ (e t ∷ []))
            ∙ sym (ap (λ x. map (reach_at loads ch n) (from 0 x)) (add-one k) ∙ ap (map (reach_at loads ch n)) (from_more 0 k)
            ∙ map-append (reach_at loads ch n) (from 0 k) ((0 + k) ∷ [])
            ∙ ap (λ x. map (reach_at loads ch n) (from 0 k) ++ (reach_at loads ch n x ∷ [])) (zero-add k));
      }

  pub found_all : {found : List Reach} {k : ℕ} → Found loads ch n found k → k ≡ ch.count → take ch.count found ≡ reaches (loads_in loads ch n) (spans_in ch n)
  unfolding spans_by
  found_all {found} {k} f h =
      sym (ap (λ x. take x found) h) ∙ f.list ∙ ap (λ x. map (reach_at loads ch n) (from 0 x)) h
      ∙ sym (zip_by (λ i. get_or loads ((n.centre - 1) * 8 + i) 0) (span_at ch n.counts) ch.count 0 (loads_in loads ch n) loads-length
      (λ i l. get_or-take ch.count (drop ((n.centre - 1) * 8) loads) i 0 l ∙ get_or-drop ((n.centre - 1) * 8) loads i 0
      ∙ ap (λ x. get_or loads ((n.centre - 1) * 8 + x) 0) (sym (zero-add i))))
