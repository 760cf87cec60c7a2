-- The loops from the last chain to the first: what they hold when chains k + 1 to the last are done.
use Prim.Native.Nat.{ℕ, suc, ◌-◌, ◌*◌, ◌^◌, ◌≤◌}
use mathlib.Core.Path.{◌≡◌, refl, ap, subst, ◌∙◌}
use mathlib.Core.List.{List, ◌∷◌, ◌++◌}
use native.Mathlib.Omega.{arith}
use lib.ListN.{length, get_or, set, replicate, length-set}
use Rattle.sums.specs.Lists.{from}
use Rattle.network.specs.Cells.{Span, span, size, stride, cells, strides}
use Rattle.network.specs.Pairs.{factor, factors}
use Rattle.network.proofs.CoverageLaws.{coverage_by_count}
use Rattle.plan.specs.Table.{padded}
use Rattle.plan.specs.Steps.{covering, covers_by, spans_by, factors_by, shape_by, pairs_by}
use Rattle.plan.specs.declared.Chains.{Chains}
use Rattle.plan.specs.declared.Cover.{Cover}
use Rattle.plan.proofs.RowLaws.{back_first, back_more}
use Rattle.plan.proofs.FewLaws.{cells_few, factors_few}

-- ---- cells and strides

pub record Shaped (totals windows counts : List ℕ) (chains k c : ℕ) (s : List ℕ) : Type 0 where
  pub low : k ≤ chains
  pub long : length s ≡ 8
  pub cells_are : c ≡ cells (spans_by totals windows counts k (chains - k))
  pub strides_are : s ≡ replicate k 0 ++ padded chains (strides (spans_by totals windows counts k (chains - k)))

module _ (totals windows counts : List ℕ) (chains : ℕ) where
  pub shaped_first : chains ≤ 8 → Shaped totals windows counts chains chains 1 (replicate 8 0)
  unfolding spans_by from cells strides
  shaped_first h =
      let e : chains - chains ≡ 0 = omega arith in
      record { low = omega arith; long = refl; cells_are = rw e; strides_are = rw e (back_first chains h) }

  pub shaped_few : {k c : ℕ} {s : List ℕ} → chains ≤ 8 → ((i : ℕ) → get_or windows i 0 ≤ 15) → Shaped totals windows counts chains k c s → c ≤ 2 ^ 32
  shaped_few {k} h small w = omega (arith, w.cells_are, cells_few windows small totals counts k (chains - k) (omega arith))

  -- one chain more; chain j + 1's span is S
  module _ {j c t z : ℕ} {s : List ℕ} (S : Span) (e : S ≡ span (coverage_by_count (get_or counts j 0) (get_or totals j 0)) (get_or windows j 0)) (g : suc j ≤ chains) (w : Shaped totals windows counts chains (suc j) c s) (et : t ≡ stride S c) (ez : z ≡ size S) where
    pub shaped_more : Shaped totals windows counts chains j (z * c) (set s j t)
    unfolding spans_by from cells strides padded
    shaped_more =
        let d : chains - j ≡ suc (chains - suc j) = omega arith in
        record {
          low = omega arith;
          long = length-set s j t ∙ w.long;
          cells_are = rw (d, ez, e, w.cells_are);
          strides_are = rw d (ap (λ l. set l j t) w.strides_are ∙ back_more j t _ ∙ ap (λ x. replicate j 0 ++ (x ∷ padded chains (strides (spans_by totals windows counts (suc j) (chains - suc j))))) (et ∙ rw (e, w.cells_are)));
        }

  -- the same as the code has it: k was one more than j
  pub shaped_turn : {k j c t z : ℕ} {s : List ℕ} (v : Cover) → k ≡ suc j → Shaped totals windows counts chains k c s
      → covering v ≡ coverage_by_count (get_or counts j 0) (get_or totals j 0)
      → t ≡ stride (span (covering v) (get_or windows j 0)) c → z ≡ size (span (covering v) (get_or windows j 0))
      → Shaped totals windows counts chains j (z * c) (set s j t)
  shaped_turn {j = j} {c = c} {s = s} v d w ev et ez =
      let x = subst (λ k. Shaped totals windows counts chains k c s) d w in
      shaped_more (span (covering v) (get_or windows j 0)) (ap (λ x. span x (get_or windows j 0)) ev) x.low x et ez

-- ---- the product of the factors

pub record Product (totals windows ls rs js : List ℕ) (chains k p : ℕ) : Type 0 where
  pub low : k ≤ chains
  pub product_is : p ≡ factors_by totals windows ls rs js k (chains - k)

module _ (totals windows ls rs js : List ℕ) (chains : ℕ) where
  pub product_first : Product totals windows ls rs js chains chains 1
  unfolding factors_by covers_by from factors
  product_first = let e : chains - chains ≡ 0 = omega arith in record { low = omega arith; product_is = rw e }

  pub product_few : {k p : ℕ} → chains ≤ 8 → ((i : ℕ) → get_or windows i 0 ≤ 15) → Product totals windows ls rs js chains k p → p ≤ 136 ^ 8
  product_few {k} h small w = omega (arith, w.product_is, factors_few windows small totals ls rs js k (chains - k) (omega arith))

  module _ {j p f : ℕ} (g : suc j ≤ chains) (w : Product totals windows ls rs js chains (suc j) p)
      (ef : f ≡ factor (coverage_by_count (get_or ls j 0) (get_or totals j 0)) (coverage_by_count (get_or rs j 0) (get_or totals j 0)) (coverage_by_count (get_or js j 0) (get_or totals j 0)) (get_or windows j 0)) where
    pub product_more : Product totals windows ls rs js chains j (f * p)
    unfolding factors_by covers_by from factors
    product_more =
        let d : chains - j ≡ suc (chains - suc j) = omega arith in
        record { low = omega arith; product_is = rw (d, ef, w.product_is) }

  pub product_turn : {k j p f : ℕ} (l r o : Cover) → k ≡ suc j → Product totals windows ls rs js chains k p
      → covering l ≡ coverage_by_count (get_or ls j 0) (get_or totals j 0) → covering r ≡ coverage_by_count (get_or rs j 0) (get_or totals j 0) → covering o ≡ coverage_by_count (get_or js j 0) (get_or totals j 0)
      → f ≡ factor (covering l) (covering r) (covering o) (get_or windows j 0)
      → Product totals windows ls rs js chains j (f * p)
  product_turn {j = j} {p = p} l r o d w el er eo ef =
      let x = subst (λ k. Product totals windows ls rs js chains k p) d w in
      product_more x.low x (ef ∙ (λ i. factor (el i) (er i) (eo i) (get_or windows j 0)))

-- ---- the whole

pub shape_is : (ch : Chains) (counts : List ℕ) {k c : ℕ} {s : List ℕ} → Shaped ch.totals ch.windows counts ch.count k c s → k ≤ 0 → record { cells = c; strides = s } ≡ shape_by ch counts
unfolding shape_by
shape_is ch counts {k} {c} {s} w h =
    let z : k ≡ 0 = omega arith in
    let d : ch.count - 0 ≡ ch.count = omega arith in
    λ i. record { cells = (rw (z, d) at w.cells_are) i; strides = (rw (z, d) at w.strides_are) i }

pub pairs_are : (ch : Chains) (ls rs js : List ℕ) {k p : ℕ} → Product ch.totals ch.windows ls rs js ch.count k p → k ≤ 0 → p ≡ pairs_by ch ls rs js
unfolding pairs_by
pairs_are ch ls rs js {k} w h =
    let z : k ≡ 0 = omega arith in
    let d : ch.count - 0 ≡ ch.count = omega arith in
    rw (z, d) at w.product_is
