-- An entry made by counting is the entry of its node: counts by the loads are counts by the routes, counting decides coverage where
-- the centres under the node and the rest are all centres, and the counts at a join are its children's added.
use Prim.Native.Nat.{ℕ, zero, suc, ◌+◌, ◌≤◌, ◌<◌}
use mathlib.Core.Path.{◌≡◌, refl, sym, ap, ◌∙◌}
use mathlib.Core.List.{List, [], ◌∷◌, ◌++◌, map, zip_with}
use native.Mathlib.Omega.{arith}
use lib.ListN.{length, get_or, length-append}
use Rattle.sums.specs.Lists.{from, those, when}
use Rattle.sums.proofs.ListLaws.{map_cong, from_out}
use Rattle.sums.proofs.BoolLaws.{those-append}
use Rattle.network.specs.Centre.{Route}
use Rattle.network.specs.Coverage.{Tree, leaf, join, under, visits, chain_centres, coverage, coverages}
use Rattle.network.specs.Cells.{span, cells, strides, spans_at, base}
use Rattle.network.specs.Pairs.{factors}
use Rattle.network.proofs.CoverageLaws.{Parted, coverage_by_count, counting, parted_left, parted_right}
use Rattle.network.proofs.PostorderLaws.{nodes_in}
use Rattle.plan.specs.Table.{padded, row, centre_at, counts_at, totals_of, pairs_at, entry}
use Rattle.plan.specs.Steps.{loaded_by, count_by, added, covers_by, spans_by, factors_by, shape_by, pairs_by, node_leaf, node_joined}
use Rattle.plan.specs.declared.Chains.{Chains}
use Rattle.plan.specs.declared.Shape.{Shape}
use Rattle.plan.specs.declared.Node.{Node}
use Rattle.plan.proofs.RowLaws.{row_at, row_cong}
use Rattle.plan.proofs.ThoseLaws.{those_cong}

map_shift : {A : Type 0} (f : ℕ → A) (a n : ℕ) → map (λ i. f (suc i)) (from a n) ≡ map f (from (suc a) n)
unfolding from
map_shift f a zero = refl
map_shift f a (suc n) = ap (λ l. f (suc a) ∷ l) (map_shift f (suc a) n)

spans_zip : (totals windows counts : List ℕ) (k n : ℕ) → spans_by totals windows counts k n ≡ zip_with span (covers_by totals counts k n) (map (λ i. get_or windows i 0) (from k n))
unfolding spans_by covers_by from zip_with
spans_zip totals windows counts k zero = refl
spans_zip totals windows counts k (suc n) = ap (λ l. span (coverage_by_count (get_or counts k 0) (get_or totals k 0)) (get_or windows k 0) ∷ l) (spans_zip totals windows counts (suc k) n)

module _ (routes : List Route) (windows : List ℕ) where
  -- ---- coverage by the counts of the table

  module _ (t : Tree) (rest : List ℕ) (parted : Parted routes (under t) rest) where
    pub covers_are : covers_by (totals_of routes windows) (counts_at routes windows t) 0 (length windows) ≡ coverages routes (length windows) t
    unfolding covers_by coverages counts_at totals_of
    covers_are =
        map_cong (from 0 (length windows)) _ (λ i. coverage routes (under t) (suc i))
        (λ i m. let h : i < length windows = omega (arith, (from_out 0 (length windows) i m).1) in
        (λ j. coverage_by_count (row_at (λ k. length (those (visits routes (suc k)) (under t))) (length windows) i h j) (row_at (λ k. length (chain_centres routes (suc k))) (length windows) i h j))
        ∙ sym (counting routes (under t) rest parted (suc i)))
        ∙ map_shift (coverage routes (under t)) 0 (length windows)

  -- ---- counts

  pub counts_add : (l r : Tree) → added (length windows) (counts_at routes windows l) (counts_at routes windows r) ≡ counts_at routes windows (join l r)
  unfolding added counts_at under
  counts_add l r =
      row_cong (length windows) _ _ (λ k h.
      (λ j. row_at (λ k. length (those (visits routes (suc k)) (under l))) (length windows) k h j + row_at (λ k. length (those (visits routes (suc k)) (under r))) (length windows) k h j)
      ∙ sym (ap length (those-append (visits routes (suc k)) (under l) (under r)) ∙ length-append (those (visits routes (suc k)) (under l)) (those (visits routes (suc k)) (under r))))

  -- ---- by the loads

  module _ (loads : List ℕ) (agree : (k c : ℕ) → k < length windows → 1 ≤ c → c ≤ length routes → loaded_by loads k c ≡ visits routes (suc k) c) where
    pub totals_are : row (length windows) (λ k. count_by loads k (from 1 (length routes))) ≡ totals_of routes windows
    unfolding totals_of count_by chain_centres
    totals_are = row_cong (length windows) _ _ (λ k h. ap length (those_cong (loaded_by loads k) (visits routes (suc k)) (from 1 (length routes)) (λ c m. let b = from_out 1 (length routes) c m in agree k c h b.0 (omega arith))))

    pub leaf_counts : (c : ℕ) → 1 ≤ c → c ≤ length routes → row (length windows) (λ k. count_by loads k (c ∷ [])) ≡ counts_at routes windows (leaf c)
    unfolding counts_at count_by under those
    leaf_counts c a b = row_cong (length windows) _ _ (λ k h. ap (λ z. length (when z (c ∷ []) ++ [])) (agree k c h a b))

  -- ---- entries

  module _ (ch : Chains) (ec : ch.count ≡ length windows) (et : ch.totals ≡ totals_of routes windows) (ew : map (λ i. get_or ch.windows i 0) (from 0 (length windows)) ≡ windows) where
    pub spans_are : (t : Tree) (rest : List ℕ) → Parted routes (under t) rest → spans_by ch.totals ch.windows (counts_at routes windows t) 0 ch.count ≡ spans_at routes windows t
    unfolding spans_at
    spans_are t rest p = rw (ec, et) (spans_zip (totals_of routes windows) ch.windows (counts_at routes windows t) 0 (length windows) ∙ (λ j. zip_with span (covers_are t rest p j) (ew j)))

    shape_at : (t : Tree) (rest : List ℕ) → Parted routes (under t) rest → shape_by ch (counts_at routes windows t) ≡ record { cells = cells (spans_at routes windows t); strides = padded (length windows) (strides (spans_at routes windows t)) }
    unfolding shape_by
    shape_at t rest p = λ j. record { cells = cells (spans_are t rest p j); strides = padded (ec j) (strides (spans_are t rest p j)) }

    pairs_at_lem : (l r : Tree) (rest : List ℕ) → Parted routes (under (join l r)) rest → pairs_by ch (counts_at routes windows l) (counts_at routes windows r) (counts_at routes windows (join l r)) ≡ pairs_at routes windows (join l r)
    unfolding pairs_by factors_by pairs_at under
    pairs_at_lem l r rest p =
        rw (ec, et) (λ j. factors
        (covers_are l (under r ++ rest) (parted_left routes (under l) (under r) rest p) j)
        (covers_are r (under l ++ rest) (parted_right routes (under l) (under r) rest p) j)
        (covers_are (join l r) rest p j) (ew j))

    node_with : ℕ → ℕ → ℕ → List ℕ → Shape → ℕ → Node
    node_with centre span b counts s pairs = record { centre = centre; span = span; counts = counts; base = b; cells = s.cells; strides = s.strides; pairs = pairs }

    pub leaf-entry : (loads : List ℕ) → ((k c : ℕ) → k < length windows → 1 ≤ c → c ≤ length routes → loaded_by loads k c ≡ visits routes (suc k) c)
        → (c b : ℕ) → 1 ≤ c → c ≤ length routes → (rest : List ℕ) → Parted routes (under (leaf c)) rest → node_leaf ch loads c b ≡ entry routes windows (leaf c) b
    unfolding node_with node_leaf entry centre_at nodes_in base pairs_at
    leaf-entry loads agree c b low high rest p =
        let e : row ch.count (λ k. count_by loads k (c ∷ [])) ≡ counts_at routes windows (leaf c) = rw ec (leaf_counts loads agree c low high) in
        (λ j. node_with c 1 b (e j) (shape_by ch (e j)) 0) ∙ (λ j. node_with c 1 b (counts_at routes windows (leaf c)) (shape_at (leaf c) rest p j) 0)

    pub join-entry : (l r : Tree) (bl br b start : ℕ) → b ≡ base routes windows (join l r) start → (rest : List ℕ) → Parted routes (under (join l r)) rest
        → node_joined ch (entry routes windows l bl) (entry routes windows r br) b ≡ entry routes windows (join l r) start
    unfolding node_with node_joined entry centre_at nodes_in
    join-entry l r bl br b start eb rest p =
        let n = nodes_in l + nodes_in r + 1 in
        let e : added ch.count (counts_at routes windows l) (counts_at routes windows r) ≡ counts_at routes windows (join l r) = rw ec (counts_add l r) in
        (λ j. node_with 0 n (eb j) (e j) (shape_by ch (e j)) (pairs_by ch (counts_at routes windows l) (counts_at routes windows r) (e j)))
        ∙ (λ j. node_with 0 n (base routes windows (join l r) start) (counts_at routes windows (join l r)) (shape_at (join l r) rest p j) (pairs_at_lem l r rest p j))
