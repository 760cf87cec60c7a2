-- The whole model: after all listed pairs its last cell is the sum over all states, and neither a start nor a pair on the way makes a cell
-- larger than that sum. For any tree that has each centre once, and any order of the centres.
use Prim.Native.Nat.{ℕ, ◌+◌, ◌*◌, ◌-◌, ◌≤◌, ◌<◌, zero-le}
use mathlib.Core.Path.{◌≡◌, refl, sym, ap, subst, ◌∙◌}
use mathlib.Core.Bool.{true}
use mathlib.Core.Logic.{◌⊎◌, inl, inr}
use mathlib.Core.List.Memᴰ
use mathlib.Core.List.Permᴰ
use mathlib.Core.List.{List, [], ◌∷◌, ◌++◌, map, flat_map, zip_with, append-nil, Memᴰ, Permᴰ}
use native.Mathlib.Omega.{arith}
use lib.ListN.{length, get_or, set, length-map}
use lib.Seq.{get_or-set_same, get_or-set_other, set_out}
use native.Mathlib.Decide.{ℕ_discrete, dec_lt}
use Rattle.sums.specs.Lists.{from, some}
use Rattle.sums.specs.Sums.{sum_over}
use Rattle.sums.proofs.BoolLaws.{some_is, some_of}
use Rattle.sums.proofs.ListLaws.{flat_out, length_from}
use Rattle.sums.proofs.SumLaws.{sum_over-map}
use Rattle.sums.proofs.PermLaws.{perm_in, perm_map}
use Rattle.network.specs.Centre.{Route, Centre, routes_of}
use Rattle.network.specs.States.{value}
use Rattle.network.specs.Coverage.{finished, Tree, leaf, join, under, visits, coverage_by, coverage, coverages}
use Rattle.network.specs.Cells.{span, size, cells, stride, strides, along, place, indices, spans_at, all_cells, cell_of, spread, start_cell, centre_by}
use Rattle.network.specs.Pairs.{Pair, index_pairs, listed}
use Rattle.network.specs.Run.{sum_at, add, leave}
use Rattle.network.proofs.ValueLaws.{G, G_one, G_perm, value-G}
use Rattle.network.proofs.CoverageLaws.{Parted, parted_left, parted_right, coverage_parts}
use Rattle.network.proofs.CellLaws.{In, Inside, inside_length, indices_out}
use Rattle.network.proofs.CoverLaws.{AllOn}
use Rattle.network.proofs.RunLaws.{trace, running}
use Rattle.network.proofs.NodeLaws.{by_number_lem, AllWide, picked_from, join_cell, spans_length}
use Rattle.network.proofs.BoundLaws.{AllVisited, node_bound}
use Rattle.network.proofs.AreaLaws.{Laid, laid_own, base_is, cells_some}
use Rattle.network.proofs.TreeLaws.{node_value, products, ideal, Ran, run_tree}

-- sums on the way are at most the whole
running-le : (y : ℕ) (xs : List ℕ) (x : ℕ) → Memᴰ x (running y xs) → x ≤ y + sum_over xs (λ n. n)
unfolding running sum_over
running-le y [] x m = absurd (Memᴰ.not-nil m)
running-le y (z ∷ zs) x m = by (Memᴰ.cases_cons m) (running-le (y + z) zs x)
  where
    by : (x ≡ y + z) ⊎ Memᴰ x (running (y + z) zs) → (Memᴰ x (running (y + z) zs) → x ≤ y + z + sum_over zs (λ n. n)) → x ≤ y + (z + sum_over zs (λ n. n))
    by (inl e) k = omega arith
    by (inr n) k = omega (arith, k n)

-- what one pair makes of a cell: as it was, or the sum
one_cell : (A : List ℕ) (p : Pair) (i : ℕ) → (get_or (add A p) i 0 ≡ get_or A i 0) ⊎ (get_or (add A p) i 0 ≡ sum_at A p)
unfolding add
one_cell A p i = at (ℕ_discrete i p.result) (dec_lt p.result (length A))
  where
    at : Dec (i ≡ p.result) → Dec (p.result < length A) → (get_or (set A p.result (sum_at A p)) i 0 ≡ get_or A i 0) ⊎ (get_or (set A p.result (sum_at A p)) i 0 ≡ sum_at A p)
    at (no e) d = inl (get_or-set_other A p.result i (sum_at A p) 0 e)
    at (yes e) (yes h) = inr (ap (λ k. get_or (set A p.result (sum_at A p)) k 0) e ∙ get_or-set_same A p.result (sum_at A p) 0 h)
    at (yes e) (no h) = inl (ap (λ B. get_or B i 0) (set_out A p.result (sum_at A p) (omega arith)))

-- after a run a cell is as it was, or is a sum that some pair formed
pub cell_or_sum : (ps : List Pair) (A : List ℕ) (i : ℕ) → (get_or (leave ps A) i 0 ≡ get_or A i 0) ⊎ Memᴰ (get_or (leave ps A) i 0) (trace ps A)
unfolding leave trace
cell_or_sum [] A i = inl refl
cell_or_sum (p ∷ ps) A i = by (cell_or_sum ps (add A p) i) (one_cell A p i)
  where
    by : (get_or (leave ps (add A p)) i 0 ≡ get_or (add A p) i 0) ⊎ Memᴰ (get_or (leave ps (add A p)) i 0) (trace ps (add A p)) → (get_or (add A p) i 0 ≡ get_or A i 0) ⊎ (get_or (add A p) i 0 ≡ sum_at A p)
        → (get_or (leave ps (add A p)) i 0 ≡ get_or A i 0) ⊎ Memᴰ (get_or (leave ps (add A p)) i 0) (sum_at A p ∷ trace ps (add A p))
    by (inr m) k = inr (Memᴰ.tail m)
    by (inl e) (inl f) = inl (e ∙ f)
    by (inl e) (inr f) = inr (Memᴰ.head (e ∙ f))

module _ (centres : List Centre) (windows : List ℕ) (wide : AllWide (length windows) centres) (on : AllOn centres) (visited : AllVisited (routes_of centres) (length windows)) where
  abbrev routes : List Route
  routes = routes_of centres

  value_is : value centres windows ≡ G centres windows
  value_is = value-G centres (λ c m. (wide c m).1) windows

  -- ---- nothing exceeds the value

  pub node_le : (t : Tree) (rest : List ℕ) → Parted routes (under t) rest → (v : List ℕ) → Inside (spans_at routes windows t) v → node_value centres windows wide t v ≤ value centres windows
  node_le t rest parted v i = rw value_is (node_bound centres (length windows) wide on visited windows refl t rest parted v i)

  -- the sums that the pairs form
  pub ideal-le : (t : Tree) (rest : List ℕ) → Parted routes (under t) rest → (x : ℕ) → Memᴰ x (ideal centres windows wide t) → x ≤ value centres windows
  unfolding ideal under products
  ideal-le (leaf c) rest parted x m = absurd (Memᴰ.not-nil m)
  ideal-le (join l r) rest parted x m =
      first (ideal-le l (under r ++ rest) (parted_left routes (under l) (under r) rest parted) x) (ideal-le r (under l ++ rest) (parted_right routes (under l) (under r) rest parted) x) (Memᴰ.append_cases (ideal centres windows wide l) m)
    where
      sums : List ℕ
      sums = flat_map (λ v. running 0 (products centres windows wide l r v)) (indices (spans_at routes windows (join l r)))

      own : Memᴰ x sums → x ≤ value centres windows
      own n =
          let f = flat_out (λ v. running 0 (products centres windows wide l r v)) (indices (spans_at routes windows (join l r))) n in
          let i = indices_out (spans_at routes windows (join l r)) f.0 f.1 in
          let s : sum_over (products centres windows wide l r f.0) (λ n. n) ≡ node_value centres windows wide (join l r) f.0 =
          sum_over-map (λ p. node_value centres windows wide l p.0 * node_value centres windows wide r p.1) (index_pairs (coverages routes (length windows) l) (coverages routes (length windows) r) f.0) (λ n. n)
          ∙ join_cell centres (length windows) wide l r rest parted f.0 (inside_length i ∙ spans_length routes windows (join l r)) in
          omega (arith, running-le 0 (products centres windows wide l r f.0) x f.2, node_le (join l r) rest parted f.0 i)

      second : (Memᴰ x (ideal centres windows wide r) → x ≤ value centres windows) → Memᴰ x (ideal centres windows wide r) ⊎ Memᴰ x sums → x ≤ value centres windows
      second g (inl n) = g n
      second g (inr n) = own n

      first : (Memᴰ x (ideal centres windows wide l) → x ≤ value centres windows) → (Memᴰ x (ideal centres windows wide r) → x ≤ value centres windows)
          → Memᴰ x (ideal centres windows wide l) ⊎ Memᴰ x (ideal centres windows wide r ++ sums) → x ≤ value centres windows
      first f g (inl n) = f n
      first f g (inr n) = second g (Memᴰ.append_cases (ideal centres windows wide r) n)

  -- the cells that a start writes
  pub start_le : (t : Tree) (rest : List ℕ) → Parted routes (under t) rest → (x : ℕ) → Memᴰ x (spread routes windows (start_cell centres) t) → x ≤ value centres windows
  unfolding spread under start_cell
  start_le (leaf c) rest parted x m =
      let r = Memᴰ.of_map (start_cell centres (leaf c)) (indices (spans_at routes windows (leaf c))) m in
      let k : node_value centres windows wide (leaf c) r.0 ≤ value centres windows = node_le (leaf c) rest parted r.0 (indices_out (spans_at routes windows (leaf c)) r.0 r.1) in
      subst (λ y. y ≤ value centres windows) (G_one (centre_by centres c) r.0 ∙ r.2) k
  start_le (join l r) rest parted x m =
      first (start_le l (under r ++ rest) (parted_left routes (under l) (under r) rest parted) x) (start_le r (under l ++ rest) (parted_right routes (under l) (under r) rest parted) x) (Memᴰ.append_cases (spread routes windows (start_cell centres) l) m)
    where
      zeros : List ℕ
      zeros = map (λ v. 0) (indices (spans_at routes windows (join l r)))

      second : (Memᴰ x (spread routes windows (start_cell centres) r) → x ≤ value centres windows) → Memᴰ x (spread routes windows (start_cell centres) r) ⊎ Memᴰ x zeros → x ≤ value centres windows
      second g (inl n) = g n
      second g (inr n) = let q = Memᴰ.of_map (λ v. 0) (indices (spans_at routes windows (join l r))) n in subst (λ y. y ≤ value centres windows) q.2 zero-le

      first : (Memᴰ x (spread routes windows (start_cell centres) l) → x ≤ value centres windows) → (Memᴰ x (spread routes windows (start_cell centres) r) → x ≤ value centres windows)
          → Memᴰ x (spread routes windows (start_cell centres) l) ⊎ Memᴰ x (spread routes windows (start_cell centres) r ++ zeros) → x ≤ value centres windows
      first f g (inl n) = f n
      first f g (inr n) = second g (Memᴰ.append_cases (spread routes windows (start_cell centres) r) n)

  -- ---- the last cell is the value

  module _ (t : Tree) (every : Permᴰ (under t) (from 1 (length routes))) where
    pub all_under : Parted routes (under t) []
    all_under = subst (λ l. Permᴰ l (from 1 (length routes))) (sym (append-nil (under t))) every

    -- at the top every chain is finished
    top-finished : (k : ℕ) → Memᴰ k (from 1 (length windows)) → coverage routes (under t) k ≡ finished
    unfolding coverage_by some
    top-finished k m =
        coverage_parts routes (under t) [] all_under k
        ∙ ap (λ b. coverage_by b true) (some_all k m)
      where
        some_all : (k : ℕ) → Memᴰ k (from 1 (length windows)) → some (visits routes k) (under t) ≡ true
        some_all k m = let r = some_is (visits routes k) (from 1 (length routes)) (visited k m) in some_of (visits routes k) (perm_in (Permᴰ.symm every) r.1) r.2

    tops : (ks ns : List ℕ) → length ks ≡ length ns → ((k : ℕ) → Memᴰ k ks → coverage routes (under t) k ≡ finished) → Inside (zip_with span (map (coverage routes (under t)) ks) ns) ns × (place (zip_with span (map (coverage routes (under t)) ks) ns) ns ≡ 0) × (cells (zip_with span (map (coverage routes (under t)) ks) ns) ≡ 1)
    unfolding zip_with span along strides stride cells size
    tops [] [] e f = (Inside.none, refl, refl)
    tops [] (n ∷ ns) e f = absurd (omega arith)
    tops (k ∷ ks) [] e f = absurd (omega arith)
    tops (k ∷ ks) (n ∷ ns) e f =
        let r = tops ks ns (omega arith) (λ j m. f j (Memᴰ.tail m)) in
        let h = f k (Memᴰ.head refl) in
        rw h (Inside.more In.here r.0, omega (arith, r.1), omega (arith, r.2))

    top : Inside (spans_at routes windows t) windows × (place (spans_at routes windows t) windows ≡ 0) × (cells (spans_at routes windows t) ≡ 1)
    unfolding spans_at coverages
    top = tops (from 1 (length windows)) windows (length_from 1 (length windows)) top-finished

    pub last_cell : cell_of routes windows t 0 windows ≡ all_cells routes windows t - 1
    unfolding cell_of
    last_cell = omega (arith, top.1, top.2, base_is routes windows t 0, cells_some routes windows t)

    pub top-value : node_value centres windows wide t windows ≡ value centres windows
    top-value =
        G_perm (subst (λ l. Permᴰ (picked_from centres (under t)) l) (by_number_lem centres _ (length routes) (sym (length-map centres (λ c. c.route)))) (perm_map (centre_by centres) every)) windows
        ∙ sym value_is

    module _ (A : List ℕ) (room : all_cells routes windows t ≤ length A) (laid : Laid routes windows (start_cell centres) A t 0) where
      ran : Ran centres windows wide t 0 A
      ran = run_tree centres windows wide t [] all_under 0 A (omega arith) laid

      -- after all pairs
      pub whole_value : get_or (leave (listed routes windows t 0) A) (all_cells routes windows t - 1) 0 ≡ value centres windows
      whole_value =
          ap (λ i. get_or (leave (listed routes windows t 0) A) i 0) (sym last_cell)
          ∙ laid_own routes windows (node_value centres windows wide) (leave (listed routes windows t 0) A) t 0 ran.laid windows top.0
          ∙ top-value

      -- on the way
      pub whole_trace : trace (listed routes windows t 0) A ≡ ideal centres windows wide t
      whole_trace = ran.traced

      pub whole_le : (x : ℕ) → Memᴰ x (trace (listed routes windows t 0) A) → x ≤ value centres windows
      whole_le x m = ideal-le t [] all_under x (subst (λ l. Memᴰ x l) whole_trace m)
