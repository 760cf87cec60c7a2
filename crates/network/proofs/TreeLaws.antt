-- The run over a tree: from what a start writes, the listed pairs turn every node's cells into the values of the centres under it, touch
-- no cell outside, and form on the way the sums that the values alone give (ideal). By induction over the tree; a join's own pairs are
-- blocks of pairs, one block a result cell.
use Prim.Native.Nat.{ℕ, ◌+◌, ◌*◌, ◌≤◌, ◌<◌}
use mathlib.Core.Path.{◌≡◌, refl, sym, ap, subst, ◌∙◌}
use mathlib.Core.List.Memᴰ
use mathlib.Core.List.{List, [], ◌++◌, map, map-map, flat_map, Memᴰ}
use mathlib.Core.Logic.{◌⊎◌, inl, inr}
use native.Mathlib.Omega.{arith}
use native.Mathlib.Nat.{zero-add}
use lib.ListN.{length, get_or}
use Rattle.sums.specs.Sums.{sum_over}
use Rattle.sums.proofs.ListLaws.{map_cong, flat_cong}
use Rattle.sums.proofs.SumLaws.{sum_over-map}
use Rattle.network.specs.Centre.{Route, Centre, routes_of}
use Rattle.network.specs.Coverage.{Tree, leaf, join, under, coverages}
use Rattle.network.specs.Cells.{indices, spans_at, all_cells, base, cell_of, start_cell, centre_by}
use Rattle.network.specs.Pairs.{index_pairs, own_pairs, listed}
use Rattle.network.specs.Run.{leave}
use Rattle.network.proofs.ValueLaws.{G_one}
use Rattle.network.proofs.CoverageLaws.{Parted, parted_left, parted_right, meets}
use Rattle.network.proofs.CellLaws.{Inside, indices_out, indices_in, indices_nodup, inside_length, place_same}
use Rattle.network.proofs.PairLaws.{pairs_inside}
use Rattle.network.proofs.RunLaws.{leave-append, trace, trace-append, length-leave, product, running, blocks, Clear, blocks_same, blocks_run, blocks-trace}
use Rattle.network.proofs.NodeLaws.{AllWide, value_under, join_cell, coverages-length, spans_length}
use Rattle.network.proofs.AreaLaws.{Holds, Laid, laid_own, laid_agree, cell_in, base-join, base_room}

module _ (centres : List Centre) (windows : List ℕ) (wide : AllWide (length windows) centres) where
  abbrev routes : List Route
  routes = routes_of centres

  abbrev pub node_value : Tree → List ℕ → ℕ
  node_value t v = value_under centres (length windows) wide t v

  -- the products of a result index's pairs, from the values alone
  unfoldable pub products : Tree → Tree → List ℕ → List ℕ
  products l r v = map (λ p. node_value l p.0 * node_value r p.1) (index_pairs (coverages routes (length windows) l) (coverages routes (length windows) r) v)

  -- the sums that the pairs form, in order
  unfoldable pub ideal : Tree → List ℕ
  ideal (leaf c) = []
  ideal (join l r) = ideal l ++ (ideal r ++ flat_map (λ v. running 0 (products l r v)) (indices (spans_at routes windows (join l r))))

  -- ---- one join

  module _ (l r : Tree) (rest : List ℕ) (parted : Parted routes (under (join l r)) rest) (start : ℕ) where
    -- the left and the right cell of an index pair
    numbered : List ℕ × List ℕ → ℕ × ℕ
    numbered p = (cell_of routes windows l start p.0, cell_of routes windows r (start + all_cells routes windows l) p.1)

    theirs : List ℕ → List (ℕ × ℕ)
    theirs v = map numbered (index_pairs (coverages routes (length windows) l) (coverages routes (length windows) r) v)

    own_blocks : own_pairs routes windows l r start ≡ blocks (base routes windows (join l r) start) (cell_of routes windows (join l r) start) theirs (indices (spans_at routes windows (join l r)))
    unfolding own_pairs theirs numbered
    own_blocks = flat_cong (indices (spans_at routes windows (join l r))) _ _ (λ v m. sym (map-map _ numbered (index_pairs (coverages routes (length windows) l) (coverages routes (length windows) r) v)))

    index_pair : (v : List ℕ) → Memᴰ v (indices (spans_at routes windows (join l r))) → (p : List ℕ × List ℕ) → Memᴰ p (index_pairs (coverages routes (length windows) l) (coverages routes (length windows) r) v)
        → Inside (spans_at routes windows l) p.0 × Inside (spans_at routes windows r) p.1
    unfolding spans_at
    index_pair v m p n = pairs_inside (meets routes (length windows) l r rest parted) windows v (indices_out (spans_at routes windows (join l r)) v m) p n (coverages-length routes (length windows) (join l r))

    own_clear : (n : ℕ) → start + all_cells routes windows (join l r) ≤ n → Clear (base routes windows (join l r) start) (cell_of routes windows (join l r) start) theirs n (indices (spans_at routes windows (join l r)))
    unfolding theirs numbered base all_cells cell_of
    own_clear n h = record {
      factors = λ v m p o.
          let t = Memᴰ.of_map numbered (index_pairs (coverages routes (length windows) l) (coverages routes (length windows) r) v) o in
          let i = index_pair v m t.0 t.1 in
          (omega (arith, (cell_in routes windows l start t.0.0 i.0).1, ap (λ y. y.0) t.2), omega (arith, (cell_in routes windows r (start + all_cells routes windows l) t.0.1 i.1).1, ap (λ y. y.1) t.2));
      results = λ v m. let c = cell_in routes windows (join l r) start v (indices_out (spans_at routes windows (join l r)) v m) in (c.0, omega (arith, c.1));
      differ = λ u v m o e. place_same (indices_out (spans_at routes windows (join l r)) u m) (indices_out (spans_at routes windows (join l r)) v o) (omega arith);
    }

    module _ (A : List ℕ) (room : start + all_cells routes windows (join l r) ≤ length A) (left : Holds routes windows node_value A l start) (right : Holds routes windows node_value A r (start + all_cells routes windows l)) (zeros : Holds routes windows (λ t v. 0) A (join l r) start) where
      -- what the pairs multiply are the children's values
      factors_are : (v : List ℕ) → Memᴰ v (indices (spans_at routes windows (join l r))) → map (product A) (theirs v) ≡ products l r v
      unfolding theirs numbered products
      factors_are v m =
          map-map (product A) numbered (index_pairs (coverages routes (length windows) l) (coverages routes (length windows) r) v)
          ∙ map_cong (index_pairs (coverages routes (length windows) l) (coverages routes (length windows) r) v) _ _ (λ p n. let i = index_pair v m p n in λ t. left p.0 i.0 t * right p.1 i.1 t)

      pub own_traced : trace (own_pairs routes windows l r start) A ≡ flat_map (λ v. running 0 (products l r v)) (indices (spans_at routes windows (join l r)))
      own_traced =
          ap (λ ps. trace ps A) own_blocks
          ∙ blocks-trace (base routes windows (join l r) start) (cell_of routes windows (join l r) start) theirs (indices (spans_at routes windows (join l r))) A (indices_nodup (spans_at routes windows (join l r))) (own_clear (length A) room)
          ∙ flat_cong (indices (spans_at routes windows (join l r))) _ _ (λ v m. λ i. running (zeros v (indices_out (spans_at routes windows (join l r)) v m) i) (factors_are v m i))

      pub own_holds : Holds routes windows node_value (leave (own_pairs routes windows l r start) A) (join l r) start
      unfolding products
      own_holds v i =
          let vs = indices (spans_at routes windows (join l r)) in
          let m = indices_in i in
          ap (λ ps. get_or (leave ps A) (cell_of routes windows (join l r) start v) 0) own_blocks
          ∙ blocks_run (base routes windows (join l r) start) (cell_of routes windows (join l r) start) theirs vs A (indices_nodup (spans_at routes windows (join l r))) (own_clear (length A) room) v m
          ∙ ap (λ n. n + sum_over (theirs v) (product A)) (zeros v i)
          ∙ zero-add (sum_over (theirs v) (product A))
          ∙ sym (sum_over-map (product A) (theirs v) (λ n. n))
          ∙ ap (λ l. sum_over l (λ n. n)) (factors_are v m)
          ∙ sum_over-map (λ p. node_value l p.0 * node_value r p.1) (index_pairs (coverages routes (length windows) l) (coverages routes (length windows) r) v) (λ n. n)
          ∙ join_cell centres (length windows) wide l r rest parted v (inside_length i ∙ spans_length routes windows (join l r))

      pub own_same : (i : ℕ) → (i < base routes windows (join l r) start) ⊎ (start + all_cells routes windows (join l r) ≤ i) → get_or (leave (own_pairs routes windows l r start) A) i 0 ≡ get_or A i 0
      own_same i h =
          ap (λ ps. get_or (leave ps A) i 0) own_blocks
          ∙ blocks_same (base routes windows (join l r) start) (cell_of routes windows (join l r) start) theirs (indices (spans_at routes windows (join l r))) A (own_clear (length A) room) i
          (λ v m e. out v h (cell_in routes windows (join l r) start v (indices_out (spans_at routes windows (join l r)) v m)) e)
        where
          out : (v : List ℕ) → (i < base routes windows (join l r) start) ⊎ (start + all_cells routes windows (join l r) ≤ i)
              → (base routes windows (join l r) start ≤ cell_of routes windows (join l r) start v) × (cell_of routes windows (join l r) start v < start + all_cells routes windows (join l r)) → i ≡ cell_of routes windows (join l r) start v → ⊥
          out v (inl a) c e = omega (arith, c.0)
          out v (inr a) c e = omega (arith, c.1)

  -- ---- the whole tree

  -- what the listed pairs of a subtree do to an area
  pub record Ran (t : Tree) (start : ℕ) (A : List ℕ) : Type 0 where
    pub same : (i : ℕ) → (i < start) ⊎ (start + all_cells routes windows t ≤ i) → get_or (leave (listed routes windows t start) A) i 0 ≡ get_or A i 0
    pub laid : Laid routes windows node_value (leave (listed routes windows t start) A) t start
    pub traced : trace (listed routes windows t start) A ≡ ideal t

  pub run_tree : (t : Tree) (rest : List ℕ) → Parted routes (under t) rest → (start : ℕ) (A : List ℕ) → start + all_cells routes windows t ≤ length A → Laid routes windows (start_cell centres) A t start → Ran t start A
  unfolding listed leave trace ideal start_cell under base
  run_tree (leaf c) rest parted start A room h = record { same = λ i o. refl; laid = λ v i. h v i ∙ sym (G_one (centre_by centres c) v); traced = refl }
  run_tree (join l r) rest parted start A room h =
      let second = start + all_cells routes windows l in
      let pl = parted_left routes (under l) (under r) rest parted in
      let pr = parted_right routes (under l) (under r) rest parted in
      let L = listed routes windows l start in
      let R = listed routes windows r second in
      let O = own_pairs routes windows l r start in
      let room_l : start + all_cells routes windows l ≤ length A = omega (arith, whole) in
      let B = leave L A in
      let ran_l = run_tree l (under r ++ rest) pl start A room_l h.0 in
      let room_r : second + all_cells routes windows r ≤ length B = omega (arith, whole, length-leave L A) in
      let C = leave R B in
      let ran_r = run_tree r (under l ++ rest) pr second B room_r (laid_agree routes windows (start_cell centres) A B r second (λ i a b. ran_l.same i (inr a)) h.1) in
      let room3 : start + all_cells routes windows (join l r) ≤ length C = omega (arith, length-leave R B, length-leave L A) in
      let left = laid_agree routes windows node_value B C l start (λ i a b. ran_r.same i (inl b)) ran_l.laid in
      let zeros : Holds routes windows (λ t v. 0) C (join l r) start = λ v i.
      let c = cell_in routes windows (join l r) start v i in
      let k : start + (all_cells routes windows l + all_cells routes windows r) ≤ cell_of routes windows (join l r) start v = c.0 in
      ran_r.same (cell_of routes windows (join l r) start v) (inr (omega arith)) ∙ ran_l.same (cell_of routes windows (join l r) start v) (inr (omega arith)) ∙ h.2 v i in
      let own_l = laid_own routes windows node_value C l start left in
      let own_r = laid_own routes windows node_value C r second ran_r.laid in
      let D = leave O C in
      let end : leave (L ++ (R ++ O)) A ≡ D = leave-append L (R ++ O) A ∙ leave-append R O B in
      let same3 = own_same l r rest parted start C room3 own_l own_r zeros in
      record {
        same = λ i o. ap (λ E. get_or E i 0) end ∙ same3 i (inside i o) ∙ ran_r.same i (beyond_r i o) ∙ ran_l.same i (beyond_l i o);
        laid = subst (λ E. Laid routes windows node_value E (join l r) start) (sym end) (
          laid_agree routes windows node_value C D l start (λ i a b. same3 i (inl (omega (arith, below)))) left,
          laid_agree routes windows node_value C D r second (λ i a b. same3 i (inl (omega (arith, below)))) ran_r.laid,
          own_holds l r rest parted start C room3 own_l own_r zeros,
        );
        traced = trace-append L (R ++ O) A ∙ (λ i. ran_l.traced i ++ (trace-append R O B ∙ (λ j. ran_r.traced j ++ own_traced l r rest parted start C room3 own_l own_r zeros j)) i);
      }
    where
      whole : start + (all_cells routes windows l + all_cells routes windows r) ≤ start + all_cells routes windows (join l r)
      whole = base_room routes windows (join l r) start

      below : base routes windows (join l r) start ≡ start + (all_cells routes windows l + all_cells routes windows r)
      below = base-join routes windows l r start

      inside : (i : ℕ) → (i < start) ⊎ (start + all_cells routes windows (join l r) ≤ i) → (i < base routes windows (join l r) start) ⊎ (start + all_cells routes windows (join l r) ≤ i)
      inside i (inl a) = inl (omega (arith, below))
      inside i (inr a) = inr a

      beyond_r : (i : ℕ) → (i < start) ⊎ (start + all_cells routes windows (join l r) ≤ i) → (i < start + all_cells routes windows l) ⊎ (start + all_cells routes windows l + all_cells routes windows r ≤ i)
      beyond_r i (inl a) = inl (omega arith)
      beyond_r i (inr a) = inr (omega (arith, whole))

      beyond_l : (i : ℕ) → (i < start) ⊎ (start + all_cells routes windows (join l r) ≤ i) → (i < start) ⊎ (start + all_cells routes windows l ≤ i)
      beyond_l i (inl a) = inl a
      beyond_l i (inr a) = inr (omega (arith, whole))
