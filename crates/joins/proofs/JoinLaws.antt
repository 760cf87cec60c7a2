-- A join of a network: the lists of its windows and strides are sound, and walking them is walking the network's own pairs of the join.
use Prim.Native.Nat.{ℕ, suc, ◌+◌, ◌*◌, ◌^◌, ◌≤◌, ◌<◌}
use mathlib.Core.Path.{◌≡◌, refl, sym, ap, subst, ◌∙◌, fun_ext}
use mathlib.Core.List.{List, [], ◌∷◌, map, map-map, flat_map, zip_with}
use native.Mathlib.Nat.{pow-le-pow_right, zero-add, one-mul}
use native.Mathlib.Omega.{arith}
use lib.ListN.{length, take}
use Rattle.network.specs.Coverage.{Coverage, Tree, join, coverages}
use Rattle.network.specs.Cells.{Span, indices, span, strides, along, spans_at, all_cells, cell_of}
use Rattle.network.specs.Pairs.{Pair, index_pairs, own_pairs}
use Rattle.network.proofs.CoverageLaws.{Meets, meets}
use Rattle.network.proofs.NodeLaws.{coverages-length, spans_length}
use Rattle.network.proofs.AreaLaws.{base_is, base-join, base_room}
use Rattle.cellsums.specs.Places.{reach_left, reach_right}
use Rattle.cellsums.specs.declared.Row.{Row}
use Rattle.joins.specs.Loops.{pair_at, cell_pairs, loop_pairs, Sound}
use Rattle.joins.specs.Walk.{State, walk}
use Rattle.joins.specs.Flat.{add_chains, flat, nothing}
use Rattle.joins.specs.Join.{JoinOf}
use Rattle.joins.specs.declared.Join.{Join}
use Rattle.joins.specs.declared.Loop.{Loop}
use Rattle.joins.specs.declared.Used.{Used}
use Rattle.joins.proofs.ChainLaws.{Chain, own_stride, loops, rows, loops_list, pairs_of}
use Rattle.joins.proofs.MeetLaws.{chains, chains-span, chains-stride, chains-places, placed}
use Rattle.joins.proofs.SoundLaws.{pairs_in, ended, Parts, Bounds, chains_sound}
use Rattle.joins.proofs.FlatLaws.{Low, chains_low, chains_flat}

pub length-strides : (ss : List Span) → length (strides ss) ≡ length ss
unfolding strides
length-strides [] = refl
length-strides (s ∷ ss) = ap suc (length-strides ss)

module _ {windows lefts rights owns : List ℕ} {parts : Join} {size : ℕ} (j : JoinOf windows lefts rights owns parts size) where
  abbrev ls : List Coverage
  ls = coverages j.routes (length windows) j.left

  abbrev rs : List Coverage
  rs = coverages j.routes (length windows) j.right

  abbrev js : List Coverage
  js = coverages j.routes (length windows) (join j.left j.right)

  met : Meets ls rs js
  met = meets j.routes (length windows) j.left j.right j.others j.parted

  cs : List Chain
  cs = chains met windows

  same_length : length js ≡ length windows
  same_length = coverages-length j.routes (length windows) (join j.left j.right)

  low : Low ls rs js windows cs
  unfolding cs
  low = chains_low met windows same_length j.messages

  -- ---- what the code builds

  built : add_chains nothing windows lefts rights owns ≡ record { loops = loops 0 cs; rows = rows cs; count = 1 * ended cs }
  unfolding cs spans_at
  built = (λ i. add_chains nothing windows (j.left_strides i) (j.right_strides i) (j.own_strides i)) ∙ chains_flat met windows nothing

  pub strides-length : (length lefts ≡ length windows) × (length rights ≡ length windows) × (length owns ≡ length windows)
  strides-length = (ap length j.left_strides ∙ strided j.left, ap length j.right_strides ∙ strided j.right, ap length j.own_strides ∙ strided (join j.left j.right))
    where
      strided : (t : Tree) → length (strides (spans_at j.routes windows t)) ≡ length windows
      strided t = length-strides (spans_at j.routes windows t) ∙ spans_length j.routes windows t

  -- ---- its lists are sound

  parts_lie : size < 2 ^ 64 → Parts size parts
  parts_lie h =
      let l = base_room j.routes windows j.left j.start in
      let r = base_room j.routes windows j.right (j.start + all_cells j.routes windows j.left) in
      let own = base_room j.routes windows (join j.left j.right) j.start in
      let at = base-join j.routes windows j.left j.right j.start in
      record {
        left_from = omega (arith, l, j.left_from, j.left_to);
        left_to = omega (arith, own, at, j.left_to, j.room);
        right_from = omega (arith, r, j.right_from, j.right_to);
        right_to = omega (arith, own, at, j.right_to, j.room);
        own_from = omega (arith, own, j.own_from, j.own_to);
        own_to = omega (arith, j.own_to, j.room);
        left_before = omega (arith, at, j.left_to, j.own_from);
        right_before = omega (arith, at, j.right_to, j.own_from);
        low = h;
      }

  bounds : Bounds parts [] cs 0 0 0 (1 * ended cs)
  unfolding reach_left reach_right pairs_in spans_at
  bounds =
      let p : 16 ^ length windows ≤ 16 ^ 8 = pow-le-pow_right {n = 16} (omega arith) j.chains in
      record {
        left_last = omega (arith, low.left, base_is j.routes windows j.left j.start, j.left_from, j.left_to);
        right_last = omega (arith, low.right, base_is j.routes windows j.right (j.start + all_cells j.routes windows j.left), j.right_from, j.right_to);
        own_last = omega (arith, low.own, base_is j.routes windows (join j.left j.right) j.start, j.own_from, j.own_to);
        counted = refl;
        count_low = rw (one-mul (ended cs)) (omega (arith, low.pairs, p));
      }

  pub own_sound : size < 2 ^ 64 → Sound size parts (add_chains nothing windows lefts rights owns).loops (add_chains nothing windows lefts rights owns).rows 0 0 0 (add_chains nothing windows lefts rights owns).count
  own_sound h = subst (λ f. Sound size parts f.loops f.rows 0 0 0 f.count) (sym built) (chains_sound size parts (parts_lie h) cs [] 0 0 0 (1 * ended cs) bounds)

  -- ---- and they list its own pairs

  numbered : List ℕ → List ℕ × List ℕ → Pair
  numbered v p = record { left = cell_of j.routes windows j.left j.start p.0; right = cell_of j.routes windows j.right (j.start + all_cells j.routes windows j.left) p.1; result = cell_of j.routes windows (join j.left j.right) j.start v }

  index_pairs_lem : (v : List ℕ) → pairs_of parts [] 0 0 0 cs v ≡ map (numbered v) (index_pairs ls rs v)
  unfolding cell_pairs pair_at numbered cell_of spans_at cs
  index_pairs_lem v =
      ap (map (pair_at parts (0 + along (map own_stride cs) v))) (chains-places met windows v 0 0 same_length)
      ∙ map-map (pair_at parts (0 + along (map own_stride cs) v)) (placed (strides (zip_with span ls windows)) (strides (zip_with span rs windows)) 0 0) (index_pairs ls rs v)
      ∙ ap (λ f. map f (index_pairs ls rs v)) (fun_ext (λ p. λ i. record {
        left = j.left_from i + zero-add (along (strides (zip_with span ls windows)) p.0) i;
        right = j.right_from i + zero-add (along (strides (zip_with span rs windows)) p.1) i;
        result = j.own_from i + (zero-add (along (map own_stride cs) v) ∙ ap (λ ss. along ss v) (chains-stride met windows)) i;
      }))

  pub own_list : loop_pairs parts (add_chains nothing windows lefts rights owns).loops (add_chains nothing windows lefts rights owns).rows 0 0 0 ≡ own_pairs j.routes windows j.left j.right j.start
  unfolding own_pairs numbered spans_at cs
  own_list =
      (λ i. loop_pairs parts (built i).loops (built i).rows 0 0 0)
      ∙ loops_list parts cs [] 0 0 0
      ∙ (λ i. flat_map (λ v. index_pairs_lem v i) (indices (chains-span met windows i)))

  -- ---- the same of the used parts of the two arrays

  module _ (u : Used) (L : List Loop) (R : List Row) (e : flat u L R ≡ add_chains nothing windows lefts rights owns) where
    pub used_sound : size < 2 ^ 64 → Sound size parts (take u.loops L) (take u.rows R) 0 0 0 u.count
    used_sound h = subst (λ f. Sound size parts f.loops f.rows 0 0 0 f.count) (sym e) (own_sound h)

    pub used-walk : (s s' : State) → s' ≡ walk (loop_pairs parts (take u.loops L) (take u.rows R) 0 0 0) s → s' ≡ walk (own_pairs j.routes windows j.left j.right j.start) s
    used-walk s s' d = d ∙ ap (λ ps. walk ps s) ((λ i. loop_pairs parts (e i).loops (e i).rows 0 0 0) ∙ own_list)
