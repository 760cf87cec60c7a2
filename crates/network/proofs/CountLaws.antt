-- How many pairs: the listed order is as long as the product formula says, never longer than the plain method's, and neither reaches 2^63;
-- and every pair's result is one of the tree's cells.
use Prim.Native.Nat.{ℕ, zero, suc, ◌+◌, ◌*◌, ◌-◌, ◌^◌, ◌≤◌, ◌<◌}
use mathlib.Core.Path.{◌≡◌, refl, ap, subst, ◌∙◌}
use mathlib.Core.Logic.{◌⊎◌, inl, inr}
use mathlib.Core.List.Memᴰ
use mathlib.Core.List.{List, [], ◌∷◌, ◌++◌, map, Memᴰ, Permᴰ}
use native.Mathlib.Omega.{arith}
use native.Mathlib.Nat.{le_refl, le_trans, mul-le-mul, pow-suc, pow-le-pow_right}
use lib.ListN.{length, length-append, length-map}
use Rattle.sums.specs.Lists.{from}
use Rattle.sums.proofs.ListLaws.{length_from, flat_out}
use Rattle.sums.proofs.PermLaws.{perm_length}
use Rattle.sums.proofs.SumLaws.{sum_over_ext, length_flat_sum}
use Rattle.network.specs.Centre.{Route}
use Rattle.network.specs.Coverage.{Tree, leaf, join, under, coverages}
use Rattle.network.specs.Cells.{indices, spans_at, all_cells}
use Rattle.network.specs.Pairs.{Pair, index_pairs, triangle, triangles, factors, pair_at, own_pairs, listed, all_pairs, plain_pairs}
use Rattle.network.proofs.CoverageLaws.{Parted, parted_left, parted_right, meets}
use Rattle.network.proofs.PairLaws.{pairs_count, factors-le}
use Rattle.network.proofs.CellLaws.{indices_out}
use Rattle.network.proofs.NodeLaws.{coverages-length}
use Rattle.network.proofs.AreaLaws.{cell_in, base-join, base_room}

module _ (routes : List Route) (windows : List ℕ) where
  pub own_count : (l r : Tree) (rest : List ℕ) → Parted routes (under (join l r)) rest → (start : ℕ) → length (own_pairs routes windows l r start) ≡ factors (coverages routes (length windows) l) (coverages routes (length windows) r) (coverages routes (length windows) (join l r)) windows
  unfolding own_pairs spans_at
  own_count l r rest parted start =
      length_flat_sum _ (indices (spans_at routes windows (join l r)))
      ∙ sum_over_ext (indices (spans_at routes windows (join l r))) _ _ (λ v. length-map (index_pairs (coverages routes (length windows) l) (coverages routes (length windows) r) v) _)
      ∙ pairs_count (meets routes (length windows) l r rest parted) windows (coverages-length routes (length windows) (join l r))

  -- the number of pairs is the length of the listed order
  pub length-listed : (t : Tree) (rest : List ℕ) → Parted routes (under t) rest → (start : ℕ) → length (listed routes windows t start) ≡ all_pairs routes windows t
  unfolding listed all_pairs under
  length-listed (leaf c) rest parted start = refl
  length-listed (join l r) rest parted start =
      let second = start + all_cells routes windows l in
      length-append (listed routes windows l start) (listed routes windows r second ++ own_pairs routes windows l r start)
      ∙ omega (
        arith,
        length-append (listed routes windows r second) (own_pairs routes windows l r start),
        length-listed l (under r ++ rest) (parted_left routes (under l) (under r) rest parted) start,
        length-listed r (under l ++ rest) (parted_right routes (under l) (under r) rest parted) second,
        own_count l r rest parted start,
      )

  -- joins are one fewer than leaves, and none has more pairs than a step of the plain method
  under_some : (t : Tree) → 1 ≤ length (under t)
  unfolding under
  under_some (leaf c) = le_refl 1
  under_some (join l r) = omega (arith, under_some l, length-append (under l) (under r))

  pairs_le : (t : Tree) → all_pairs routes windows t + triangles windows ≤ length (under t) * triangles windows
  unfolding all_pairs under
  pairs_le (leaf c) = omega arith
  pairs_le (join l r) =
      let n = length (under l) in
      let m = length (under r) in
      let e : length (under l ++ under r) * triangles windows ≡ n * triangles windows + m * triangles windows = ap (λ x. x * triangles windows) (length-append (under l) (under r)) ∙ omega arith in
      omega (arith, pairs_le l, pairs_le r, factors-le (coverages routes (length windows) l) (coverages routes (length windows) r) (coverages routes (length windows) (join l r)) windows)

  pub pairs_plain : (t : Tree) → Permᴰ (under t) (from 1 (length routes)) → all_pairs routes windows t ≤ plain_pairs (length routes) windows
  unfolding plain_pairs
  pairs_plain t every =
      let e : length (under t) ≡ length routes = perm_length every ∙ length_from 1 (length routes) in
      let f : (length (under t) - 1) * triangles windows + triangles windows ≡ length (under t) * triangles windows = less (length (under t)) (triangles windows) (under_some t) in
      subst (λ n. all_pairs routes windows t ≤ (n - 1) * triangles windows) e (omega (arith, pairs_le t))
    where
      less : (n x : ℕ) → 1 ≤ n → (n - 1) * x + x ≡ n * x
      less zero x h = absurd (omega arith)
      less (suc n) x h = let d : suc n - 1 ≡ n = omega arith in rw d (omega arith)

-- ---- neither reaches 2^63

triangle-le : (n : ℕ) → n ≤ 15 → triangle n ≤ 136
triangle-le n h =
    let a : n + 1 ≤ 16 = omega arith in
    let b : n + 2 ≤ 17 = omega arith in
    let k : (n + 1) * (n + 2) ≤ 16 * 17 = mul-le-mul a b in
    omega arith

-- 136 is the triangle of the largest window
triangles-le : (windows : List ℕ) → ((n : ℕ) → Memᴰ n windows → n ≤ 15) → triangles windows ≤ 136 ^ length windows
unfolding triangles
triangles-le [] f = le_refl 1
triangles-le (n ∷ windows) f = rw (pow-suc 136 (length windows)) (omega (arith, mul-le-mul (triangle-le n (f n (Memᴰ.head refl))) (triangles-le windows (λ m k. f m (Memᴰ.tail k)))))

pub plain_below : (centres : ℕ) (windows : List ℕ) → centres ≤ 16 → length windows ≤ 8 → ((n : ℕ) → Memᴰ n windows → n ≤ 15) → plain_pairs centres windows < 2 ^ 63
unfolding plain_pairs
plain_below centres windows h k f =
    let b : triangles windows ≤ 136 ^ 8 = le_trans (triangles-le windows f) (pow-le-pow_right {n = 136} (omega arith) k) in
    let a : centres - 1 ≤ 15 = omega arith in
    let c : (centres - 1) * triangles windows ≤ 15 * 136 ^ 8 = mul-le-mul a b in
    omega arith

-- ---- every pair's result is one of the tree's cells

module _ (routes : List Route) (windows : List ℕ) where
  own_result : (l r : Tree) (start : ℕ) (p : Pair) → Memᴰ p (own_pairs routes windows l r start) → p.result < start + all_cells routes windows (join l r)
  unfolding own_pairs
  own_result l r start p m =
      let f = flat_out (λ v. map (pair_at routes windows l r start v) (index_pairs (coverages routes (length windows) l) (coverages routes (length windows) r) v)) (indices (spans_at routes windows (join l r))) m in
      let q = Memᴰ.of_map (pair_at routes windows l r start f.0) (index_pairs (coverages routes (length windows) l) (coverages routes (length windows) r) f.0) f.2 in
      subst (λ x. x.result < start + all_cells routes windows (join l r)) q.2 (cell_in routes windows (join l r) start f.0 (indices_out (spans_at routes windows (join l r)) f.0 f.1)).1

  pub listed_result : (t : Tree) (start : ℕ) (p : Pair) → Memᴰ p (listed routes windows t start) → p.result < start + all_cells routes windows t
  unfolding listed
  listed_result (leaf c) start p m = absurd (Memᴰ.not-nil m)
  listed_result (join l r) start p m = first (listed_result l start p) (listed_result r (start + all_cells routes windows l) p) (Memᴰ.append_cases (listed routes windows l start) m)
    where
      room : start + (all_cells routes windows l + all_cells routes windows r) ≤ start + all_cells routes windows (join l r)
      room = omega (arith, base_room routes windows (join l r) start, base-join routes windows l r start)

      second : (Memᴰ p (listed routes windows r (start + all_cells routes windows l)) → p.result < start + all_cells routes windows l + all_cells routes windows r) → Memᴰ p (listed routes windows r (start + all_cells routes windows l)) ⊎ Memᴰ p (own_pairs routes windows l r start) → p.result < start + all_cells routes windows (join l r)
      second g (inl n) = omega (arith, g n, room)
      second g (inr n) = own_result l r start p n

      first : (Memᴰ p (listed routes windows l start) → p.result < start + all_cells routes windows l) → (Memᴰ p (listed routes windows r (start + all_cells routes windows l)) → p.result < start + all_cells routes windows l + all_cells routes windows r)
          → Memᴰ p (listed routes windows l start) ⊎ Memᴰ p (listed routes windows r (start + all_cells routes windows l) ++ own_pairs routes windows l r start) → p.result < start + all_cells routes windows (join l r)
      first f g (inl n) = omega (arith, f n, room)
      first f g (inr n) = second g (Memᴰ.append_cases (listed routes windows r (start + all_cells routes windows l)) n)
