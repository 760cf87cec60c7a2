-- Windows of at most 15 and at most 8 chains: a node has at most 16^8 cells, a join at most 136^8 pairs. By induction over the chains.
use Prim.Native.Nat.{ℕ, zero, suc, ◌+◌, ◌*◌, ◌^◌, ◌≤◌}
use mathlib.Core.List.{List, map}
use native.Mathlib.Omega.{arith}
use native.Mathlib.Nat.{le_refl, le_trans, mul-le-mul, pow-succ', pow-le-pow_right}
use lib.ListN.{get_or}
use Rattle.sums.specs.Lists.{from}
use Rattle.network.specs.Coverage.{Coverage, finished, partial, absent}
use Rattle.network.specs.Cells.{span, size, cells}
use Rattle.network.specs.Pairs.{triangle, triangles}
use Rattle.network.proofs.CoverageLaws.{coverage_by_count}
use Rattle.network.proofs.PairLaws.{factors-le}
use Rattle.plan.specs.Steps.{covers_by, spans_by, factors_by}

pub size_few : (c : Coverage) (n : ℕ) → n ≤ 15 → size (span c n) ≤ 16
unfolding span size
size_few finished n h = omega arith
size_few partial n h = omega arith
size_few absent n h = omega arith

pub product_few : (n : ℕ) → n ≤ 15 → (n + 1) * (n + 2) ≤ 272
product_few n h = let a : n + 1 ≤ 16 = omega arith in let b : n + 2 ≤ 17 = omega arith in mul-le-mul a b

triangle_few : (n : ℕ) → n ≤ 15 → triangle n ≤ 136
triangle_few n h = omega (arith, product_few n h)

module _ (windows : List ℕ) (small : (k : ℕ) → get_or windows k 0 ≤ 15) where
  module _ (totals counts : List ℕ) where
    cells_pow : (k n : ℕ) → cells (spans_by totals windows counts k n) ≤ 16 ^ n
    unfolding spans_by from cells
    cells_pow k zero = le_refl 1
    cells_pow k (suc n) = omega (arith, mul-le-mul (size_few (coverage_by_count (get_or counts k 0) (get_or totals k 0)) (get_or windows k 0) (small k)) (cells_pow (suc k) n), pow-succ' 16 n)

    pub cells_few : (k n : ℕ) → n ≤ 8 → cells (spans_by totals windows counts k n) ≤ 2 ^ 32
    cells_few k n h = let p : 16 ^ n ≤ 16 ^ 8 = pow-le-pow_right (omega arith) h in omega (arith, cells_pow k n)

  triangles_pow : (k n : ℕ) → triangles (map (λ i. get_or windows i 0) (from k n)) ≤ 136 ^ n
  unfolding from triangles
  triangles_pow k zero = le_refl 1
  triangles_pow k (suc n) = omega (arith, mul-le-mul (triangle_few (get_or windows k 0) (small k)) (triangles_pow (suc k) n), pow-succ' 136 n)

  pub factors_few : (totals ls rs js : List ℕ) (k n : ℕ) → n ≤ 8 → factors_by totals windows ls rs js k n ≤ 136 ^ 8
  unfolding factors_by
  factors_few totals ls rs js k n h =
      le_trans (factors-le (covers_by totals ls k n) (covers_by totals rs k n) (covers_by totals js k n) (map (λ i. get_or windows i 0) (from k n)))
      (le_trans (triangles_pow k n) (pow-le-pow_right (omega arith) h))
