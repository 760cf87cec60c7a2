-- A join's lists of loops and rows are sound: where the chains' last places lie in the children's cells and the join's own, and the largest cell's number of
-- pairs is below 2^64, so is it at every cell that the loops come to. By induction over the chains, with the rows of the chains before.
use Prim.Native.Nat.{ℕ, ◌+◌, ◌-◌, ◌*◌, ◌^◌, ◌≤◌, ◌<◌}
use mathlib.Core.Path.{◌≡◌, refl, sym, ap, ◌∙◌}
use mathlib.Core.List.{List, [], ◌∷◌, ◌++◌, append-nil}
use native.Mathlib.Nat.{mul-le-mul_right, mul-le-mul_left, mul_assoc, mul-one, le_refl, one-le-mul}
use native.Mathlib.Omega.{arith}
use lib.ListN.{length, length-append}
use Rattle.sums.specs.Lists.{from}
use Rattle.sums.proofs.ListLaws.{length_flat, length_from}
use Rattle.cellsums.specs.Places.{places, reach_left, reach_right}
use Rattle.cellsums.specs.declared.Row.{Row}
use Rattle.joins.specs.Loops.{Sound}
use Rattle.joins.specs.declared.Join.{Join}
use Rattle.joins.specs.declared.Loop.{Loop}
use Rattle.joins.proofs.CountLaws.{row_of, counted_seam}
use Rattle.joins.proofs.ChainLaws.{Chain, both, ends, one, still, loops, rows, row_more, row_length}

-- ---- the rows of the chains before

unfoldable pub pairs_in : List Row → ℕ
pairs_in [] = 1
pairs_in (row ∷ rows) = row.count * pairs_in rows

pairs_more : (rows : List Row) (row : Row) → pairs_in (rows ++ (row ∷ [])) ≡ pairs_in rows * row.count
unfolding pairs_in
pairs_more [] row = omega arith
pairs_more (x ∷ rows) row = ap (λ z. x.count * z) (pairs_more rows row) ∙ sym (mul_assoc x.count (pairs_in rows) row.count)

left_more : (rows : List Row) (row : Row) → reach_left (rows ++ (row ∷ [])) ≡ reach_left rows + (row.count - 1) * row.left
unfolding reach_left
left_more [] row = omega arith
left_more (x ∷ rows) row = omega (arith, left_more rows row)

right_more : (rows : List Row) (row : Row) → reach_right (rows ++ (row ∷ [])) ≡ reach_right rows + (row.count - 1) * row.right
unfolding reach_right
right_more [] row = omega arith
right_more (x ∷ rows) row = omega (arith, right_more rows row)

length-places : (rows : List Row) (l r : ℕ) → length (places rows l r) ≡ pairs_in rows
unfolding places pairs_in
length-places [] l r = refl
length-places (row ∷ rows) l r =
    length_flat _ (pairs_in rows) (λ j. length-places rows (l + j * row.left) (r + (row.count - 1 - j) * row.right)) (from 0 row.count)
    ∙ ap (λ n. n * pairs_in rows) (length_from 0 row.count)

-- ---- what the chains that are left may still add

unfoldable pub more_left : List Chain → ℕ
more_left [] = 0
more_left (both n a b c ∷ cs) = n * a + more_left cs
more_left (ends n a b ∷ cs) = n * a + more_left cs
more_left (one n a b c ∷ cs) = n * a + more_left cs
more_left (still i ∷ cs) = more_left cs

unfoldable pub more_right : List Chain → ℕ
more_right [] = 0
more_right (both n a b c ∷ cs) = n * b + more_right cs
more_right (ends n a b ∷ cs) = n * b + more_right cs
more_right (one n a b c ∷ cs) = n * b + more_right cs
more_right (still i ∷ cs) = more_right cs

unfoldable pub more_own : List Chain → ℕ
more_own [] = 0
more_own (both n a b c ∷ cs) = n * c + more_own cs
more_own (ends n a b ∷ cs) = more_own cs
more_own (one n a b c ∷ cs) = n * c + more_own cs
more_own (still i ∷ cs) = more_own cs

-- the pairs of the chains that finish, and the most of those that stay shared
unfoldable pub ended : List Chain → ℕ
ended [] = 1
ended (both n a b c ∷ cs) = ended cs
ended (ends n a b ∷ cs) = (n + 1) * ended cs
ended (one n a b c ∷ cs) = ended cs
ended (still i ∷ cs) = ended cs

unfoldable pub most : List Chain → ℕ
most [] = 1
most (both n a b c ∷ cs) = (n + 1) * most cs
most (ends n a b ∷ cs) = most cs
most (one n a b c ∷ cs) = most cs
most (still i ∷ cs) = most cs

most_pos : (cs : List Chain) → 1 ≤ most cs
unfolding most
most_pos [] = le_refl 1
most_pos (both n a b c ∷ cs) = one-le-mul (omega arith) (most_pos cs)
most_pos (ends n a b ∷ cs) = most_pos cs
most_pos (one n a b c ∷ cs) = most_pos cs
most_pos (still i ∷ cs) = most_pos cs

-- a factor of a number below 2^64
factor_low : (w m : ℕ) → 1 ≤ m → w * m < 2 ^ 64 → w < 2 ^ 64
factor_low w m h k = omega (arith, mul-one w, mul-le-mul_left w h)

-- the children's cells and the join's own lie in an area of n cells, the join's own last
pub record Parts (n : ℕ) (join : Join) : Type 0 where
  pub left_from : join.left.from ≤ join.left.to
  pub left_to : join.left.to ≤ n
  pub right_from : join.right.from ≤ join.right.to
  pub right_to : join.right.to ≤ n
  pub own_from : join.own.from ≤ join.own.to
  pub own_to : join.own.to ≤ n
  pub left_before : join.left.to ≤ join.own.from
  pub right_before : join.right.to ≤ join.own.from
  pub low : n < 2 ^ 64

pub record Bounds (join : Join) (gs : List Row) (cs : List Chain) (l r t count : ℕ) : Type 0 where
  pub left_last : join.left.from + (l + reach_left gs + more_left cs) < join.left.to
  pub right_last : join.right.from + (r + reach_right gs + more_right cs) < join.right.to
  pub own_last : join.own.from + (t + more_own cs) < join.own.to
  pub counted : count ≡ pairs_in gs * ended cs
  pub count_low : count * most cs < 2 ^ 64

module _ (n : ℕ) (join : Join) (parts : Parts n join) where
  -- places below the last ones fit a register
  low_left : (x y : ℕ) → join.left.from + (x + y) < join.left.to → x < 2 ^ 64
  low_left x y h = omega (arith, parts.left_to, parts.low)

  low_right : (x y : ℕ) → join.right.from + (x + y) < join.right.to → x < 2 ^ 64
  low_right x y h = omega (arith, parts.right_to, parts.low)

  low_own : (x y : ℕ) → join.own.from + (x + y) < join.own.to → x < 2 ^ 64
  low_own x y h = omega (arith, parts.own_to, parts.low)

  move : {h h' : List Loop} {g g' : List Row} {l l' r r' : ℕ} (t w : ℕ) → h ≡ h' → g ≡ g' → l ≡ l' → r ≡ r' → Sound n join h' g' l' r' t w → Sound n join h g l r t w
  move t w eh eg el er s = rw (eh, eg, el, er) s

  -- one more row of i + 1 pairs, of at most x + 1
  row_settled : (gs : List Row) (cs : List Chain) (l r t w i x a b : ℕ) → i ≤ x
      → join.left.from + (l + reach_left gs + (x * a + more_left cs)) < join.left.to → join.right.from + (r + reach_right gs + (x * b + more_right cs)) < join.right.to → join.own.from + (t + more_own cs) < join.own.to
      → w ≡ pairs_in gs * (i + 1) * ended cs → w * most cs < 2 ^ 64
      → Bounds join (gs ++ (row_of (i + 1) a b ∷ [])) cs l r t w
  row_settled gs cs l r t w i x a b h hl hr ht ew hw =
      let u : i * a ≤ x * a = mul-le-mul_right a h in
      let v : i * b ≤ x * b = mul-le-mul_right b h in
      let e : i + 1 - 1 ≡ i = omega arith in
      let fl : reach_left (gs ++ (row_of (i + 1) a b ∷ [])) ≡ reach_left gs + i * a = left_more gs (row_of (i + 1) a b) ∙ rw e in
      let fr : reach_right (gs ++ (row_of (i + 1) a b ∷ [])) ≡ reach_right gs + i * b = right_more gs (row_of (i + 1) a b) ∙ rw e in
      record {
        left_last = omega (arith, fl);
        right_last = omega (arith, fr);
        own_last = ht;
        counted = ew ∙ ap (λ z. z * ended cs) (sym (pairs_more gs (row_of (i + 1) a b)));
        count_low = hw;
      }

  pub chains_sound : (cs : List Chain) (gs : List Row) (l r t w : ℕ) → Bounds join gs cs l r t w → Sound n join (loops (length gs) cs) (gs ++ rows cs) l r t w
  unfolding Sound loops rows more_left more_right more_own ended most
  chains_sound [] gs l r t w k =
      rw (append-nil gs)
      (record {
        inside = record {
          reads = record { left_from = parts.left_from; left_to = parts.left_to; left_reach = omega (arith, k.left_last); right_from = parts.right_from; right_to = parts.right_to; right_reach = omega (arith, k.right_last) };
          own_from = parts.own_from;
          own_to = parts.own_to;
          own_at = omega (arith, k.own_last);
          left_before = parts.left_before;
          right_before = parts.right_before;
        };
        counted = k.counted ∙ mul-one (pairs_in gs) ∙ sym (length-places gs l r);
      })
  chains_sound (both x a b c ∷ cs) gs l r t w k = (
    omega (arith, length-append gs (row_of 1 a b ∷ rows cs)),
    (λ i h.
        let row = row_of (i + 1) a b in
        let le : i ≤ x = omega arith in
        let up : w * (i + 1) * most cs ≤ w * ((x + 1) * most cs) = rw (mul_assoc w (i + 1) (most cs)) (mul-le-mul_left w (mul-le-mul_right (most cs) (omega arith))) in
        let hw : w * (i + 1) * most cs < 2 ^ 64 = omega (arith, up, k.count_low) in
        let ic : i * c ≤ x * c = mul-le-mul_right c le in
        let el : l + i * 0 ≡ l = omega arith in
        let er : r + i * 0 ≡ r = omega arith in
        let wi : w * (i + 1) ≡ pairs_in gs * (i + 1) * ended cs = ap (λ z. z * (i + 1)) k.counted ∙ omega arith in
        let ht : join.own.from + (t + i * c + more_own cs) < join.own.to = omega (arith, k.own_last) in (
          rw (el, er) (record { left_low = low_left l (reach_left gs + (x * a + more_left cs)) (omega (arith, k.left_last)); right_low = low_right r (reach_right gs + (x * b + more_right cs)) (omega (arith, k.right_last)); own_low = low_own (t + i * c) (more_own cs) ht; count_low = factor_low (w * (i + 1)) (most cs) (most_pos cs) hw }),
          move (t + i * c) (w * (i + 1)) (ap (λ z. loops z cs) (row_length gs row)) (counted_seam gs (row_of 1 a b) (rows cs) (i + 1) ∙ row_more gs row (rows cs)) el er
              (chains_sound cs (gs ++ (row ∷ [])) l r (t + i * c) (w * (i + 1)) (row_settled gs cs l r (t + i * c) (w * (i + 1)) i x a b le k.left_last k.right_last ht wi hw)),
        )),
  )
  chains_sound (ends x a b ∷ cs) gs l r t w k =
      let row = row_of (x + 1) a b in
      let wi : w ≡ pairs_in gs * (x + 1) * ended cs = k.counted ∙ omega arith in
      move t w (ap (λ z. loops z cs) (row_length gs row)) (row_more gs row (rows cs)) refl refl
      (chains_sound cs (gs ++ (row ∷ [])) l r t w (row_settled gs cs l r t w x x a b (le_refl x) k.left_last k.right_last k.own_last wi k.count_low))
  chains_sound (one x a b c ∷ cs) gs l r t w k = (
    tt,
    (λ i h.
        let le : i ≤ x = omega arith in
        let ia : i * a ≤ x * a = mul-le-mul_right a le in
        let ib : i * b ≤ x * b = mul-le-mul_right b le in
        let ic : i * c ≤ x * c = mul-le-mul_right c le in
        let hl : join.left.from + (l + i * a + reach_left gs + more_left cs) < join.left.to = omega (arith, k.left_last) in
        let hr : join.right.from + (r + i * b + reach_right gs + more_right cs) < join.right.to = omega (arith, k.right_last) in
        let ht : join.own.from + (t + i * c + more_own cs) < join.own.to = omega (arith, k.own_last) in (
          record { left_low = low_left (l + i * a) (reach_left gs + more_left cs) (omega (arith, hl)); right_low = low_right (r + i * b) (reach_right gs + more_right cs) (omega (arith, hr)); own_low = low_own (t + i * c) (more_own cs) ht; count_low = factor_low w (most cs) (most_pos cs) k.count_low },
          chains_sound cs gs (l + i * a) (r + i * b) (t + i * c) w (record { left_last = hl; right_last = hr; own_last = ht; counted = k.counted; count_low = k.count_low }),
        )),
  )
  chains_sound (still i ∷ cs) gs l r t w k = chains_sound cs gs l r t w (record { left_last = k.left_last; right_last = k.right_last; own_last = k.own_last; counted = k.counted; count_low = k.count_low })
