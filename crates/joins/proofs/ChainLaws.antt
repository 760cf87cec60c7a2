-- A join's chains by the four ways in which they loop, the lists of loops and rows that they make, and the pairs that those list: over
-- the result's indices, then over the rows. By induction over the chains, with the rows of the chains before.
use Prim.Native.Nat.{ℕ, suc, ◌+◌, ◌*◌}
use mathlib.Core.Path.{◌≡◌, refl, sym, ap, ◌∙◌, fun_ext}
use mathlib.Core.List.{List, [], ◌∷◌, ◌++◌, map, flat_map, append_assoc, append-nil}
use native.Mathlib.Omega.{arith}
use lib.ListN.{length, length-append}
use Rattle.std.specs.Prelude.{Some, None}
use Rattle.std.specs.declared.option.Option.{Option}
use Rattle.sums.specs.Lists.{from}
use Rattle.network.specs.Pairs.{Pair}
use Rattle.network.specs.Cells.{Span, only, upto, indices, index_values, along}
use Rattle.cellsums.specs.declared.Row.{Row}
use Rattle.joins.specs.Loops.{cell_pairs, counted, loop_pairs}
use Rattle.joins.specs.declared.Join.{Join}
use Rattle.joins.specs.declared.Loop.{Loop}
use Rattle.joins.proofs.CountLaws.{row_of, counted_seam}

-- a chain with its window and its strides in the left child, the right child and the join
pub data Chain : Type 0 where
  -- partial in both children and at the join
  both : ℕ → ℕ → ℕ → ℕ → Chain
  -- partial in both children and finished at the join
  ends : ℕ → ℕ → ℕ → Chain
  -- partial in one child and at the join
  one : ℕ → ℕ → ℕ → ℕ → Chain
  -- partial in neither: its index at the join
  still : ℕ → Chain

unfoldable pub span_of : Chain → Span
span_of (both n a b c) = upto n
span_of (ends n a b) = only n
span_of (one n a b c) = upto n
span_of (still i) = only i

unfoldable pub own_stride : Chain → ℕ
own_stride (both n a b c) = c
own_stride (ends n a b) = 0
own_stride (one n a b c) = c
own_stride (still i) = 0

-- ---- the lists

abbrev pub loop_of : ℕ → Option ℕ → ℕ → ℕ → ℕ → Loop
loop_of count row left right own = record { count = count; row = row; left = left; right = right; own = own }

-- there are `at` rows of the chains before
unfoldable pub loops : ℕ → List Chain → List Loop
loops at [] = []
loops at (both n a b c ∷ cs) = loop_of (n + 1) (Some at) 0 0 c ∷ loops (at + 1) cs
loops at (ends n a b ∷ cs) = loops (at + 1) cs
loops at (one n a b c ∷ cs) = loop_of (n + 1) None a b c ∷ loops at cs
loops at (still i ∷ cs) = loops at cs

unfoldable pub rows : List Chain → List Row
rows [] = []
rows (both n a b c ∷ cs) = row_of 1 a b ∷ rows cs
rows (ends n a b ∷ cs) = row_of (n + 1) a b ∷ rows cs
rows (one n a b c ∷ cs) = rows cs
rows (still i ∷ cs) = rows cs

-- the rows at a result index, and the places to which the chains of one child lead
unfoldable pub rows_at : List Chain → List ℕ → List Row
rows_at [] v = []
rows_at (c ∷ cs) [] = []
rows_at (both n a b c ∷ cs) (i ∷ v) = row_of (i + 1) a b ∷ rows_at cs v
rows_at (ends n a b ∷ cs) (i ∷ v) = row_of (i + 1) a b ∷ rows_at cs v
rows_at (one n a b c ∷ cs) (i ∷ v) = rows_at cs v
rows_at (still x ∷ cs) (i ∷ v) = rows_at cs v

unfoldable pub left_at : List Chain → List ℕ → ℕ → ℕ
left_at [] v l = l
left_at (c ∷ cs) [] l = l
left_at (both n a b c ∷ cs) (i ∷ v) l = left_at cs v l
left_at (ends n a b ∷ cs) (i ∷ v) l = left_at cs v l
left_at (one n a b c ∷ cs) (i ∷ v) l = left_at cs v (l + i * a)
left_at (still x ∷ cs) (i ∷ v) l = left_at cs v l

unfoldable pub right_at : List Chain → List ℕ → ℕ → ℕ
right_at [] v r = r
right_at (c ∷ cs) [] r = r
right_at (both n a b c ∷ cs) (i ∷ v) r = right_at cs v r
right_at (ends n a b ∷ cs) (i ∷ v) r = right_at cs v r
right_at (one n a b c ∷ cs) (i ∷ v) r = right_at cs v (r + i * b)
right_at (still x ∷ cs) (i ∷ v) r = right_at cs v r

-- ---- lists

module _ {B : Type 0} where
  flat_append : {A : Type 0} (f : A → List B) (xs ys : List A) → flat_map f (xs ++ ys) ≡ flat_map f xs ++ flat_map f ys
  unfolding flat_map
  flat_append f [] ys = refl
  flat_append f (x ∷ xs) ys = ap (λ z. f x ++ z) (flat_append f xs ys) ∙ sym (append_assoc (f x) (flat_map f xs) (flat_map f ys))

  pub flat_map-map : {A C : Type 0} (f : C → List B) (g : A → C) (xs : List A) → flat_map f (map g xs) ≡ flat_map (λ x. f (g x)) xs
  unfolding flat_map
  flat_map-map f g [] = refl
  flat_map-map f g (x ∷ xs) = ap (λ z. f (g x) ++ z) (flat_map-map f g xs)

  flat_box : (f : List ℕ → List B) (vs : List (List ℕ)) (is : List ℕ) → flat_map f (flat_map (λ i. map (λ v. i ∷ v) vs) is) ≡ flat_map (λ i. flat_map (λ v. f (i ∷ v)) vs) is
  unfolding flat_map
  flat_box f vs [] = refl
  flat_box f vs (i ∷ is) = flat_append f (map (λ v. i ∷ v) vs) (flat_map (λ i. map (λ v. i ∷ v) vs) is) ∙ (λ z. flat_map-map f (λ v. i ∷ v) vs z ++ flat_box f vs is z)

-- ---- the loops list the cells in the order of the indices

pub row_more : (before : List Row) (row : Row) (g : List Row) → before ++ (row ∷ g) ≡ (before ++ (row ∷ [])) ++ g
row_more before row g = sym (append_assoc before (row ∷ []) g)

pub row_length : (before : List Row) (row : Row) → length before + 1 ≡ length (before ++ (row ∷ []))
row_length before row = sym (length-append before (row ∷ []))

module _ (join : Join) where
  -- the pairs of a result index, where the rows of the chains before are settled
  abbrev pub pairs_of : List Row → ℕ → ℕ → ℕ → List Chain → List ℕ → List Pair
  pairs_of before l r t cs v = cell_pairs join (before ++ rows_at cs v) (left_at cs v l) (right_at cs v r) (t + along (map own_stride cs) v)

  further : (t i c x : ℕ) → t + i * c + x ≡ t + (c * i + x)
  further t i c x = omega arith

  still_there : (t x y : ℕ) → t + y ≡ t + (0 * x + y)
  still_there t x y = omega arith

  pub loops_list : (cs : List Chain) (before : List Row) (l r t : ℕ) → loop_pairs join (loops (length before) cs) (before ++ rows cs) l r t ≡ flat_map (pairs_of before l r t cs) (indices (map span_of cs))
  unfolding loops rows loop_pairs indices index_values along rows_at left_at right_at span_of own_stride flat_map
  loops_list [] before l r t = (let e : t ≡ t + 0 = omega arith in λ z. cell_pairs join (before ++ []) l r (e z)) ∙ sym (append-nil _)
  loops_list (both n a b c ∷ cs) before l r t =
      (let m : n + 1 ≡ suc n = omega arith in ap (λ k. flat_map (λ i. loop_pairs join (loops (length before + 1) cs) (counted (before ++ (row_of 1 a b ∷ rows cs)) (length before) (i + 1)) (l + i * 0) (r + i * 0) (t + i * c)) (from 0 k)) m)
      ∙ ap (λ f. flat_map f (from 0 (suc n))) (fun_ext (λ i.
      let row = row_of (i + 1) a b in
      (let e : l + i * 0 ≡ l = omega arith in let f : r + i * 0 ≡ r = omega arith in
      λ z. loop_pairs join (loops (row_length before row z) cs) ((counted_seam before (row_of 1 a b) (rows cs) (i + 1) ∙ row_more before row (rows cs)) z) (e z) (f z) (t + i * c))
      ∙ loops_list cs (before ++ (row ∷ [])) l r (t + i * c)
      ∙ ap (λ k. flat_map k (indices (map span_of cs))) (fun_ext (λ v. λ z. cell_pairs join (sym (row_more before row (rows_at cs v)) z) (left_at cs v l) (right_at cs v r) (further t i c (along (map own_stride cs) v) z)))))
      ∙ sym (flat_box _ (indices (map span_of cs)) (from 0 (suc n)))
  loops_list (ends n a b ∷ cs) before l r t =
      let row = row_of (n + 1) a b in
      (λ z. loop_pairs join (loops (row_length before row z) cs) (row_more before row (rows cs) z) l r t)
      ∙ loops_list cs (before ++ (row ∷ [])) l r t
      ∙ ap (λ k. flat_map k (indices (map span_of cs))) (fun_ext (λ v. λ z. cell_pairs join (sym (row_more before row (rows_at cs v)) z) (left_at cs v l) (right_at cs v r) (still_there t n (along (map own_stride cs) v) z)))
      ∙ sym (append-nil _)
      ∙ sym (flat_box _ (indices (map span_of cs)) (n ∷ []))
  loops_list (one n a b c ∷ cs) before l r t =
      (let m : n + 1 ≡ suc n = omega arith in ap (λ k. flat_map (λ i. loop_pairs join (loops (length before) cs) (before ++ rows cs) (l + i * a) (r + i * b) (t + i * c)) (from 0 k)) m)
      ∙ ap (λ f. flat_map f (from 0 (suc n))) (fun_ext (λ i.
      loops_list cs before (l + i * a) (r + i * b) (t + i * c)
      ∙ ap (λ k. flat_map k (indices (map span_of cs))) (fun_ext (λ v. λ z. cell_pairs join (before ++ rows_at cs v) (left_at cs v (l + i * a)) (right_at cs v (r + i * b)) (further t i c (along (map own_stride cs) v) z)))))
      ∙ sym (flat_box _ (indices (map span_of cs)) (from 0 (suc n)))
  loops_list (still x ∷ cs) before l r t =
      loops_list cs before l r t
      ∙ ap (λ k. flat_map k (indices (map span_of cs))) (fun_ext (λ v. λ z. cell_pairs join (before ++ rows_at cs v) (left_at cs v l) (right_at cs v r) (still_there t x (along (map own_stride cs) v) z)))
      ∙ sym (append-nil _)
      ∙ sym (flat_box _ (indices (map span_of cs)) (x ∷ []))
