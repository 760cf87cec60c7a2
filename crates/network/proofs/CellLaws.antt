-- A node's cells: its indices are the vectors inside its spans, each once; the place of an index is where it lies, so places are
-- below the number of cells and no two indices share one. By induction over the chains.
use Prim.Native.Nat.{ℕ, suc, ◌+◌, ◌*◌, ◌≤◌, ◌<◌}
use mathlib.Core.Path.{◌≡◌, refl, sym, ap, subst, ◌∙◌}
use mathlib.Core.List.Memᴰ
use mathlib.Core.List.{List, [], ◌∷◌, map, flat_map, tail, head_d, Memᴰ, Nodup, Nodup-nil}
use native.Mathlib.Omega.{arith}
use native.Mathlib.Nat.{zero-add, le_refl, one-le-mul, mul_comm, mul-le-mul_right}
use lib.ListN.{length, get_or, length-map}
use Rattle.sums.specs.Lists.{from}
use Rattle.sums.proofs.ListLaws.{length_flat, get_or_flat, get_or-map_in, flat_in, flat_out, length_from, get_or-from, from_in, from_out, from_nodup, nodup_more, nodup_map, nodup_flat}
use Rattle.network.specs.Cells.{Span, only, upto, index_values, indices, size, cells, stride, strides, along, place}

-- i is an index value of the span, and a vector is an index of the spans
pub data In : Span → ℕ → Type 0 where
  here : {n : ℕ} → In (only n) n
  low : {n i : ℕ} → i ≤ n → In (upto n) i

pub data Inside : List Span → List ℕ → Type 0 where
  none : Inside [] []
  more : {s : Span} {i : ℕ} {ss : List Span} {v : List ℕ} → In s i → Inside ss v → Inside (s ∷ ss) (i ∷ v)

pub inside_length : {ss : List Span} {v : List ℕ} → Inside ss v → length v ≡ length ss
inside_length Inside.none = refl
inside_length (Inside.more i r) = ap suc (inside_length r)

-- ---- the indices are the vectors inside, each once

values_in : {s : Span} {i : ℕ} → In s i → Memᴰ i (index_values s)
unfolding index_values
values_in In.here = Memᴰ.head refl
values_in (In.low {n = n} {i = i} h) = subst (λ x. Memᴰ x (from 0 (suc n))) (zero-add i) (from_in 0 (suc n) i (omega arith))

values_out : (s : Span) (i : ℕ) → Memᴰ i (index_values s) → In s i
unfolding index_values
values_out (only n) i m = subst (In (only n)) (sym (Memᴰ.eq_of_singleton m)) In.here
values_out (upto n) i m = let h : i ≤ n = omega (arith, (from_out 0 (suc n) i m).1) in In.low h

pub indices_in : {ss : List Span} {v : List ℕ} → Inside ss v → Memᴰ v (indices ss)
unfolding indices
indices_in Inside.none = Memᴰ.head refl
indices_in (Inside.more {s = s} {i = i} {ss = ss} p r) = flat_in (λ i. map (λ v. i ∷ v) (indices ss)) (values_in p) (Memᴰ.map (λ v. i ∷ v) (indices_in r))

pub indices_out : (ss : List Span) (v : List ℕ) → Memᴰ v (indices ss) → Inside ss v
unfolding indices
indices_out [] v m = subst (Inside []) (sym (Memᴰ.eq_of_singleton m)) Inside.none
indices_out (s ∷ ss) v m =
    let r = flat_out (λ i. map (λ v. i ∷ v) (indices ss)) (index_values s) m in
    let t = Memᴰ.of_map (λ v. r.0 ∷ v) (indices ss) r.2 in
    subst (Inside (s ∷ ss)) t.2 (Inside.more (values_out s r.0 r.1) (indices_out ss t.0 t.1))

values_nodup : (s : Span) → Nodup (index_values s)
unfolding index_values
values_nodup (only n) = nodup_more Memᴰ.not-nil Nodup-nil
values_nodup (upto n) = from_nodup 0 (suc n)

pub indices_nodup : (ss : List Span) → Nodup (indices ss)
unfolding indices head_d
indices_nodup [] = nodup_more Memᴰ.not-nil Nodup-nil
indices_nodup (s ∷ ss) =
    nodup_flat (λ i. map (λ v. i ∷ v) (indices ss)) (index_values s) (values_nodup s)
    (λ i. nodup_map (λ v. i ∷ v) (λ x y e. ap tail e) (indices ss) (indices_nodup ss))
    (λ i k v mi mk m n. let r = Memᴰ.of_map (λ v. i ∷ v) (indices ss) m in let t = Memᴰ.of_map (λ v. k ∷ v) (indices ss) n in ap (λ l. head_d l 0) (r.2 ∙ sym t.2))

-- ---- how many

length_values : (s : Span) → length (index_values s) ≡ size s
unfolding index_values size
length_values (only n) = refl
length_values (upto n) = length_from 0 (suc n)

pub length-indices : (ss : List Span) → length (indices ss) ≡ cells ss
unfolding indices cells
length-indices [] = refl
length-indices (s ∷ ss) =
    length_flat (λ i. map (λ v. i ∷ v) (indices ss)) (cells ss) (λ i. length-map (indices ss) (λ v. i ∷ v) ∙ length-indices ss) (index_values s)
    ∙ ap (λ n. n * cells ss) (length_values s)

pub cells_pos : (ss : List Span) → 1 ≤ cells ss
unfolding cells size
cells_pos [] = le_refl 1
cells_pos (only n ∷ ss) = one-le-mul (le_refl 1) (cells_pos ss)
cells_pos (upto n ∷ ss) = one-le-mul (omega arith) (cells_pos ss)

-- ---- the place of an index

-- a chain's part of a place, and the number it stands for among the chain's index values
stride-lt : {s : Span} {i : ℕ} (m p : ℕ) → In s i → p < m → stride s m * i + p < size s * m
unfolding stride size
stride-lt m p (In.here {n = n}) h = omega arith
stride-lt m p (In.low {n = n} {i = i} k) h = omega (arith, mul-le-mul_right m k, mul_comm m i)

pub place-lt : {ss : List Span} {v : List ℕ} → Inside ss v → place ss v < cells ss
unfolding along strides cells
place-lt Inside.none = le_refl 1
place-lt (Inside.more {ss = ss} {v = v} p r) = stride-lt (cells ss) (place ss v) p (place-lt r)

-- the index lies at its place
value_at : {s : Span} {i : ℕ} (ss : List Span) (p : ℕ) → In s i → p < cells ss → get_or (indices (s ∷ ss)) (stride s (cells ss) * i + p) [] ≡ i ∷ get_or (indices ss) p []
unfolding indices stride index_values
value_at {i = i} ss p In.here h =
    let e : 0 * i + p ≡ 0 * cells ss + p = omega arith in
    ap (λ x. get_or (flat_map (λ i. map (λ v. i ∷ v) (indices ss)) (i ∷ [])) x []) e
    ∙ get_or_flat (λ i. map (λ v. i ∷ v) (indices ss)) (cells ss) (λ i. length-map (indices ss) (λ v. i ∷ v) ∙ length-indices ss) (i ∷ []) 0 [] 0 p (le_refl 1) h
    ∙ get_or-map_in (λ v. i ∷ v) (indices ss) p [] [] (rw (length-indices ss) h)
value_at {i = i} ss p (In.low {n = n} k) h =
    let e : cells ss * i + p ≡ i * cells ss + p = ap (λ x. x + p) (mul_comm (cells ss) i) in
    ap (λ x. get_or (flat_map (λ i. map (λ v. i ∷ v) (indices ss)) (from 0 (suc n))) x []) e
    ∙ get_or_flat (λ i. map (λ v. i ∷ v) (indices ss)) (cells ss) (λ i. length-map (indices ss) (λ v. i ∷ v) ∙ length-indices ss) (from 0 (suc n)) 0 [] i p (omega (arith, length_from 0 (suc n))) h
    ∙ get_or-map_in (λ v. get_or (from 0 (suc n)) i 0 ∷ v) (indices ss) p [] [] (rw (length-indices ss) h)
    ∙ ap (λ x. x ∷ get_or (indices ss) p []) (get_or-from 0 (suc n) i (omega arith) ∙ zero-add i)

pub index_at : {ss : List Span} {v : List ℕ} → Inside ss v → get_or (indices ss) (place ss v) [] ≡ v
unfolding along strides indices
index_at Inside.none = refl
index_at (Inside.more {i = i} {ss = ss} {v = v} p r) = value_at ss (place ss v) p (place-lt r) ∙ ap (λ l. i ∷ l) (index_at r)

pub place_same : {ss : List Span} {u v : List ℕ} → Inside ss u → Inside ss v → place ss u ≡ place ss v → u ≡ v
place_same {ss} p q e = sym (index_at p) ∙ ap (λ n. get_or (indices ss) n []) e ∙ index_at q

-- a node's array: a function of the index, laid out in the order of the cells
pub array_at : (f : List ℕ → ℕ) {ss : List Span} {v : List ℕ} → Inside ss v → get_or (map f (indices ss)) (place ss v) 0 ≡ f v
array_at f {ss} {v} i = get_or-map_in f (indices ss) (place ss v) 0 [] (rw (length-indices ss) (place-lt i)) ∙ ap f (index_at i)
