-- A join's pairs, from the coverage of its chains at the children and at the join: each pair's indices are indices of the children; a
-- sum over all splits of a result index is the sum over its pairs, if what is left out is 0; and the pairs are counted by the product
-- of the chains' factors, each at most (N+1)(N+2)/2. By cases on how a chain's coverages meet, then over the chains.
use Prim.Native.Nat.{ℕ, zero, suc, ◌+◌, ◌*◌, ◌/◌, ◌≤◌}
use mathlib.Core.Path.{◌≡◌, refl, sym, ap, subst, ◌∙◌, fun_ext}
use mathlib.Core.Bool.{Bool, true, false, true≢false}
use mathlib.Core.List.Memᴰ
use mathlib.Core.List.{List, [], ◌∷◌, map, zip_with, Memᴰ}
use native.Mathlib.Omega.{arith}
use native.Mathlib.Nat.{zero-mul, mul_comm, le_refl, one-le-mul, mul-le-mul}
use lib.ListN.{length, length-map}
use Rattle.sums.specs.Lists.{from}
use Rattle.sums.specs.Sums.{sum_over, splits, one_more, before}
use Rattle.sums.proofs.ListLaws.{flat_out, length_flat}
use Rattle.sums.proofs.SumLaws.{sum_over-map, sum_over_flat, sum_over_ext, sum_over-mul}
use Rattle.sums.proofs.SplitLaws.{splits_out, split_length}
use Rattle.sums.proofs.AntiLaws.{anti, anti_v, anti_first, anti_final, anti_sum, anti_v_cong, anti_v-zero}
use Rattle.network.specs.Centre.{fits}
use Rattle.network.specs.Coverage.{Coverage, finished, partial, absent}
use Rattle.network.specs.Cells.{span, index_values, indices}
use Rattle.network.specs.Pairs.{chain_pairs, index_pairs, triangle, factor, factors, triangles}
use Rattle.network.proofs.CoverageLaws.{Meet, Meets}
use Rattle.network.proofs.CellLaws.{In, Inside}

pub length-splits : (n : ℕ) → length (splits n) ≡ suc n
unfolding splits
length-splits zero = refl
length-splits (suc n) = ap suc (length-map (splits n) one_more ∙ length-splits n)

-- ---- each pair's indices are indices of the children

-- of one chain
Both : Coverage → Coverage → ℕ → ℕ × ℕ → Type 0
Both l r n p = In (span l n) p.0 × In (span r n) p.1

one_pair : (l r : Coverage) (n a b : ℕ) → In (span l n) a → In (span r n) b → (p : ℕ × ℕ) → Memᴰ p ((a, b) ∷ []) → Both l r n p
unfolding Both
one_pair l r n a b x y p m = subst (λ p. In (span l n) p.0 × In (span r n) p.1) (sym (Memᴰ.eq_of_singleton m)) (x, y)

split_pair : (n i : ℕ) → i ≤ n → (p : ℕ × ℕ) → Memᴰ p (splits i) → Both partial partial n p
unfolding Both span
split_pair n i h p m = let e = splits_out p i m in let x : p.0 ≤ n = omega arith in let y : p.1 ≤ n = omega arith in (In.low x, In.low y)

chain_inside : {l r j : Coverage} → Meet l r j → (n i : ℕ) → In (span j n) i → (p : ℕ × ℕ) → Memᴰ p (chain_pairs l r i) → Both l r n p
unfolding span chain_pairs
chain_inside (Meet.left finished) n i x p m = one_pair finished absent n i 0 x In.here p m
chain_inside (Meet.left partial) n i x p m = one_pair partial absent n i 0 x In.here p m
chain_inside (Meet.left absent) n i In.here p m = one_pair absent absent n 0 0 In.here In.here p m
chain_inside (Meet.right c) n i x p m = one_pair absent c n 0 i In.here x p m
chain_inside Meet.shared n i (In.low h) p m = split_pair n i h p m
chain_inside Meet.closed n i In.here p m = split_pair n i (le_refl i) p m

pub pairs_inside : {ls rs js : List Coverage} → Meets ls rs js → (N v : List ℕ) → Inside (zip_with span js N) v → (p : List ℕ × List ℕ) → Memᴰ p (index_pairs ls rs v) → length js ≡ length N
    → Inside (zip_with span ls N) p.0 × Inside (zip_with span rs N) p.1
unfolding zip_with index_pairs Both
pairs_inside Meets.none N v Inside.none p m e = subst (λ p. Inside [] p.0 × Inside [] p.1) (sym (Memᴰ.eq_of_singleton m)) (Inside.none, Inside.none)
pairs_inside (Meets.more t ts) [] v x p m e = absurd (omega arith)
pairs_inside (Meets.more {l = l} {r = r} {ls = ls} {rs = rs} t ts) (n ∷ N) v (Inside.more {i = i} {v = w} x xs) p m e =
    let d = flat_out (λ p. map (before p) (index_pairs ls rs w)) (chain_pairs l r i) m in
    let q = Memᴰ.of_map (before d.0) (index_pairs ls rs w) d.2 in
    let h = chain_inside t n i x d.0 d.1 in
    let k = pairs_inside ts N w xs q.0 q.1 (omega arith) in
    subst (λ p. Inside (span l n ∷ zip_with span ls N) p.0 × Inside (span r n ∷ zip_with span rs N) p.1) q.2 (Inside.more h.0 k.0, Inside.more h.1 k.1)

-- ---- a sum over splits is the sum over the pairs

-- whether a chain has messages there at all
unfoldable pub present : Coverage → Bool
present finished = true
present partial = true
present absent = false

chain_sum : {l r j : Coverage} → Meet l r j → (n : ℕ) (h : ℕ → ℕ → ℕ) → (present l ≡ false → (a b : ℕ) → h (suc a) b ≡ 0) → (present r ≡ false → (a b : ℕ) → h a (suc b) ≡ 0) → anti n h ≡ sum_over (chain_pairs l r n) (λ p. h p.0 p.1)
unfolding chain_pairs sum_over present
chain_sum (Meet.left finished) n h p q = omega (arith, anti_final n h (q refl))
chain_sum (Meet.left partial) n h p q = omega (arith, anti_final n h (q refl))
chain_sum (Meet.left absent) n h p q = omega (arith, anti_first n h (p refl))
chain_sum (Meet.right c) n h p q = omega (arith, anti_first n h (p refl))
chain_sum Meet.shared n h p q = anti_sum n h
chain_sum Meet.closed n h p q = anti_sum n h

fits_out : (b : Bool) (n : ℕ) (route : List Bool) (ns : List ℕ) → b ≡ false → fits (b ∷ route) (suc n ∷ ns) ≡ false
unfolding fits
fits_out false n route ns e = refl
fits_out true n route ns e = absurd (true≢false e)

fits_later : (b : Bool) (n : ℕ) (route : List Bool) (ns : List ℕ) → fits route ns ≡ false → fits (b ∷ route) (n ∷ ns) ≡ false
unfolding fits
fits_later false zero route ns h = h
fits_later false (suc n) route ns h = refl
fits_later true n route ns h = h

-- h is 0 unless the left part has messages of the chains present on the left alone, and the right part likewise
pub pairs_sum : {ls rs js : List Coverage} → Meets ls rs js → (v : List ℕ) → length js ≡ length v → (h : List ℕ → List ℕ → ℕ)
    → ((a b : List ℕ) → length a ≡ length v → length b ≡ length v → fits (map present ls) a ≡ false → h a b ≡ 0)
    → ((a b : List ℕ) → length a ≡ length v → length b ≡ length v → fits (map present rs) b ≡ false → h a b ≡ 0)
    → anti_v v h ≡ sum_over (index_pairs ls rs v) (λ p. h p.0 p.1)
unfolding index_pairs anti_v sum_over
pairs_sum Meets.none [] e h p q = omega arith
pairs_sum Meets.none (n ∷ v) e h p q = absurd (omega arith)
pairs_sum (Meets.more t ts) [] e h p q = absurd (omega arith)
pairs_sum (Meets.more {l = l} {r = r} {ls = ls} {rs = rs} t ts) (n ∷ v) e h p q =
    chain_sum t n (λ x y. anti_v v (λ a b. h (x ∷ a) (y ∷ b)))
    (λ f x y. anti_v_cong v (λ a b. h (suc x ∷ a) (y ∷ b)) (λ a b. 0) (λ a b s. p (suc x ∷ a) (y ∷ b) (ap suc (split_length s).0) (ap suc (split_length s).1) (fits_out (present l) x (map present ls) a f)) ∙ anti_v-zero v)
    (λ f x y. anti_v_cong v (λ a b. h (x ∷ a) (suc y ∷ b)) (λ a b. 0) (λ a b s. q (x ∷ a) (suc y ∷ b) (ap suc (split_length s).0) (ap suc (split_length s).1) (fits_out (present r) y (map present rs) b f)) ∙ anti_v-zero v)
    ∙ sum_over_ext (chain_pairs l r n) _ _ (λ x.
    pairs_sum ts v (omega arith) (λ a b. h (x.0 ∷ a) (x.1 ∷ b))
    (λ a b s u f. p (x.0 ∷ a) (x.1 ∷ b) (ap suc s) (ap suc u) (fits_later (present l) x.0 (map present ls) a f))
    (λ a b s u f. q (x.0 ∷ a) (x.1 ∷ b) (ap suc s) (ap suc u) (fits_later (present r) x.1 (map present rs) b f))
    ∙ sym (sum_over-map (before x) (index_pairs ls rs v) (λ y. h y.0 y.1)))
    ∙ sym (sum_over_flat (λ x. map (before x) (index_pairs ls rs v)) (chain_pairs l r n) (λ y. h y.0 y.1))

-- ---- how many pairs

sum_from : (a m : ℕ) → 2 * sum_over (from a m) (λ x. suc x) ≡ m * (2 * a + suc m)
unfolding from sum_over
sum_from a zero = sym (zero-mul (2 * a + 1))
sum_from a (suc m) = omega (arith, sum_from (suc a) m)

sum_ones : (a m : ℕ) → sum_over (from a m) (λ x. 1) ≡ m
unfolding from sum_over
sum_ones a zero = refl
sum_ones a (suc m) = omega (arith, sum_ones (suc a) m)

half : (x y : ℕ) → 2 * x ≡ y → y / 2 ≡ x
half x y e = omega arith

triangle_is : (n : ℕ) → sum_over (from 0 (suc n)) (λ x. suc x) ≡ triangle n
triangle_is n = let e : 2 * sum_over (from 0 (suc n)) (λ x. suc x) ≡ (n + 1) * (n + 2) = sum_from 0 (suc n) ∙ omega arith in sym (half (sum_over (from 0 (suc n)) (λ x. suc x)) ((n + 1) * (n + 2)) e)

-- one chain's pairs over all its result index values are its factor
chain_count : {l r j : Coverage} → Meet l r j → (n : ℕ) → sum_over (index_values (span j n)) (λ i. length (chain_pairs l r i)) ≡ factor l r j n
unfolding index_values span chain_pairs factor sum_over
chain_count (Meet.left finished) n = refl
chain_count (Meet.left partial) n = sum_ones 0 (suc n) ∙ omega arith
chain_count (Meet.left absent) n = refl
chain_count (Meet.right finished) n = refl
chain_count (Meet.right partial) n = sum_ones 0 (suc n) ∙ omega arith
chain_count (Meet.right absent) n = refl
chain_count Meet.shared n = ap (λ f. sum_over (from 0 (suc n)) f) (fun_ext length-splits) ∙ triangle_is n
chain_count Meet.closed n = omega (arith, length-splits n)

-- a result's pairs are the product of its chains'
length_pairs : (l r : Coverage) (ls rs : List Coverage) (i : ℕ) (v : List ℕ) → length (index_pairs (l ∷ ls) (r ∷ rs) (i ∷ v)) ≡ length (chain_pairs l r i) * length (index_pairs ls rs v)
unfolding index_pairs
length_pairs l r ls rs i v = length_flat (λ p. map (before p) (index_pairs ls rs v)) (length (index_pairs ls rs v)) (λ p. length-map (index_pairs ls rs v) (before p)) (chain_pairs l r i)

-- the pairs over all result indices are the product of the factors
pub pairs_count : {ls rs js : List Coverage} → Meets ls rs js → (N : List ℕ) → length js ≡ length N → sum_over (indices (zip_with span js N)) (λ v. length (index_pairs ls rs v)) ≡ factors ls rs js N
unfolding zip_with indices factors sum_over index_pairs
pairs_count Meets.none N e = refl
pairs_count (Meets.more t ts) [] e = absurd (omega arith)
pairs_count (Meets.more {l = l} {r = r} {j = j} {ls = ls} {rs = rs} {js = js} t ts) (n ∷ N) e =
    sum_over_flat (λ i. map (λ v. i ∷ v) (indices (zip_with span js N))) (index_values (span j n)) (λ v. length (index_pairs (l ∷ ls) (r ∷ rs) v))
    ∙ sum_over_ext (index_values (span j n)) _ (λ i. factors ls rs js N * length (chain_pairs l r i)) (λ i.
    sum_over-map (λ v. i ∷ v) (indices (zip_with span js N)) (λ v. length (index_pairs (l ∷ ls) (r ∷ rs) v))
    ∙ sum_over_ext (indices (zip_with span js N)) _ _ (λ v. length_pairs l r ls rs i v)
    ∙ sum_over-mul (length (chain_pairs l r i)) (indices (zip_with span js N)) (λ v. length (index_pairs ls rs v))
    ∙ ap (λ x. length (chain_pairs l r i) * x) (pairs_count ts N (omega arith))
    ∙ mul_comm (length (chain_pairs l r i)) (factors ls rs js N))
    ∙ sum_over-mul (factors ls rs js N) (index_values (span j n)) (λ i. length (chain_pairs l r i))
    ∙ ap (λ x. factors ls rs js N * x) (chain_count t n)
    ∙ mul_comm (factors ls rs js N) (factor l r j n)

-- ---- against the plain method

triangle_ge : (n : ℕ) → n + 1 ≤ triangle n
triangle_ge zero = le_refl 1
triangle_ge (suc n) = omega (arith, mul-le-mul (le_refl (suc n + 1)) (two_le n))
  where
    two_le : (n : ℕ) → 2 ≤ suc n + 2
    two_le n = omega arith

factor-le : (l r j : Coverage) (n : ℕ) → factor l r j n ≤ triangle n
unfolding factor
factor-le partial partial partial n = le_refl (triangle n)
factor-le partial partial finished n = triangle_ge n
factor-le partial partial absent n = omega (arith, triangle_ge n)
factor-le partial finished j n = triangle_ge n
factor-le partial absent j n = triangle_ge n
factor-le finished partial j n = triangle_ge n
factor-le finished finished j n = omega (arith, triangle_ge n)
factor-le finished absent j n = omega (arith, triangle_ge n)
factor-le absent partial j n = triangle_ge n
factor-le absent finished j n = omega (arith, triangle_ge n)
factor-le absent absent j n = omega (arith, triangle_ge n)

triangles_pos : (N : List ℕ) → 1 ≤ triangles N
unfolding triangles
triangles_pos [] = le_refl 1
triangles_pos (n ∷ N) = one-le-mul (omega (arith, triangle_ge n)) (triangles_pos N)

-- no join has more pairs than a step of the plain method
pub factors-le : (ls rs js : List Coverage) (N : List ℕ) → factors ls rs js N ≤ triangles N
unfolding factors triangles
factors-le [] rs js N = triangles_pos N
factors-le (l ∷ ls) [] js N = triangles_pos N
factors-le (l ∷ ls) (r ∷ rs) [] N = triangles_pos N
factors-le (l ∷ ls) (r ∷ rs) (j ∷ js) [] = le_refl 1
factors-le (l ∷ ls) (r ∷ rs) (j ∷ js) (n ∷ N) = mul-le-mul (factor-le l r j n) (factors-le ls rs js N)
