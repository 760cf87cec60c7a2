-- The lists of splits hold exactly the splits, and none twice.
use Prim.Native.Nat.{ℕ, zero, suc, ◌+◌, ◌<◌}
use mathlib.Core.Path.{◌≡◌, refl, sym, ap, subst, ◌∙◌}
use mathlib.Core.Logic.{◌⊎◌, inl, inr}
use mathlib.Core.List.Memᴰ
use mathlib.Core.List.{List, [], ◌∷◌, map, tail, head_d, Memᴰ, Nodup, Nodup-nil}
use native.Mathlib.Omega.{arith}
use lib.ListN.{length, get_or}
use Rattle.sums.specs.Sums.{splits, one_more, before, vector_splits}
use Rattle.sums.proofs.ListLaws.{flat_in, flat_out, nodup_more, nodup_map, nodup_flat}

-- Split j k v: j + k = v, entry by entry.
pub data Split : List ℕ → List ℕ → List ℕ → Type 0 where
  none : Split [] [] []
  more : {a b n : ℕ} {j k v : List ℕ} → a + b ≡ n → Split j k v → Split (a ∷ j) (b ∷ k) (n ∷ v)

pub split_length : {j k v : List ℕ} → Split j k v → (length j ≡ length v) × (length k ≡ length v)
split_length Split.none = (refl, refl)
split_length (Split.more p s) = let r = split_length s in (ap suc r.0, ap suc r.1)

pub split_at : {j k v : List ℕ} → Split j k v → (i : ℕ) → get_or j i 0 + get_or k i 0 ≡ get_or v i 0
split_at Split.none i = refl
split_at (Split.more p s) zero = p
split_at (Split.more p s) (suc i) = split_at s i

-- the rest is settled by the first part
pub split_same : {j k l v : List ℕ} → Split j k v → Split j l v → k ≡ l
split_same Split.none Split.none = refl
split_same (Split.more {a = a} {b = b} {n = n} {j = j} {k = k} p s) (Split.more {b = b'} {k = l} q t) = let e : b ≡ b' = omega arith in λ i. e i ∷ split_same s t i

-- a split entry by entry
pub split_of : (j k v : List ℕ) → length j ≡ length v → length k ≡ length v → ((i : ℕ) → i < length v → get_or j i 0 + get_or k i 0 ≡ get_or v i 0) → Split j k v
split_of [] [] [] a b f = Split.none
split_of [] (y ∷ k) [] a b f = absurd (omega arith)
split_of (x ∷ j) k [] a b f = absurd (omega arith)
split_of [] k (n ∷ v) a b f = absurd (omega arith)
split_of (x ∷ j) [] (n ∷ v) a b f = absurd (omega arith)
split_of (x ∷ j) (y ∷ k) (n ∷ v) a b f = Split.more (f 0 (omega arith)) (split_of j k v (omega arith) (omega arith) (λ i h. f (suc i) (omega arith)))

-- ---- the lists

pub splits_in : (j k n : ℕ) → j + k ≡ n → Memᴰ (j, k) (splits n)
unfolding splits
splits_in j k zero p = Memᴰ.head (λ i. (zero_left j k p i, zero_right j k p i))
  where
    zero_left : (j k : ℕ) → j + k ≡ 0 → j ≡ 0
    zero_left j k p = omega arith

    zero_right : (j k : ℕ) → j + k ≡ 0 → k ≡ 0
    zero_right j k p = omega arith
splits_in zero k (suc n) p = Memᴰ.head (let e : k ≡ suc n = omega arith in λ i. (0, e i))
splits_in (suc j) k (suc n) p = Memᴰ.tail (Memᴰ.map one_more (splits_in j k n (omega arith)))

pub splits_out : (p : ℕ × ℕ) (n : ℕ) → Memᴰ p (splits n) → p.0 + p.1 ≡ n
unfolding splits
splits_out p zero m = let e = Memᴰ.eq_of_singleton m in omega (arith, ap (λ q. q.0) e, ap (λ q. q.1) e)
splits_out p (suc n) m = step (λ q. splits_out q n) (Memᴰ.cases_cons m)
  where
    step : ((q : ℕ × ℕ) → Memᴰ q (splits n) → q.0 + q.1 ≡ n) → (p ≡ (0, suc n)) ⊎ Memᴰ p (map one_more (splits n)) → p.0 + p.1 ≡ suc n
    step below (inl e) = omega (arith, ap (λ q. q.0) e, ap (λ q. q.1) e)
    step below (inr t) = let r = Memᴰ.of_map one_more (splits n) t in omega (arith, below r.0 r.1, ap (λ q. q.0) r.2, ap (λ q. q.1) r.2)

pub splits_nodup : (n : ℕ) → Nodup (splits n)
unfolding splits
splits_nodup zero = nodup_more Memᴰ.not-nil Nodup-nil
splits_nodup (suc n) =
    nodup_more {a = (0, suc n)} (λ m. let r = Memᴰ.of_map one_more (splits n) m in omega (arith, ap (λ q. q.0) r.2))
    (nodup_map one_more (λ x y e. let a : x.0 ≡ y.0 = omega (arith, ap (λ q. q.0) e) in λ i. (a i, (e i).1)) (splits n) (splits_nodup n))

pub vector_splits_in : {j k v : List ℕ} → Split j k v → Memᴰ (j, k) (vector_splits v)
unfolding vector_splits
vector_splits_in Split.none = Memᴰ.head refl
vector_splits_in (Split.more {a = a} {b = b} {n = n} {v = v} p s) = flat_in (λ p. map (before p) (vector_splits v)) (splits_in a b n p) (Memᴰ.map (before (a, b)) (vector_splits_in s))

pub vector_splits_out : (v : List ℕ) (p : List ℕ × List ℕ) → Memᴰ p (vector_splits v) → Split p.0 p.1 v
unfolding vector_splits
vector_splits_out [] p m = subst (λ p. Split p.0 p.1 []) (sym (Memᴰ.eq_of_singleton m)) Split.none
vector_splits_out (n ∷ v) p m =
    let r = flat_out (λ p. map (before p) (vector_splits v)) (splits n) m in
    let t = Memᴰ.of_map (before r.0) (vector_splits v) r.2 in
    subst (λ p. Split p.0 p.1 (n ∷ v)) t.2 (Split.more (splits_out r.0 n r.1) (vector_splits_out v t.0 t.1))

before_same : (x y : ℕ × ℕ) (q r : List ℕ × List ℕ) → before x q ≡ before y r → x ≡ y
unfolding head_d
before_same x y q r e = λ i. (head_d (e i).0 0, head_d (e i).1 0)

pub vector_splits_nodup : (v : List ℕ) → Nodup (vector_splits v)
unfolding vector_splits
vector_splits_nodup [] = nodup_more Memᴰ.not-nil Nodup-nil
vector_splits_nodup (n ∷ v) =
    nodup_flat {A = ℕ × ℕ} {B = List ℕ × List ℕ} (λ p. map (before p) (vector_splits v)) (splits n) (splits_nodup n)
    (λ p. nodup_map (before p) (λ x y e. λ i. (tail (e i).0, tail (e i).1)) (vector_splits v) (vector_splits_nodup v))
    (λ x y b mx my m1 m2.
    let r = Memᴰ.of_map (before x) (vector_splits v) m1 in
    let t = Memᴰ.of_map (before y) (vector_splits v) m2 in
    before_same x y r.0 t.0 (r.2 ∙ sym t.2))
