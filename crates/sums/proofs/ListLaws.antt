-- Lists: maps and flat maps, their members, lengths and entries; lists with no element twice; numbers in order.
use Prim.Native.Nat.{ℕ, zero, suc, ◌+◌, ◌*◌, ◌≤◌, ◌<◌}
use mathlib.Core.Path.{◌≡◌, refl, sym, ap, subst, ◌∙◌}
use mathlib.Core.Logic.{◌⊎◌, inl, inr, ∥∥₁_elim}
use mathlib.Core.HLevel.{⊥_prop}
use mathlib.Core.List.Memᴰ
use mathlib.Core.List.{List, [], ◌∷◌, ◌++◌, map, flat_map, append_assoc, Memᴰ, Nodup, Nodup-nil, Nodup-cons}
use native.Mathlib.Omega.{arith}
use native.Mathlib.Nat.{zero-mul, add-zero}
use lib.ListN.{length, get_or, take, drop, replicate, take-append-drop, length-append, get_or-append}
use lib.Seq.{get_or-append-add}
use Rattle.sums.specs.Lists.{from}

module _ {A B : Type 0} where
  pub map-append : (f : A → B) (xs ys : List A) → map f (xs ++ ys) ≡ map f xs ++ map f ys
  map-append f [] ys = refl
  map-append f (x ∷ xs) ys = ap (λ z. f x ∷ z) (map-append f xs ys)

  pub map_cong : (xs : List A) (f g : A → B) → ((a : A) → Memᴰ a xs → f a ≡ g a) → map f xs ≡ map g xs
  map_cong [] f g h = refl
  map_cong (x ∷ xs) f g h = λ i. h x (Memᴰ.head refl) i ∷ map_cong xs f g (λ a n. h a (Memᴰ.tail n)) i

  pub take-map : (f : A → B) (n : ℕ) (xs : List A) → take n (map f xs) ≡ map f (take n xs)
  take-map f zero xs = refl
  take-map f (suc n) [] = refl
  take-map f (suc n) (x ∷ xs) = ap (λ l. f x ∷ l) (take-map f n xs)

  pub get_or-map_in : (f : A → B) (l : List A) (n : ℕ) (d : B) (c : A) → n < length l → get_or (map f l) n d ≡ f (get_or l n c)
  get_or-map_in f [] n d c h = absurd (omega arith)
  get_or-map_in f (x ∷ xs) zero d c h = refl
  get_or-map_in f (x ∷ xs) (suc n) d c h = get_or-map_in f xs n d c (omega arith)

  -- ---- members of a flat_map

  pub flat_in : (g : A → List B) {a : A} {b : B} {xs : List A} → Memᴰ a xs → Memᴰ b (g a) → Memᴰ b (flat_map g xs)
  unfolding flat_map
  flat_in g {b = b} (Memᴰ.head {x = x} {xs = xs} e) m = Memᴰ.append_left (flat_map g xs) (subst (λ y. Memᴰ b (g y)) e m)
  flat_in g (Memᴰ.tail {x = x} t) m = Memᴰ.append_right (g x) (flat_in g t m)

  pub flat_out : (g : A → List B) {b : B} (xs : List A) → Memᴰ b (flat_map g xs) → (a : A) × Memᴰ a xs × Memᴰ b (g a)
  unfolding flat_map
  flat_out g [] m = absurd (Memᴰ.not-nil m)
  flat_out g {b} (x ∷ xs) m = step (λ n. flat_out g xs n) (Memᴰ.append_cases (g x) m)
    where
      step : (Memᴰ b (flat_map g xs) → (a : A) × Memᴰ a xs × Memᴰ b (g a)) → Memᴰ b (g x) ⊎ Memᴰ b (flat_map g xs) → (a : A) × Memᴰ a (x ∷ xs) × Memᴰ b (g a)
      step below (inl n) = (x, Memᴰ.head refl, n)
      step below (inr n) = let r = below n in (r.0, Memᴰ.tail r.1, r.2)

  pub flat_cong : (xs : List A) (f g : A → List B) → ((a : A) → Memᴰ a xs → f a ≡ g a) → flat_map f xs ≡ flat_map g xs
  unfolding flat_map
  flat_cong [] f g h = refl
  flat_cong (x ∷ xs) f g h = λ i. h x (Memᴰ.head refl) i ++ flat_cong xs f g (λ a n. h a (Memᴰ.tail n)) i

  pub flat_append : (g : A → List B) (xs ys : List A) → flat_map g (xs ++ ys) ≡ flat_map g xs ++ flat_map g ys
  unfolding flat_map
  flat_append g [] ys = refl
  flat_append g (x ∷ xs) ys = ap (λ l. g x ++ l) (flat_append g xs ys) ∙ sym (append_assoc (g x) (flat_map g xs) (flat_map g ys))

  -- ---- a flat_map of blocks of one length

  pub length_flat : (g : A → List B) (m : ℕ) → ((a : A) → length (g a) ≡ m) → (xs : List A) → length (flat_map g xs) ≡ length xs * m
  unfolding flat_map
  length_flat g m e [] = sym (zero-mul m)
  length_flat g m e (x ∷ xs) = length-append (g x) (flat_map g xs) ∙ omega (arith, e x, length_flat g m e xs)

  pub get_or_flat : (g : A → List B) (m : ℕ) → ((a : A) → length (g a) ≡ m) → (xs : List A) (a : A) (b : B) (d p : ℕ) → d < length xs → p < m → get_or (flat_map g xs) (d * m + p) b ≡ get_or (g (get_or xs d a)) p b
  unfolding flat_map
  get_or_flat g m e [] a b d p h k = absurd (omega arith)
  get_or_flat g m e (x ∷ xs) a b zero p h k =
      let q : 0 * m + p ≡ p = omega arith in
      rw q (get_or-append (g x) (flat_map g xs) b p (rw (e x) k))
  get_or_flat g m e (x ∷ xs) a b (suc d) p h k =
      let q : suc d * m + p ≡ length (g x) + (d * m + p) = omega (arith, e x) in
      rw q (get_or-append-add (g x) (flat_map g xs) (d * m + p) b ∙ get_or_flat g m e xs a b d p (omega arith) k)

pub flat_map-map : {A B C : Type 0} (g : B → List C) (f : A → B) (xs : List A) → flat_map g (map f xs) ≡ flat_map (λ x. g (f x)) xs
unfolding flat_map
flat_map-map g f [] = refl
flat_map-map g f (x ∷ xs) = ap (λ l. g (f x) ++ l) (flat_map-map g f xs)

pub map-zero : {A : Type 0} (xs : List A) → map {B = ℕ} (λ x. 0) xs ≡ replicate (length xs) 0
map-zero [] = refl
map-zero (x ∷ xs) = ap (λ l. 0 ∷ l) (map-zero xs)

-- what stands in a list is a member
pub get_or_in : {A : Type 0} (d : A) (xs : List A) (i : ℕ) → i < length xs → Memᴰ (get_or xs i d) xs
get_or_in d [] i h = absurd (omega arith)
get_or_in d (x ∷ xs) zero h = Memᴰ.head refl
get_or_in d (x ∷ xs) (suc i) h = Memᴰ.tail (get_or_in d xs i (omega arith))

pub take_member : {A : Type 0} {a : A} (n : ℕ) (xs : List A) → Memᴰ a (take n xs) → Memᴰ a xs
take_member {a = a} n xs m = subst (λ l. Memᴰ a l) (take-append-drop n xs) (Memᴰ.append_left (drop n xs) m)

pub drop_member : {A : Type 0} {a : A} (n : ℕ) (xs : List A) → Memᴰ a (drop n xs) → Memᴰ a xs
drop_member {a = a} n xs m = subst (λ l. Memᴰ a l) (take-append-drop n xs) (Memᴰ.append_right (take n xs) m)

-- a bound on each entry is a bound on each member
pub low_member : (xs : List ℕ) (bound : ℕ) → ((i : ℕ) → get_or xs i 0 ≤ bound) → (x : ℕ) → Memᴰ x xs → x ≤ bound
low_member [] bound f x m = absurd (Memᴰ.not-nil m)
low_member (y ∷ ys) bound f x m = by (Memᴰ.cases_cons m) (low_member ys bound (λ i. f (suc i)) x)
  where
    by : (x ≡ y) ⊎ Memᴰ x ys → (Memᴰ x ys → x ≤ bound) → x ≤ bound
    by (inl e) k = omega (arith, f 0)
    by (inr n) k = k n

-- ---- no element twice

module _ {A : Type 0} where
  pub nodup_more : {a : A} {xs : List A} → (Memᴰ a xs → ⊥) → Nodup xs → Nodup (a ∷ xs)
  nodup_more n d = Nodup-cons.1 (λ m. ∥∥₁_elim m ⊥_prop n, d)

  pub nodup_head : {a : A} {xs : List A} → Nodup (a ∷ xs) → Memᴰ a xs → ⊥
  nodup_head d m = (Nodup-cons.0 d).0 ∣ m ∣₁

  pub nodup_tail : {a : A} {xs : List A} → Nodup (a ∷ xs) → Nodup xs
  nodup_tail d = (Nodup-cons.0 d).1

  pub nodup_append : (xs ys : List A) → Nodup xs → Nodup ys → ((a : A) → Memᴰ a xs → Memᴰ a ys → ⊥) → Nodup (xs ++ ys)
  nodup_append [] ys p q d = q
  nodup_append (x ∷ xs) ys p q d = nodup_more (λ m. step (Memᴰ.append_cases xs m)) (nodup_append xs ys (nodup_tail p) q (λ b m. d b (Memᴰ.tail m)))
    where
      step : Memᴰ x xs ⊎ Memᴰ x ys → ⊥
      step (inl m) = nodup_head p m
      step (inr m) = d x (Memᴰ.head refl) m

  pub nodup_left : (xs ys : List A) → Nodup (xs ++ ys) → Nodup xs
  unfolding Nodup-nil
  nodup_left [] ys p = Nodup-nil
  nodup_left (x ∷ xs) ys p = nodup_more (λ m. nodup_head p (Memᴰ.append_left ys m)) (nodup_left xs ys (nodup_tail p))

  pub nodup_right : (xs ys : List A) → Nodup (xs ++ ys) → Nodup ys
  nodup_right [] ys p = p
  nodup_right (x ∷ xs) ys p = nodup_right xs ys (nodup_tail p)

  pub nodup_apart : (xs ys : List A) → Nodup (xs ++ ys) → {a : A} → Memᴰ a xs → Memᴰ a ys → ⊥
  nodup_apart [] ys p m n = Memᴰ.not-nil m
  nodup_apart (x ∷ xs) ys p {a} m n = step (Memᴰ.cases_cons m) (nodup_apart xs ys (nodup_tail p))
    where
      step : (a ≡ x) ⊎ Memᴰ a xs → (Memᴰ a xs → Memᴰ a ys → ⊥) → ⊥
      step (inl e) k = nodup_head p (Memᴰ.append_right xs (Memᴰ.cast (sym e) n))
      step (inr o) k = k o n

module _ {A B : Type 0} where
  pub nodup_map : (g : A → B) → ((x y : A) → g x ≡ g y → x ≡ y) → (xs : List A) → Nodup xs → Nodup (map g xs)
  nodup_map g inj [] d = Nodup-nil
  nodup_map g inj (x ∷ xs) d = nodup_more (λ m. let r = Memᴰ.of_map g xs m in nodup_head d (Memᴰ.cast (inj x r.0 (sym r.2)) r.1)) (nodup_map g inj xs (nodup_tail d))

  pub nodup_flat : (g : A → List B) (xs : List A) → Nodup xs → ((a : A) → Nodup (g a)) → ((a c : A) (b : B) → Memᴰ a xs → Memᴰ c xs → Memᴰ b (g a) → Memᴰ b (g c) → a ≡ c) → Nodup (flat_map g xs)
  unfolding flat_map
  nodup_flat g [] d e k = Nodup-nil
  nodup_flat g (x ∷ xs) d e k =
      nodup_append (g x) (flat_map g xs) (e x) (nodup_flat g xs (nodup_tail d) e (λ a c b ma mc. k a c b (Memᴰ.tail ma) (Memᴰ.tail mc)))
      (λ b m1 m2. let r = flat_out g xs m2 in nodup_head d (Memᴰ.cast (k x r.0 b (Memᴰ.head refl) (Memᴰ.tail r.1) m1 r.2) r.1))

-- ---- numbers in order

pub length_from : (a m : ℕ) → length (from a m) ≡ m
unfolding from
length_from a zero = refl
length_from a (suc m) = ap suc (length_from (suc a) m)

pub get_or-from : (a m i : ℕ) → i < m → get_or (from a m) i 0 ≡ a + i
unfolding from
get_or-from a zero i h = absurd (omega arith)
get_or-from a (suc m) zero h = sym (add-zero a)
get_or-from a (suc m) (suc i) h = get_or-from (suc a) m i (omega arith) ∙ omega arith

-- one more at the end
pub from_more : (a n : ℕ) → from a (suc n) ≡ from a n ++ ((a + n) ∷ [])
unfolding from
from_more a zero = let e : a ≡ a + 0 = omega arith in ap (λ x. x ∷ []) e
from_more a (suc n) = let e : suc a + n ≡ a + suc n = omega arith in ap (λ l. a ∷ l) (from_more (suc a) n ∙ ap (λ x. from (suc a) n ++ (x ∷ [])) e)

pub from_out : (a m x : ℕ) → Memᴰ x (from a m) → (a ≤ x) × (x < a + m)
unfolding from
from_out a zero x h = absurd (Memᴰ.not-nil h)
from_out a (suc m) x h = step (from_out (suc a) m x) (Memᴰ.cases_cons h)
  where
    step : (Memᴰ x (from (suc a) m) → (suc a ≤ x) × (x < suc a + m)) → (x ≡ a) ⊎ Memᴰ x (from (suc a) m) → (a ≤ x) × (x < a + suc m)
    step f (inl e) = (omega arith, omega arith)
    step f (inr t) = let r = f t in (omega arith, omega arith)

pub from_in : (a m i : ℕ) → i < m → Memᴰ (a + i) (from a m)
unfolding from
from_in a zero i h = absurd (omega arith)
from_in a (suc m) zero h = let e : a + 0 ≡ a = omega arith in Memᴰ.head e
from_in a (suc m) (suc i) h = let e : suc a + i ≡ a + suc i = omega arith in Memᴰ.tail (subst (λ c. Memᴰ c (from (suc a) m)) e (from_in (suc a) m i (omega arith)))

pub from_nodup : (a m : ℕ) → Nodup (from a m)
unfolding from
from_nodup a zero = Nodup-nil
from_nodup a (suc m) = nodup_more (λ h. omega (arith, (from_out (suc a) m a h).0)) (from_nodup (suc a) m)
