-- Permutations: both sides have the same members, and a map carries them along.
use Prim.Native.Nat.{suc, ◌+◌}
use mathlib.Core.Bool.{Bool}
use mathlib.Core.Path.{◌≡◌, refl, sym, ap, ◌∙◌}
use mathlib.Core.Logic.{◌⊎◌, inl, inr}
use mathlib.Core.List.Memᴰ
use mathlib.Core.List.Permᴰ
use mathlib.Core.List.{List, [], ◌∷◌, ◌++◌, map, Memᴰ, Permᴰ, Nodup}
use native.Mathlib.Omega.{arith}
use lib.ListN.{length, length-append}
use Rattle.sums.specs.Lists.{when, those}
use Rattle.sums.proofs.ListLaws.{nodup_more, nodup_head, nodup_tail}

module _ {A : Type 0} where
  pub perm_in : {xs ys : List A} → Permᴰ xs ys → {a : A} → Memᴰ a xs → Memᴰ a ys
  perm_in Permᴰ.nil m = m
  perm_in (Permᴰ.cons {a = x} {b = y} {l₁ = xs} {l₂ = ys} e p) {a} m = by (Memᴰ.cases_cons m) (perm_in p)
    where
      by : (a ≡ x) ⊎ Memᴰ a xs → (Memᴰ a xs → Memᴰ a ys) → Memᴰ a (y ∷ ys)
      by (inl d) k = Memᴰ.head (d ∙ e)
      by (inr n) k = Memᴰ.tail (k n)
  perm_in (Permᴰ.swap {a = x} {b = y} {a' = y'} {b' = x'} {l = xs} e f) {a} m = by (Memᴰ.cases_cons m)
    where
      rest : (a ≡ y) ⊎ Memᴰ a xs → Memᴰ a (y' ∷ x' ∷ xs)
      rest (inl d) = Memᴰ.head (d ∙ f)
      rest (inr n) = Memᴰ.tail (Memᴰ.tail n)

      by : (a ≡ x) ⊎ Memᴰ a (y ∷ xs) → Memᴰ a (y' ∷ x' ∷ xs)
      by (inl d) = Memᴰ.tail (Memᴰ.head (d ∙ e))
      by (inr n) = rest (Memᴰ.cases_cons n)
  perm_in (Permᴰ.trans p q) m = perm_in q (perm_in p m)

  pub perm_length : {xs ys : List A} → Permᴰ xs ys → length xs ≡ length ys
  perm_length Permᴰ.nil = refl
  perm_length (Permᴰ.cons e p) = ap suc (perm_length p)
  perm_length (Permᴰ.swap e f) = refl
  perm_length (Permᴰ.trans p q) = perm_length p ∙ perm_length q

  pub perm_nodup : {xs ys : List A} → Permᴰ xs ys → Nodup xs → Nodup ys
  perm_nodup Permᴰ.nil d = d
  perm_nodup (Permᴰ.cons e p) d = nodup_more (λ m. nodup_head d (Memᴰ.cast e (perm_in (Permᴰ.symm p) m))) (perm_nodup p (nodup_tail d))
  perm_nodup (Permᴰ.swap {a = x} {b = y} {a' = y'} {b' = x'} {l = xs} e f) d =
      nodup_more (λ m. apart (Memᴰ.cases_cons m)) (nodup_more (λ m. nodup_head d (Memᴰ.tail (Memᴰ.cast e m))) (nodup_tail (nodup_tail d)))
    where
      apart : (y' ≡ x') ⊎ Memᴰ y' xs → ⊥
      apart (inl g) = nodup_head d (Memᴰ.head (e ∙ sym g ∙ sym f))
      apart (inr m) = nodup_head (nodup_tail d) (Memᴰ.cast f m)
  perm_nodup (Permᴰ.trans p q) d = perm_nodup q (perm_nodup p d)

  -- the two parts of a list change places
  pub perm_turn : (xs ys : List A) → Permᴰ (xs ++ ys) (ys ++ xs)
  perm_turn [] ys = Permᴰ-nil_right ys
    where
      Permᴰ-nil_right : (zs : List A) → Permᴰ zs (zs ++ [])
      Permᴰ-nil_right [] = Permᴰ.nil
      Permᴰ-nil_right (z ∷ zs) = Permᴰ.cons refl (Permᴰ-nil_right zs)
  perm_turn (x ∷ xs) ys = Permᴰ.trans (Permᴰ.cons refl (perm_turn xs ys)) (Permᴰ.symm (Permᴰ.middle x ys xs))

module _ {A B : Type 0} where
  pub perm_map : (f : A → B) {xs ys : List A} → Permᴰ xs ys → Permᴰ (map f xs) (map f ys)
  perm_map f Permᴰ.nil = Permᴰ.nil
  perm_map f (Permᴰ.cons e p) = Permᴰ.cons (ap f e) (perm_map f p)
  perm_map f (Permᴰ.swap e d) = Permᴰ.swap (ap f e) (ap f d)
  perm_map f (Permᴰ.trans p q) = Permᴰ.trans (perm_map f p) (perm_map f q)

-- how many pass a test does not depend on the order
pub perm_those : {A : Type 0} (test : A → Bool) {xs ys : List A} → Permᴰ xs ys → length (those test xs) ≡ length (those test ys)
unfolding those
perm_those test Permᴰ.nil = refl
perm_those test (Permᴰ.cons {a = x} {b = y} {l₁ = xs} {l₂ = ys} e p) =
    length-append (when (test x) (x ∷ [])) (those test xs)
    ∙ (λ i. length (when (test (e i)) (e i ∷ [])) + perm_those test p i)
    ∙ sym (length-append (when (test y) (y ∷ [])) (those test ys))
perm_those test (Permᴰ.swap {a = x} {b = y} {a' = y'} {b' = x'} {l = xs} e f) =
    length-append (when (test x) (x ∷ [])) (when (test y) (y ∷ []) ++ those test xs)
    ∙ ap (λ n. length (when (test x) (x ∷ [])) + n) (length-append (when (test y) (y ∷ [])) (those test xs))
    ∙ (λ i. length (when (test (e i)) (e i ∷ [])) + (length (when (test (f i)) (f i ∷ [])) + length (those test xs)))
    ∙ omega (arith, length-append (when (test y') (y' ∷ [])) (when (test x') (x' ∷ []) ++ those test xs), length-append (when (test x') (x' ∷ [])) (those test xs))
perm_those test (Permᴰ.trans p q) = perm_those test p ∙ perm_those test q
