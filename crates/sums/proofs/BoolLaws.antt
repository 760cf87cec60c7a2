-- The tests "some", "all" and "is among", and the members that they speak of.
use Prim.Native.Nat.{ℕ, ◌≤◌}
use mathlib.Core.Path.{◌≡◌, refl, sym, ap, subst, ◌∙◌}
use mathlib.Core.Bool.{Bool, true, false, ◌&&◌, ◌||◌, true≢false}
use mathlib.Core.Logic.{◌⊎◌, inl, inr}
use mathlib.Core.List.Memᴰ
use mathlib.Core.List.{List, [], ◌∷◌, ◌++◌, Memᴰ, append_assoc}
use native.Mathlib.Omega.{arith}
use lib.Dec.{eqb}
use lib.ListN.{length}
use borrow.Author.Tests.{eqb-true, eq-eqb}
use Rattle.sums.specs.Lists.{some, all, among, when, those}

module _ {A : Type 0} (test : A → Bool) where
  -- some element passes exactly if there is a member that does
  pub some_is : (xs : List A) → some test xs ≡ true → (a : A) × Memᴰ a xs × (test a ≡ true)
  unfolding some
  some_is [] e = absurd (true≢false (sym e))
  some_is (x ∷ xs) e = by (test x) refl e (some_is xs)
    where
      by : (t : Bool) → test x ≡ t → (t || some test xs) ≡ true → (some test xs ≡ true → (a : A) × Memᴰ a xs × (test a ≡ true)) → (a : A) × Memᴰ a (x ∷ xs) × (test a ≡ true)
      by true a d k = (x, Memᴰ.head refl, a)
      by false a d k = let r = k d in (r.0, Memᴰ.tail r.1, r.2)

  pub some_of : {a : A} {xs : List A} → Memᴰ a xs → test a ≡ true → some test xs ≡ true
  unfolding some
  some_of (Memᴰ.head {xs = xs} e) t = subst (λ b. (b || some test xs) ≡ true) (sym t ∙ ap test e) refl
  some_of (Memᴰ.tail {x = x} {xs = xs} m) t = by (test x) (some_of m t)
    where
      by : (b : Bool) → some test xs ≡ true → (b || some test xs) ≡ true
      by true e = refl
      by false e = e

  pub none_of : {a : A} {xs : List A} → Memᴰ a xs → some test xs ≡ false → test a ≡ false
  none_of {a} {xs} m e = by (test a) refl
    where
      by : (b : Bool) → test a ≡ b → test a ≡ false
      by false t = t
      by true t = absurd (true≢false (sym (some_of m t) ∙ e))

  -- all pass exactly if each member does
  pub all_of : (xs : List A) → ((a : A) → Memᴰ a xs → test a ≡ true) → all test xs ≡ true
  unfolding all
  all_of [] f = refl
  all_of (x ∷ xs) f = rw (f x (Memᴰ.head refl)) (all_of xs (λ a m. f a (Memᴰ.tail m)))

  pub all_is : {a : A} (xs : List A) → all test xs ≡ true → Memᴰ a xs → test a ≡ true
  unfolding all
  all_is [] e m = absurd (Memᴰ.not-nil m)
  all_is {a} (x ∷ xs) e m = by (test x) refl e (Memᴰ.cases_cons m) (all_is xs)
    where
      by : (b : Bool) → test x ≡ b → (b && all test xs) ≡ true → (a ≡ x) ⊎ Memᴰ a xs → (all test xs ≡ true → Memᴰ a xs → test a ≡ true) → test a ≡ true
      by true t d (inl p) k = ap test p ∙ t
      by true t d (inr n) k = k d n
      by false t d n k = absurd (true≢false (sym d))

  -- what is kept, and only that
  pub those_in : {a : A} {xs : List A} → Memᴰ a xs → test a ≡ true → Memᴰ a (those test xs)
  unfolding those when
  those_in {a} (Memᴰ.head {x = x} {xs = xs} e) t = subst (λ b. Memᴰ a (when b (x ∷ []) ++ those test xs)) (sym t ∙ ap test e) (Memᴰ.head {xs = those test xs} e)
  those_in {a} (Memᴰ.tail {x = x} {xs = xs} m) t = Memᴰ.append_right (when (test x) (x ∷ [])) (those_in m t)

  pub those_out : {a : A} (xs : List A) → Memᴰ a (those test xs) → Memᴰ a xs × (test a ≡ true)
  unfolding those when
  those_out [] m = absurd (Memᴰ.not-nil m)
  those_out {a} (x ∷ xs) m = by (test x) refl m (those_out xs)
    where
      by : (b : Bool) → test x ≡ b → Memᴰ a (when b (x ∷ []) ++ those test xs) → (Memᴰ a (those test xs) → Memᴰ a xs × (test a ≡ true)) → Memᴰ a (x ∷ xs) × (test a ≡ true)
      by true t n k = pick (Memᴰ.cases_cons n)
        where
          pick : (a ≡ x) ⊎ Memᴰ a (those test xs) → Memᴰ a (x ∷ xs) × (test a ≡ true)
          pick (inl e) = (Memᴰ.head e, ap test e ∙ t)
          pick (inr o) = let r = k o in (Memᴰ.tail r.0, r.1)
      by false t n k = let r = k n in (Memᴰ.tail r.0, r.1)

-- the test "is among" and membership
pub among_in : {n : ℕ} {ns : List ℕ} → Memᴰ n ns → among ns n ≡ true
unfolding among
among_in {n} m = some_of (eqb n) m (eq-eqb n n refl)

pub among_is : {n : ℕ} (ns : List ℕ) → among ns n ≡ true → Memᴰ n ns
unfolding among
among_is {n} ns e = let r = some_is (eqb n) ns e in Memᴰ.cast (eqb-true n r.0 r.2) r.1

-- a test that fails of one member, and one that holds of one, settle the two questions
pub not_all : {A : Type 0} (test : A → Bool) {a : A} {xs : List A} → Memᴰ a xs → test a ≡ false → all test xs ≡ false
not_all test {a} {xs} m f = by (all test xs) refl
  where
    by : (b : Bool) → all test xs ≡ b → all test xs ≡ false
    by false e = e
    by true e = absurd (true≢false (sym (all_is test xs e m) ∙ f))

pub not_some : {A : Type 0} (test : A → Bool) (xs : List A) → ((a : A) → Memᴰ a xs → test a ≡ false) → some test xs ≡ false
unfolding some
not_some test [] f = refl
not_some test (x ∷ xs) f = rw (f x (Memᴰ.head refl)) (not_some test xs (λ a m. f a (Memᴰ.tail m)))

pub some-append : {A : Type 0} (test : A → Bool) (xs ys : List A) → some test (xs ++ ys) ≡ (some test xs || some test ys)
unfolding some
some-append test [] ys = refl
some-append test (x ∷ xs) ys = by (test x) (some-append test xs ys)
  where
    by : (b : Bool) → some test (xs ++ ys) ≡ (some test xs || some test ys) → (b || some test (xs ++ ys)) ≡ ((b || some test xs) || some test ys)
    by true e = refl
    by false e = e

pub those-append : {A : Type 0} (test : A → Bool) (xs ys : List A) → those test (xs ++ ys) ≡ those test xs ++ those test ys
unfolding those
those-append test [] ys = refl
those-append test (x ∷ xs) ys = ap (λ zs. when (test x) (x ∷ []) ++ zs) (those-append test xs ys) ∙ sym (append_assoc (when (test x) (x ∷ [])) (those test xs) (those test ys))

-- how many pass: none exactly if not some
pub those_none : {A : Type 0} (test : A → Bool) (xs : List A) → some test xs ≡ false → length (those test xs) ≡ 0
unfolding some those when
those_none test [] e = refl
those_none test (x ∷ xs) e = by (test x) e (those_none test xs)
  where
    by : (b : Bool) → (b || some test xs) ≡ false → (some test xs ≡ false → length (those test xs) ≡ 0) → length (when b (x ∷ []) ++ those test xs) ≡ 0
    by true d k = absurd (true≢false d)
    by false d k = k d

pub those-some : {A : Type 0} (test : A → Bool) (xs : List A) → some test xs ≡ true → 1 ≤ length (those test xs)
unfolding some those when
those-some test [] e = absurd (true≢false (sym e))
those-some test (x ∷ xs) e = by (test x) e (those-some test xs)
  where
    by : (b : Bool) → (b || some test xs) ≡ true → (some test xs ≡ true → 1 ≤ length (those test xs)) → 1 ≤ length (when b (x ∷ []) ++ those test xs)
    by true d k = omega arith
    by false d k = k d
