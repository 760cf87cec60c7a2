-- Sums over the ways to split a number, or a vector, in two: one small family of laws (extensionality, adding, scaling,
-- exchange, association, swapping), each by one induction, so that nobody else takes a sum apart. `anti` and `anti_v` are the sums
-- over `splits` and `vector_splits` (anti_sum, anti_v_sum), in the form that inductions want.
use Prim.Native.Nat.{ℕ, zero, suc, ◌+◌, ◌*◌, ◌≤◌}
use mathlib.Core.Path.{◌≡◌, refl, sym, ap, ◌∙◌}
use mathlib.Core.List.{List, [], ◌∷◌, map}
use native.Mathlib.Omega.{arith}
use native.Mathlib.Nat.{le_refl, le_trans, mul-add}
use Rattle.sums.specs.Sums.{sum_over, splits, one_more, before, vector_splits}
use Rattle.sums.proofs.SplitLaws.{Split}
use Rattle.sums.proofs.SumLaws.{sum_over-map, sum_over_flat, sum_over_ext}

-- anti n h: the sum of h j k over all j + k = n, j ascending.
unfoldable pub anti : ℕ → (ℕ → ℕ → ℕ) → ℕ
anti zero h = h 0 0
anti (suc n) h = h 0 (suc n) + anti n (λ j k. h (suc j) k)

pub anti-add : (n : ℕ) (f g : ℕ → ℕ → ℕ) → anti n (λ j k. f j k + g j k) ≡ anti n f + anti n g
unfolding anti
anti-add zero f g = refl
anti-add (suc n) f g = omega (arith, anti-add n (λ j k. f (suc j) k) (λ j k. g (suc j) k))

-- congruence: where h and g agree on every split of n
pub anti_cong : (n : ℕ) (f g : ℕ → ℕ → ℕ) → ((j k : ℕ) → j + k ≡ n → f j k ≡ g j k) → anti n f ≡ anti n g
unfolding anti
anti_cong zero f g e = e 0 0 refl
anti_cong (suc n) f g e = omega (arith, e 0 (suc n) (omega arith), anti_cong n (λ j k. f (suc j) k) (λ j k. g (suc j) k) (λ j k p. e (suc j) k (omega arith)))

pub anti_ext : (n : ℕ) (f g : ℕ → ℕ → ℕ) → ((j k : ℕ) → f j k ≡ g j k) → anti n f ≡ anti n g
anti_ext n f g e = anti_cong n f g (λ j k p. e j k)

-- the last split taken off
pub anti_last : (n : ℕ) (h : ℕ → ℕ → ℕ) → anti (suc n) h ≡ anti n (λ j k. h j (suc k)) + h (suc n) 0
unfolding anti
anti_last zero h = refl
anti_last (suc n) h = omega (arith, anti_last n (λ j k. h (suc j) k))

pub anti_swap : (n : ℕ) (h : ℕ → ℕ → ℕ) → anti n h ≡ anti n (λ j k. h k j)
unfolding anti
anti_swap zero h = refl
anti_swap (suc n) h = omega (arith, anti_swap n (λ j k. h (suc j) k), anti_last n (λ j k. h k j))

pub anti_assoc : (n : ℕ) (h : ℕ → ℕ → ℕ → ℕ) → anti n (λ r c. anti r (λ a b. h a b c)) ≡ anti n (λ a r. anti r (λ b c. h a b c))
unfolding anti
anti_assoc zero h = refl
anti_assoc (suc n) h = omega (arith, anti-add n (λ r c. h 0 (suc r) c) (λ r c. anti r (λ a b. h (suc a) b c)), anti_assoc n (λ a b c. h (suc a) b c))

pub anti-mul : (n c : ℕ) (h : ℕ → ℕ → ℕ) → c * anti n h ≡ anti n (λ j k. c * h j k)
unfolding anti
anti-mul zero c h = refl
anti-mul (suc n) c h = mul-add c (h 0 (suc n)) (anti n (λ j k. h (suc j) k)) ∙ ap (λ x. c * h 0 (suc n) + x) (anti-mul n c (λ j k. h (suc j) k))

-- two sums change places
pub anti_fubini : (n m : ℕ) (h : ℕ → ℕ → ℕ → ℕ → ℕ) → anti n (λ a b. anti m (λ c d. h a b c d)) ≡ anti m (λ c d. anti n (λ a b. h a b c d))
unfolding anti
anti_fubini zero m h = refl
anti_fubini (suc n) m h = omega (arith, anti_fubini n m (λ a b c d. h (suc a) b c d), anti-add m (λ c d. h 0 (suc n) c d) (λ c d. anti n (λ a b. h (suc a) b c d)))

-- a term is at most the sum
pub anti_ge : (n : ℕ) (h : ℕ → ℕ → ℕ) (j k : ℕ) → j + k ≡ n → h j k ≤ anti n h
unfolding anti
anti_ge zero h j k p =
    let a : j ≡ 0 = omega arith in
    let b : k ≡ 0 = omega arith in
    rw (a, b) (le_refl _)
anti_ge (suc n) h zero k p =
    let b : k ≡ suc n = omega arith in
    rw b (omega arith)
anti_ge (suc n) h (suc j) k p = omega (arith, anti_ge n (λ a b. h (suc a) b) j k (omega arith))

-- anti_v v h: the sum of h j k over all vectors with j + k = v, entry by entry; the last entry runs fastest.
unfoldable pub anti_v : List ℕ → (List ℕ → List ℕ → ℕ) → ℕ
anti_v [] h = h [] []
anti_v (n ∷ v) h = anti n (λ a b. anti_v v (λ j k. h (a ∷ j) (b ∷ k)))

pub anti_v_cong : (v : List ℕ) (f g : List ℕ → List ℕ → ℕ) → ((j k : List ℕ) → Split j k v → f j k ≡ g j k) → anti_v v f ≡ anti_v v g
unfolding anti_v
anti_v_cong [] f g e = e [] [] Split.none
anti_v_cong (n ∷ v) f g e = anti_cong n _ _ (λ a b p. anti_v_cong v (λ j k. f (a ∷ j) (b ∷ k)) (λ j k. g (a ∷ j) (b ∷ k)) (λ j k s. e (a ∷ j) (b ∷ k) (Split.more p s)))

pub anti_v_ext : (v : List ℕ) (f g : List ℕ → List ℕ → ℕ) → ((j k : List ℕ) → f j k ≡ g j k) → anti_v v f ≡ anti_v v g
anti_v_ext v f g e = anti_v_cong v f g (λ j k s. e j k)

pub anti_v-add : (v : List ℕ) (f g : List ℕ → List ℕ → ℕ) → anti_v v (λ j k. f j k + g j k) ≡ anti_v v f + anti_v v g
unfolding anti_v
anti_v-add [] f g = refl
anti_v-add (n ∷ v) f g =
    anti_ext n _ _ (λ a b. anti_v-add v (λ j k. f (a ∷ j) (b ∷ k)) (λ j k. g (a ∷ j) (b ∷ k)))
    ∙ anti-add n (λ a b. anti_v v (λ j k. f (a ∷ j) (b ∷ k))) (λ a b. anti_v v (λ j k. g (a ∷ j) (b ∷ k)))

pub anti_v-mul : (v : List ℕ) (c : ℕ) (h : List ℕ → List ℕ → ℕ) → c * anti_v v h ≡ anti_v v (λ j k. c * h j k)
unfolding anti_v
anti_v-mul [] c h = refl
anti_v-mul (n ∷ v) c h = anti-mul n c _ ∙ anti_ext n _ _ (λ a b. anti_v-mul v c (λ j k. h (a ∷ j) (b ∷ k)))

pub anti_v_swap : (v : List ℕ) (h : List ℕ → List ℕ → ℕ) → anti_v v h ≡ anti_v v (λ j k. h k j)
unfolding anti_v
anti_v_swap [] h = refl
anti_v_swap (n ∷ v) h = anti_ext n _ _ (λ a b. anti_v_swap v (λ j k. h (a ∷ j) (b ∷ k))) ∙ anti_swap n _

-- a sum over a number and a sum over a vector change places
pub anti_v_out : (n : ℕ) (v : List ℕ) (h : ℕ → ℕ → List ℕ → List ℕ → ℕ) → anti_v v (λ c d. anti n (λ a b. h a b c d)) ≡ anti n (λ a b. anti_v v (λ c d. h a b c d))
unfolding anti_v
anti_v_out n [] h = refl
anti_v_out n (m ∷ v) h =
    anti_ext m _ _ (λ c d. anti_v_out n v (λ a b j k. h a b (c ∷ j) (d ∷ k)))
    ∙ anti_fubini m n (λ c d a b. anti_v v (λ j k. h a b (c ∷ j) (d ∷ k)))

pub anti_v_assoc : (v : List ℕ) (h : List ℕ → List ℕ → List ℕ → ℕ) → anti_v v (λ r c. anti_v r (λ a b. h a b c)) ≡ anti_v v (λ a r. anti_v r (λ b c. h a b c))
unfolding anti_v
anti_v_assoc [] h = refl
anti_v_assoc (n ∷ v) h =
    anti_ext n _ _ (λ r c. anti_v_out r v (λ a b rs cs. anti_v rs (λ xs ys. h (a ∷ xs) (b ∷ ys) (c ∷ cs))))
    ∙ anti_ext n _ _ (λ r c. anti_ext r _ _ (λ a b. anti_v_assoc v (λ xs ys cs. h (a ∷ xs) (b ∷ ys) (c ∷ cs))))
    ∙ anti_assoc n (λ a b c. anti_v v (λ xs rs. anti_v rs (λ ys cs. h (a ∷ xs) (b ∷ ys) (c ∷ cs))))
    ∙ anti_ext n _ _ (λ a r. sym (anti_v_out r v (λ b c xs rs. anti_v rs (λ ys cs. h (a ∷ xs) (b ∷ ys) (c ∷ cs)))))

pub anti_v_ge : (h : List ℕ → List ℕ → ℕ) {j k v : List ℕ} → Split j k v → h j k ≤ anti_v v h
unfolding anti_v
anti_v_ge h Split.none = le_refl _
anti_v_ge h (Split.more {a = a} {b = b} {n = n} {v = v} p s) =
    le_trans (anti_v_ge (λ j k. h (a ∷ j) (b ∷ k)) s) (anti_ge n (λ a b. anti_v v (λ j k. h (a ∷ j) (b ∷ k))) a b p)

-- the zero sum
pub anti-zero : (n : ℕ) → anti n (λ a b. 0) ≡ 0
unfolding anti
anti-zero zero = refl
anti-zero (suc n) = omega (arith, anti-zero n)

pub anti_v-zero : (v : List ℕ) → anti_v v (λ j k. 0) ≡ 0
unfolding anti_v
anti_v-zero [] = refl
anti_v-zero (n ∷ v) = anti_ext n _ _ (λ a b. anti_v-zero v) ∙ anti-zero n

-- only the first split, or only the last, counts
pub anti_first : (n : ℕ) (h : ℕ → ℕ → ℕ) → ((j k : ℕ) → h (suc j) k ≡ 0) → anti n h ≡ h 0 n
unfolding anti
anti_first zero h z = refl
anti_first (suc n) h z = omega (arith, anti_ext n (λ j k. h (suc j) k) (λ j k. 0) z, anti-zero n)

pub anti_final : (n : ℕ) (h : ℕ → ℕ → ℕ) → ((j k : ℕ) → h j (suc k) ≡ 0) → anti n h ≡ h n 0
unfolding anti
anti_final zero h z = refl
anti_final (suc n) h z = omega (arith, anti_last n h, anti_ext n (λ j k. h j (suc k)) (λ j k. 0) z, anti-zero n)

-- ---- the sums as sums over lists of splits

pub anti_sum : (n : ℕ) (h : ℕ → ℕ → ℕ) → anti n h ≡ sum_over (splits n) (λ p. h p.0 p.1)
unfolding anti splits sum_over
anti_sum zero h = omega arith
anti_sum (suc n) h = ap (λ x. h 0 (suc n) + x) (anti_sum n (λ j k. h (suc j) k) ∙ sym (sum_over-map one_more (splits n) (λ p. h p.0 p.1)))

pub anti_v_sum : (v : List ℕ) (h : List ℕ → List ℕ → ℕ) → anti_v v h ≡ sum_over (vector_splits v) (λ p. h p.0 p.1)
unfolding anti_v vector_splits sum_over
anti_v_sum [] h = omega arith
anti_v_sum (n ∷ v) h =
    anti_sum n _
    ∙ sum_over_ext (splits n) _ _ (λ p. anti_v_sum v (λ j k. h (p.0 ∷ j) (p.1 ∷ k)) ∙ sym (sum_over-map (before p) (vector_splits v) (λ q. h q.0 q.1)))
    ∙ sym (sum_over_flat (λ p. map (before p) (vector_splits v)) (splits n) (λ q. h q.0 q.1))
