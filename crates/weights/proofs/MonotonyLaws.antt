-- A weight does not fall where a number of messages rises: neither the binomials nor the powers do. So of all indices of a leaf the
-- highest has the largest weight.
use Prim.Native.Nat.{ℕ, zero, suc, ◌+◌, ◌-◌, ◌^◌, ◌≤◌}
use mathlib.Core.Path.{◌≡◌, refl, subst}
use mathlib.Core.Bool.{true}
use mathlib.Core.List.{List, [], ◌∷◌, map}
use native.Mathlib.Nat.{le_refl, le_trans, mul-le-mul, add-suc, pow-le-pow_right}
use native.Mathlib.Omega.{arith}
use lib.ListN.{length, get_or}
use Rattle.network.specs.Weight.{binomial, multinomial, powers}
use Rattle.network.specs.Centre.{visit, fits}
use Rattle.weights.specs.Parts.{weight_after}
use Rattle.weights.proofs.WeightLaws.{after_more}

-- a function that never falls from a number to the next
rising : (f : ℕ → ℕ) → ((n : ℕ) → f n ≤ f (suc n)) → (n d : ℕ) → f n ≤ f (n + d)
rising f up n zero = let e : n + 0 ≡ n = omega arith in rw e (le_refl (f n))
rising f up n (suc d) = rw (add-suc n d) (le_trans (rising f up n d) (up (n + d)))

rises : (f : ℕ → ℕ) → ((n : ℕ) → f n ≤ f (suc n)) → {n m : ℕ} → n ≤ m → f n ≤ f m
rises f up {n} {m} h = let e : n + (m - n) ≡ m = omega arith in subst (λ x. f n ≤ f x) e (rising f up n (m - n))

binomial_row : (k n : ℕ) → binomial n k ≤ binomial (suc n) k
unfolding binomial
binomial_row zero n = le_refl 1
binomial_row (suc k) n = omega arith

binomial_step : (s n : ℕ) → binomial (s + n) n ≤ binomial (s + suc n) (suc n)
unfolding binomial
binomial_step s n = rw (add-suc s n) (omega arith)

pub binomial-rises : {s t n m : ℕ} → s ≤ t → n ≤ m → binomial (s + n) n ≤ binomial (t + m) m
binomial-rises {s} {t} {n} {m} h k = le_trans (rises (λ i. binomial i n) (binomial_row n) (omega arith)) (rises (λ i. binomial (t + i) i) (binomial_step t) k)

-- 0 to the 0 is 1, and 0 to any other number is 0
pub power_rises : (load : ℕ) {n m : ℕ} → n ≤ m → (load ≡ 0 → m ≡ 0) → load ^ n ≤ load ^ m
power_rises zero {n} {m} h z = let e : m ≡ 0 = z refl in let d : n ≡ 0 = omega arith in rw (e, d) (le_refl _)
power_rises (suc load) h z = pow-le-pow_right (omega arith) h

-- ns at most ms, entry by entry
abbrev pub Under : List ℕ → List ℕ → Type 0
Under ns ms = (k : ℕ) → get_or ns k 0 ≤ get_or ms k 0

pub after_rises : (loads ns ms : List ℕ) {s t : ℕ} → length ns ≡ length loads → length ms ≡ length loads → s ≤ t → Under ns ms
    → ((k : ℕ) → get_or loads k 0 ≡ 0 → get_or ms k 0 ≡ 0) → weight_after s loads ns ≤ weight_after t loads ms
unfolding weight_after multinomial powers
after_rises [] [] [] a b h u z = le_refl 1
after_rises [] (n ∷ ns) ms a b h u z = absurd (omega arith)
after_rises [] [] (m ∷ ms) a b h u z = absurd (omega arith)
after_rises (load ∷ loads) [] ms a b h u z = absurd (omega arith)
after_rises (load ∷ loads) (n ∷ ns) [] a b h u z = absurd (omega arith)
after_rises (load ∷ loads) (n ∷ ns) (m ∷ ms) {s} {t} a b h u z =
    let k : n ≤ m = u 0 in
    rw (after_more s load n loads ns, after_more t load m loads ms)
    (mul-le-mul (mul-le-mul (power_rises load k (z 0)) (binomial-rises h k))
    (after_rises loads ns ms (omega arith) (omega arith) (omega arith) (λ j. u (suc j)) (λ j. z (suc j))))

-- numbers that are 0 where the load is fit the route
pub fits_of : (loads ns : List ℕ) → length ns ≡ length loads → ((k : ℕ) → get_or loads k 0 ≡ 0 → get_or ns k 0 ≡ 0) → fits (map visit loads) ns ≡ true
unfolding fits visit
fits_of [] [] a z = refl
fits_of [] (n ∷ ns) a z = absurd (omega arith)
fits_of (load ∷ loads) [] a z = absurd (omega arith)
fits_of (zero ∷ loads) (zero ∷ ns) a z = fits_of loads ns (omega arith) (λ k. z (suc k))
fits_of (zero ∷ loads) (suc n ∷ ns) a z = absurd (let e : suc n ≡ 0 = z 0 refl in omega arith)
fits_of (suc load ∷ loads) (n ∷ ns) a z = fits_of loads ns (omega arith) (λ k. z (suc k))
