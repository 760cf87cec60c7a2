-- The weight of a queueing centre: the multinomial is n! over the product of the n_k!, and the weight is 0 off the route and at
-- least 1 on it. By Pascal's rule, chain by chain.
use Prim.Native.Nat.{ℕ, zero, suc, ◌+◌, ◌*◌, ◌^◌, ◌≤◌, ◌<◌}
use mathlib.Core.Path.{◌≡◌, refl, sym, ap, subst, ◌∙◌}
use mathlib.Core.Bool.{true, false, true≢false}
use mathlib.Core.List.{List, [], ◌∷◌, map}
use native.Mathlib.Omega.{arith}
use native.Mathlib.Nat.{add-zero, suc-add, add-suc, zero-add, le_refl, one-le-mul, one-le-pow, add_assoc, mul-zero, pow-suc}
use Rattle.sums.specs.Sums.{sum_over}
use Rattle.network.specs.Weight.{binomial, multinomial, powers, weight, total, factorial, factorials}
use Rattle.network.specs.Centre.{visit, queue, fits, Off, On}

-- ---- binomials

pub binomial_above : (n k : ℕ) → n < k → binomial n k ≡ 0
unfolding binomial
binomial_above n zero h = absurd (omega arith)
binomial_above zero (suc k) h = refl
binomial_above (suc n) (suc k) h = omega (arith, binomial_above n (suc k) (omega arith), binomial_above n k (omega arith))

pub binomial_self : (n : ℕ) → binomial n n ≡ 1
unfolding binomial
binomial_self zero = refl
binomial_self (suc n) = omega (arith, binomial_self n, binomial_above n (suc n) (omega arith))

pub binomial_pos : (a b : ℕ) → 1 ≤ binomial (a + b) b
unfolding binomial
binomial_pos a zero = le_refl 1
binomial_pos zero (suc b) = rw (zero-add (suc b), binomial_self (suc b)) (le_refl 1)
binomial_pos (suc a) (suc b) = rw (suc-add a (suc b)) (omega (arith, binomial_pos a (suc b)))

-- ---- the multinomial

pub multinomial_pos : (s : ℕ) (j : List ℕ) → 1 ≤ multinomial s j
unfolding multinomial
multinomial_pos s [] = le_refl 1
multinomial_pos s (a ∷ j) = one-le-mul (binomial_pos s a) (multinomial_pos (s + a) j)

-- the algebra of one step of Pascal's rule, with names for the four factorials
pascal_step : (x y a b fa fb F : ℕ) → x * (fa * (suc b * fb)) ≡ F → y * (suc a * fa * fb) ≡ F → (x + y) * (suc a * fa * (suc b * fb)) ≡ suc (a + suc b) * F
pascal_step x y a b fa fb F p q = omega (arith, ap (λ z. suc a * z) p, ap (λ z. suc b * z) q)

pub binomial-factorial : (a b : ℕ) → binomial (a + b) b * (factorial a * factorial b) ≡ factorial (a + b)
unfolding binomial factorial
binomial-factorial a zero = rw (add-zero a) (omega arith)
binomial-factorial zero (suc b) = rw (zero-add (suc b)) (omega (arith, ap (λ x. x * factorial (suc b)) (binomial_self (suc b))))
binomial-factorial (suc a) (suc b) =
    rw (suc-add a (suc b)) (pascal_step (binomial (a + suc b) (suc b)) (binomial (a + suc b) b) a b (factorial a) (factorial b) (factorial (a + suc b)) (binomial-factorial a (suc b)) (subst (λ m. binomial m b * (suc a * factorial a * factorial b) ≡ factorial m) (suc-add a b ∙ sym (add-suc a b)) (binomial-factorial (suc a) b)))

multinomial_step : (b m fs fa F g t : ℕ) → b * (fs * fa) ≡ g → m * (g * F) ≡ t → b * m * (fs * (fa * F)) ≡ t
multinomial_step b m fs fa F g t p q = omega (arith, ap (λ z. m * (z * F)) p)

-- the multinomial is (sum of j)! over the product of the j!
pub multinomial-factorial : (s : ℕ) (j : List ℕ) → multinomial s j * (factorial s * factorials j) ≡ factorial (s + total j)
unfolding multinomial factorials sum_over
multinomial-factorial s [] = rw (add-zero s) (omega arith)
multinomial-factorial s (a ∷ j) = rw (← add_assoc s a (total j)) (multinomial_step (binomial (s + a) a) (multinomial (s + a) j) (factorial s) (factorial a) (factorials j) (factorial (s + a)) (factorial (s + a + total j)) (binomial-factorial s a) (multinomial-factorial (s + a) j))

-- "n! divided by the product of the n_k!"
pub multinomial_is : (ns : List ℕ) → multinomial 0 ns * factorials ns ≡ factorial (total ns)
unfolding factorial
multinomial_is ns = omega (arith, multinomial-factorial 0 ns, ap factorial (zero-add (total ns)))

-- ---- the weight

pub powers_on : (loads ns : List ℕ) → fits (map visit loads) ns ≡ true → 1 ≤ powers loads ns
unfolding powers fits visit
powers_on [] [] f = le_refl 1
powers_on [] (n ∷ ns) f = absurd (true≢false (sym f))
powers_on (load ∷ loads) [] f = absurd (true≢false (sym f))
powers_on (zero ∷ loads) (zero ∷ ns) f = one-le-mul (le_refl 1) (powers_on loads ns f)
powers_on (zero ∷ loads) (suc n ∷ ns) f = absurd (true≢false (sym f))
powers_on (suc load ∷ loads) (n ∷ ns) f = one-le-mul (one-le-pow n (suc load) (omega arith)) (powers_on loads ns f)

pub powers_off : (loads ns : List ℕ) → fits (map visit loads) ns ≡ false → powers loads ns ≡ 0
unfolding powers fits visit
powers_off [] [] f = absurd (true≢false f)
powers_off [] (n ∷ ns) f = refl
powers_off (load ∷ loads) [] f = refl
powers_off (zero ∷ loads) (zero ∷ ns) f = ap (λ x. 1 * x) (powers_off loads ns f)
powers_off (zero ∷ loads) (suc n ∷ ns) f = rw (pow-suc 0 n) (omega arith)
powers_off (suc load ∷ loads) (n ∷ ns) f = ap (λ x. suc load ^ n * x) (powers_off loads ns f) ∙ mul-zero _

-- "weight 0 off the route, at least 1 on it"
pub queue_off : (loads : List ℕ) → Off (queue loads)
unfolding weight
queue_off loads ns f = ap (λ x. multinomial 0 ns * x) (powers_off loads ns f) ∙ mul-zero _

pub queue_on : (loads : List ℕ) → On (queue loads)
unfolding weight
queue_on loads ns f = one-le-mul (multinomial_pos 0 ns) (powers_on loads ns f)
