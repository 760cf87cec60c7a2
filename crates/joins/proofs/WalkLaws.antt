-- Walks: over two lists one after the other; over a list that is all skipped; after the end; and what `spend` has to do with them. By
-- induction over the pairs.
use Prim.Native.Nat.{ℕ, zero, suc, ◌+◌, ◌-◌, ◌^◌, ◌≤◌}
use mathlib.Core.Path.{◌≡◌, refl, ap, ◌∙◌}
use mathlib.Core.Bool.{Bool, true, false, ◌&&◌}
use mathlib.Core.List.{List, [], ◌∷◌, ◌++◌}
use native.Mathlib.Nat.{sub-zero, not-suc-le-zero, le_of_suc-le-suc}
use native.Mathlib.Omega.{arith}
use lib.Dec.{ltb}
use Rattle.std.specs.Prelude.{◌==◌}
use Rattle.std.proofs.lemmas.Bool.Decides.{nat_tests}
use lib.ListN.{length, take, drop}
use Rattle.sums.specs.Choice.{choose}
use Rattle.network.specs.Pairs.{Pair}
use Rattle.network.specs.Run.{sum_at, add, Progress, spend}
use Rattle.joins.specs.Walk.{State, attempt, step, walk, ended}

pub walk-append : (ps qs : List Pair) (s : State) → walk (ps ++ qs) s ≡ walk qs (walk ps s)
unfolding walk
walk-append [] qs s = refl
walk-append (p ∷ ps) qs s = walk-append ps qs (step s.over s.skip s.budget p s.area)

-- a walk that a pair has ended goes no further
pub walk_over : (ps : List Pair) (k b : ℕ) (A : List ℕ) → walk ps (record { skip = k; budget = b; over = true; area = A }) ≡ record { skip = k; budget = b; over = true; area = A }
unfolding walk step
walk_over [] k b A = refl
walk_over (p ∷ ps) k b A = walk_over ps k b A

-- nor does one whose budget is spent
pub walk_spent : (ps : List Pair) (A : List ℕ) → walk ps (record { skip = 0; budget = 0; over = false; area = A }) ≡ record { skip = 0; budget = 0; over = false; area = A }
unfolding walk step
walk_spent [] A = refl
walk_spent (p ∷ ps) A = walk_spent ps A

-- either way
spent : (k b : ℕ) → (k == 0 && b == 0) ≡ true → (k ≡ 0) × (b ≡ 0)
spent k b h = grind (arith, nat_tests)

pub walk-ended : (ps : List Pair) (s : State) → ended s.over s.skip s.budget ≡ true → walk ps s ≡ s
walk-ended ps s h = by s.over s.skip s.budget h
  where
    by : (o : Bool) (k b : ℕ) → ended o k b ≡ true → walk ps (record { skip = k; budget = b; over = o; area = s.area }) ≡ record { skip = k; budget = b; over = o; area = s.area }
    by true k b e = walk_over ps k b s.area
    by false k b e = let z = spent k b e in rw (z.0, z.1) (walk_spent ps s.area)

-- pairs that are all to be skipped are passed over by their number
pub walk_past : (ps : List Pair) (k b : ℕ) (A : List ℕ) → length ps ≤ k → walk ps (record { skip = k; budget = b; over = false; area = A }) ≡ record { skip = k - length ps; budget = b; over = false; area = A }
unfolding walk step
walk_past [] k b A h = rw sub-zero
walk_past (p ∷ ps) zero b A h = absurd (not-suc-le-zero h)
walk_past (p ∷ ps) (suc k) b A h = walk_past ps k b A (le_of_suc-le-suc h) ∙ ap (λ n. record { skip = n; budget = b; over = false; area = A }) (less k (length ps))
  where
    less : (k n : ℕ) → k - n ≡ suc k - suc n
    less k n = omega arith

-- ---- a walk is a run of the pairs from the skip on, as many as the budget has

-- what is left, where the run's number done counts up to n when the budget is spent
abbrev pub remains : ℕ → ℕ → Progress → State
remains skip n p = record { skip = skip; budget = n - p.done; over = p.stopped; area = p.area }

pub walk-spend : (ps : List Pair) (k b done : ℕ) (A : List ℕ) → walk ps (record { skip = k; budget = b; over = false; area = A }) ≡ remains (k - length ps) (b + done) (spend (2 ^ 64) (take b (drop k ps)) done A)
unfolding walk step attempt spend
walk-spend [] k b done A = none k b
  where
    kept : (k b : ℕ) → (k ≡ k - 0) × (b ≡ b + done - done)
    kept k b = (omega arith, omega arith)

    none : (k b : ℕ) → record { skip = k; budget = b; over = false; area = A } ≡ remains (k - 0) (b + done) (spend (2 ^ 64) (take b (drop k [])) done A)
    none zero zero = λ i. record { skip = 0; budget = (kept 0 0).1 i; over = false; area = A }
    none zero (suc b) = λ i. record { skip = 0; budget = (kept 0 (suc b)).1 i; over = false; area = A }
    none (suc k) zero = λ i. record { skip = (kept (suc k) 0).0 i; budget = (kept 0 0).1 i; over = false; area = A }
    none (suc k) (suc b) = λ i. record { skip = (kept (suc k) 0).0 i; budget = (kept 0 (suc b)).1 i; over = false; area = A }
walk-spend (p ∷ ps) (suc k) b done A =
    walk-spend ps k b done A ∙ ap (λ n. remains n (b + done) (spend (2 ^ 64) (take b (drop k ps)) done A)) (less k (length ps))
  where
    less : (k n : ℕ) → k - n ≡ suc k - suc n
    less k n = omega arith
walk-spend (p ∷ ps) zero zero done A =
    walk_spent ps A ∙ (let e : 0 ≡ 0 - suc (length ps) = omega arith in let f : 0 ≡ 0 + done - done = omega arith in λ i. record { skip = e i; budget = f i; over = false; area = A })
walk-spend (p ∷ ps) zero (suc b) done A = by (ltb (sum_at A p) (2 ^ 64)) (walk-spend ps zero b (suc done) (add A p))
  where
    by : (t : Bool) → walk ps (record { skip = 0; budget = b; over = false; area = add A p }) ≡ remains (0 - length ps) (b + suc done) (spend (2 ^ 64) (take b ps) (suc done) (add A p))
        → walk ps (attempt t b p A) ≡ remains (0 - suc (length ps)) (suc b + done) (choose t (λ u. spend (2 ^ 64) (take b ps) (suc done) (add A p)) (λ u. record { done = done; area = A; stopped = true }))
    by true h =
        h ∙ (let e : 0 - length ps ≡ 0 - suc (length ps) = omega arith in let f : b + suc done ≡ suc b + done = omega arith in λ i. remains (e i) (f i) (spend (2 ^ 64) (take b ps) (suc done) (add A p)))
    by false h =
        walk_over ps 0 (suc b) A
        ∙ (let e : 0 ≡ 0 - suc (length ps) = omega arith in let f : suc b ≡ suc b + done - done = omega arith in λ i. record { skip = e i; budget = f i; over = true; area = A })

-- without a budget pairs are only skipped
pub walk_none : (ps : List Pair) (k : ℕ) (A : List ℕ) → walk ps (record { skip = k; budget = 0; over = false; area = A }) ≡ record { skip = k - length ps; budget = 0; over = false; area = A }
unfolding spend
walk_none ps k A = walk-spend ps k 0 0 A
