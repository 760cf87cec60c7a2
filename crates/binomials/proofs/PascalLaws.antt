-- Pascal's rule: one test over a whole table of 16 columns, and the law that carries it to each entry. The table is walked beside
-- itself moved 17 places on, where the entry above-left of each stands, so the test takes one step an entry.
use Prim.Native.Nat.{ℕ, zero, suc, ◌+◌, ◌*◌, ◌%◌, ◌<◌, ◌≤◌}
use mathlib.Core.Path.{◌≡◌, refl, ◌∙◌}
use mathlib.Core.Bool.{Bool, true, false}
use mathlib.Core.List.{List, [], ◌∷◌, ◌++◌}
use native.Mathlib.Nat.{add-suc, add-zero, suc-add}
use native.Mathlib.Omega.{arith}
use lib.Dec.{T, eqb, eqb→eq}
use lib.ListN.{length, get_or, replicate, get_or-append, get_or-replicate}
use lib.Seq.{get_or-append-add}
use Rattle.network.specs.Weight.{binomial}

-- a test, and the rest only where it holds
abbrev both : Bool → Bool → Bool
both true b = b
both false b = false

both_left : (a b : Bool) → T (both a b) → T a
both_left true b t = tt
both_left false b t = t

both_right : (a b : Bool) → T (both a b) → T b
both_right true b t = t
both_right false b t = absurd t

-- the test holds of each number
abbrev pub every : (ℕ → Bool) → List ℕ → Bool
every test [] = true
every test (x ∷ xs) = both (test x) (every test xs)

pub every_at : (test : ℕ → Bool) (xs : List ℕ) → T (every test xs) → (j : ℕ) → j < length xs → T (test (get_or xs j 0))
every_at test [] t j h = absurd (omega arith)
every_at test (x ∷ xs) t zero h = both_left (test x) (every test xs) t
every_at test (x ∷ xs) t (suc j) h = every_at test xs (both_right (test x) (every test xs) t) j (omega arith)

-- the entry of column k, with x above-left of it and y above it
abbrev entry : ℕ → ℕ → ℕ → ℕ
entry zero x y = 1
entry (suc k) x y = y + x

abbrev rest : List ℕ → List ℕ
rest [] = []
rest (x ∷ xs) = xs

rest_at : (xs : List ℕ) (j : ℕ) → get_or (rest xs) j 0 ≡ get_or xs (suc j) 0
rest_at [] j = refl
rest_at (x ∷ xs) j = refl

-- each entry, from place i on, is made from its column and the next two of xs
abbrev pascal : ℕ → List ℕ → List ℕ → Bool
pascal i xs [] = true
pascal i xs (y ∷ ys) = both (eqb y (entry (i % 16) (get_or xs 0 0) (get_or xs 1 0))) (pascal (suc i) (rest xs) ys)

pascal_at : (ys xs : List ℕ) (i : ℕ) → T (pascal i xs ys) → (j : ℕ) → j < length ys → get_or ys j 0 ≡ entry ((i + j) % 16) (get_or xs j 0) (get_or xs (suc j) 0)
pascal_at [] xs i t j h = absurd (omega arith)
pascal_at (y ∷ ys) xs i t zero h = rw add-zero (eqb→eq _ _ (both_left (eqb y (entry (i % 16) (get_or xs 0 0) (get_or xs 1 0))) _ t))
pascal_at (y ∷ ys) xs i t (suc j) h =
    pascal_at ys (rest xs) (suc i) (both_right (eqb y (entry (i % 16) (get_or xs 0 0) (get_or xs 1 0))) _ t) j (omega arith)
    ∙ rw (rest_at xs j, rest_at xs (suc j), suc-add, add-suc)

-- the entries above-left of each: 0 above the first row
abbrev above : List ℕ → List ℕ
above table = replicate 17 0 ++ table

above_none : (table : List ℕ) (j : ℕ) → j < 17 → get_or (above table) j 0 ≡ 0
above_none table j h = get_or-append (replicate 17 0) table 0 j h ∙ get_or-replicate 17 j 0 0 h

above_at : (table : List ℕ) (j : ℕ) → get_or (above table) (17 + j) 0 ≡ get_or table j 0
above_at table j = get_or-append-add (replicate 17 0) table j 0

-- the whole test: 121 rows, and Pascal's rule in all of them
abbrev pub Tested : List ℕ → Type 0
Tested table = (length table ≡ 1936) × T (pascal 0 (above table) table)

entry_at : (table : List ℕ) → Tested table → (n k : ℕ) → n ≤ 120 → k ≤ 15 → get_or table (n * 16 + k) 0 ≡ entry k (get_or (above table) (n * 16 + k) 0) (get_or (above table) (suc (n * 16 + k)) 0)
entry_at table t n k hn hk =
    let e : (0 + (n * 16 + k)) % 16 ≡ k = omega arith in
    pascal_at table (above table) 0 t.1 (n * 16 + k) (rw t.0 (omega arith)) ∙ rw e

pub binomial_at : (table : List ℕ) → Tested table → (n k : ℕ) → n ≤ 120 → k ≤ 15 → get_or table (n * 16 + k) 0 ≡ binomial n k
unfolding binomial
binomial_at table t n zero hn hk = entry_at table t n 0 hn hk
binomial_at table t zero (suc k) hn hk =
    entry_at table t 0 (suc k) hn hk
    ∙ rw (above_none table (0 * 16 + suc k) (omega arith), above_none table (suc (0 * 16 + suc k)) (omega arith))
binomial_at table t (suc n) (suc k) hn hk =
    let e : suc n * 16 + suc k ≡ 17 + (n * 16 + k) = omega arith in
    let g : suc (suc n * 16 + suc k) ≡ 17 + (n * 16 + suc k) = omega arith in
    let x : get_or (above table) (suc n * 16 + suc k) 0 ≡ binomial n k = rw e (above_at table (n * 16 + k) ∙ binomial_at table t n k (omega arith) (omega arith)) in
    let y : get_or (above table) (suc (suc n * 16 + suc k)) 0 ≡ binomial n (suc k) = rw g (above_at table (n * 16 + suc k) ∙ binomial_at table t n (suc k) (omega arith) hk) in
    entry_at table t (suc n) (suc k) hn hk ∙ rw (x, y)
