-- Document 01, "Weights": "With n_k messages of chain k at a centre and n their sum, the centre's weight is n! divided by the
-- product of the n_k!, times the product of load^n_k. All n_k zero gives 1."
use Rattle.std.specs.Prelude.{ℕ, zero, suc, ◌+◌, ◌*◌, ◌^◌, List, [], ◌∷◌}
use Rattle.sums.specs.Sums.{sum_over}

-- "1 at k = 0, 0 where k is above n, otherwise the sum of the entries above and above-left"
unfoldable pub binomial : ℕ → ℕ → ℕ
binomial n zero = 1
binomial zero (suc k) = 0
binomial (suc n) (suc k) = binomial n (suc k) + binomial n k

-- "The multinomial is a product of binomials": of chain after chain, where s messages of the chains before stand there already
unfoldable pub multinomial : ℕ → List ℕ → ℕ
multinomial s [] = 1
multinomial s (n ∷ ns) = binomial (s + n) n * multinomial (s + n) ns

-- "the product of load^n_k", chain by chain; a load of 0 stands for no visit, and 0^0 is 1
unfoldable pub powers : List ℕ → List ℕ → ℕ
powers [] [] = 1
powers [] (n ∷ ns) = 0
powers (load ∷ loads) [] = 0
powers (load ∷ loads) (n ∷ ns) = load ^ n * powers loads ns

unfoldable pub weight : List ℕ → List ℕ → ℕ
weight loads ns = multinomial 0 ns * powers loads ns

-- for the law that the multinomial is n! divided by the product of the n_k!: n! itself, n, and that product
unfoldable pub factorial : ℕ → ℕ
factorial zero = 1
factorial (suc n) = suc n * factorial n

abbrev pub total : List ℕ → ℕ
total ns = sum_over ns (λ n. n)

unfoldable pub factorials : List ℕ → ℕ
factorials [] = 1
factorials (n ∷ ns) = factorial n * factorials ns
