-- What the searches of `model` find is what the definitions ask: std's `list_any`, over a range or over an array's first entries, is `some`.
use Prim.Native.Nat.{ℕ, zero, suc, ◌≤◌}
use mathlib.Core.Path.{◌≡◌, refl, sym, ap, ◌∙◌}
use mathlib.Core.Bool.{Bool, not, ◌||◌}
use mathlib.Core.List.{List, [], ◌∷◌}
use native.Mathlib.Omega.{arith}
use native.Mathlib.Numerals.{add-one}
use lib.Dec.{eqb}
use lib.ListN.{length, get_or, take}
use Rattle.std.specs.List.{list_any, range_with_len}
use Rattle.sums.specs.Lists.{from, some}
use Rattle.modelfile.specs.Ends.{last_centre}
use Rattle.modelfile.specs.Records.{loaded, chain_without_centre, centre_missing}
use Rattle.modelfile.specs.declared.Model.{Model}

some_range : (test : ℕ → Bool) (a n : ℕ) → list_any test (range_with_len a n) ≡ some test (from a n)
unfolding some from
some_range test a zero = refl
some_range test a (suc n) = rw (add-one a) (ap (λ b. test a || b) (some_range test (suc a) n))

some_later : (test : ℕ → Bool) (a n : ℕ) → some test (from (suc a) n) ≡ some (λ i. test (suc i)) (from a n)
unfolding some from
some_later test a zero = refl
some_later test a (suc n) = ap (λ b. test (suc a) || b) (some_later test (suc a) n)

some_first : (test : ℕ → Bool) (xs : List ℕ) (n : ℕ) → n ≤ length xs → list_any test (take n xs) ≡ some (λ i. test (get_or xs i 0)) (from 0 n)
unfolding some from
some_first test xs zero h = refl
some_first test [] (suc n) h = absurd (omega arith)
some_first test (x ∷ xs) (suc n) h = ap (λ b. test x || b) (some_first test xs n (omega arith) ∙ sym (some_later (λ i. test (get_or (x ∷ xs) i 0)) 0 n))

module _ (m : Model) where
  pub without_is : list_any (λ k. not (list_any (loaded m.loads k) (range_with_len 0 last_centre))) (range_with_len 0 m.chains) ≡ chain_without_centre m
  unfolding chain_without_centre
  without_is = some_range _ 0 m.chains ∙ (λ i. some (λ k. not (some_range (loaded m.loads k) 0 last_centre i)) (from 0 m.chains))

  pub missing_is : m.centres ≤ length m.placed → list_any (λ y. eqb y 0) (take m.centres m.placed) ≡ centre_missing m
  unfolding centre_missing
  missing_is h = some_first (λ y. eqb y 0) m.placed m.centres h
