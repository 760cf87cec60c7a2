-- Counting visits by the loads: those that std's `count_by` counts over a range are the definition's.
use Prim.Native.Nat.{ℕ, zero, suc, ◌+◌}
use mathlib.Core.Path.{◌≡◌, refl, ◌∙◌}
use mathlib.Core.Bool.{Bool, true, false}
use mathlib.Core.List.{List, [], ◌∷◌, ◌++◌}
use native.Mathlib.Omega.{arith}
use native.Mathlib.Numerals.{add-one}
use lib.ListN.{length}
use Rattle.std.specs.Prelude.{cond, count_by as counting}
use Rattle.std.specs.List.{range_with_len}
use Rattle.std.proofs.lemmas.List.Sums.{sum_by-cons}
use Rattle.sums.specs.Lists.{from, those, when}
use Rattle.plan.specs.Steps.{loaded_by, count_by}

module _ (loads : List ℕ) (k : ℕ) where
  -- of n centres from a + 1 on
  with_one : (c m : ℕ) (b : Bool) (rest : List ℕ) → m ≡ length rest → cond b 1 0 + m ≡ length (when b (c ∷ []) ++ rest)
  unfolding when
  with_one c m true rest e = omega arith
  with_one c m false rest e = omega arith

  counted_from : (a n : ℕ) → counting (λ i. loaded_by loads k (i + 1)) (range_with_len a n) ≡ count_by loads k (from (suc a) n)
  unfolding count_by those from
  counted_from a zero = refl
  counted_from a (suc n) =
      sum_by-cons (λ i. cond (loaded_by loads k (i + 1)) 1 0) a (range_with_len (a + 1) n)
      ∙ rw (add-one a) (with_one (suc a) _ (loaded_by loads k (suc a)) _ (counted_from (suc a) n))

  pub counted : (n : ℕ) → counting (λ i. loaded_by loads k (i + 1)) (range_with_len 0 n) ≡ count_by loads k (from 1 n)
  counted n = counted_from 0 n
