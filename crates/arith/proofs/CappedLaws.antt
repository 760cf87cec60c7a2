-- What `capped` tells of a number, both ways round, and what the library's tests of a number tell.
use Prim.Native.Nat.{ℕ, ◌≤◌, ◌<◌, ◌^◌}
use mathlib.Core.Path.{◌≡◌, refl, sym, ap, ◌∙◌}
use mathlib.Core.Bool.{Bool, true, false}
use native.Mathlib.Omega.{arith}
use lib.Dec.{ltb}
use borrow.Author.Tests.{lt-ltb, le-ltb, ltb-true, ltb-false}
use Rattle.std.specs.Prelude.{Option, Some, None, Result, Ok, Err}
use Rattle.std.specs.Option.{SomeIff}
use Rattle.std.specs.Result.{OkIff, result_ok}
use Rattle.arith.specs.Capped.{capped, exact_if}

pub capped_exact : {n : ℕ} → n < 2 ^ 64 → capped n ≡ Some n
unfolding capped exact_if
capped_exact {n} h = rw (lt-ltb n (2 ^ 64) h)

pub capped_large : {n : ℕ} → 2 ^ 64 ≤ n → capped n ≡ None
unfolding capped exact_if
capped_large {n} h = rw (le-ltb n (2 ^ 64) h)

pub record IsExact (n v : ℕ) : Type 0 where
  pub low : n < 2 ^ 64
  pub is : v ≡ n

by_exact : (n v : ℕ) (t : Bool) → (t ≡ true → n < 2 ^ 64) → exact_if t n ≡ Some v → IsExact n v
unfolding exact_if
by_exact n v true f e = record { low = f refl; is = cc }
by_exact n v false f e = let z : ◌≡◌ {A = ℕ} 0 1 = cc in absurd (omega arith)

by_large : (n : ℕ) (t : Bool) → (t ≡ false → 2 ^ 64 ≤ n) → exact_if t n ≡ None → 2 ^ 64 ≤ n
unfolding exact_if
by_large n true f e = let z : ◌≡◌ {A = ℕ} 0 1 = cc in absurd (omega arith)
by_large n false f e = f refl

pub exact_says : {n v : ℕ} → capped n ≡ Some v → IsExact n v
unfolding capped
exact_says {n} {v} e = by_exact n v (ltb n (2 ^ 64)) (ltb-true n (2 ^ 64)) e

pub large_says : {n : ℕ} → capped n ≡ None → 2 ^ 64 ≤ n
unfolding capped
large_says {n} e = by_large n (ltb n (2 ^ 64)) (ltb-false n (2 ^ 64)) e

-- what the library's tests tell
pub capped_some : (o : Option ℕ) (n : ℕ) → SomeIff o (n < 2 ^ 64) n → o ≡ capped n
capped_some None n h = sym (capped_large (omega (arith, h)))
capped_some (Some x) n h = ap Some h.1 ∙ sym (capped_exact h.0)

module _ {E : Type 0} where
  pub capped_ok : (r : Result ℕ E) (n : ℕ) → OkIff r (n < 2 ^ 64) n → result_ok r ≡ capped n
  capped_ok (Err e) n h = sym (capped_large (omega (arith, h)))
  capped_ok (Ok x) n h = ap Some h.1 ∙ sym (capped_exact h.0)
