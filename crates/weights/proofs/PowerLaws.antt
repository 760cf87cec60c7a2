-- A product made factor by factor: once it is too large it stays so, since no factor that follows is 0. Where it became too large
-- by a load, that load is at least 1.
use Prim.Native.Nat.{ℕ, zero, suc, ◌+◌, ◌*◌, ◌^◌, ◌≤◌, ◌<◌}
use mathlib.Core.Path.{◌≡◌, sym, ap, ◌∙◌}
use native.Mathlib.Nat.{mul_assoc, mul-one, mul-zero, pow-suc, pow-le-pow_right, mul-le-mul, le_refl, le_trans}
use native.Mathlib.Numerals.{add-one}
use native.Mathlib.Omega.{arith}
use Rattle.arith.specs.Capped.{capped}
use Rattle.std.specs.Prelude.{Some, None}
use Rattle.arith.proofs.CappedLaws.{capped_exact, capped_large, exact_says, large_says}

-- a factor of at least 1
pub times_more : (a b : ℕ) → 1 ≤ b → a ≤ a * b
times_more a b h = omega (arith, mul-le-mul (le_refl a) h, mul-one a)

pub still_large : (a b : ℕ) → 2 ^ 64 ≤ a → 1 ≤ b → 2 ^ 64 ≤ a * b
still_large a b h k = le_trans h (times_more a b k)

factor_pos : (a b : ℕ) → 2 ^ 64 ≤ a * b → 1 ≤ b
factor_pos a zero h = absurd (omega (arith, mul-zero a))
factor_pos a (suc b) h = omega arith

-- one product, then another
pub then_exact : (a b : ℕ) {x y : ℕ} → capped a ≡ Some x → y ≡ b → capped (x * y) ≡ capped (a * b)
then_exact a b e d = let t = exact_says e in λ i. capped (t.is i * d i)

pub then_large : (a b : ℕ) → 1 ≤ b → capped a ≡ None → capped (a * b) ≡ None
then_large a b h e = capped_large (still_large a b (large_says e) h)

-- `product` is the product of acc and i loads
module _ (acc load i product : ℕ) (e : product ≡ acc * load ^ i) where
  one_more : product * load ≡ acc * load ^ (i + 1)
  one_more = rw (add-one i, pow-suc load i) (ap (λ x. x * load) e ∙ mul_assoc acc (load ^ i) load)

  pub power_exact : {x : ℕ} → capped (product * load) ≡ Some x → (x ≡ acc * load ^ (i + 1)) × (x < 2 ^ 64)
  power_exact f = let t = exact_says f in (t.is ∙ one_more, omega (arith, t.is, t.low))

  pub power_large : (n : ℕ) → i < n → capped (product * load) ≡ None → capped (acc * load ^ n) ≡ None
  power_large n h f =
      let l : 2 ^ 64 ≤ product * load = large_says f in
      let up : acc * load ^ (i + 1) ≤ acc * load ^ n = mul-le-mul (le_refl acc) (pow-le-pow_right (factor_pos product load l) (omega arith)) in
      capped_large (omega (arith, l, up, one_more))

  pub power_done : (n : ℕ) → i ≡ n → product < 2 ^ 64 → capped (acc * load ^ n) ≡ Some product
  power_done n d h = sym (ap capped (e ∙ ap (λ j. acc * load ^ j) d)) ∙ capped_exact h
