-- A loop that counts up and stops at the first hit: at each turn `some test` over the numbers still to come is `some test` over all.
use Prim.Native.Nat.{ℕ, suc, ◌+◌, ◌-◌, ◌≤◌, ◌<◌}
use mathlib.Core.Path.{◌≡◌}
use mathlib.Core.Bool.{Bool, true, false, ◌||◌}
use native.Mathlib.Omega.{arith}
use native.Mathlib.Numerals.{add-one}
use Rattle.sums.specs.Lists.{from, some}

pub some_start : (test : ℕ → Bool) (n : ℕ) → some test (from 0 (n - 0)) ≡ some test (from 0 n)
some_start test n = let e : n - 0 ≡ n = omega arith in rw e

module _ (test : ℕ → Bool) (n c : ℕ) {whole : Bool} (i : some test (from c (n - c)) ≡ whole) where
  step : c < n → (test c || some test (from (c + 1) (n - (c + 1)))) ≡ whole
  unfolding from some
  step h =
      let e : n - c ≡ suc (n - (c + 1)) = omega arith in
      let j : some test (from c (suc (n - (c + 1)))) ≡ whole = rw e at i in
      rw (add-one c) (rw (add-one c) at j)

  pub some_hit : c < n → test c ≡ true → true ≡ whole
  some_hit h t = rw t at (step h)

  pub some_pass : c < n → test c ≡ false → some test (from (c + 1) (n - (c + 1))) ≡ whole
  some_pass h t = rw t at (step h)

  pub some_end : n ≤ c → false ≡ whole
  unfolding from some
  some_end h = let e : n - c ≡ 0 = omega arith in rw e at i
