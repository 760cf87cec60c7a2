-- A weight chain by chain: what is left of it after some chains, one chain taken off, and that it is at least 1 where the index
-- fits, so that a part that is too large settles the whole.
use Prim.Native.Nat.{ℕ, zero, suc, ◌+◌, ◌*◌, ◌^◌, ◌≤◌, ◌<◌}
use mathlib.Core.Path.{◌≡◌, refl, sym, ap, ◌∙◌}
use mathlib.Core.Bool.{true, true≢false}
use mathlib.Core.List.{List, [], ◌∷◌, map}
use native.Mathlib.Nat.{mul-one, one-le-mul, le_refl, add-suc, one-le-pow}
use native.Mathlib.Numerals.{add-one}
use native.Mathlib.Omega.{arith}
use lib.ListN.{length, get_or, drop, drop_of_length-le}
use lib.Seq.{drop-cons}
use Rattle.arith.specs.Capped.{capped}
use Rattle.std.specs.Prelude.{Some, None}
use Rattle.arith.proofs.CappedLaws.{capped_exact, capped_large, exact_says, large_says}
use Rattle.network.specs.Weight.{binomial, multinomial, powers, weight}
use Rattle.network.specs.Centre.{visit, fits}
use Rattle.weights.specs.Parts.{weight_after}
use Rattle.weights.proofs.PowerLaws.{still_large}

pub binomial_pos : (s n : ℕ) → 1 ≤ binomial (s + n) n
unfolding binomial
binomial_pos s zero = le_refl 1
binomial_pos s (suc n) = rw (add-suc s n) (omega (arith, binomial_pos s n))

pub weight_whole : (loads ns : List ℕ) → 1 * weight_after 0 loads ns ≡ weight loads ns
unfolding weight_after weight
weight_whole loads ns = omega arith

pub after_more : (s load n : ℕ) (loads ns : List ℕ) → weight_after s (load ∷ loads) (n ∷ ns) ≡ load ^ n * binomial (s + n) n * weight_after (s + n) loads ns
unfolding weight_after multinomial powers
after_more s load n loads ns = omega arith

-- the same in the middle of two lists
pub after_at : (loads ns : List ℕ) (k s : ℕ) → k < length loads → length ns ≡ length loads
    → weight_after s (drop k loads) (drop k ns) ≡ get_or loads k 0 ^ get_or ns k 0 * binomial (s + get_or ns k 0) (get_or ns k 0) * weight_after
    (s + get_or ns k 0) (drop (k + 1) loads) (drop (k + 1) ns)
after_at loads ns k s h e =
    let l : k < length ns = omega arith in
    rw (add-one k, drop-cons loads k 0, drop-cons ns k 0) (after_more s (get_or loads k 0) (get_or ns k 0) (drop (suc k) loads) (drop (suc k) ns))

pub after_pos : (s : ℕ) (loads ns : List ℕ) → fits (map visit loads) ns ≡ true → 1 ≤ weight_after s loads ns
unfolding fits visit weight_after multinomial powers
after_pos s [] [] e = le_refl 1
after_pos s [] (n ∷ ns) e = absurd (true≢false (sym e))
after_pos s (load ∷ loads) [] e = absurd (true≢false (sym e))
after_pos s (zero ∷ loads) (zero ∷ ns) e = rw (after_more s 0 0 loads ns)
    (one-le-mul (one-le-mul (le_refl 1) (binomial_pos s 0)) (after_pos (s + 0) loads ns e))
after_pos s (zero ∷ loads) (suc n ∷ ns) e = absurd (true≢false (sym e))
after_pos s (suc load ∷ loads) (n ∷ ns) e = rw (after_more s (suc load) n loads ns)
    (one-le-mul (one-le-mul (one-le-pow n (suc load) (omega arith)) (binomial_pos s n)) (after_pos (s + n) loads ns e))

-- ---- the index fits, and so does what is left of it

pub fits-length : (loads ns : List ℕ) → fits (map visit loads) ns ≡ true → length ns ≡ length loads
unfolding fits visit
fits-length [] [] e = refl
fits-length [] (n ∷ ns) e = absurd (true≢false (sym e))
fits-length (load ∷ loads) [] e = absurd (true≢false (sym e))
fits-length (zero ∷ loads) (zero ∷ ns) e = ap suc (fits-length loads ns e)
fits-length (zero ∷ loads) (suc n ∷ ns) e = absurd (true≢false (sym e))
fits-length (suc load ∷ loads) (n ∷ ns) e = ap suc (fits-length loads ns e)

pub fits-drop : (k : ℕ) (loads ns : List ℕ) → fits (map visit loads) ns ≡ true → fits (map visit (drop k loads)) (drop k ns) ≡ true
unfolding fits visit
fits-drop zero loads ns e = e
fits-drop (suc k) [] [] e = refl
fits-drop (suc k) [] (n ∷ ns) e = absurd (true≢false (sym e))
fits-drop (suc k) (load ∷ loads) [] e = absurd (true≢false (sym e))
fits-drop (suc k) (zero ∷ loads) (zero ∷ ns) e = fits-drop k loads ns e
fits-drop (suc k) (zero ∷ loads) (suc n ∷ ns) e = absurd (true≢false (sym e))
fits-drop (suc k) (suc load ∷ loads) (n ∷ ns) e = fits-drop k loads ns e

-- ---- after k chains: `acc` is their part of the weight, `before` the sum of their messages

unfoldable pub Reached : List ℕ → List ℕ → ℕ → ℕ → ℕ → Type 0
Reached loads ns acc before k = acc * weight_after before (drop k loads) (drop k ns) ≡ weight loads ns

pub reached_none : (loads ns : List ℕ) → Reached loads ns 1 0 0
unfolding Reached
reached_none loads ns = weight_whole loads ns

module _ (loads ns : List ℕ) (f : fits (map visit loads) ns ≡ true) (acc before k : ℕ) (r : Reached loads ns acc before k) where
  pub reached_done : length loads ≤ k → acc < 2 ^ 64 → capped (weight loads ns) ≡ Some acc
  unfolding Reached weight_after multinomial powers
  reached_done h low =
      let l : length ns ≤ k = omega (arith, fits-length loads ns f) in
      let e : weight_after before (drop k loads) (drop k ns) ≡ 1 = rw (drop_of_length-le loads h, drop_of_length-le ns l) in
      sym (ap capped (sym (mul-one acc) ∙ ap (λ x. acc * x) (sym e) ∙ r)) ∙ capped_exact low

  -- with the next chain's part
  module _ (h : k < length loads) {load n : ℕ} (el : get_or loads k 0 ≡ load) (en : get_or ns k 0 ≡ n) where
    abbrev later : ℕ
    later = weight_after (before + n) (drop (k + 1) loads) (drop (k + 1) ns)

    part_on : acc * load ^ n * binomial (before + n) n * later ≡ weight loads ns
    unfolding Reached
    part_on = rw (← el, ← en) (omega (arith, ap (λ x. acc * x) (after_at loads ns k before h (fits-length loads ns f)), r))

    later_pos : 1 ≤ later
    later_pos = after_pos (before + n) (drop (k + 1) loads) (drop (k + 1) ns) (fits-drop (k + 1) loads ns f)

    pub part_exact : {x : ℕ} → capped (acc * load ^ n * binomial (before + n) n) ≡ Some x → Reached loads ns x (before + n) (k + 1) × (x < 2 ^ 64)
    unfolding Reached
    part_exact e = let t = exact_says e in (ap (λ y. y * later) t.is ∙ part_on, omega (arith, t.is, t.low))

    pub part_large : capped (acc * load ^ n * binomial (before + n) n) ≡ None → capped (weight loads ns) ≡ None
    part_large e = capped_large (rw (sym part_on) (still_large _ later (large_says e) later_pos))
