-- The loop over chains: the numerators of the first k chains stand in their places, each below 2^64. Past the number of chains a
-- numerator is 0, so at the end the row is that of all eight.
use Prim.Native.Nat.{ℕ, zero, suc, ◌+◌, ◌-◌, ◌≤◌, ◌<◌, ◌^◌}
use mathlib.Core.Path.{◌≡◌, refl, sym, ap, subst, ◌∙◌}
use mathlib.Core.Bool.{Bool, true, false}
use mathlib.Core.List.Memᴰ
use mathlib.Core.List.{List, ◌∷◌, ◌++◌, map, Memᴰ}
use native.Mathlib.Omega.{arith}
use native.Mathlib.Numerals.{add-one}
use lib.Dec.{ltb}
use lib.ListN.{set, replicate}
use borrow.Author.Count.{below_more}
use borrow.Author.Tests.{le-leb, lt-leb, ltb-true, ltb-false}
use Rattle.sums.specs.Lists.{from}
use Rattle.sums.proofs.BoolLaws.{some_of, not_some}
use Rattle.sums.proofs.ListLaws.{map-append, from_in, from_out}
use Rattle.modelfile.specs.Network.{windows_of}
use Rattle.modelfile.specs.declared.Model.{Model}
use Rattle.modelfile.proofs.Guaranteed.{Guaranteed}
use Rattle.arith.specs.Capped.{capped}
use Rattle.std.specs.Prelude.{Option, Some, None}
use Rattle.arith.proofs.CappedLaws.{exact_says, large_says}
use Rattle.calls.specs.Asked.{cells_in}
use Rattle.calls.specs.Start.{too_large}
use Rattle.calls.specs.Sheet.{numerator, numerators}
use Rattle.plan.specs.Table.{padded, row}
use Rattle.plan.proofs.RowLaws.{Rowed, rowed_first, rowed_turn, rowed_last}
use Rattle.rates.specs.Steps.{Kept, numerators_of}
use Rattle.rates.proofs.LoweredLaws.{numerator_past, kept_same, kept_then}

-- ---- a row that is 0 past its end

from_both : (a n k : ℕ) → from a (n + k) ≡ from a n ++ from (a + n) k
unfolding from
from_both a zero k = let e : a ≡ a + 0 = omega arith in let d : zero + k ≡ k = omega arith in rw d (ap (λ x. from x k) e)
from_both a (suc n) k =
    let e : suc a + n ≡ a + suc n = omega arith in
    let d : suc n + k ≡ suc (n + k) = omega arith in
    rw d (ap (λ l. a ∷ l) (from_both (suc a) n k ∙ ap (λ x. from (suc a) n ++ from x k) e))

zeros_past : (f : ℕ → ℕ) (a k : ℕ) → ((i : ℕ) → a ≤ i → f i ≡ 0) → map f (from a k) ≡ replicate k 0
unfolding from
zeros_past f a zero h = refl
zeros_past f a (suc k) h = λ i. h a (omega arith) i ∷ zeros_past f (suc a) k (λ j l. h j (omega arith)) i

row_whole : (f : ℕ → ℕ) (n : ℕ) → n ≤ 8 → ((i : ℕ) → n ≤ i → f i ≡ 0) → row n f ≡ map f (from 0 8)
unfolding padded
row_whole f n h z =
    let e : n + (8 - n) ≡ 8 = omega arith in
    let d : 0 + n ≡ n = omega arith in
    ap (λ l. map f (from 0 n) ++ l) (sym (zeros_past f n (8 - n) z))
    ∙ ap (λ x. map f (from 0 n) ++ map f (from x (8 - n))) (sym d)
    ∙ sym (map-append f (from 0 n) (from (0 + n) (8 - n)))
    ∙ ap (map f) (sym (from_both 0 n (8 - n)))
    ∙ ap (λ x. map f (from 0 x)) e

-- ---- the loop

abbrev at : Model → ℕ → ℕ
at m k = numerator m (k + 1)

-- k chains are done
pub record Lowerings (m : Model) (old new numbers : List ℕ) (k : ℕ) : Type 0 where
  pub filled : Rowed (at m) m.chains numbers k
  pub small : (i : ℕ) → i < k → numerator m (i + 1) < 2 ^ 64
  pub kept : Kept (cells_in m (windows_of m)) old new

module _ (m : Model) (g : Guaranteed m) where
  at_past : (i : ℕ) → m.chains ≤ i → numerator m (i + 1) ≡ 0
  at_past i h = ap (numerator m) (add-one i) ∙ numerator_past m g i h

  pub lowerings_first : (area : List ℕ) → Lowerings m area area (replicate 8 0) 0
  lowerings_first area = record { filled = rowed_first (at m) m.chains; small = λ i h. absurd (omega arith); kept = kept_same (cells_in m (windows_of m)) area }

  pub lowerings_turn : {old mid new numbers : List ℕ} {k n : ℕ} {r : Option ℕ} → Lowerings m old mid numbers k → k < m.chains → r ≡ capped (numerator m (k + 1)) → r ≡ Some n → Kept (cells_in m (windows_of m)) mid new → Lowerings m old new (set numbers k n) (k + 1)
  lowerings_turn {k = k} {n = n} w h e d q =
      let s = exact_says {n = numerator m (k + 1)} {v = n} (sym e ∙ d) in
      record {
        filled = rowed_turn (at m) m.chains w.filled h g.chains_range.1 s.is;
        small = below_more (λ i. numerator m (i + 1) < 2 ^ 64) k w.small s.low;
        kept = kept_then w.kept q;
      }

  pub lowerings_stop : {k : ℕ} {r : Option ℕ} → k < m.chains → r ≡ capped (numerator m (k + 1)) → r ≡ None → None ≡ numerators_of m
  unfolding numerators numerators_of
  lowerings_stop {k} h e d =
      let o : 1 + k ≡ k + 1 = omega arith in
      let l : 2 ^ 64 ≤ numerator m (k + 1) = large_says (sym e ∙ d) in
      let i = subst (λ x. Memᴰ x (from 1 8)) o (from_in 1 8 k (omega (arith, g.chains_range))) in
      rw (some_of too_large (Memᴰ.map (numerator m) i) (le-leb (2 ^ 64) (numerator m (k + 1)) l)) refl

  pub lowerings_last : {old new numbers : List ℕ} {k : ℕ} → Lowerings m old new numbers k → m.chains ≤ k → Some numbers ≡ numerators_of m
  unfolding numerators numerators_of from
  lowerings_last {numbers = numbers} {k = k} w h =
      rw (not_some too_large (map (numerator m) (from 1 8)) (λ a i. each a (Memᴰ.of_map (numerator m) (from 1 8) i)))
      (ap Some (rowed_last (at m) m.chains w.filled h ∙ row_whole (at m) m.chains g.chains_range.1 at_past))
    where
      low : (i : ℕ) → numerator m (i + 1) < 2 ^ 64
      low i = by (ltb i m.chains) refl
        where
          by : (b : Bool) → ltb i m.chains ≡ b → numerator m (i + 1) < 2 ^ 64
          by true e = w.small i (omega (arith, ltb-true i m.chains e))
          by false e = omega (arith, at_past i (ltb-false i m.chains e))

      each : (a : ℕ) → (x : ℕ) × Memᴰ x (from 1 8) × (numerator m x ≡ a) → too_large a ≡ false
      each a (x, i, e) =
          let d : (x - 1) + 1 ≡ x = omega (arith, (from_out 1 8 x i).0) in
          lt-leb (2 ^ 64) a (subst (λ n. n < 2 ^ 64) (ap (numerator m) d ∙ e) (low (x - 1)))
