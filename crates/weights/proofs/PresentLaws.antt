-- The chains present at a leaf have all its cells: one that stands at 0 has one index value, and its factor is 1. The loop that keeps
-- them, chain after chain: the check finds its turns alone.
use Prim.Native.Nat.{ℕ, suc, ◌+◌, ◌-◌, ◌*◌, ◌≤◌}
use mathlib.Core.Path.{◌≡◌, refl, sym, ◌∙◌}
use mathlib.Core.Bool.{Bool, true, false, cond}
use mathlib.Core.List.{List, [], ◌∷◌, flat_map, append-nil}
use native.Mathlib.Nat.{mul-one, pow-zero}
use native.Mathlib.Omega.{arith}
use lib.Dec.{ltb}
use lib.ListN.{length, take}
use borrow.Author.Tests.{ltb-false}
use Rattle.std.specs.List.{All}
use Rattle.std.proofs.lemmas.List.Elements.{All-head, All-tail}
use Rattle.sums.specs.Lists.{from}
use Rattle.sums.proofs.ListLaws.{flat_cong}
use Rattle.network.specs.Weight.{binomial}
use Rattle.weights.specs.declared.Reach.{Reach}
use Rattle.weights.specs.Leaf.{Sound}
use Rattle.weights.specs.Parts.{cells_from}
use Rattle.weights.specs.Present.{present}
use Rattle.weights.proofs.FillLaws.{part, chain_cells}

-- a chain that stands at 0
cells_without : (acc before : ℕ) (r : Reach) (later : List Reach) → r.low ≡ 0 → r.high ≡ 0 → cells_from acc before (r ∷ later) ≡ cells_from acc before later
unfolding from flat_map binomial
cells_without acc before r later a b =
    let p : part acc before r.load 0 ≡ acc = rw (pow-zero r.load) (mul-one (acc * 1) ∙ mul-one acc) in
    let s : before + 0 ≡ before = omega arith in
    chain_cells acc before r later
    ∙ (λ t. flat_map (λ n. cells_from (part acc before r.load n) (before + n) later) (from (a t) (suc (b t) - a t)))
    ∙ append-nil _ ∙ λ t. cells_from (p t) (s t) later

pub present_cells : (acc before : ℕ) (chains : List Reach) → All Sound chains → cells_from acc before (present chains) ≡ cells_from acc before chains
present_cells acc before [] h = refl
present_cells acc before (r ∷ later) h = by (ltb 0 r.high) refl (λ a b. present_cells a b later (All-tail Sound r later h))
  where
    by : (b : Bool) → ltb 0 r.high ≡ b → ((a b : ℕ) → cells_from a b (present later) ≡ cells_from a b later)
        → cells_from acc before (cond b (r ∷ present later) (present later)) ≡ cells_from acc before (r ∷ later)
    by true e rest =
        chain_cells acc before r (present later)
        ∙ flat_cong (from r.low (suc r.high - r.low)) _ _ (λ n m. rest (part acc before r.load n) (before + n))
        ∙ sym (chain_cells acc before r later)
    by false e rest =
        let z : r.high ≤ 0 = ltb-false 0 r.high e in
        let o : r.low ≤ r.high = (All-head Sound r later h).ordered in
        rest acc before ∙ sym (cells_without acc before r later (omega arith) (omega arith))

-- ---- the loop that keeps them

-- i chains are looked at, `count` of them kept
pub record Keeping (chains : List Reach) (i count : ℕ) (kept : List Reach) : Type 0 where
  pub few : count ≤ i
  pub room : length kept ≡ 8
  pub list : take count kept ≡ present (take i chains)
