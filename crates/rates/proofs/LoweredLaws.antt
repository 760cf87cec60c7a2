-- A chain's numerator, whether its run is granted or not: where it is not, the chain has no message to give; where it is, the run's
-- value is the numerator, its cells are no more than the full model's, and so what lies past those is kept.
use Prim.Native.Nat.{ℕ, zero, suc, ◌+◌, ◌-◌, ◌≤◌}
use mathlib.Core.Path.{◌≡◌, refl, sym, ap, subst, ◌∙◌}
use mathlib.Core.Bool.{Bool, true, false}
use mathlib.Core.List.{List, [], ◌∷◌}
use native.Mathlib.Omega.{arith}
use lib.Dec.{ltb, eqb}
use lib.ListN.{length, get_or, take, drop, length-set, get_or-eq_default}
use lib.Seq.{drop-drop}
use borrow.Author.Tests.{ltb-true, eqb-true}
use Rattle.network.specs.Centre.{routes_of}
use Rattle.network.specs.States.{value, lowered}
use Rattle.network.proofs.AreaLaws.{cells_rise}
use Rattle.modelfile.specs.Network.{windows_of, centres_of, tree_of}
use Rattle.modelfile.specs.declared.Model.{Model}
use Rattle.modelfile.proofs.Guaranteed.{Guaranteed}
use Rattle.arith.specs.Capped.{capped}
use Rattle.std.specs.Prelude.{Some, Ok, Err}
use Rattle.arith.proofs.CappedLaws.{capped_exact}
use Rattle.calls.specs.Asked.{refused, granted, pick_asked, less_one, lowering, cells_in}
use Rattle.calls.specs.Sheet.{numerator}
use Rattle.calls.proofs.FileLaws.{length_windows}
use Rattle.calls.proofs.GrantedLaws.{lowering-value}
use Rattle.calls.specs.declared.Refusal.{Refusal}
use Rattle.plan.specs.Lowered.{lowered_of}
use Rattle.rates.specs.Steps.{Kept}

-- ---- what is kept

pub kept_same : (cells : ℕ) (area : List ℕ) → Kept cells area area
kept_same cells area = record { long = refl; past = refl }

pub kept_then : {cells : ℕ} {a b d : List ℕ} → Kept cells a b → Kept cells b d → Kept cells a d
kept_then v w = record { long = w.long ∙ v.long; past = w.past ∙ v.past }

-- what keeps more keeps less
pub kept_more : (few many : ℕ) (old new : List ℕ) → few ≤ many → (length new ≡ length old) × (drop few new ≡ drop few old) → Kept many old new
kept_more few many old new h w =
    let e : few + (many - few) ≡ many = omega arith in
    record {
      long = w.0;
      past = ap (λ n. drop n new) (sym e) ∙ sym (drop-drop (many - few) few new) ∙ ap (drop (many - few)) w.1 ∙ drop-drop (many - few) few old ∙ ap (λ n. drop n old) e;
    }

-- ---- a chain with no message to give

lowered_none : (h : List ℕ → ℕ) (ns : List ℕ) (k : ℕ) → get_or ns k 0 ≡ 0 → lowered (suc k) h ns ≡ 0
unfolding lowered
lowered_none h [] zero e = refl
lowered_none h [] (suc k) e = refl
lowered_none h (zero ∷ ns) zero e = refl
lowered_none h (suc n ∷ ns) zero e = absurd (omega arith)
lowered_none h (n ∷ ns) (suc k) e = lowered_none (λ rest. h (n ∷ rest)) ns k e

pub numerator_past : (m : Model) → Guaranteed m → (k : ℕ) → m.chains ≤ k → numerator m (suc k) ≡ 0
unfolding numerator
numerator_past m g k h = lowered_none (value (centres_of m)) (windows_of m) k (get_or-eq_default (windows_of m) 0 (omega (arith, length_windows m g)))

numerator-refused : (m : Model) → Guaranteed m → (k : ℕ) {r : Refusal} → refused r ≡ lowering m (suc k) → numerator m (suc k) ≡ 0
unfolding lowering numerator
numerator-refused m g k {r} e = by (ltb m.chains (suc k)) (eqb (get_or (windows_of m) k 0) 0) refl refl e
  where
    by : (a z : Bool) → ltb m.chains (suc k) ≡ a → eqb (get_or (windows_of m) k 0) 0 ≡ z → refused r ≡ pick_asked a (refused Refusal.NoSuchChain) (pick_asked z (refused Refusal.WindowZero) (granted m (less_one (windows_of m) k))) → lowered (suc k) (value (centres_of m)) (windows_of m) ≡ 0
    by true z p q d = lowered_none (value (centres_of m)) (windows_of m) k (get_or-eq_default (windows_of m) 0 (omega (arith, length_windows m g, ltb-true m.chains (suc k) p)))
    by false true p q d = lowered_none (value (centres_of m)) (windows_of m) k (eqb-true (get_or (windows_of m) k 0) 0 q)
    by false false p q d = let x : ◌≡◌ {A = ℕ} 0 1 = cc in absurd (omega arith)

-- ---- a run with no more messages

less_low : (xs : List ℕ) (i k : ℕ) → get_or (less_one xs i) k 0 ≤ get_or xs k 0
less_low [] i k = omega arith
less_low (x ∷ xs) zero zero = omega arith
less_low (x ∷ xs) zero (suc k) = omega arith
less_low (x ∷ xs) (suc i) zero = omega arith
less_low (x ∷ xs) (suc i) (suc k) = less_low xs i k

abbrev Fewer : List ℕ → List ℕ → Type 0
Fewer ns ms = (length ns ≡ length ms) × ((k : ℕ) → get_or ns k 0 ≤ get_or ms k 0)

granted_fewer : (m : Model) (lower : ℕ) (windows : List ℕ) → granted m windows ≡ lowering m lower → Fewer windows (windows_of m)
unfolding lowering
granted_fewer m zero windows e = let d : windows_of m ≡ windows = cc in subst (λ w. Fewer w (windows_of m)) d (refl, λ k. omega arith)
granted_fewer m (suc i) windows e = by (ltb m.chains (suc i)) (eqb (get_or (windows_of m) i 0) 0) e
  where
    by : (a b : Bool) → granted m windows ≡ pick_asked a (refused Refusal.NoSuchChain) (pick_asked b (refused Refusal.WindowZero) (granted m (less_one (windows_of m) i))) → Fewer windows (windows_of m)
    by true b f = let z : ◌≡◌ {A = ℕ} 0 1 = cc in absurd (omega arith)
    by false true f = let z : ◌≡◌ {A = ℕ} 0 1 = cc in absurd (omega arith)
    by false false f =
        let d : less_one (windows_of m) i ≡ windows = cc in
        subst (λ w. Fewer w (windows_of m)) d (length-set (windows_of m) i (get_or (windows_of m) i 0 - 1), less_low (windows_of m) i)

-- ---- the two cases of the code

module _ (m : Model) (g : Guaranteed m) (chain : ℕ) where
  pub not_run : (r : Refusal) → lowered_of m (Err r) ≡ lowering m chain → 1 ≤ chain → Some 0 ≡ capped (numerator m chain)
  unfolding lowered_of
  not_run r w h =
      let f : suc (chain - 1) ≡ chain = omega arith in
      let d : refused r ≡ lowering m (suc (chain - 1)) = w ∙ ap (lowering m) (sym f) in
      let z : numerator m chain ≡ 0 = ap (numerator m) (sym f) ∙ numerator-refused m g (chain - 1) d in
      sym (capped_exact {n = 0} (omega arith)) ∙ ap capped (sym z)

  module _ (windows : List ℕ) (w : lowered_of m (Ok windows) ≡ lowering m chain) where
    runs : granted m (take m.chains windows) ≡ lowering m chain
    unfolding lowered_of
    runs = w

    pub run_cells : cells_in m (take m.chains windows) ≤ cells_in m (windows_of m)
    run_cells = let f = granted_fewer m chain (take m.chains windows) runs in cells_rise (routes_of (centres_of m)) (take m.chains windows) (windows_of m) f.0 f.1 (tree_of m)

    pub run_value : value (centres_of m) (take m.chains windows) ≡ numerator m chain
    unfolding numerator
    run_value = lowering-value m chain m (take m.chains windows) (length_windows m g) (sym runs)
