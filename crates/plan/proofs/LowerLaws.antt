-- Lowering a chain, test by test.
use Prim.Native.Nat.{ℕ, suc, ◌-◌, ◌≤◌, ◌<◌}
use mathlib.Core.Path.{◌≡◌, refl, sym, ap, ◌∙◌}
use mathlib.Core.Bool.{false}
use native.Mathlib.Omega.{arith}
use lib.Dec.{eqb}
use lib.ListN.{get_or, take, set}
use lib.Seq.{get_or-take, take-set-lt}
use borrow.Author.Tests.{lt-ltb, le-ltb, eq-eqb, ne_eqb}
use Rattle.std.specs.Prelude.{Ok, Err}
use Rattle.modelfile.specs.Network.{windows_of}
use Rattle.modelfile.specs.declared.Model.{Model}
use Rattle.calls.specs.Asked.{refused, granted, lowering}
use Rattle.calls.specs.declared.Refusal.{Refusal}
use Rattle.plan.specs.Lowered.{lowered_of}

module _ (m : Model) (lower : ℕ) where
  pub lower_none : lower ≡ 0 → lowered_of m (Ok m.windows) ≡ lowering m lower
  unfolding lowered_of lowering windows_of
  lower_none e = rw e refl

-- a chain to lower, counted from 0
module _ (m : Model) (k : ℕ) where
  above : m.chains < suc k → refused Refusal.NoSuchChain ≡ lowering m (suc k)
  unfolding lowering
  above h = rw (lt-ltb m.chains (suc k) h)

  module _ (h : suc k ≤ m.chains) where
    same : get_or (windows_of m) k 0 ≡ get_or m.windows k 0
    unfolding windows_of
    same = get_or-take m.chains m.windows k 0 h

    empty : get_or m.windows k 0 ≡ 0 → refused Refusal.WindowZero ≡ lowering m (suc k)
    unfolding lowering
    empty e = rw (le-ltb m.chains (suc k) h, eq-eqb (get_or (windows_of m) k 0) 0 (same ∙ e))

    less : (get_or m.windows k 0 ≡ 0 → ⊥) → granted m (take m.chains (set m.windows k (get_or m.windows k 0 - 1))) ≡ lowering m (suc k)
    unfolding lowering windows_of
    less f =
        let e : eqb (get_or (take m.chains m.windows) k 0) 0 ≡ false = ne_eqb (get_or (take m.chains m.windows) k 0) 0 (λ z. f (sym same ∙ z)) in
        rw (le-ltb m.chains (suc k) h, e) (ap (granted m) (take-set-lt m.chains m.windows k (get_or m.windows k 0 - 1) h ∙ ap (λ v. set (take m.chains m.windows) k (v - 1)) (sym same)))

-- the same with the chain's number
module _ (m : Model) (lower k : ℕ) (e : lower ≡ suc k) where
  pub lower_above : m.chains < lower → lowered_of m (Err Refusal.NoSuchChain) ≡ lowering m lower
  unfolding lowered_of
  lower_above h = rw e (above m k (omega arith))

  pub lower_empty : lower ≤ m.chains → get_or m.windows k 0 ≡ 0 → lowered_of m (Err Refusal.WindowZero) ≡ lowering m lower
  unfolding lowered_of
  lower_empty h z = rw e (empty m k (omega arith) z)

  pub lower_less : lower ≤ m.chains → (get_or m.windows k 0 ≡ 0 → ⊥) → lowered_of m (Ok (set m.windows k (get_or m.windows k 0 - 1))) ≡ lowering m lower
  unfolding lowered_of
  lower_less h f = rw e (less m k (omega arith) f)
