-- What a `?` hands on: the error that was met, as it was; and what an `ok_or` before it shows of the option.
use mathlib.Core.Path.{◌≡◌, refl, sym, ap, ◌∙◌}
use Rattle.std.specs.Prelude.{Option, Some, None, Result, Ok, Err}
use Rattle.std.specs.Option.{ok_or}
use Rattle.std.specs.Result.{IsErrAnd}

module _ {T E : Type 0} where
  pub handed_on : (x : Result T E) {e : E} → IsErrAnd x (λ r. r ≡ e) → x ≡ Err e
  handed_on (Ok v) f = absurd f
  handed_on (Err r) f = ap Err f

  pub met_none : (o : Option T) {e f : E} {r : Result T E} → r ≡ ok_or o e → r ≡ Err f → (o ≡ None) × (e ≡ f)
  met_none None d h = (refl, let k : ◌≡◌ {A = Result T E} (Err _) (Err _) = sym d ∙ h in cc)
  met_none (Some v) d h = let k : ◌≡◌ {A = Result T E} (Ok v) (Err _) = sym d ∙ h in absurd (ok_err k)
    where
      ok_err : {v : T} {f : E} → ◌≡◌ {A = Result T E} (Ok v) (Err f) → ⊥
      ok_err k = cc

  pub met_some : (o : Option T) (e : E) {v : T} {r : Result T E} → r ≡ ok_or o e → r ≡ Ok v → o ≡ Some v
  met_some None e d h = let k : ◌≡◌ {A = Result T E} (Err _) (Ok _) = sym d ∙ h in absurd (err_ok k)
    where
      err_ok : {v : T} {f : E} → ◌≡◌ {A = Result T E} (Err f) (Ok v) → ⊥
      err_ok k = cc
  met_some (Some w) e d h = let k : ◌≡◌ {A = Result T E} (Ok w) (Ok _) = sym d ∙ h in cc
