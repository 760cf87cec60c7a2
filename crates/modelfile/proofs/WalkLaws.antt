-- From one record to the whole file: what every step keeps holds where an accepted file ends (reached), and a refusal's number and
-- place lie in their ranges (refused_range). By induction over the bytes, and at each record by cases on its outcome.
use Prim.Native.Nat.{ℕ, zero, suc, ◌+◌, ◌≤◌}
use mathlib.Core.Path.{◌≡◌, sym, subst}
use mathlib.Core.List.{List, [], ◌∷◌}
use native.Mathlib.Omega.{arith}
use lib.ListN.{length}
use Rattle.std.specs.Prelude.{⊤, Result, Ok, Err}
use Rattle.modelfile.specs.Model.{empty_model}
use Rattle.modelfile.specs.Refusals.{fault_number}
use Rattle.modelfile.specs.Records.{body_length, read_record}
use Rattle.modelfile.specs.File.{onward, read_from, read_file}
use Rattle.modelfile.specs.declared.Fault.{Fault}
use Rattle.modelfile.specs.declared.Model.{Model}
use Rattle.modelfile.specs.declared.Refusal.{Refusal}
use Rattle.modelfile.specs.declared.Stepped.{Stepped}
use Rattle.modelfile.proofs.StepLaws.{Within, Taken, Ended, Outcome, record_outcome}

-- the end record of a file of `total` bytes, and what the steps before it have kept
pub record Reached (I : ℕ → Model → Type 0) (total : ℕ) (m : Model) : Type 0 where
  pub place : ℕ
  pub last : place + 1 ≡ total
  pub kept : I place m
  pub ended : Ended m

never : {r : Refusal} → ◌≡◌ {A = Result ⊤ Refusal} (Err r) (Ok tt) → ⊥
never e = let z : ◌≡◌ {A = ℕ} 0 1 = cc in omega arith

-- every step keeps it
abbrev pub Keeps : (ℕ → Model → Type 0) → Type 0
Keeps I = (at : ℕ) (m : Model) (to : ℕ) (n : Model) → I at m → Taken at m to n → I to n

module _ (I : ℕ → Model → Type 0) (keep : Keeps I) (total : ℕ) where
  from_reached : (xs : List ℕ) (skip at : ℕ) (m : Model) → at + length xs ≡ total → I (at + skip) m → (read_from xs skip at m).verdict ≡ Ok tt → Reached I total (read_from xs skip at m).model
  unfolding read_from
  from_reached [] skip at m l i e = absurd (never e)
  from_reached (x ∷ xs) (suc skip) at m l i e = let p : at + suc skip ≡ suc at + skip = omega arith in from_reached xs skip (suc at) m (omega arith) (subst (λ n. I n m) p i) e
  from_reached (x ∷ xs) zero at m l i e = by (read_record (x ∷ xs) at m) (record_outcome (x ∷ xs) at m) (λ n. from_reached xs (body_length x) (suc at) n (omega arith)) e
    where
      here : I at m
      here = let p : at + 0 ≡ at = omega arith in subst (λ n. I n m) p i

      by : (r : Stepped) → Outcome (x ∷ xs) at m r → ((n : Model) → I (suc at + body_length x) n → (read_from xs (body_length x) (suc at) n).verdict ≡ Ok tt → Reached I total (read_from xs (body_length x) (suc at) n).model)
          → (onward r.step r.model (read_from xs (body_length x) (suc at) r.model)).verdict ≡ Ok tt → Reached I total (onward r.step r.model (read_from xs (body_length x) (suc at) r.model)).model
      by r (Outcome.goes {n} b t) k e = k n (keep at m _ n here t) e
      by r (Outcome.ends d b) k e = record { place = at; last = omega arith; kept = here; ended = d }
      by r (Outcome.stops p) k e = absurd (never e)

pub reached : (I : ℕ → Model → Type 0) → Keeps I → I 0 empty_model → (file : List ℕ) → (read_file file).verdict ≡ Ok tt → Reached I (length file) (read_file file).model
unfolding read_file
reached I keep start file e = from_reached I keep (length file) file 0 0 empty_model (omega arith) start e

-- ---- refusals

-- every fault has a number from 1 to 9
pub fault_range : (f : Fault) → Within 1 9 (fault_number f)
unfolding fault_number
fault_range Fault.Incomplete = record { low = omega arith; high = omega arith }
fault_range Fault.NotDue = record { low = omega arith; high = omega arith }
fault_range Fault.OutOfRange = record { low = omega arith; high = omega arith }
fault_range Fault.OutOfOrder = record { low = omega arith; high = omega arith }
fault_range Fault.ChainWithoutCentre = record { low = omega arith; high = omega arith }
fault_range Fault.CentreAgain = record { low = omega arith; high = omega arith }
fault_range Fault.TooFewSubtrees = record { low = omega arith; high = omega arith }
fault_range Fault.NotOneTree = record { low = omega arith; high = omega arith }
fault_range Fault.PastTheEnd = record { low = omega arith; high = omega arith }

module _ (total : ℕ) (r : Refusal) where
  same_place : {f : Fault} {p : ℕ} → p ≤ total → ◌≡◌ {A = Result ⊤ Refusal} (Err (record { fault = f; place = p })) (Err r) → r.place ≤ total
  same_place {f} {p} l e = let a : p ≡ r.place = cc in omega arith

  from_refused : (xs : List ℕ) (skip at : ℕ) (m : Model) → at + length xs ≡ total → (read_from xs skip at m).verdict ≡ Err r → r.place ≤ total
  unfolding read_from
  from_refused [] skip at m l e = same_place (omega arith) e
  from_refused (x ∷ xs) (suc skip) at m l e = from_refused xs skip (suc at) m (omega arith) e
  from_refused (x ∷ xs) zero at m l e = by (read_record (x ∷ xs) at m) (record_outcome (x ∷ xs) at m) (λ n. from_refused xs (body_length x) (suc at) n (omega arith)) e
    where
      by : (s : Stepped) → Outcome (x ∷ xs) at m s → ((n : Model) → (read_from xs (body_length x) (suc at) n).verdict ≡ Err r → r.place ≤ total)
          → (onward s.step s.model (read_from xs (body_length x) (suc at) s.model)).verdict ≡ Err r → r.place ≤ total
      by s (Outcome.goes {n} b t) k e = k n e
      by s (Outcome.ends d b) k e = absurd (never (sym e))
      by s (Outcome.stops p) k e = same_place (omega arith) e

pub refused_range : (file : List ℕ) (r : Refusal) → (read_file file).verdict ≡ Err r → (1 ≤ fault_number r.fault) × (fault_number r.fault ≤ 9) × (r.place ≤ length file)
unfolding read_file
refused_range file r e =
    let w = fault_range r.fault in
    (w.low, w.high, from_refused (length file) r file 0 0 empty_model (omega arith) e)
