-- Reading by places, as a loop does: the reading from a place is one record, and then the reading from the place after it (read_one);
-- a record that goes on lies in the file (record_inside), and at the file's end the reading is refused 1 (read_over).
use Prim.Native.Nat.{ℕ, zero, suc, ◌+◌, ◌<◌, ◌≤◌}
use mathlib.Core.Path.{◌≡◌, refl, ap, ◌∙◌}
use mathlib.Core.List.{List, [], ◌∷◌}
use native.Mathlib.Omega.{arith}
use lib.ListN.{length, get_or, drop, length-drop, drop_of_length-le}
use lib.Seq.{drop-cons, drop-drop}
use Rattle.std.specs.Prelude.{Ok}
use Rattle.modelfile.specs.Records.{body_length, read_record}
use Rattle.modelfile.specs.File.{refused, onward, read_from}
use Rattle.modelfile.specs.declared.Fault.{Fault}
use Rattle.modelfile.specs.declared.Model.{Model}
use Rattle.modelfile.specs.declared.Step.{Step}
use Rattle.modelfile.specs.declared.Stepped.{Stepped}
use Rattle.modelfile.proofs.StepLaws.{Outcome, record_outcome}

skip_is : (n : ℕ) (xs : List ℕ) (at : ℕ) (m : Model) → n ≤ length xs → read_from xs n at m ≡ read_from (drop n xs) 0 (at + n) m
unfolding read_from
skip_is zero xs at m h = ap (λ p. read_from xs 0 p m) (omega arith)
skip_is (suc n) [] at m h = absurd (omega arith)
skip_is (suc n) (x ∷ xs) at m h = skip_is n xs (suc at) m (omega arith) ∙ ap (λ p. read_from (drop n xs) 0 p m) (omega arith)

-- the place after the record at a place
abbrev pub next : List ℕ → ℕ → ℕ
next file at = at + (1 + body_length (get_or file at 0))

module _ (file : List ℕ) (at : ℕ) (m : Model) (h : at < length file) where
  pub record_inside : (read_record (drop at file) at m).step ≡ Ok Step.More → next file at ≤ length file
  record_inside = by (read_record (drop at file) at m) (record_outcome (drop at file) at m)
    where
      by : (r : Stepped) → Outcome (drop at file) at m r → r.step ≡ Ok Step.More → next file at ≤ length file
      by r (Outcome.goes l t) e = omega (arith, rw (ap (λ xs. get_or xs 0 0) (drop-cons file at 0 h)) at l, length-drop at file)
      by r (Outcome.ends d l) e = let z : ◌≡◌ {A = ℕ} 0 1 = cc in absurd (omega arith)
      by r (Outcome.stops p) e = let z : ◌≡◌ {A = ℕ} 0 1 = cc in absurd (omega arith)

  pub read_one :
      read_from (drop at file) 0 at m
      ≡ onward (read_record (drop at file) at m).step (read_record (drop at file) at m).model (read_from (drop (next file at) file) 0 (next file at) (read_record (drop at file) at m).model)
  unfolding read_from
  read_one = rw (drop-cons file at 0 h) (by (read_record (x ∷ xs) at m) (record_outcome (x ∷ xs) at m))
    where
      x : ℕ
      x = get_or file at 0

      xs : List ℕ
      xs = drop (suc at) file

      by : (r : Stepped) → Outcome (x ∷ xs) at m r → onward r.step r.model (read_from xs (body_length x) (suc at) r.model) ≡ onward r.step r.model (read_from (drop (next file at) file) 0 (next file at) r.model)
      by r (Outcome.goes {n} l t) =
          let p : suc at + body_length x ≡ next file at = omega arith in
          skip_is (body_length x) xs (suc at) n (omega arith) ∙ rw (drop-drop (body_length x) (suc at) file, p)
      by r (Outcome.ends d l) = refl
      by r (Outcome.stops p) = refl

pub read_over : (file : List ℕ) (at : ℕ) (m : Model) → length file ≤ at → read_from (drop at file) 0 at m ≡ refused Fault.Incomplete at m
unfolding read_from
read_over file at m h = rw (drop_of_length-le file {i = at} h)
