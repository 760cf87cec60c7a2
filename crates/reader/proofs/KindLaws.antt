-- One record of any kind: what `read_record` says at each `return` of the code, by the tests of kind and completeness that led there.
use Prim.Native.Nat.{ℕ, ◌+◌, ◌<◌, ◌≤◌}
use mathlib.Core.Path.{◌≡◌, ap, sym, ◌∙◌}
use mathlib.Core.Bool.{Bool, true, false}
use mathlib.Core.List.{List}
use native.Mathlib.Omega.{arith}
use lib.Dec.{eqb}
use lib.ListN.{length, get_or}
use borrow.Author.Tests.{le-leb, lt-leb}
use Rattle.sums.specs.Lists.{some}
use Rattle.modelfile.specs.Records.{refuse, body_length, due, read_body, read_record}
use Rattle.modelfile.specs.declared.Fault.{Fault}
use Rattle.modelfile.specs.declared.Model.{Model}
use Rattle.modelfile.specs.declared.Stepped.{Stepped}
use Rattle.reader.specs.Bytes.{Holds}
use Rattle.reader.specs.Kinds.{kind_number}
use Rattle.reader.specs.declared.kinds.Kind.{Kind}
use Rattle.reader.proofs.DueLaws.{none_due}

-- the bytes of a record that is there
pub holds : {rest : List ℕ} {at b : ℕ} {kind : Kind} → Holds 1 rest at → b ≡ body_length (kind_number kind) → b < length rest → (k : Kind) → kind ≡ k → Holds (body_length (kind_number k) + 1) rest at
holds h f l k e = let d = f ∙ ap (λ j. body_length (kind_number j)) e in record { whole = omega arith; fits = h.fits }

module _ (rest : List ℕ) (at : ℕ) (m : Model) where
  -- the byte is no kind's
  pub no_kind : (1 ≤ get_or rest 0 0 → 6 < get_or rest 0 0) → refuse Fault.NotDue at m ≡ read_record rest at m
  unfolding read_record
  no_kind h = rw (none_due m (get_or rest 0 0) h)

  -- the kind is due; its bytes are there; and then that kind's own reading
  module _ (kind : Kind) (e : kind_number kind ≡ get_or rest 0 0) {u : Bool} (d : u ≡ some (eqb (kind_number kind)) (due m)) where
    pub kind_not_due : u ≡ false → refuse Fault.NotDue at m ≡ read_record rest at m
    unfolding read_record
    kind_not_due h = rw (← e, ← d, h)

    module _ (y : u ≡ true) {b : ℕ} (f : b ≡ body_length (kind_number kind)) where
      pub kind_short : length rest ≤ b → refuse Fault.Incomplete (at + length rest) m ≡ read_record rest at m
      unfolding read_record
      kind_short h = rw (← e, ← d, y, ← f, le-leb _ _ h)

      pub kind_body : b < length rest → {r : Stepped} (k : Kind) → kind ≡ k → r ≡ read_body (kind_number k) rest at m → r ≡ read_record rest at m
      unfolding read_record
      kind_body l k i w = rw (← e, ← d, y, ← f, lt-leb _ _ l) (w ∙ ap (λ j. read_body (kind_number j) rest at m) (sym i))
