-- `reader::records::body_length`. A kind's body is that of its byte; a byte that is no kind's has none.
use Prim.Native.Nat.{ℕ, zero, suc, ◌<◌, ◌≤◌}
use mathlib.Core.Path.{◌≡◌, refl, ap, sym, ◌∙◌}
use mathlib.Core.List.{[], ◌∷◌}
use native.Mathlib.Omega.{arith}
use lib.ListN.{get_or-eq_default}
use Rattle.modelfile.specs.Records.{body_length}
use Rattle.reader.specs.Kinds.{kind_number}
use Rattle.reader.specs.declared.kinds.Kind.{Kind}
use Rattle.reader.proofs.records.body_length.Goals as goal

none : (byte : ℕ) → (1 ≤ byte → 6 < byte) → 0 ≡ body_length byte
unfolding body_length
none zero h = refl
none (suc k) h = sym (get_or-eq_default (0 ∷ 2 ∷ 2 ∷ 4 ∷ 1 ∷ 0 ∷ 0 ∷ []) 0 (h (omega arith)))

few : (kind : Kind) → body_length (kind_number kind) ≤ 4
unfolding body_length
few Kind.Size = omega arith
few Kind.Window = omega arith
few Kind.Load = omega arith
few Kind.Leaf = omega arith
few Kind.Join = omega arith
few Kind.End = omega arith

pub returns-in-Ok : goal.returns-in-Ok
returns-in-Ok c = (c.body_length.ensures ∙ ap body_length c.in-Ok.ensures, omega (arith, c.body_length.ensures, few c.in-Ok.kind))

pub returns-in-Err : goal.returns-in-Err
returns-in-Err c = (none _ c.in-Err.ensures, omega arith)
