-- Document 01, "The model file": the byte of each kind of record, 1 to 6.
use Rattle.std.specs.Prelude.{ℕ, ◌≡◌, ◌≤◌, ◌<◌, Result, MatchResult}
use Rattle.reader.specs.declared.kinds.Kind.{Kind}
use Rattle.reader.specs.declared.kinds.NoKind.{NoKind}

abbrev pub kind_number : Kind → ℕ
kind_number Kind.Size = 1
kind_number Kind.Window = 2
kind_number Kind.Load = 3
kind_number Kind.Leaf = 4
kind_number Kind.Join = 5
kind_number Kind.End = 6

-- the kind that a byte is, or that it is none
abbrev pub KindAt : ℕ → Result Kind NoKind → Type 0
KindAt byte r = MatchResult r (λ kind. kind_number kind ≡ byte) (λ e. 1 ≤ byte → 6 < byte)
