-- The tree part of a file: "handed back as the caller's own bytes, from the first leaf up to but without the end record".
use Rattle.std.specs.Prelude.{ℕ, ◌+◌, ◌-◌, ◌≡◌, ⊤, List, [], length, take, drop, Result, Ok, Err}
use Rattle.std.specs.Borrow.{Bor}
use Rattle.modelfile.specs.File.{read_file}
use Rattle.modelfile.specs.declared.Refusal.{Refusal}

-- the end record is the last byte; "the empty part" where the file is refused
abbrev pub part_if : Result ⊤ Refusal → List ℕ → List ℕ
part_if (Ok u) part = part
part_if (Err r) part = []

unfoldable pub tree_part : List ℕ → List ℕ
tree_part file =
    let r = read_file file in
    part_if r.verdict (take (length file - 1 - r.model.first) (drop r.model.first file))

-- where that part begins in the file; the empty part of a refused file at 0
abbrev pub from_if : Result ⊤ Refusal → ℕ → ℕ
from_if (Ok u) first = first
from_if (Err r) first = 0

unfoldable pub part_from : List ℕ → ℕ
part_from file =
    let r = read_file file in
    from_if r.verdict r.model.first

-- "the caller's own bytes": an address, which is a block of memory and an offset in it, so many bytes on
abbrev pub bytes_on : ℕ × ℕ → ℕ → ℕ × ℕ
bytes_on address n = (address.0, n + address.1)

-- what the call promises of the reference r that it hands back: its bytes, and that they lie in the caller's file, and where
abbrev pub PartAllows : Bor (List ℕ) → Bor (List ℕ) → Type 0
PartAllows file r = (r.now ≡ tree_part file.now) × (r.ref_ptr ≡ bytes_on file.ref_ptr (part_from file.now))
