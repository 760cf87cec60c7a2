-- A number where it is below 2^64, the end of a 64-bit cell.
use Rattle.std.specs.Prelude.{ℕ, ◌^◌, Bool, true, false, ltb, Option, Some, None}

unfoldable pub exact_if : Bool → ℕ → Option ℕ
exact_if true n = Some n
exact_if false n = None

unfoldable pub capped : ℕ → Option ℕ
capped n = exact_if (ltb n (2 ^ 64)) n
