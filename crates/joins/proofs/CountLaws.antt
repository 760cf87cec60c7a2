-- The rows, of which one is given another count: what is set last counts, and the count that was there restores them.
use Prim.Native.Nat.{ℕ, zero, suc, ◌<◌}
use mathlib.Core.Path.{◌≡◌, refl, ap}
use mathlib.Core.List.{List, [], ◌∷◌, ◌++◌}
use native.Mathlib.Omega.{arith}
use lib.ListN.{length, get_or, set}
use Rattle.std.specs.Prelude.{Some, None}
use Rattle.std.specs.declared.option.Option.{Option}
use Rattle.cellsums.specs.declared.Row.{Row}
use Rattle.joins.specs.Loops.{counted, with_count, HasRow}

abbrev pub row_of : ℕ → ℕ → ℕ → Row
row_of count left right = record { count = count; left = left; right = right }

-- the array as the code writes it, and as it reads it
pub counted_is : (rows : List Row) (p n : ℕ) (d : Row) → p < length rows → set rows p (row_of n (get_or rows p d).left (get_or rows p d).right) ≡ counted rows p n
unfolding counted
counted_is [] p n d h = absurd (omega arith)
counted_is (row ∷ rows) zero n d h = refl
counted_is (row ∷ rows) (suc p) n d h = ap (λ x. row ∷ x) (counted_is rows p n d (omega arith))

pub counted_same : (rows : List Row) (p : ℕ) (d : Row) → counted rows p (get_or rows p d).count ≡ rows
unfolding counted
counted_same [] p d = refl
counted_same (row ∷ rows) zero d = refl
counted_same (row ∷ rows) (suc p) d = ap (λ x. row ∷ x) (counted_same rows p d)

counted_again : (rows : List Row) (p m n : ℕ) → counted (counted rows p m) p n ≡ counted rows p n
unfolding counted
counted_again [] p m n = refl
counted_again (row ∷ rows) zero m n = refl
counted_again (row ∷ rows) (suc p) m n = ap (λ x. row ∷ x) (counted_again rows p m n)

length-counted : (rows : List Row) (p n : ℕ) → length (counted rows p n) ≡ length rows
unfolding counted
length-counted [] p n = refl
length-counted (row ∷ rows) zero n = refl
length-counted (row ∷ rows) (suc p) n = ap suc (length-counted rows p n)

pub counted_seam : (before : List Row) (row : Row) (rows : List Row) (n : ℕ) → counted (before ++ (row ∷ rows)) (length before) n ≡ before ++ (row_of n row.left row.right ∷ rows)
unfolding counted
counted_seam [] row rows n = refl
counted_seam (x ∷ before) row rows n = ap (λ z. x ∷ z) (counted_seam before row rows n)

-- ---- at a loop's row, if it has one

pub with_again : (rows : List Row) (o : Option ℕ) (m n : ℕ) → with_count (with_count rows o m) o n ≡ with_count rows o n
with_again rows None m n = refl
with_again rows (Some p) m n = counted_again rows p m n

pub length-with : (rows : List Row) (o : Option ℕ) (n : ℕ) → length (with_count rows o n) ≡ length rows
length-with rows None n = refl
length-with rows (Some p) n = length-counted rows p n

pub has_as : (o : Option ℕ) (rows rows' : List Row) → length rows ≡ length rows' → HasRow o rows → HasRow o rows'
has_as None rows rows' e h = tt
has_as (Some p) rows rows' e h = omega arith
