-- Places stay within the children's cells, turn by turn; and a pair's product is that of the two cells that are read.
use Prim.Native.Nat.{ℕ, suc, ◌+◌, ◌-◌, ◌*◌, ◌≤◌, ◌<◌}
use mathlib.Core.Path.{◌≡◌, sym, ap}
use mathlib.Core.List.{List, [], ◌∷◌}
use native.Mathlib.Nat.{mul-le-mul_right}
use native.Mathlib.Omega.{arith}
use lib.ListN.{length, get_or, take, drop}
use lib.Seq.{take_all}
use Rattle.sums.specs.Sums.{sum_over}
use Rattle.arith.specs.Capped.{capped}
use Rattle.cellsums.specs.Places.{places, reach_left, reach_right, cells_in, product, Within}
use Rattle.cellsums.specs.declared.Part.{Part}
use Rattle.cellsums.specs.declared.Row.{Row}

steps : (n j a : ℕ) → j < n → (j * a ≤ (n - 1) * a) × ((n - 1 - j) * a ≤ (n - 1) * a)
steps n j a h = (mul-le-mul_right a (omega arith), mul-le-mul_right a (omega arith))

module _ {size l r : ℕ} {left right : Part} {row : Row} {rows : List Row} (w : Within size left right (row ∷ rows) l r) (j : ℕ) (h : j < row.count) where
  pub within_turn : Within size left right rows (l + j * row.left) (r + (row.count - 1 - j) * row.right)
  unfolding reach_left reach_right
  within_turn =
      record {
        left_from = w.left_from;
        left_to = w.left_to;
        left_reach = omega (arith, w.left_reach, (steps row.count j row.left h).0);
        right_from = w.right_from;
        right_to = w.right_to;
        right_reach = omega (arith, w.right_reach, (steps row.count j row.right h).1);
      }

  pub left_low : l + j * row.left < size
  left_low = omega (arith, within_turn.left_reach, within_turn.left_to)

  pub right_low : r + (row.count - 1 - j) * row.right < size
  right_low = omega (arith, within_turn.right_reach, within_turn.right_to)

pub pair_sum : (acc x y l r : ℕ) (area : List ℕ) (left right : Part) → x ≡ get_or (cells_in area left) l 0 → y ≡ get_or (cells_in area right) r 0 → capped (acc + x * y) ≡ capped (acc + sum_over (places [] l r) (product area left right))
unfolding places sum_over product
pair_sum acc x y l r area left right e f = let g : x * y ≡ get_or (cells_in area left) l 0 * get_or (cells_in area right) r 0 = λ i. e i * f i in ap capped (omega (arith, g))

-- ---- a slice's first row and the others, as a pattern reads them

pub first_rest : {A : Type 0} (xs : List A) (d : A) → 1 ≤ length xs → xs ≡ get_or xs 0 d ∷ take (length xs - 1) (drop 1 xs)
first_rest [] d h = absurd (omega arith)
first_rest (x ∷ xs) d h = ap (λ t. x ∷ t) (sym (take_all (suc (length xs) - 1) xs (omega arith)))

module _ {rows rows' : List Row} (e : rows ≡ rows') where
  pub within_as : {size l r : ℕ} {left right : Part} → Within size left right rows l r → Within size left right rows' l r
  within_as w = rw (← e) w

  pub sum_as : (acc l r : ℕ) (value : ℕ × ℕ → ℕ) → capped (acc + sum_over (places rows' l r) value) ≡ capped (acc + sum_over (places rows l r) value)
  sum_as acc l r value = rw e
