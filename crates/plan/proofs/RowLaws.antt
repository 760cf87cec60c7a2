-- Rows of eight numbers, one a chain: filled from the front or from the back by one store a turn, and read back.
use Prim.Native.Nat.{ℕ, zero, suc, ◌+◌, ◌-◌, ◌≤◌, ◌<◌}
use mathlib.Core.Path.{◌≡◌, refl, sym, ap, ◌∙◌}
use mathlib.Core.List.{List, [], ◌∷◌, ◌++◌, map, append_assoc}
use native.Mathlib.Omega.{arith}
use native.Mathlib.Numerals.{add-one}
use native.Mathlib.Nat.{zero-add}
use lib.ListN.{length, get_or, set, take, replicate, length-map, length-append, length-set, length-replicate, replicate-append-replicate, get_or-append}
use lib.Seq.{set_at, ext_get_or, get_or-take, length-take-le}
use Rattle.sums.specs.Lists.{from}
use Rattle.sums.proofs.ListLaws.{map-append, map_cong, get_or-map_in, length_from, get_or-from, from_more, from_out}
use Rattle.plan.specs.Table.{padded, row}

module _ (f : ℕ → ℕ) where
  length-filled : (n : ℕ) → length (map f (from 0 n)) ≡ n
  length-filled n = length-map (from 0 n) f ∙ length_from 0 n

  pub length-row : (n : ℕ) → n ≤ 8 → length (row n f) ≡ 8
  unfolding padded
  length-row n h = length-append (map f (from 0 n)) (replicate (8 - n) 0) ∙ omega (arith, length-filled n, length-replicate {A = ℕ} (8 - n) 0)

  -- one more from the front
  pub row_more : (n v : ℕ) → n < 8 → v ≡ f n → set (row n f) n v ≡ row (n + 1) f
  unfolding padded
  row_more n v h e =
      let P = map f (from 0 n) in
      let Z : List ℕ = replicate (8 - (n + 1)) 0 in
      let d : 8 - n ≡ suc (8 - (n + 1)) = omega arith in
      let m : map f (from 0 (n + 1)) ≡ P ++ (v ∷ []) =
      ap (λ x. map f (from 0 x)) (add-one n) ∙ ap (map f) (from_more 0 n) ∙ map-append f (from 0 n) ((0 + n) ∷ [])
      ∙ ap (λ x. P ++ (x ∷ [])) (ap f (zero_first n) ∙ sym e) in
      ap (λ x. set (P ++ replicate x 0) n v) d ∙ set_at P 0 Z v n (length-filled n) ∙ sym (append_assoc P (v ∷ []) Z) ∙ ap (λ l. l ++ Z) (sym m)
    where
      zero_first : (n : ℕ) → 0 + n ≡ n
      zero_first n = omega arith

  pub row_at : (n k : ℕ) → k < n → get_or (row n f) k 0 ≡ f k
  unfolding padded
  row_at n k h =
      let l : k < length (map f (from 0 n)) = omega (arith, length-filled n) in
      get_or-append (map f (from 0 n)) (replicate (8 - n) 0) 0 k l
      ∙ get_or-map_in f (from 0 n) k 0 0 (omega (arith, length_from 0 n))
      ∙ ap f (get_or-from 0 n k h ∙ omega arith)

-- two rows with the same entries
pub row_cong : (n : ℕ) (f g : ℕ → ℕ) → ((k : ℕ) → k < n → f k ≡ g k) → row n f ≡ row n g
row_cong n f g e = ap (padded n) (map_cong (from 0 n) f g (λ k m. e k (omega (arith, (from_out 0 n k m).1))))

-- an entry past the chains is 0, so a bound on the entries is a bound on the row
zeros : (m k : ℕ) → ◌≡◌ {A = ℕ} (get_or (replicate m 0) k 0) 0
zeros zero k = refl
zeros (suc m) zero = refl
zeros (suc m) (suc k) = zeros m k

pub row_few : (f : ℕ → ℕ) (most : ℕ) → ((k : ℕ) → f k ≤ most) → (n k : ℕ) → get_or (row n f) k 0 ≤ most
unfolding padded from
row_few f most h n k = by 0 n (8 - n) k
  where
    by : (a n m k : ℕ) → get_or (map f (from a n) ++ replicate m 0) k 0 ≤ most
    by a zero m k = omega (arith, zeros m k)
    by a (suc n) m zero = h a
    by a (suc n) m (suc k) = by (suc a) n m k

-- the first entries of an array
pub take_is : (xs : List ℕ) (n : ℕ) → n ≤ length xs → map (λ i. get_or xs i 0) (from 0 n) ≡ take n xs
take_is xs n h =
    ext_get_or 0 (map (λ i. get_or xs i 0) (from 0 n)) (take n xs) (length-filled (λ i. get_or xs i 0) n ∙ sym (length-take-le n xs h))
    (λ k m. let l : k < n = omega (arith, length-filled (λ i. get_or xs i 0) n) in
    get_or-map_in (λ i. get_or xs i 0) (from 0 n) k 0 0 (omega (arith, length_from 0 n))
    ∙ ap (λ x. get_or xs x 0) (get_or-from 0 n k l ∙ zero-add k)
    ∙ sym (get_or-take n xs k 0 l))

-- a loop that fills the row chain by chain, k chains being done
pub record Rowed (f : ℕ → ℕ) (chains : ℕ) (a : List ℕ) (k : ℕ) : Type 0 where
  pub low : k ≤ chains
  pub long : length a ≡ 8
  pub filled : a ≡ row k f

module _ (f : ℕ → ℕ) (chains : ℕ) where
  pub rowed_first : Rowed f chains (replicate 8 0) 0
  unfolding padded from
  rowed_first = record { low = omega arith; long = refl; filled = refl }

  pub rowed_turn : {a : List ℕ} {k v : ℕ} → Rowed f chains a k → k < chains → chains ≤ 8 → v ≡ f k → Rowed f chains (set a k v) (k + 1)
  rowed_turn {a} {k} {v} w h m e = record { low = omega arith; long = length-set a k v ∙ w.long; filled = ap (λ l. set l k v) w.filled ∙ row_more f k v (omega arith) e }

  pub rowed_last : {a : List ℕ} {k : ℕ} → Rowed f chains a k → chains ≤ k → a ≡ row chains f
  rowed_last {k = k} w h = let e : k ≡ chains = omega (arith, w.low) in rw e at w.filled

-- ---- from the back

pub back_first : (n : ℕ) → n ≤ 8 → ◌≡◌ {A = List ℕ} (replicate 8 0) (replicate n 0 ++ padded n [])
unfolding padded
back_first n h = let e : n + (8 - n) ≡ 8 = omega arith in ap (λ x. replicate x 0) (sym e) ∙ sym (replicate-append-replicate n (8 - n) 0)

pub back_more : (j v : ℕ) (rest : List ℕ) → set (replicate (suc j) 0 ++ rest) j v ≡ replicate j 0 ++ (v ∷ rest)
back_more zero v rest = refl
back_more (suc j) v rest = ap (λ l. 0 ∷ l) (back_more j v rest)

-- a loop that has come to its end
pub whole : {k n : ℕ} → k ≤ n → n ≤ k → k ≡ n
whole h g = omega arith
