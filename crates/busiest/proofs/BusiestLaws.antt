-- The busiest centre. The running best over a list of sums is the number of the first of the largest: one more sum is either not above
-- it, and leaves it, or is above every sum before it, and is the new best.
use Prim.Native.Nat.{ℕ, suc, ◌+◌, ◌-◌, ◌*◌, ◌^◌, ◌≤◌, ◌<◌, max}
use mathlib.Core.Path.{◌≡◌, refl, sym, ap, subst, ◌∙◌}
use mathlib.Core.Bool.{Bool, true, false}
use mathlib.Core.List.{List, [], ◌∷◌, ◌++◌, map}
use native.Mathlib.Omega.{arith}
use lib.Dec.{ltb, eqb}
use lib.ListN.{length, get_or, take, drop, length-map}
use lib.Seq.{get_or-drop}
use borrow.Author.Tests.{eq-eqb, ne_eqb, eqb-false, ltb-true, ltb-false}
use Rattle.std.specs.Prelude.{sum}
use Rattle.std.proofs.lemmas.List.{length-take}
use Rattle.std.proofs.lemmas.List.Sums.{sum_by-cons}
use Rattle.calls.proofs.FileLaws.{take_low}
use Rattle.sums.specs.Choice.{choose}
use Rattle.sums.specs.Lists.{from}
use Rattle.sums.specs.Sums.{sum_over}
use Rattle.sums.proofs.ListLaws.{map-append, length_from, from_more}
use Rattle.modelfile.specs.Network.{loads_of}
use Rattle.modelfile.specs.declared.Model.{Model}
use Rattle.modelfile.proofs.Guaranteed.{Guaranteed}
use Rattle.calls.specs.Sheet.{load_sum, largest, first_with, busiest}

-- ---- the first of the largest

largest_more : (xs : List ℕ) (x : ℕ) → largest (xs ++ (x ∷ [])) ≡ max (largest xs) x
unfolding largest
largest_more [] x = omega arith
largest_more (y ∷ ys) x = omega (arith, largest_more ys x)

-- a number above all before it comes after them
first_new : (n : ℕ) (xs : List ℕ) → largest xs < n → first_with n (xs ++ (n ∷ [])) ≡ suc (length xs)
unfolding first_with largest
first_new n [] h = rw (eq-eqb n n refl)
first_new n (x ∷ xs) h =
    let e : eqb x n ≡ false = ne_eqb x n (λ d. omega arith) in
    rw e (ap suc (first_new n xs (omega arith)))

-- what is found within a list is found there in a longer one
first_in : (n : ℕ) (xs ys : List ℕ) → first_with n xs ≤ length xs → first_with n (xs ++ ys) ≡ first_with n xs
unfolding first_with
first_in n [] ys h = absurd (omega arith)
first_in n (x ∷ xs) ys h = by (eqb x n) h (first_in n xs ys)
  where
    by : (b : Bool) → choose b (λ u. 1) (λ u. suc (first_with n xs)) ≤ suc (length xs) → (first_with n xs ≤ length xs → first_with n (xs ++ ys) ≡ first_with n xs) → choose b (λ u. 1) (λ u. suc (first_with n (xs ++ ys))) ≡ choose b (λ u. 1) (λ u. suc (first_with n xs))
    by true k f = refl
    by false k f = ap suc (f (omega arith))

max_other : (a b : ℕ) → (a ≡ max a b → ⊥) → max a b ≡ b
max_other a b f = by (ltb a b) refl
  where
    by : (t : Bool) → ltb a b ≡ t → max a b ≡ b
    by true e = omega (arith, ltb-true a b e)
    by false e = absurd (f (omega (arith, ltb-false a b e)))

largest_in : (x : ℕ) (xs : List ℕ) → first_with (largest (x ∷ xs)) (x ∷ xs) ≤ suc (length xs)
unfolding first_with largest
largest_in x [] = let e : x ≡ max x 0 = omega arith in rw (eq-eqb x (max x 0) e) (omega arith)
largest_in x (y ∷ ys) = by (eqb x (max x (largest (y ∷ ys)))) refl (largest_in y ys)
  where
    by : (b : Bool) → eqb x (max x (largest (y ∷ ys))) ≡ b → first_with (largest (y ∷ ys)) (y ∷ ys) ≤ suc (length ys) → choose b (λ u. 1) (λ u. suc (first_with (max x (largest (y ∷ ys))) (y ∷ ys))) ≤ suc (suc (length ys))
    by true e h = omega arith
    by false e h =
        let d : max x (largest (y ∷ ys)) ≡ largest (y ∷ ys) = max_other x (largest (y ∷ ys)) (eqb-false x (max x (largest (y ∷ ys))) e) in
        subst (λ n. suc (first_with n (y ∷ ys)) ≤ suc (suc (length ys))) (sym d) (omega arith)

first_kept : (xs : List ℕ) (x : ℕ) → x ≤ largest xs → first_with (largest xs) (xs ++ (x ∷ [])) ≡ first_with (largest xs) xs
unfolding first_with largest
first_kept [] x h = rw (eq-eqb x 0 (omega arith))
first_kept (y ∷ ys) x h = first_in (largest (y ∷ ys)) (y ∷ ys) (x ∷ []) (largest_in y ys)

-- ---- the running best

pub record BestOf (centre most : ℕ) (sums : List ℕ) : Type 0 where
  pub most_is : most ≡ largest sums
  pub centre_is : centre ≡ first_with (largest sums) sums

module _ {centre most : ℕ} {sums : List ℕ} (w : BestOf centre most sums) (sum : ℕ) where
  best_new : most < sum → BestOf (suc (length sums)) sum (sums ++ (sum ∷ []))
  best_new h =
      let l : largest sums < sum = omega (arith, w.most_is) in
      let m : largest (sums ++ (sum ∷ [])) ≡ sum = omega (arith, largest_more sums sum) in
      record { most_is = sym m; centre_is = sym (first_new sum sums l) ∙ ap (λ x. first_with x (sums ++ (sum ∷ []))) (sym m) }

  best_kept : sum ≤ most → BestOf centre most (sums ++ (sum ∷ []))
  best_kept h =
      let l : sum ≤ largest sums = omega (arith, w.most_is) in
      let m : largest (sums ++ (sum ∷ [])) ≡ largest sums = omega (arith, largest_more sums sum) in
      record { most_is = w.most_is ∙ sym m; centre_is = w.centre_is ∙ sym (first_kept sums sum l) ∙ ap (λ x. first_with x (sums ++ (sum ∷ []))) (sym m) }

-- the loop over centres: those before c are done
pub record Busy (m : Model) (centre most c : ℕ) : Type 0 where
  pub low : 1 ≤ c
  pub high : c ≤ m.centres + 1
  pub best : BestOf centre most (map (load_sum m) (from 1 (c - 1)))

pub busy_first : (m : Model) → Busy m 1 0 1
unfolding from largest first_with
busy_first m = record { low = omega arith; high = omega arith; best = record { most_is = refl; centre_is = refl } }

module _ {m : Model} {centre most c sum : ℕ} (w : Busy m centre most c) (h : c ≤ m.centres) (s : sum ≡ load_sum m c) where
  sums_more : map (load_sum m) (from 1 (c - 1)) ++ (sum ∷ []) ≡ map (load_sum m) (from 1 ((c + 1) - 1))
  sums_more =
      let d : (c + 1) - 1 ≡ suc (c - 1) = omega (arith, w.low) in
      let o : 1 + (c - 1) ≡ c = omega (arith, w.low) in
      ap (λ n. map (load_sum m) (from 1 (c - 1)) ++ (n ∷ [])) (s ∙ ap (load_sum m) (sym o))
      ∙ sym (ap (λ n. map (load_sum m) (from 1 n)) d ∙ ap (map (load_sum m)) (from_more 1 (c - 1)) ∙ map-append (load_sum m) (from 1 (c - 1)) ((1 + (c - 1)) ∷ []))

  pub busy_new : most < sum → Busy m c sum (c + 1)
  busy_new l =
      let e : suc (length (map (load_sum m) (from 1 (c - 1)))) ≡ c = omega (arith, w.low, length-map (from 1 (c - 1)) (load_sum m), length_from 1 (c - 1)) in
      record {
        low = omega arith;
        high = omega arith;
        best = subst (BestOf c sum) sums_more (subst (λ n. BestOf n sum (map (load_sum m) (from 1 (c - 1)) ++ (sum ∷ []))) e (best_new w.best sum l));
      }

  pub busy_kept : sum ≤ most → Busy m centre most (c + 1)
  busy_kept l = record { low = omega arith; high = omega arith; best = subst (BestOf centre most) sums_more (best_kept w.best sum l) }

pub busy_last : {m : Model} {centre most c : ℕ} → Busy m centre most c → m.centres < c → centre ≡ busiest m
unfolding busiest
busy_last {m} {c = c} w h =
    let d : c - 1 ≡ m.centres = omega (arith, w.low, w.high) in
    w.best.centre_is ∙ ap (λ n. first_with (largest (map (load_sum m) (from 1 n))) (map (load_sum m) (from 1 n))) d

-- ---- a centre's sum of loads: of at most eight loads, each at most 65535

sum_is : (xs : List ℕ) → sum xs ≡ sum_over xs (λ load. load)
unfolding sum_over
sum_is [] = refl
sum_is (x ∷ xs) = sum_by-cons (λ n. n) x xs ∙ ap (λ n. x + n) (sum_is xs)

sum_few : (xs : List ℕ) → ((i : ℕ) → get_or xs i 0 ≤ 65535) → sum xs ≤ 65535 * length xs
sum_few [] h = omega arith
sum_few (x ∷ xs) h = omega (arith, sum_by-cons (λ n. n) x xs, h 0, sum_few xs (λ i. h (suc i)))

module _ (m : Model) (g : Guaranteed m) (centre : ℕ) where
  -- as the code takes them out
  abbrev pub loads_at : List ℕ
  loads_at = take ((centre - 1) * 8 + m.chains - (centre - 1) * 8) (drop ((centre - 1) * 8) m.loads)

  pub sum_low : sum loads_at < 2 ^ 64
  sum_low =
      let low : (i : ℕ) → get_or loads_at i 0 ≤ 65535 = take_low _ _ 65535 (λ i. omega (arith, get_or-drop ((centre - 1) * 8) m.loads i 0, g.load_range ((centre - 1) * 8 + i))) in
      omega (arith, sum_few loads_at low, length-take ((centre - 1) * 8 + m.chains - (centre - 1) * 8) (drop ((centre - 1) * 8) m.loads), g.chains_range)

  pub sum_loads : sum loads_at ≡ load_sum m centre
  unfolding load_sum loads_of
  sum_loads =
      let e : (centre - 1) * 8 + m.chains - (centre - 1) * 8 ≡ m.chains = omega arith in
      sum_is loads_at ∙ ap (λ n. sum_over (take n (drop ((centre - 1) * 8) m.loads)) (λ load. load)) e
