-- Which chains a list of centres touches. Where a vector has messages of another chain the value is 0 (G_off); where it has not, the value
-- is at least 1 (G_on), so what lies under a node never exceeds the value of all centres (bound).
use Prim.Native.Nat.{ℕ, zero, suc, ◌*◌, ◌≤◌}
use mathlib.Core.Path.{◌≡◌, refl, sym, ap, subst, ◌∙◌}
use mathlib.Core.Bool.{Bool, true, false, ◌||◌, true≢false}
use mathlib.Core.List.{List, [], ◌∷◌, ◌++◌, Memᴰ, Permᴰ}
use native.Mathlib.Omega.{arith}
use native.Mathlib.Nat.{add-zero, zero-add, le_refl, le_trans, one-le-mul, mul-zero, zero-mul, mul-one, mul-le-mul}
use lib.ListN.{length, replicate, length-replicate}
use Rattle.sums.proofs.SplitLaws.{Split, split_length}
use Rattle.sums.proofs.AntiLaws.{anti_v_cong, anti_v-zero, anti_v_ge}
use Rattle.network.specs.Centre.{Centre, fits, Off, On}
use Rattle.network.proofs.ValueLaws.{G, G-append, G_perm, conv, unit}

-- the test `fits` as a relation: a number where the chain visits, 0 where it does not
pub data Fits : List Bool → List ℕ → Type 0 where
  none : Fits [] []
  free : {r : List Bool} (a : ℕ) {j : List ℕ} → Fits r j → Fits (true ∷ r) (a ∷ j)
  bare : {r : List Bool} {j : List ℕ} → Fits r j → Fits (false ∷ r) (0 ∷ j)

pub fits_yes : (ls : List Bool) (j : List ℕ) → fits ls j ≡ true → Fits ls j
unfolding fits
fits_yes [] [] t = Fits.none
fits_yes [] (a ∷ j) t = absurd (true≢false (sym t))
fits_yes (l ∷ ls) [] t = absurd (true≢false (sym t))
fits_yes (false ∷ ls) (zero ∷ j) t = Fits.bare (fits_yes ls j t)
fits_yes (false ∷ ls) (suc a ∷ j) t = absurd (true≢false (sym t))
fits_yes (true ∷ ls) (a ∷ j) t = Fits.free a (fits_yes ls j t)

pub fits_of : {ls : List Bool} {j : List ℕ} → Fits ls j → fits ls j ≡ true
unfolding fits
fits_of Fits.none = refl
fits_of (Fits.free a f) = fits_of f
fits_of (Fits.bare f) = fits_of f

-- ---- the chains that visit

-- one or the other, chain by chain
unfoldable pub merge : List Bool → List Bool → List Bool
merge [] d = []
merge (a ∷ c) [] = []
merge (a ∷ c) (b ∷ d) = (a || b) ∷ merge c d

-- for each of w chains, whether it visits some centre of the list
unfoldable pub cover : ℕ → List Centre → List Bool
cover w [] = replicate w false
cover w (c ∷ cs) = merge c.route (cover w cs)

-- every centre has a mark for each of w chains, and its weight is 0 off its route
pub data Wide (w : ℕ) : List Centre → Type 0 where
  none : Wide w []
  more : {c : Centre} {cs : List Centre} → length c.route ≡ w → Off c → Wide w cs → Wide w (c ∷ cs)

pub wide_append : {w : ℕ} {xs ys : List Centre} → Wide w xs → Wide w ys → Wide w (xs ++ ys)
wide_append Wide.none q = q
wide_append (Wide.more e off p) q = Wide.more e off (wide_append p q)

pub merge-length : (w : ℕ) (c d : List Bool) → length c ≡ w → length d ≡ w → length (merge c d) ≡ w
unfolding merge
merge-length w [] d p q = p
merge-length w (a ∷ c) [] p q = q
merge-length zero (a ∷ c) (b ∷ d) p q = absurd (omega arith)
merge-length (suc w) (a ∷ c) (b ∷ d) p q = ap suc (merge-length w c d (omega arith) (omega arith))

pub cover-length : (w : ℕ) {cs : List Centre} → Wide w cs → length (cover w cs) ≡ w
unfolding cover
cover-length w Wide.none = length-replicate w false
cover-length w (Wide.more {c = c} {cs = cs} p off q) = merge-length w c.route (cover w cs) p (cover-length w q)

-- two parts that fit, fit together
pub fits-merge : {c d : List Bool} {j k v : List ℕ} → Fits c j → Fits d k → Split j k v → Fits (merge c d) v
unfolding merge
fits-merge Fits.none Fits.none Split.none = Fits.none
fits-merge (Fits.free a f) (Fits.free b g) (Split.more {n = n} p s) = Fits.free n (fits-merge f g s)
fits-merge (Fits.free a f) (Fits.bare g) (Split.more {n = n} p s) = Fits.free n (fits-merge f g s)
fits-merge (Fits.bare f) (Fits.free b g) (Split.more {n = n} p s) = Fits.free n (fits-merge f g s)
fits-merge (Fits.bare {r = c} f) (Fits.bare {r = d} g) (Split.more {v = v} p s) = subst (λ n. Fits (false ∷ merge c d) (n ∷ v)) p (Fits.bare (fits-merge f g s))
fits-merge Fits.none (Fits.free b g) s = elim s [ ]
fits-merge Fits.none (Fits.bare g) s = elim s [ ]
fits-merge (Fits.free a f) Fits.none s = elim s [ ]
fits-merge (Fits.bare f) Fits.none s = elim s [ ]

-- what fits together comes from two parts
pub record Parts (c d : List Bool) (v : List ℕ) : Type 0 where
  pub first : List ℕ
  pub rest : List ℕ
  pub fits1 : Fits c first
  pub fits2 : Fits d rest
  pub split : Split first rest v

fits_rest : (b : Bool) {d : List Bool} {k : List ℕ} → Fits d k → Fits (b ∷ d) (0 ∷ k)
fits_rest false f = Fits.bare f
fits_rest true f = Fits.free 0 f

pub fits_parts : (c d : List Bool) (v : List ℕ) → length c ≡ length d → Fits (merge c d) v → Parts c d v
unfolding merge
fits_parts [] [] v e Fits.none = record { first = []; rest = []; fits1 = Fits.none; fits2 = Fits.none; split = Split.none }
fits_parts [] (b ∷ d) v e f = absurd (omega arith)
fits_parts (a ∷ c) [] v e f = absurd (omega arith)
fits_parts (true ∷ c) (b ∷ d) v e (Fits.free n {j = j} f) =
    let r = fits_parts c d j (omega arith) f in
    record { first = n ∷ r.first; rest = 0 ∷ r.rest; fits1 = Fits.free n r.fits1; fits2 = fits_rest b r.fits2; split = Split.more (add-zero n) r.split }
fits_parts (false ∷ c) (true ∷ d) v e (Fits.free n {j = j} f) =
    let r = fits_parts c d j (omega arith) f in
    record { first = 0 ∷ r.first; rest = n ∷ r.rest; fits1 = Fits.bare r.fits1; fits2 = Fits.free n r.fits2; split = Split.more (zero-add n) r.split }
fits_parts (false ∷ c) (false ∷ d) v e (Fits.bare {j = j} f) =
    let r = fits_parts c d j (omega arith) f in
    record { first = 0 ∷ r.first; rest = 0 ∷ r.rest; fits1 = Fits.bare r.fits1; fits2 = Fits.bare r.fits2; split = Split.more refl r.split }

unit_off : (w : ℕ) (v : List ℕ) → length v ≡ w → fits (replicate w false) v ≡ false → unit v ≡ 0
unfolding fits unit
unit_off zero [] e h = absurd (true≢false h)
unit_off (suc w) [] e h = absurd (omega arith)
unit_off zero (n ∷ v) e h = absurd (omega arith)
unit_off (suc w) (zero ∷ v) e h = unit_off w v (omega arith) h
unit_off (suc w) (suc n ∷ v) e h = refl

unit_on : (w : ℕ) (v : List ℕ) → Fits (replicate w false) v → unit v ≡ 1
unfolding unit
unit_on zero v Fits.none = refl
unit_on (suc w) v (Fits.bare {j = j} f) = unit_on w j f

-- a product is 0 unless both tests pass
both_or_zero : (x y : ℕ) (s t : Bool) → (s ≡ false → x ≡ 0) → (t ≡ false → y ≡ 0) → ((s ≡ true) → (t ≡ true) → ⊥) → x * y ≡ 0
both_or_zero x y false t p q n = rw (p refl) (zero-mul y)
both_or_zero x y true false p q n = rw (q refl) (mul-zero x)
both_or_zero x y true true p q n = absurd (n refl refl)

-- a value is 0 where the vector does not fit the cover
pub G_off : (w : ℕ) {cs : List Centre} → Wide w cs → (v : List ℕ) → length v ≡ w → fits (cover w cs) v ≡ false → G cs v ≡ 0
unfolding cover G conv
G_off w Wide.none v e h = unit_off w v e h
G_off w (Wide.more {c = c} {cs = cs} p off q) v e h =
    anti_v_cong v (λ j k. c.weigh j * G cs k) (λ j k. 0)
    (λ j k s. both_or_zero (c.weigh j) (G cs k) (fits c.route j) (fits (cover w cs) k) (off j) (G_off w q k ((split_length s).1 ∙ e))
    (λ f g. true≢false (sym (fits_of (fits-merge (fits_yes c.route j f) (fits_yes (cover w cs) k g) s)) ∙ h)))
    ∙ anti_v-zero v

-- and at least 1 where it does
abbrev pub AllOn : List Centre → Type 0
AllOn cs = (c : Centre) → Memᴰ c cs → On c

pub G_on : (w : ℕ) {cs : List Centre} → Wide w cs → AllOn cs → (v : List ℕ) → Fits (cover w cs) v → 1 ≤ G cs v
unfolding cover G conv
G_on w Wide.none on v f = rw (unit_on w v f) (le_refl 1)
G_on w (Wide.more {c = c} {cs = cs} p off q) on v f =
    let r = fits_parts c.route (cover w cs) v (p ∙ sym (cover-length w q)) f in
    le_trans (one-le-mul (on c (Memᴰ.head refl) r.first (fits_of r.fits1)) (G_on w q (λ d m. on d (Memᴰ.tail m)) r.rest r.fits2)) (anti_v_ge (λ j k. c.weigh j * G cs k) r.split)

-- no needed cell is above the whole model's value
pub bound : (w : ℕ) (S rest all : List Centre) → Permᴰ (S ++ rest) all → Wide w rest → AllOn rest → (i k N : List ℕ) → Split i k N → Fits (cover w rest) k → G S i ≤ G all N
unfolding conv
bound w S rest all p q on i k N s f =
    rw (← G_perm p N, G-append S rest N)
    (le_trans (rw (mul-one (G S i)) at (mul-le-mul (le_refl (G S i)) (G_on w q on k f))) (anti_v_ge (λ j k. G S j * G rest k) s))
