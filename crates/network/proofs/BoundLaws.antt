-- No cell that is needed exceeds the value: what a node's index leaves over can be placed on the centres outside the node, with weight
-- at least 1. So "overflow is a matter of the tree" is a wrong reading.
use Prim.Native.Nat.{ℕ, ◌+◌, ◌-◌, ◌≤◌}
use mathlib.Core.Path.{◌≡◌, refl, sym, ap, subst, ◌∙◌}
use mathlib.Core.Bool.{Bool, true, false, not, ◌||◌, true≢false}
use mathlib.Core.List.Permᴰ
use mathlib.Core.List.{List, [], ◌∷◌, ◌++◌, map, zip_with, Memᴰ, Permᴰ, append-nil}
use native.Mathlib.Omega.{arith}
use native.Mathlib.Nat.{add-zero, zero-add}
use lib.ListN.{length, length-map}
use Rattle.sums.specs.Lists.{from, some}
use Rattle.sums.proofs.BoolLaws.{some_is, some_of, some-append}
use Rattle.sums.proofs.ListLaws.{map-append, length_from}
use Rattle.sums.proofs.PermLaws.{perm_in, perm_map, perm_turn}
use Rattle.sums.proofs.SplitLaws.{Split}
use Rattle.network.specs.Centre.{Route, Centre, routes_of}
use Rattle.network.specs.Coverage.{Coverage, finished, partial, absent, Tree, under, visits, coverage_by, coverage, coverages}
use Rattle.network.specs.Cells.{span, spans_at, centre_by}
use Rattle.network.proofs.ValueLaws.{G}
use Rattle.network.proofs.CoverageLaws.{Parted, coverage_parts}
use Rattle.network.proofs.CellLaws.{In, Inside}
use Rattle.network.proofs.CoverLaws.{Fits, cover, Wide, AllOn, G_on, bound}
use Rattle.network.proofs.NodeLaws.{by_number_lem, AllWide, picked_from, parted_numbers, picked_in, picked_wide, cover-some, value_under}

-- a chain that is finished at the node visits none of the rest; one that is partial or absent does
data Beyond : Coverage → Bool → Type 0 where
  none : Beyond finished false
  more : Beyond partial true
  every : Beyond absent true

data Beyonds : List Coverage → List Bool → Type 0 where
  end : Beyonds [] []
  chain : {c : Coverage} {o : Bool} {cs : List Coverage} {os : List Bool} → Beyond c o → Beyonds cs os → Beyonds (c ∷ cs) (o ∷ os)

beyond_by : (a o : Bool) → (a || o) ≡ true → Beyond (coverage_by a (not o)) o
unfolding coverage_by
beyond_by false false e = absurd (true≢false (sym e))
beyond_by false true e = Beyond.every
beyond_by true false e = Beyond.none
beyond_by true true e = Beyond.more

-- what is left over of N fits the rest
record Over (o : List Bool) (v N : List ℕ) : Type 0 where
  rest : List ℕ
  split : Split v rest N
  fit : Fits o rest

left_over : {cs : List Coverage} {os : List Bool} → Beyonds cs os → (N v : List ℕ) → length cs ≡ length N → Inside (zip_with span cs N) v → Over os v N
unfolding zip_with span
left_over Beyonds.end [] v e Inside.none = record { rest = []; split = Split.none; fit = Fits.none }
left_over Beyonds.end (n ∷ N) v e i = absurd (omega arith)
left_over (Beyonds.chain b bs) [] v e i = absurd (omega arith)
left_over (Beyonds.chain Beyond.none bs) (n ∷ N) v e (Inside.more In.here i) =
    let r = left_over bs N _ (omega arith) i in record { rest = 0 ∷ r.rest; split = Split.more (add-zero n) r.split; fit = Fits.bare r.fit }
left_over (Beyonds.chain Beyond.more bs) (n ∷ N) v e (Inside.more (In.low {i = x} h) i) =
    let r = left_over bs N _ (omega arith) i in let d : x + (n - x) ≡ n = omega arith in record { rest = (n - x) ∷ r.rest; split = Split.more d r.split; fit = Fits.free (n - x) r.fit }
left_over (Beyonds.chain Beyond.every bs) (n ∷ N) v e (Inside.more In.here i) =
    let r = left_over bs N _ (omega arith) i in record { rest = n ∷ r.rest; split = Split.more (zero-add n) r.split; fit = Fits.free n r.fit }

-- whatever the numbers are, they fit where every chain visits
fits_every : (marks : ℕ → Bool) (ks N : List ℕ) → length ks ≡ length N → ((k : ℕ) → Memᴰ k ks → marks k ≡ true) → Fits (map marks ks) N
fits_every marks [] [] e f = Fits.none
fits_every marks [] (n ∷ N) e f = absurd (omega arith)
fits_every marks (k ∷ ks) [] e f = absurd (omega arith)
fits_every marks (k ∷ ks) (n ∷ N) e f = rw (f k (Memᴰ.head refl)) (Fits.free n (fits_every marks ks N (omega arith) (λ j m. f j (Memᴰ.tail m))))

-- every chain visits a centre
abbrev pub AllVisited : List Route → ℕ → Type 0
AllVisited routes w = (k : ℕ) → Memᴰ k (from 1 w) → some (visits routes k) (from 1 (length routes)) ≡ true

module _ (centres : List Centre) (w : ℕ) (wide : AllWide w centres) (on : AllOn centres) (visited : AllVisited (routes_of centres) w) where
  module _ (set rest : List ℕ) (parted : Parted (routes_of centres) set rest) where
    one_visits : (k : ℕ) → Memᴰ k (from 1 w) → (some (visits (routes_of centres) k) set || some (visits (routes_of centres) k) rest) ≡ true
    one_visits k m =
        let r = some_is (visits (routes_of centres) k) (from 1 (length (routes_of centres))) (visited k m) in
        sym (some-append (visits (routes_of centres) k) set rest) ∙ some_of (visits (routes_of centres) k) (perm_in (Permᴰ.symm parted) r.1) r.2

    beyonds : Beyonds (map (coverage (routes_of centres) set) (from 1 w)) (map (λ k. some (visits (routes_of centres) k) rest) (from 1 w))
    beyonds = over (from 1 w) one_visits
      where
        over : (ks : List ℕ) → ((k : ℕ) → Memᴰ k ks → (some (visits (routes_of centres) k) set || some (visits (routes_of centres) k) rest) ≡ true) → Beyonds (map (coverage (routes_of centres) set) ks) (map (λ k. some (visits (routes_of centres) k) rest) ks)
        over [] f = Beyonds.end
        over (k ∷ ks) f =
            Beyonds.chain
            (subst (λ c. Beyond c (some (visits (routes_of centres) k) rest)) (sym (coverage_parts (routes_of centres) set rest parted k)) (beyond_by (some (visits (routes_of centres) k) set) (some (visits (routes_of centres) k) rest) (f k (Memᴰ.head refl))))
            (over ks (λ l m. f l (Memᴰ.tail m)))

    all_picked : Permᴰ (picked_from centres set ++ picked_from centres rest) centres
    all_picked =
        subst (λ l. Permᴰ l centres) (map-append (centre_by centres) set rest)
        (subst (λ l. Permᴰ (map (centre_by centres) (set ++ rest)) l) (by_number_lem centres _ (length (routes_of centres)) (sym (length-map centres (λ c. c.route)))) (perm_map (centre_by centres) parted))

  pub node_bound : (windows : List ℕ) → length windows ≡ w → (t : Tree) (rest : List ℕ) → Parted (routes_of centres) (under t) rest → (v : List ℕ) → Inside (spans_at (routes_of centres) windows t) v
      → value_under centres w wide t v ≤ G centres windows
  unfolding spans_at coverages
  node_bound windows h t rest parted v i =
      let turned : Parted (routes_of centres) rest (under t) = Permᴰ.trans (perm_turn rest (under t)) parted in
      let numbers = parted_numbers centres w wide rest (under t) turned in
      let long : length (map (coverage (routes_of centres) (under t)) (from 1 w)) ≡ length windows = length-map (from 1 w) (coverage (routes_of centres) (under t)) ∙ length_from 1 w ∙ sym h in
      let r = left_over (beyonds (under t) rest parted) windows v long (subst (λ n. Inside (zip_with span (map (coverage (routes_of centres) (under t)) (from 1 n)) windows) v) h i) in
      bound w (picked_from centres (under t)) (picked_from centres rest) centres (all_picked (under t) rest parted) (picked_wide centres w wide rest numbers)
      (λ c m. on c (picked_in centres w wide rest numbers c m)) v r.rest windows r.split
      (subst (λ o. Fits o r.rest) (sym (cover-some centres w wide rest numbers)) r.fit)

  -- the value is at least 1: every chain has somewhere to stand
  pub value_some : (windows : List ℕ) → length windows ≡ w → 1 ≤ G centres windows
  value_some windows h =
      let every = from 1 (length (routes_of centres)) in
      let parted : Parted (routes_of centres) every [] = subst (λ l. Permᴰ l every) (sym (append-nil every)) (Permᴰ.refl every) in
      let numbers = parted_numbers centres w wide every [] parted in
      let picked : picked_from centres every ≡ centres = by_number_lem centres _ (length (routes_of centres)) (sym (length-map centres (λ c. c.route))) in
      let covers : map (λ k. some (visits (routes_of centres) k) every) (from 1 w) ≡ cover w centres = sym (cover-some centres w wide every numbers) ∙ ap (cover w) picked in
      G_on w (subst (Wide w) picked (picked_wide centres w wide every numbers)) on windows
      (subst (λ o. Fits o windows) covers (fits_every (λ k. some (visits (routes_of centres) k) every) (from 1 w) windows (length_from 1 w ∙ sym h) visited))
