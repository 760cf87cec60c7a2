-- The centres under a node, and what coverage says of them: which chains they touch (cover-under), and that a join's value is the sum over
-- its pairs (join_cell).
use Prim.Native.Nat.{ℕ, zero, suc, ◌+◌, ◌*◌, ◌≤◌, ◌<◌}
use mathlib.Core.Path.{◌≡◌, refl, sym, ap, subst, ◌∙◌}
use mathlib.Core.Bool.{Bool, true, false, not, ◌||◌}
use mathlib.Core.List.Memᴰ
use mathlib.Core.List.{List, [], ◌∷◌, ◌++◌, map, map-map, zip_with, Memᴰ}
use native.Mathlib.Omega.{arith}
use native.Mathlib.Nat.{mul-zero, zero-mul}
use lib.ListN.{length, replicate, length-map, get_or-map}
use lib.Seq.{ext_get_or}
use Rattle.sums.specs.Lists.{from, by_number, some}
use Rattle.sums.specs.Sums.{sum_over}
use Rattle.sums.proofs.ListLaws.{map-append, map_cong, get_or_in, get_or-map_in, length_from, get_or-from, from_out}
use Rattle.sums.proofs.PermLaws.{perm_in}
use Rattle.network.specs.Centre.{Route, Centre, routes_of, fits, Off}
use Rattle.network.specs.Coverage.{Coverage, Tree, join, under, visits, coverage_by, coverage, coverages}
use Rattle.network.specs.Cells.{span, spans_at, centre_by}
use Rattle.network.specs.Pairs.{index_pairs}
use Rattle.network.proofs.ValueLaws.{G, G-append, conv}
use Rattle.network.proofs.CoverageLaws.{Parted, parted_left, parted_right, coverage_parts, meets}
use Rattle.network.proofs.CoverLaws.{merge, cover, Wide, G_off}
use Rattle.network.proofs.PairLaws.{present, pairs_sum}

-- ---- lists by number

-- a list is its entries by number
pub by_number_lem : {A : Type 0} (xs : List A) (d : A) (w : ℕ) → length xs ≡ w → map (λ k. by_number xs k d) (from 1 w) ≡ xs
unfolding by_number
by_number_lem xs d w e =
    ext_get_or d (map (λ k. by_number xs k d) (from 1 w)) xs (long ∙ sym e)
    (λ i h. let b : i < w = omega (arith, long) in
    get_or-map_in (λ k. by_number xs k d) (from 1 w) i d 0 (omega (arith, length_from 1 w))
    ∙ ap (λ k. by_number xs k d) (get_or-from 1 w i b ∙ one_more i))
  where
    long : length (map (λ k. by_number xs k d) (from 1 w)) ≡ w
    long = length-map (from 1 w) (λ k. by_number xs k d) ∙ length_from 1 w

    one_more : (i : ℕ) → 1 + i ≡ suc i
    one_more i = omega arith

by_number_in : {A : Type 0} (xs : List A) (d : A) (c : ℕ) → 1 ≤ c → c ≤ length xs → Memᴰ (by_number xs c d) xs
unfolding by_number
by_number_in xs d zero h k = absurd (omega arith)
by_number_in xs d (suc c) h k = get_or_in d xs c (omega arith)

merge-map : (f g : ℕ → Bool) (ks : List ℕ) → merge (map f ks) (map g ks) ≡ map (λ k. f k || g k) ks
unfolding merge
merge-map f g [] = refl
merge-map f g (k ∷ ks) = ap (λ l. (f k || g k) ∷ l) (merge-map f g ks)

none_map : (a w : ℕ) → replicate w false ≡ map (λ k. false) (from a w)
unfolding from
none_map a zero = refl
none_map a (suc w) = ap (λ l. false ∷ l) (none_map (suc a) w)

pub coverages-length : (routes : List Route) (w : ℕ) (t : Tree) → length (coverages routes w t) ≡ w
unfolding coverages
coverages-length routes w t = length-map (from 1 w) (coverage routes (under t)) ∙ length_from 1 w

pub spans_length : (routes : List Route) (windows : List ℕ) (t : Tree) → length (spans_at routes windows t) ≡ length windows
unfolding spans_at zip_with
spans_length routes windows t = zipped (coverages routes (length windows) t) windows (coverages-length routes (length windows) t)
  where
    zipped : (cs : List Coverage) (ns : List ℕ) → length cs ≡ length ns → length (zip_with span cs ns) ≡ length ns
    zipped [] [] e = refl
    zipped [] (n ∷ ns) e = absurd (omega arith)
    zipped (c ∷ cs) [] e = absurd (omega arith)
    zipped (c ∷ cs) (n ∷ ns) e = ap suc (zipped cs ns (omega arith))

-- ---- the centres under a node

-- every centre has a mark for each of w chains, and its weight is 0 off its route
abbrev pub AllWide : ℕ → List Centre → Type 0
AllWide w centres = (c : Centre) → Memᴰ c centres → (length c.route ≡ w) × Off c

-- the centres with given numbers
abbrev pub picked_from : List Centre → List ℕ → List Centre
picked_from centres set = map (centre_by centres) set

module _ (centres : List Centre) (w : ℕ) (wide : AllWide w centres) where
  -- numbers of centres
  abbrev pub Numbers : List ℕ → Type 0
  Numbers set = (c : ℕ) → Memᴰ c set → (1 ≤ c) × (c ≤ length centres)

  pub parted_numbers : (set rest : List ℕ) → Parted (routes_of centres) set rest → Numbers set
  parted_numbers set rest parted c m =
      let r = from_out 1 (length (routes_of centres)) c (perm_in parted (Memᴰ.append_left rest m)) in
      (r.0, omega (arith, r.1, length-map centres (λ c. c.route)))

  pub picked_in : (set : List ℕ) → Numbers set → (c : Centre) → Memᴰ c (picked_from centres set) → Memᴰ c centres
  picked_in set f c m =
      let r = Memᴰ.of_map (centre_by centres) set m in
      let h = f r.0 r.1 in
      subst (λ d. Memᴰ d centres) r.2 (by_number_in centres _ r.0 h.0 h.1)

  pub picked_wide : (set : List ℕ) → Numbers set → Wide w (picked_from centres set)
  picked_wide [] f = Wide.none
  picked_wide (c ∷ set) f =
      let h = f c (Memᴰ.head refl) in
      let r = wide (centre_by centres c) (by_number_in centres _ c h.0 h.1) in
      Wide.more r.0 r.1 (picked_wide set (λ d m. f d (Memᴰ.tail m)))

  route_by : (c : ℕ) → by_number (routes_of centres) c [] ≡ (centre_by centres c).route
  unfolding by_number
  route_by zero = refl
  route_by (suc c) = get_or-map (λ c. c.route) centres c (record { route = []; weigh = λ ns. 0 })

  -- the chains that some centre of the set is visited by
  pub cover-some : (set : List ℕ) → Numbers set → cover w (picked_from centres set) ≡ map (λ k. some (visits (routes_of centres) k) set) (from 1 w)
  unfolding cover some visits
  cover-some [] f = none_map 1 w
  cover-some (c ∷ set) f =
      let h = f c (Memᴰ.head refl) in
      let r = (centre_by centres c).route in
      let e : r ≡ map (λ k. by_number (by_number (routes_of centres) c []) k false) (from 1 w) =
      sym (by_number_lem r false w (wide (centre_by centres c) (by_number_in centres _ c h.0 h.1)).0) ∙ ap (λ r. map (λ k. by_number r k false) (from 1 w)) (sym (route_by c)) in
      (λ i. merge (e i) (cover-some set (λ d m. f d (Memᴰ.tail m)) i))
      ∙ merge-map (λ k. by_number (by_number (routes_of centres) c []) k false) (λ k. some (visits (routes_of centres) k) set) (from 1 w)

  present_by : (a f : Bool) → present (coverage_by a f) ≡ a
  unfolding present coverage_by
  present_by false f = refl
  present_by true false = refl
  present_by true true = refl

  -- a chain is present at a node if it visits a centre under it
  pub cover-under : (t : Tree) (rest : List ℕ) → Parted (routes_of centres) (under t) rest → map present (coverages (routes_of centres) w t) ≡ cover w (picked_from centres (under t))
  unfolding coverages
  cover-under t rest parted =
      map-map present (coverage (routes_of centres) (under t)) (from 1 w)
      ∙ map_cong (from 1 w) _ _ (λ k m. ap present (coverage_parts (routes_of centres) (under t) rest parted k) ∙ present_by (some (visits (routes_of centres) k) (under t)) (not (some (visits (routes_of centres) k) rest)))
      ∙ sym (cover-some (under t) (parted_numbers (under t) rest parted))

  -- the value of the centres under a node
  abbrev pub value_under : Tree → List ℕ → ℕ
  value_under t v = G (picked_from centres (under t)) v

  -- "A pair adds left cell times right cell": a join's value is the sum over the pairs of its index
  pub join_cell : (l r : Tree) (rest : List ℕ) → Parted (routes_of centres) (under (join l r)) rest → (v : List ℕ) → length v ≡ w
      → sum_over (index_pairs (coverages (routes_of centres) w l) (coverages (routes_of centres) w r) v) (λ p. value_under l p.0 * value_under r p.1) ≡ value_under (join l r) v
  unfolding under conv
  join_cell l r rest parted v e =
      let pl = parted_left (routes_of centres) (under l) (under r) rest parted in
      let pr = parted_right (routes_of centres) (under l) (under r) rest parted in
      let wl = picked_wide (under l) (parted_numbers (under l) (under r ++ rest) pl) in
      let wr = picked_wide (under r) (parted_numbers (under r) (under l ++ rest) pr) in
      let long : length (coverages (routes_of centres) w (join l r)) ≡ length v = coverages-length (routes_of centres) w (join l r) ∙ sym e in
      sym (pairs_sum (meets (routes_of centres) w l r rest parted) v long (λ a b. value_under l a * value_under r b)
      (λ a b x y f. rw (G_off w wl a (x ∙ e) (subst (λ c. fits c a ≡ false) (cover-under l (under r ++ rest) pl) f)) (zero-mul (value_under r b)))
      (λ a b x y f. rw (G_off w wr b (y ∙ e) (subst (λ c. fits c b ≡ false) (cover-under r (under l ++ rest) pr) f)) (mul-zero (value_under l a))))
      ∙ sym (G-append (picked_from centres (under l)) (picked_from centres (under r)) v)
      ∙ ap (λ l. G l v) (sym (map-append (centre_by centres) (under l) (under r)))
