-- From an accepted file to a network: what the laws of the network ask (each centre's route has a mark a chain, its weight is 0 off it and
-- at least 1 on it, each chain visits a centre, the tree has each centre once) is what the file guarantees, lowered or not.
use Prim.Native.Nat.{ℕ, zero, suc, ◌+◌, ◌-◌, ◌*◌, ◌≤◌, ◌<◌}
use mathlib.Core.Path.{◌≡◌, refl, sym, ap, subst, ◌∙◌}
use mathlib.Core.Bool.{Bool, true, false}
use mathlib.Core.List.Memᴰ
use mathlib.Core.List.{List, [], ◌∷◌, map, Memᴰ, Permᴰ}
use native.Mathlib.Omega.{arith}
use lib.Dec.{ltb, eqb}
use lib.ListN.{length, get_or, take, drop, length-map, length-drop, length-set}
use lib.Seq.{length-take-le, get_or-take, get_or-drop}
use Rattle.modelfile.specs.declared.Refusal.{Refusal as FileRefusal}
use Rattle.sums.specs.Lists.{from, by_number, some}
use Rattle.sums.proofs.BoolLaws.{some_of}
use Rattle.sums.proofs.ListLaws.{length_from, get_or-from, get_or-map_in, from_in, from_out}
use Rattle.network.specs.Centre.{Centre, routes_of, visit, queue, Off, On}
use Rattle.network.specs.Coverage.{under, visits}
use Rattle.network.proofs.WeightLaws.{queue_off, queue_on}
use Rattle.network.proofs.NodeLaws.{AllWide}
use Rattle.network.proofs.CoverLaws.{AllOn}
use Rattle.network.proofs.BoundLaws.{AllVisited}
use Rattle.modelfile.specs.File.{read_file}
use Rattle.modelfile.specs.Network.{windows_of, loads_of, centres_of, tree_of}
use Rattle.modelfile.specs.declared.Model.{Model}
use Rattle.std.specs.Prelude.{⊤, Result, Ok, Err}
use Rattle.modelfile.proofs.Guaranteed.{Guaranteed}
use Rattle.modelfile.proofs.AcceptedLaws.{accepted}
use Rattle.calls.specs.declared.Refusal.{Refusal}
use Rattle.calls.specs.Asked.{refused, granted, pick_asked, less_one, lowering, on_verdict, ask}

-- what the laws of the network ask of a model and the windows of a run
pub record Fit (m : Model) (windows : List ℕ) : Type 0 where
  pub wide : AllWide (length windows) (centres_of m)
  pub on : AllOn (centres_of m)
  pub visited : AllVisited (routes_of (centres_of m)) (length windows)
  pub every : Permᴰ (under (tree_of m)) (from 1 (length (routes_of (centres_of m))))
  pub centres_few : length (routes_of (centres_of m)) ≤ 16
  pub windows_few : length windows ≤ 8
  pub windows_low : (k : ℕ) → get_or windows k 0 ≤ 15

module _ (m : Model) (g : Guaranteed m) where
  pub length_centres : length (centres_of m) ≡ m.centres
  unfolding centres_of
  length_centres = length-map (from 1 m.centres) (λ c. queue (loads_of m c)) ∙ length_from 1 m.centres

  pub length_routes : length (routes_of (centres_of m)) ≡ m.centres
  length_routes = length-map (centres_of m) (λ c. c.route) ∙ length_centres

  pub length_loads : (c : ℕ) → c < m.centres → length (loads_of m (suc c)) ≡ m.chains
  unfolding loads_of
  length_loads c h =
      let d : suc c - 1 ≡ c = omega arith in
      length-take-le m.chains (drop ((suc c - 1) * 8) m.loads) (omega (arith, length-drop ((suc c - 1) * 8) m.loads, g.loads_long, g.chains_range, g.centres_range))

  pub length_windows : length (windows_of m) ≡ m.chains
  unfolding windows_of
  length_windows = length-take-le m.chains m.windows (omega (arith, g.windows_long, g.chains_range))

  -- a centre of the model is a queue with loads of its own
  queue_of : (c : Centre) → Memᴰ c (centres_of m) → (i : ℕ) × (i < m.centres) × (queue (loads_of m (suc i)) ≡ c)
  unfolding centres_of
  queue_of c k =
      let r = Memᴰ.of_map (λ c. queue (loads_of m c)) (from 1 m.centres) k in
      let b = from_out 1 m.centres r.0 r.1 in
      let e : suc (r.0 - 1) ≡ r.0 = omega arith in
      (r.0 - 1, omega arith, ap (λ n. queue (loads_of m n)) e ∙ r.2)

  -- a load that is there is a visit
  visit-some : (load : ℕ) → (load ≡ 0 → ⊥) → visit load ≡ true
  unfolding visit
  visit-some zero f = absurd (f refl)
  visit-some (suc load) f = refl

  pub load_at : (c k : ℕ) → c < m.centres → k < m.chains → get_or (loads_of m (suc c)) k 0 ≡ get_or m.loads (c * 8 + k) 0
  unfolding loads_of
  load_at c k h l =
      let d : (suc c - 1) * 8 + k ≡ c * 8 + k = omega arith in
      get_or-take m.chains (drop ((suc c - 1) * 8) m.loads) k 0 l ∙ get_or-drop ((suc c - 1) * 8) m.loads k 0 ∙ ap (λ i. get_or m.loads i 0) d

  pub visits_is : (c k : ℕ) → c < m.centres → k < m.chains → visits (routes_of (centres_of m)) (suc k) (suc c) ≡ visit (get_or m.loads (c * 8 + k) 0)
  unfolding visits by_number centres_of
  visits_is c k h l =
      let e : get_or (routes_of (centres_of m)) c [] ≡ map visit (loads_of m (suc c)) =
      get_or-map_in (λ c. c.route) (centres_of m) c [] (queue []) (omega (arith, length_centres))
      ∙ ap (λ d. d.route) (get_or-map_in (λ c. queue (loads_of m c)) (from 1 m.centres) c (queue []) 0 (omega (arith, length_from 1 m.centres)) ∙ ap (λ n. queue (loads_of m n)) (get_or-from 1 m.centres c h ∙ one_more c)) in
      ap (λ r. get_or r k false) e
      ∙ get_or-map_in visit (loads_of m (suc c)) k false 0 (omega (arith, length_loads c h))
      ∙ ap visit (load_at c k h l)
    where
      one_more : (c : ℕ) → 1 + c ≡ suc c
      one_more c = omega arith

  pub fit : (windows : List ℕ) → length windows ≡ m.chains → ((k : ℕ) → get_or windows k 0 ≤ 15) → Fit m windows
  fit windows h low = record {
    wide = λ c k. let r = queue_of c k in subst (λ c. (length c.route ≡ length windows) × Off c) r.2 (length-map (loads_of m (suc r.0)) visit ∙ length_loads r.0 r.1 ∙ sym h, queue_off (loads_of m (suc r.0)));
    on = λ c k. let r = queue_of c k in subst On r.2 (queue_on (loads_of m (suc r.0)));
    visited = λ k i. chain k i;
    every = subst (λ n. Permᴰ (under (tree_of m)) (from 1 n)) (sym length_routes) g.leaves;
    centres_few = omega (arith, length_routes, g.centres_range);
    windows_few = omega (arith, g.chains_range);
    windows_low = low;
  }
    where
      there : (k : ℕ) → k < m.chains → some (visits (routes_of (centres_of m)) (suc k)) (from 1 (length (routes_of (centres_of m)))) ≡ true
      there k l =
          let v = g.visited k l in
          let e : 1 + v.0 ≡ suc v.0 = omega arith in
          some_of (visits (routes_of (centres_of m)) (suc k)) (subst (λ c. Memᴰ c (from 1 (length (routes_of (centres_of m))))) e (from_in 1 (length (routes_of (centres_of m))) v.0 (omega (arith, v.1, length_routes))))
          (visits_is v.0 k v.1 l ∙ visit-some (get_or m.loads (v.0 * 8 + k) 0) v.2)

      chain : (k : ℕ) → Memᴰ k (from 1 (length windows)) → some (visits (routes_of (centres_of m)) k) (from 1 (length (routes_of (centres_of m)))) ≡ true
      chain zero i = absurd (omega (arith, (from_out 1 (length windows) 0 i).0))
      chain (suc k) i = there k (omega (arith, (from_out 1 (length windows) (suc k) i).1))

-- ---- what is granted

-- a granted model is that of an accepted file
pub granted-from : (file : List ℕ) (lower : ℕ) (m : Model) (windows : List ℕ) → ask file lower ≡ granted m windows → ((read_file file).verdict ≡ Ok tt) × (lowering (read_file file).model lower ≡ granted m windows)
unfolding ask
granted-from file lower m windows e = by (read_file file).verdict refl e
  where
    by : (v : Result ⊤ FileRefusal) → (read_file file).verdict ≡ v → on_verdict v (lowering (read_file file).model lower) ≡ granted m windows → ((read_file file).verdict ≡ Ok tt) × (lowering (read_file file).model lower ≡ granted m windows)
    by (Ok u) w f = (w, f)
    by (Err r) w f = let z : ◌≡◌ {A = ℕ} 0 1 = cc in absurd (omega arith)

low_set : (xs : List ℕ) (i : ℕ) (bound : ℕ) → ((k : ℕ) → get_or xs k 0 ≤ bound) → (k : ℕ) → get_or (less_one xs i) k 0 ≤ bound
low_set [] i bound f k = f k
low_set (x ∷ xs) zero bound f zero = omega (arith, f 0)
low_set (x ∷ xs) zero bound f (suc k) = f (suc k)
low_set (x ∷ xs) (suc i) bound f zero = f 0
low_set (x ∷ xs) (suc i) bound f (suc k) = low_set xs i bound (λ j. f (suc j)) k

pub take_low : (n : ℕ) (xs : List ℕ) (bound : ℕ) → ((k : ℕ) → get_or xs k 0 ≤ bound) → (k : ℕ) → get_or (take n xs) k 0 ≤ bound
take_low zero xs bound f k = omega arith
take_low (suc n) [] bound f k = f k
take_low (suc n) (x ∷ xs) bound f zero = f 0
take_low (suc n) (x ∷ xs) bound f (suc k) = take_low n xs bound (λ j. f (suc j)) k

-- the windows of a run are the file's, or one of them is one less
pub lowering_windows : (m : Model) (lower : ℕ) (n : Model) (windows : List ℕ) → lowering m lower ≡ granted n windows → (m ≡ n) × (length windows ≡ length (windows_of m)) × ((bound : ℕ) → ((k : ℕ) → get_or (windows_of m) k 0 ≤ bound) → (k : ℕ) → get_or windows k 0 ≤ bound)
unfolding lowering
lowering_windows m zero n windows e = (cc, let d : windows ≡ windows_of m = cc in ap length d, λ bound f k. let d : windows_of m ≡ windows = cc in subst (λ w. get_or w k 0 ≤ bound) d (f k))
lowering_windows m (suc i) n windows e = by (ltb m.chains (suc i)) (eqb (get_or (windows_of m) i 0) 0) e
  where
    by : (a b : Bool) → pick_asked a (refused Refusal.NoSuchChain) (pick_asked b (refused Refusal.WindowZero) (granted m (less_one (windows_of m) i))) ≡ granted n windows → (m ≡ n) × (length windows ≡ length (windows_of m)) × ((bound : ℕ) → ((k : ℕ) → get_or (windows_of m) k 0 ≤ bound) → (k : ℕ) → get_or windows k 0 ≤ bound)
    by true b f = let z : ◌≡◌ {A = ℕ} 0 1 = cc in absurd (omega arith)
    by false true f = let z : ◌≡◌ {A = ℕ} 0 1 = cc in absurd (omega arith)
    by false false f =
        let d : less_one (windows_of m) i ≡ windows = cc in
        (cc, sym (ap length d) ∙ length-set (windows_of m) i (get_or (windows_of m) i 0 - 1), λ bound h k. subst (λ w. get_or w k 0 ≤ bound) d (low_set (windows_of m) i bound h k))

-- whatever file and chain are granted, the laws of the network apply
pub granted_fit : (file : List ℕ) (lower : ℕ) (m : Model) (windows : List ℕ) → ask file lower ≡ granted m windows → Guaranteed m × Fit m windows
unfolding windows_of
granted_fit file lower m windows e =
    let r = granted-from file lower m windows e in
    let l = lowering_windows (read_file file).model lower m windows r.1 in
    let g : Guaranteed m = subst Guaranteed l.0 (accepted file r.0) in
    let h : length windows ≡ m.chains = l.1 ∙ ap (λ n. length (windows_of n)) l.0 ∙ length_windows m g in
    (g, fit m g windows h (l.2 15 (subst (λ n. (k : ℕ) → get_or (windows_of n) k 0 ≤ 15) (sym l.0) (take_low m.chains m.windows 15 g.window_range))))
