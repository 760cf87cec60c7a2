-- The list of states holds exactly the placements, and none twice: a list of vectors, one a centre, is in it exactly if each chain's
-- messages add up to its window and stand only on centres it visits.
use Prim.Native.Nat.{ℕ, zero, suc, ◌+◌, ◌<◌}
use mathlib.Core.Path.{◌≡◌, refl, sym, ap, subst, ◌∙◌}
use mathlib.Core.Bool.{Bool, true, false, ◌&&◌, true≢false}
use mathlib.Core.List.Memᴰ
use mathlib.Core.List.{List, [], ◌∷◌, map, tail, head_d, Memᴰ, Nodup, Nodup-nil}
use native.Mathlib.Omega.{arith}
use native.Mathlib.Nat.{zero-add}
use lib.ListN.{length, get_or, length-map}
use Rattle.sums.specs.Lists.{from, when}
use Rattle.sums.specs.Sums.{sum_over, vector_splits}
use Rattle.sums.proofs.ListLaws.{length_from, get_or-from, get_or-map_in, flat_in, flat_out, nodup_more, nodup_map, nodup_flat}
use Rattle.sums.proofs.SplitLaws.{Split, split_same, split_at, split_of, vector_splits_in, vector_splits_out, vector_splits_nodup}
use Rattle.network.specs.Centre.{Route, fits}
use Rattle.network.specs.States.{State, empty_states, states, held, on_routes, Placement}

-- ---- from the list to placements

empty_out : (v : List ℕ) (s : State) → Memᴰ s (empty_states v) → (s ≡ []) × ((k : ℕ) → 0 ≡ get_or v k 0)
unfolding empty_states
empty_out [] s m = (Memᴰ.eq_of_singleton m, λ k. refl)
empty_out (zero ∷ v) s m = let r = empty_out v s m in (r.0, at r.1)
  where
    at : ((k : ℕ) → 0 ≡ get_or v k 0) → (k : ℕ) → 0 ≡ get_or (0 ∷ v) k 0
    at f zero = refl
    at f (suc k) = f k
empty_out (suc n ∷ v) s m = absurd (Memᴰ.not-nil m)

when_out : {A : Type 0} {a : A} (xs : List A) (b : Bool) → Memᴰ a (when b xs) → (b ≡ true) × Memᴰ a xs
unfolding when
when_out xs true m = (refl, m)
when_out xs false m = absurd (Memᴰ.not-nil m)

-- the states of the other centres, each with p's first part at the first one
abbrev with_first : Route → List Route → List ℕ × List ℕ → List State
with_first route routes p = when (fits route p.0) (map (λ s. p.0 ∷ s) (states routes p.1))

states_out : (routes : List Route) (s : State) (v : List ℕ) → Memᴰ s (states routes v) → (on_routes routes s ≡ true) × ((k : ℕ) → held k s ≡ get_or v k 0)
unfolding states on_routes sum_over
states_out [] s v m = let r = empty_out v s m in (ap (on_routes []) r.0, λ k. ap (held k) r.0 ∙ r.1 k)
states_out (route ∷ routes) s v m =
    let r = flat_out (with_first route routes) (vector_splits v) m in
    let w = when_out (map (λ s. r.0.0 ∷ s) (states routes r.0.1)) (fits route r.0.0) r.2 in
    let t = Memᴰ.of_map (λ s. r.0.0 ∷ s) (states routes r.0.1) w.1 in
    let below = states_out routes t.0 r.0.1 t.1 in
    let here : on_routes (route ∷ routes) (r.0.0 ∷ t.0) ≡ true = ap (λ b. b && on_routes routes t.0) w.0 ∙ below.0 in (
      ap (on_routes (route ∷ routes)) (sym t.2) ∙ here,
      λ k. ap (held k) (sym t.2) ∙ ap (λ n. get_or r.0.0 k 0 + n) (below.1 k) ∙ split_at (vector_splits_out v r.0 r.1) k,
    )

-- ---- from placements to the list

fits-length : (route : Route) (ns : List ℕ) → fits route ns ≡ true → length ns ≡ length route
unfolding fits
fits-length [] [] e = refl
fits-length [] (n ∷ ns) e = absurd (true≢false (sym e))
fits-length (b ∷ route) [] e = absurd (true≢false (sym e))
fits-length (true ∷ route) (n ∷ ns) e = ap suc (fits-length route ns e)
fits-length (false ∷ route) (zero ∷ ns) e = ap suc (fits-length route ns e)
fits-length (false ∷ route) (suc n ∷ ns) e = absurd (true≢false (sym e))

and_true : (a b : Bool) → (a && b) ≡ true → (a ≡ true) × (b ≡ true)
and_true true b e = (refl, e)
and_true false b e = absurd (true≢false (sym e))

-- every route has a mark for each of w chains
abbrev pub Even : ℕ → List Route → Type 0
Even w routes = (route : Route) → Memᴰ route routes → length route ≡ w

empty_in : (v : List ℕ) → ((k : ℕ) → k < length v → 0 ≡ get_or v k 0) → Memᴰ [] (empty_states v)
unfolding empty_states
empty_in [] f = Memᴰ.head refl
empty_in (zero ∷ v) f = empty_in v (λ k h. f (suc k) (omega arith))
empty_in (suc n ∷ v) f = absurd (omega (arith, f 0 (omega arith)))

states_in : (w : ℕ) (routes : List Route) → Even w routes → (s : State) (v : List ℕ) → length v ≡ w → on_routes routes s ≡ true → ((k : ℕ) → k < w → held k s ≡ get_or v k 0) → Memᴰ s (states routes v)
unfolding states on_routes sum_over when
states_in w [] even [] v h o f = empty_in v (λ k l. f k (omega arith))
states_in w [] even (ns ∷ s) v h o f = absurd (true≢false (sym o))
states_in w (route ∷ routes) even [] v h o f = absurd (true≢false (sym o))
states_in w (route ∷ routes) even (ns ∷ s) v h o f =
    let b = and_true (fits route ns) (on_routes routes s) o in
    let rest : List ℕ = map (λ k. held k s) (from 0 w) in
    let long : length rest ≡ w = length-map (from 0 w) (λ k. held k s) ∙ length_from 0 w in
    let wide : length ns ≡ w = fits-length route ns b.0 ∙ even route (Memᴰ.head refl) in
    let entry : (k : ℕ) → k < w → get_or rest k 0 ≡ held k s = λ k l. get_or-map_in (λ k. held k s) (from 0 w) k 0 0 (omega (arith, length_from 0 w)) ∙ ap (λ i. held i s) (get_or-from 0 w k l ∙ zero-add k) in
    let split : Split ns rest v = split_of ns rest v (wide ∙ sym h) (long ∙ sym h) (λ k l. ap (λ n. get_or ns k 0 + n) (entry k (omega arith)) ∙ f k (omega arith)) in
    flat_in (with_first route routes) (vector_splits_in split)
    (rw b.0 (Memᴰ.map (λ s. ns ∷ s) (states_in w routes (λ r m. even r (Memᴰ.tail m)) s rest long b.1 (λ k l. sym (entry k l)))))

-- ---- the two laws

-- the list of states holds exactly the placements
pub placement_of : (routes : List Route) (windows : List ℕ) (s : State) → Memᴰ s (states routes windows) → Placement routes windows s
placement_of routes windows s m = let r = states_out routes s windows m in record { routed = r.0; full = λ k h. r.1 k }

pub placement_in : (routes : List Route) (windows : List ℕ) → Even (length windows) routes → (s : State) → Placement routes windows s → Memᴰ s (states routes windows)
placement_in routes windows even s p = states_in (length windows) routes even s windows refl p.routed p.full

-- and none twice
empty_nodup : (v : List ℕ) → Nodup (empty_states v)
unfolding empty_states
empty_nodup [] = nodup_more Memᴰ.not-nil Nodup-nil
empty_nodup (zero ∷ v) = empty_nodup v
empty_nodup (suc n ∷ v) = Nodup-nil

when_nodup : {A : Type 0} (b : Bool) (xs : List A) → Nodup xs → Nodup (when b xs)
unfolding when
when_nodup true xs d = d
when_nodup false xs d = Nodup-nil

pub states_nodup : (routes : List Route) (v : List ℕ) → Nodup (states routes v)
unfolding states head_d
states_nodup [] v = empty_nodup v
states_nodup (route ∷ routes) v =
    nodup_flat {A = List ℕ × List ℕ} {B = State} (with_first route routes) (vector_splits v) (vector_splits_nodup v)
    (λ p. when_nodup (fits route p.0) (map (λ s. p.0 ∷ s) (states routes p.1)) (nodup_map (λ s. p.0 ∷ s) (λ x y e. ap tail e) (states routes p.1) (states_nodup routes p.1)))
    (λ x y b mx my m1 m2.
    let r = Memᴰ.of_map (λ s. x.0 ∷ s) (states routes x.1) (when_out (map (λ s. x.0 ∷ s) (states routes x.1)) (fits route x.0) m1).1 in
    let t = Memᴰ.of_map (λ s. y.0 ∷ s) (states routes y.1) (when_out (map (λ s. y.0 ∷ s) (states routes y.1)) (fits route y.0) m2).1 in
    let e : x.0 ≡ y.0 = ap (λ s. head_d s []) (r.2 ∙ sym t.2) in
    let k : x.1 ≡ y.1 = split_same (vector_splits_out v x mx) (subst (λ j. Split j y.1 v) (sym e) (vector_splits_out v y my)) in
    λ i. (e i, k i))
