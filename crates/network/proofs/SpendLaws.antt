-- Runs under a limit. Spending one list of pairs and then another is spending them in a row, unless a pair stopped the first; a run does
-- the pairs whose sums lead below the limit, and only a pair that would reach it stops it (went).
use Prim.Native.Nat.{ℕ, zero, suc, ◌+◌, ◌-◌, ◌≤◌, ◌<◌}
use mathlib.Core.Path.{◌≡◌, refl, sym, ap, subst, ◌∙◌}
use mathlib.Core.Bool.{Bool, true, false, true≢false}
use mathlib.Core.Logic.{◌⊎◌, inl, inr}
use mathlib.Core.List.Memᴰ
use mathlib.Core.List.{List, [], ◌∷◌, ◌++◌, Memᴰ}
use native.Mathlib.Omega.{arith}
use native.Mathlib.Nat.{add-zero}
use lib.Dec.{ltb, leb}
use lib.ListN.{length, get_or, take, drop, length-take, length-drop, drop_of_length-le}
use lib.Seq.{drop-drop, drop-length, drop-cons, get_or-take, get_or-drop}
use borrow.Author.Tests.{leb-true, leb-false, ltb-true, ltb-false, lt-ltb, le-ltb}
use Rattle.sums.specs.Choice.{choose}
use Rattle.network.specs.Pairs.{Pair}
use Rattle.network.specs.Run.{sum_at, add, leave, no_pair, Progress, spend}
use Rattle.network.proofs.RunLaws.{trace, length-add, add_other}

pub spend-append : (m : ℕ) (ps qs : List Pair) (done : ℕ) (A : List ℕ)
    → spend m (ps ++ qs) done A ≡ choose (spend m ps done A).stopped (λ u. spend m ps done A) (λ u. spend m qs (spend m ps done A).done (spend m ps done A).area)
unfolding spend
spend-append m [] qs done A = refl
spend-append m (p ∷ ps) qs done A = by (ltb (sum_at A p) m) (spend-append m ps qs (suc done) (add A p))
  where
    here : Bool → Progress
    here t = choose t (λ u. spend m ps (suc done) (add A p)) (λ u. record { done = done; area = A; stopped = true })

    by : (t : Bool) → spend m (ps ++ qs) (suc done) (add A p) ≡ choose (spend m ps (suc done) (add A p)).stopped (λ u. spend m ps (suc done) (add A p)) (λ u. spend m qs (spend m ps (suc done) (add A p)).done (spend m ps (suc done) (add A p)).area)
        → choose t (λ u. spend m (ps ++ qs) (suc done) (add A p)) (λ u. record { done = done; area = A; stopped = true }) ≡ choose (here t).stopped (λ u. here t) (λ u. spend m qs (here t).done (here t).area)
    by true k = k
    by false k = refl

-- where no pair stops, all are done
pub spend_done : (m : ℕ) (ps : List Pair) (done : ℕ) (A : List ℕ) → (spend m ps done A).stopped ≡ false → (spend m ps done A).done ≡ done + length ps
unfolding spend
spend_done m [] done A e = sym (add-zero done)
spend_done m (p ∷ ps) done A e = by (ltb (sum_at A p) m) e (spend_done m ps (suc done) (add A p))
  where
    here : Bool → Progress
    here t = choose t (λ u. spend m ps (suc done) (add A p)) (λ u. record { done = done; area = A; stopped = true })

    by : (t : Bool) → (here t).stopped ≡ false → ((spend m ps (suc done) (add A p)).stopped ≡ false → (spend m ps (suc done) (add A p)).done ≡ suc done + length ps) → (here t).done ≡ done + suc (length ps)
    by true d k = k d ∙ omega arith
    by false d k = absurd (true≢false d)

pub spend-length : (m : ℕ) (ps : List Pair) (done : ℕ) (A : List ℕ) → length (spend m ps done A).area ≡ length A
unfolding spend
spend-length m [] done A = refl
spend-length m (p ∷ ps) done A = by (ltb (sum_at A p) m) (spend-length m ps (suc done) (add A p))
  where
    by : (t : Bool) → length (spend m ps (suc done) (add A p)).area ≡ length (add A p) → length (choose t (λ u. spend m ps (suc done) (add A p)) (λ u. record { done = done; area = A; stopped = true })).area ≡ length A
    by true k = k ∙ length-add A p
    by false k = refl

-- after a portion of b pairs from `done` on, the next portion begins where the first ended
pub portion_next : (l : List Pair) (done b c : ℕ) → done ≤ length l → take c (drop (done + length (take b (drop done l))) l) ≡ take c (drop b (drop done l))
portion_next l done b c h = by (leb b (length l - done)) refl
  where
    by : (t : Bool) → leb b (length l - done) ≡ t → take c (drop (done + length (take b (drop done l))) l) ≡ take c (drop b (drop done l))
    by true e =
        let k : length (take b (drop done l)) ≡ b = length-take b (drop done l) ∙ omega (arith, leb-true b (length l - done) e, length-drop done l) in
        rw k (ap (take c) (sym (drop-drop b done l)))
    by false e =
        let f = leb-false b (length l - done) e in
        let k : done + length (take b (drop done l)) ≡ length l = ap (λ n. done + n) (length-take b (drop done l)) ∙ omega (arith, length-drop done l) in
        let g : length (drop done l) ≤ b = omega (arith, length-drop done l) in
        let x : drop b (drop done l) ≡ [] = drop_of_length-le (drop done l) g in
        let y : drop (length l) l ≡ [] = drop-length l in
        rw (k, x, y)

-- how many lead below m
unfoldable pub lead : ℕ → List ℕ → ℕ
lead m [] = 0
lead m (x ∷ xs) = choose (ltb x m) (λ u. suc (lead m xs)) (λ u. 0)

-- what a run under a limit comes to, in the two ways it can end
pub record Went (m : ℕ) (ps : List Pair) (done : ℕ) (A : List ℕ) : Type 0 where
  pub steps : ℕ
  pub leads : steps ≡ lead m (trace ps A)
  pub few : steps ≤ length ps
  pub number : (spend m ps done A).done ≡ done + steps
  pub left : (spend m ps done A).area ≡ leave (take steps ps) A
  pub onward : (spend m ps done A).stopped ≡ false → steps ≡ length ps
  pub reached : (spend m ps done A).stopped ≡ true → (steps < length ps) × (m ≤ sum_at (spend m ps done A).area (get_or ps steps no_pair))

-- a run does the leading pairs, and only a pair that would reach the limit stops it
pub went : (m : ℕ) (ps : List Pair) (done : ℕ) (A : List ℕ) → Went m ps done A
unfolding spend leave trace lead
went m [] done A = record { steps = 0; leads = refl; few = omega arith; number = omega arith; left = refl; onward = λ e. refl; reached = λ e. absurd (true≢false (sym e)) }
went m (p ∷ ps) done A = by (ltb (sum_at A p) m) refl (went m ps (suc done) (add A p))
  where
    here : Bool → Progress
    here t = choose t (λ u. spend m ps (suc done) (add A p)) (λ u. record { done = done; area = A; stopped = true })

    by : (t : Bool) → ltb (sum_at A p) m ≡ t → Went m ps (suc done) (add A p) → Went m (p ∷ ps) done A
    by true e w =
        let d : spend m (p ∷ ps) done A ≡ spend m ps (suc done) (add A p) = ap here e in
        record {
          steps = suc w.steps;
          leads = ap suc w.leads ∙ ap (λ t. choose t (λ u. suc (lead m (trace ps (add A p)))) (λ u. 0)) (sym e);
          few = omega (arith, w.few);
          number = ap (λ x. x.done) d ∙ w.number ∙ omega arith;
          left = ap (λ x. x.area) d ∙ w.left;
          onward = λ s. ap suc (w.onward (sym (ap (λ x. x.stopped) d) ∙ s));
          reached = λ s. let r = w.reached (sym (ap (λ x. x.stopped) d) ∙ s) in (omega (arith, r.0), subst (λ x. m ≤ sum_at x.area (get_or ps w.steps no_pair)) (sym d) r.1);
        }
    by false e w =
        let d : spend m (p ∷ ps) done A ≡ record { done = done; area = A; stopped = true } = ap here e in
        record {
          steps = 0;
          leads = ap (λ t. choose t (λ u. suc (lead m (trace ps (add A p)))) (λ u. 0)) (sym e);
          few = omega arith;
          number = ap (λ x. x.done) d ∙ sym (add-zero done);
          left = ap (λ x. x.area) d;
          onward = λ s. absurd (true≢false (sym (ap (λ x. x.stopped) d) ∙ s));
          reached = λ s. (omega arith, subst (λ x. m ≤ sum_at x.area p) (sym d) (ltb-false (sum_at A p) m e));
        }

-- where all lead below m, each is below m
pub lead_below : (m : ℕ) (xs : List ℕ) → lead m xs ≡ length xs → (x : ℕ) → Memᴰ x xs → x < m
unfolding lead
lead_below m [] e x k = absurd (Memᴰ.not-nil k)
lead_below m (y ∷ ys) e x k = by (ltb y m) refl e (Memᴰ.cases_cons k) (lead_below m ys)
  where
    by : (t : Bool) → ltb y m ≡ t → choose t (λ u. suc (lead m ys)) (λ u. 0) ≡ suc (length ys) → (x ≡ y) ⊎ Memᴰ x ys → (lead m ys ≡ length ys → (z : ℕ) → Memᴰ z ys → z < m) → x < m
    by true t d (inl s) f = omega (arith, ltb-true y m t)
    by true t d (inr n) f = f (omega arith) x n
    by false t d o f = absurd (omega arith)

-- where steps pairs lead below m, the sum of each of them is below m
pub trace_is : (ps : List Pair) (A : List ℕ) (i : ℕ) (d : Pair) → i < length ps → get_or (trace ps A) i 0 ≡ sum_at (leave (take i ps) A) (get_or ps i d)
unfolding leave trace
trace_is [] A i d h = absurd (omega arith)
trace_is (p ∷ ps) A zero d h = refl
trace_is (p ∷ ps) A (suc i) d h = trace_is ps (add A p) i d (omega arith)

pub lead_at : (m : ℕ) (xs : List ℕ) (i : ℕ) → i < lead m xs → get_or xs i 0 < m
unfolding lead
lead_at m [] i h = absurd (omega arith)
lead_at m (x ∷ xs) i h = by (ltb x m) refl i h (lead_at m xs)
  where
    by : (t : Bool) → ltb x m ≡ t → (i : ℕ) → i < choose t (λ u. suc (lead m xs)) (λ u. 0) → ((i : ℕ) → i < lead m xs → get_or xs i 0 < m) → get_or (x ∷ xs) i 0 < m
    by true e zero k f = ltb-true x m e
    by true e (suc i) k f = f i (omega arith)
    by false e i k f = absurd (omega arith)

-- a run that a pair has stopped, gone on with: the same pair stops it again at once, unless there is no budget for it
pub spend_again : (m : ℕ) (l : List Pair) (done b n : ℕ) (A : List ℕ) → (spend m (take b (drop done l)) done A).stopped ≡ true
    → (let p = spend m (take b (drop done l)) done A in
    spend m (take n (drop p.done l)) p.done p.area ≡ record { done = p.done; area = p.area; stopped = ltb 0 n })
unfolding spend
spend_again m l done b zero A e = ap (λ t. record { done = (spend m (take b (drop done l)) done A).done; area = (spend m (take b (drop done l)) done A).area; stopped = t }) (sym (le-ltb 0 0 (omega arith)))
spend_again m l done b (suc n) A e =
    let p = spend m (take b (drop done l)) done A in
    let w = went m (take b (drop done l)) done A in
    let r = w.reached e in
    let near : w.steps < length (drop done l) = omega (arith, r.0, length-take b (drop done l)) in
    let inside : p.done < length l = omega (arith, w.number, near, length-drop done l) in
    let next = get_or l p.done no_pair in
    let same : next ≡ get_or (take b (drop done l)) w.steps no_pair =
    ap (λ i. get_or l i no_pair) w.number
    ∙ sym (get_or-take b (drop done l) w.steps no_pair (omega (arith, r.0, length-take b (drop done l))) ∙ get_or-drop done l w.steps no_pair) in
    let high : ltb (sum_at p.area next) m ≡ false = le-ltb (sum_at p.area next) m (subst (λ x. m ≤ sum_at p.area x) (sym same) r.1) in
    ap (λ ps. spend m (take (suc n) ps) p.done p.area) (drop-cons l p.done no_pair inside)
    ∙ ap (λ t. choose t (λ u. spend m (take n (drop (suc p.done) l)) (suc p.done) (add p.area next)) (λ u. record { done = p.done; area = p.area; stopped = true })) high
    ∙ ap (λ t. record { done = p.done; area = p.area; stopped = t }) (sym (lt-ltb 0 (suc n) (omega arith)))

-- a cell that is no pair's result stays
pub spend_past : (m : ℕ) (ps : List Pair) (done : ℕ) (A : List ℕ) (i : ℕ) → ((p : Pair) → Memᴰ p ps → i ≡ p.result → ⊥) → get_or (spend m ps done A).area i 0 ≡ get_or A i 0
unfolding spend
spend_past m [] done A i f = refl
spend_past m (p ∷ ps) done A i f = by (ltb (sum_at A p) m) (spend_past m ps (suc done) (add A p) i (λ q k. f q (Memᴰ.tail k)))
  where
    by : (t : Bool) → get_or (spend m ps (suc done) (add A p)).area i 0 ≡ get_or (add A p) i 0 → get_or (choose t (λ u. spend m ps (suc done) (add A p)) (λ u. record { done = done; area = A; stopped = true })).area i 0 ≡ get_or A i 0
    by true k = k ∙ add_other A p i (f p (Memᴰ.head refl))
    by false k = refl
