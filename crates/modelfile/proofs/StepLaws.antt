-- What one record does: it is due (Due), and then it is one of five steps from place to place (Taken), the end, or a refusal
-- (Outcome), each with what its tests have shown. One law, record_outcome, follows the tests once; all other laws go by these cases.
use Prim.Native.Nat.{ℕ, zero, suc, ◌+◌, ◌-◌, ◌<◌, ◌≤◌}
use mathlib.Core.Path.{◌≡◌, refl, sym, ap, subst, ◌∙◌}
use mathlib.Core.Bool.{Bool, true, false, not, ◌&&◌, ◌||◌, true≢false}
use mathlib.Core.List.{List, [], ◌∷◌}
use native.Mathlib.Omega.{arith}
use lib.Dec.{ltb, leb, eqb}
use lib.ListN.{length, get_or}
use borrow.Author.Tests.{ltb-true, ltb-false, leb-false, eqb-true, eqb-false, not-false, eq-eqb}
use Rattle.std.specs.Prelude.{Ok}
use Rattle.sums.specs.Lists.{some}
use Rattle.modelfile.specs.Ends.{last_centre, last_chain, largest_window, largest_load, outside}
use Rattle.modelfile.specs.Model.{with_size, with_window, slot, with_load, with_leaf, with_join}
use Rattle.modelfile.specs.Records.{more, refuse, pick, chain_without_centre, centre_missing, read_size, read_window, load_in, read_load, read_leaf, read_join, read_end, body_length, pick_kinds, due, read_body, read_record}
use Rattle.modelfile.specs.declared.Fault.{Fault}
use Rattle.modelfile.specs.declared.Model.{Model}
use Rattle.modelfile.specs.declared.Step.{Step}
use Rattle.modelfile.specs.declared.Stepped.{Stepped}

-- ---- a field in its range

pub record Within (first last n : ℕ) : Type 0 where
  pub low : first ≤ n
  pub high : n ≤ last

either_false : (a b : Bool) → (a || b) ≡ false → (a ≡ false) × (b ≡ false)
either_false true b e = absurd (true≢false e)
either_false false b e = (refl, e)

pub outside-false : (first last n : ℕ) → outside first last n ≡ false → Within first last n
unfolding outside
outside-false first last n e =
    let r = either_false (ltb n first) (ltb last n) e in
    record { low = ltb-false n first r.0; high = ltb-false last n r.1 }

-- ---- the kinds that are due, each with where the file then stands

pub data Due (m : Model) : ℕ → Type 0 where
  size : m.centres ≡ 0 → Due m 1
  window : 1 ≤ m.centres → m.given < m.chains → Due m 2
  load : 1 ≤ m.centres → m.chains ≤ m.given → m.count ≡ 0 → Due m 3
  leaf : 1 ≤ m.centres → m.chains ≤ m.given → Due m 4
  join : 1 ≤ m.centres → m.chains ≤ m.given → 1 ≤ m.count → Due m 5
  end : 1 ≤ m.centres → m.chains ≤ m.given → 1 ≤ m.count → Due m 6

pub positive : (n : ℕ) → eqb n 0 ≡ false → 1 ≤ n
positive zero e = absurd (eqb-false 0 0 e refl)
positive (suc n) e = omega arith

module _ (m : Model) (kind : ℕ) where
  one_of : (n : ℕ) (ns : List ℕ) → Due m n → (some (eqb kind) ns ≡ true → Due m kind) → some (eqb kind) (n ∷ ns) ≡ true → Due m kind
  unfolding some
  one_of n ns d k e = by (eqb kind n) refl e
    where
      by : (t : Bool) → eqb kind n ≡ t → (t || some (eqb kind) ns) ≡ true → Due m kind
      by true a b = subst (Due m) (sym (eqb-true kind n a)) d
      by false a b = k b

  none_of : some (eqb kind) [] ≡ true → Due m kind
  unfolding some
  none_of e = absurd (true≢false (sym e))

  pub due_is : some (eqb kind) (due m) ≡ true → Due m kind
  unfolding due
  due_is = by (eqb m.centres 0) (ltb m.given m.chains) (eqb m.count 0) refl refl refl
    where
      by : (a b c : Bool) → eqb m.centres 0 ≡ a → ltb m.given m.chains ≡ b → eqb m.count 0 ≡ c → some (eqb kind) (pick_kinds a (1 ∷ []) (pick_kinds b (2 ∷ []) (pick_kinds c (3 ∷ 4 ∷ []) (4 ∷ 5 ∷ 6 ∷ [])))) ≡ true → Due m kind
      by true b c p q r = one_of 1 [] (Due.size (eqb-true _ _ p)) none_of
      by false true c p q r = one_of 2 [] (Due.window (positive _ p) (ltb-true _ _ q)) none_of
      by false false true p q r =
          let s = positive _ p in
          let w = ltb-false _ _ q in
          let z = eqb-true _ _ r in
          one_of 3 (4 ∷ []) (Due.load s w z) (one_of 4 [] (Due.leaf s w) none_of)
      by false false false p q r =
          let s = positive _ p in
          let w = ltb-false _ _ q in
          let n = positive _ r in
          one_of 4 (5 ∷ 6 ∷ []) (Due.leaf s w) (one_of 5 (6 ∷ []) (Due.join s w n) (one_of 6 [] (Due.end s w n) none_of))

-- a window is due only while one is missing
pub window_missing : {m : Model} → Due m 2 → m.given < m.chains
window_missing (Due.window s w) = w

-- ---- the steps, and all outcomes

-- from the place and model of a record to those of the next
pub data Taken (at : ℕ) (m : Model) : ℕ → Model → Type 0 where
  size : (c k : ℕ) → m.centres ≡ 0 → Within 1 last_centre c → Within 1 last_chain k → Taken at m (at + 3) (with_size m c k)
  window : (n : ℕ) → m.given < m.chains → n ≤ largest_window → Taken at m (at + 3) (with_window m n)
  load : (c k l : ℕ) → m.count ≡ 0 → Within 1 m.centres c → Within 1 m.chains k → Within 1 largest_load l → m.passed ≤ slot c k → Taken at m (at + 5) (with_load m c k l)
  leaf : (c : ℕ) → m.chains ≤ m.given → Within 1 m.centres c → (m.count ≡ 0 → chain_without_centre m ≡ false) → get_or m.placed (c - 1) 0 ≡ 0 → Taken at m (at + 2) (with_leaf m at c)
  join : 1 ≤ m.count → 2 ≤ m.trees → Taken at m (at + 1) (with_join m)

-- what a right end record has shown
pub record Ended (m : Model) : Type 0 where
  pub centres_some : 1 ≤ m.centres
  pub windows_given : m.chains ≤ m.given
  pub nodes_some : 1 ≤ m.count
  pub one_left : m.trees ≡ 1
  pub all_placed : centre_missing m ≡ false

pub data Outcome (rest : List ℕ) (at : ℕ) (m : Model) : Stepped → Type 0 where
  goes : {n : Model} → body_length (get_or rest 0 0) < length rest → Taken at m (suc at + body_length (get_or rest 0 0)) n → Outcome rest at m (more n)
  ends : Ended m → length rest ≡ 1 → Outcome rest at m (record { step = Ok Step.Last; model = m })
  stops : {fault : Fault} {place : ℕ} → place ≤ at + length rest → Outcome rest at m (refuse fault place m)

-- 5 is judged at the first leaf
first_judged : (m : Model) → (eqb m.count 0 && chain_without_centre m) ≡ false → m.count ≡ 0 → chain_without_centre m ≡ false
first_judged m e z = ap (λ t. t && chain_without_centre m) (sym (eq-eqb _ _ z)) ∙ e

module _ (rest : List ℕ) (at : ℕ) (m : Model) where
  -- a test that refuses, or the tests after it
  stop_or : (t : Bool) (fault : Fault) (place : ℕ) {on : Stepped} → place ≤ at + length rest → (t ≡ false → Outcome rest at m on) → Outcome rest at m (pick t (refuse fault place m) on)
  stop_or true fault place p k = Outcome.stops p
  stop_or false fault place p k = k refl

  module _ (i : body_length (get_or rest 0 0) < length rest) where
    goes_to : {to : ℕ} {n : Model} → Taken at m to n → to ≡ suc at + body_length (get_or rest 0 0) → Outcome rest at m (more n)
    goes_to {n = n} t e = Outcome.goes i (subst (λ p. Taken at m p n) e t)

    body_outcome : (kind : ℕ) → get_or rest 0 0 ≡ kind → Due m kind → Outcome rest at m (read_body kind rest at m)
    unfolding read_body read_size read_window read_load read_leaf read_join read_end body_length
    body_outcome kind e (Due.size z) =
        let b : body_length (get_or rest 0 0) ≡ 2 = ap body_length e in
        stop_or (outside 1 last_centre (get_or rest 1 0)) Fault.OutOfRange (at + 1) (omega arith) λ f.
        stop_or (outside 1 last_chain (get_or rest 2 0)) Fault.OutOfRange (at + 2) (omega arith) λ g.
        goes_to (Taken.size _ _ z (outside-false _ _ _ f) (outside-false _ _ _ g)) (omega arith)
    body_outcome kind e (Due.window s w) =
        let b : body_length (get_or rest 0 0) ≡ 2 = ap body_length e in
        stop_or (not (eqb (get_or rest 1 0) (m.given + 1))) Fault.OutOfRange (at + 1) (omega arith) λ f.
        stop_or (outside 0 largest_window (get_or rest 2 0)) Fault.OutOfRange (at + 2) (omega arith) λ g.
        goes_to (Taken.window _ w (outside-false 0 largest_window _ g).high) (omega arith)
    body_outcome kind e (Due.load s w z) =
        let b : body_length (get_or rest 0 0) ≡ 4 = ap body_length e in
        stop_or (outside 1 m.centres (get_or rest 1 0)) Fault.OutOfRange (at + 1) (omega arith) λ f.
        stop_or (outside 1 m.chains (get_or rest 2 0)) Fault.OutOfRange (at + 2) (omega arith) λ g.
        stop_or (outside 1 largest_load (load_in rest)) Fault.OutOfRange (at + 3) (omega arith) λ h.
        stop_or (ltb (slot (get_or rest 1 0) (get_or rest 2 0)) m.passed) Fault.OutOfOrder at (omega arith) λ o.
        goes_to (Taken.load _ _ _ z (outside-false _ _ _ f) (outside-false _ _ _ g) (outside-false _ _ _ h) (ltb-false _ _ o)) (omega arith)
    body_outcome kind e (Due.leaf s w) =
        let b : body_length (get_or rest 0 0) ≡ 1 = ap body_length e in
        stop_or (outside 1 m.centres (get_or rest 1 0)) Fault.OutOfRange (at + 1) (omega arith) λ f.
        stop_or (eqb m.count 0 && chain_without_centre m) Fault.ChainWithoutCentre at (omega arith) λ g.
        stop_or (not (eqb (get_or m.placed (get_or rest 1 0 - 1) 0) 0)) Fault.CentreAgain (at + 1) (omega arith) λ h.
        goes_to (Taken.leaf _ w (outside-false _ _ _ f) (first_judged m g) (eqb-true _ _ (not-false _ h))) (omega arith)
    body_outcome kind e (Due.join s w n) =
        let b : body_length (get_or rest 0 0) ≡ 0 = ap body_length e in
        stop_or (ltb m.trees 2) Fault.TooFewSubtrees at (omega arith) λ f.
        goes_to (Taken.join n (ltb-false _ _ f)) (omega arith)
    body_outcome kind e (Due.end s w n) =
        stop_or (not (eqb m.trees 1) || centre_missing m) Fault.NotOneTree at (omega arith) λ f.
        stop_or (ltb 1 (length rest)) Fault.PastTheEnd (at + 1) (omega arith) λ g.
        let r = either_false (not (eqb m.trees 1)) (centre_missing m) f in
        let l = ltb-false 1 (length rest) g in
        Outcome.ends (record { centres_some = s; windows_given = w; nodes_some = n; one_left = eqb-true _ _ (not-false _ r.0); all_placed = r.1 }) (omega arith)

  pub record_outcome : Outcome rest at m (read_record rest at m)
  unfolding read_record
  record_outcome =
      let kind = get_or rest 0 0 in
      stop_or (not (some (eqb kind) (due m))) Fault.NotDue at (omega arith) λ d.
      stop_or (leb (length rest) (body_length kind)) Fault.Incomplete (at + length rest) (omega arith) λ i.
      body_outcome (leb-false _ _ i) kind refl (due_is m kind (not-false _ d))
