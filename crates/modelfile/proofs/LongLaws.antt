-- "The longest file has 715 bytes": loads ascend, so there are at most as many as slots; each centre is one leaf at most. So no record
-- begins past place 714, each due record ends within 716 bytes, and those settle the reading of any longer file.
use Prim.Native.Nat.{ℕ, zero, suc, ◌+◌, ◌*◌, ◌<◌, ◌≤◌}
use mathlib.Core.Path.{◌≡◌, refl, ap, subst}
use mathlib.Core.Bool.{Bool, true, false, not}
use mathlib.Core.List.{List, [], ◌∷◌}
use native.Mathlib.Omega.{arith}
use lib.Dec.{ltb, leb, eqb}
use lib.ListN.{length, get_or, take}
use lib.Seq.{take_all, get_or-take, length-take-le}
use borrow.Author.Tests.{ltb-true, ltb-false, lt-ltb, lt-leb}
use Rattle.sums.specs.Lists.{some}
use Rattle.std.specs.Prelude.{Ok}
use Rattle.modelfile.specs.Model.{empty_model, with_size, with_window, with_load, with_leaf, with_join}
use Rattle.modelfile.specs.Records.{pick, refuse, read_size, read_window, read_load, read_leaf, read_join, read_end, body_length, due, read_body, read_record}
use Rattle.modelfile.specs.File.{onward, read_from, read_file}
use Rattle.modelfile.specs.declared.Model.{Model}
use Rattle.modelfile.specs.declared.Fault.{Fault}
use Rattle.modelfile.specs.declared.Stepped.{Stepped}
use Rattle.modelfile.proofs.StepLaws.{Due, due_is, Taken, Outcome, record_outcome}
use Rattle.modelfile.proofs.WalkLaws.{Keeps, reached}
use Rattle.modelfile.proofs.InTreeLaws.{in_tree, in_tree_few}
use Rattle.modelfile.proofs.SoundLaws.{leaf_more, slot_room}
use Rattle.modelfile.proofs.AcceptedLaws.{Kept, kept_empty, kept_step}

-- ---- how far the records before a place can reach

-- 3 bytes for the size, 3 a window, at most 5 a slot passed, 2 a leaf, 1 a join
record Near (at : ℕ) (m : Model) : Type 0 where
  kept : Kept m
  start : m.centres ≡ 0 → at ≡ 0
  slots : m.passed ≤ 128
  trees_some : 1 ≤ m.count → 1 ≤ m.trees
  place : at ≤ 3 + 3 * m.given + 5 * m.passed + length (in_tree 1 m.placed) + m.count

near_empty : Near 0 empty_model
unfolding empty_model in_tree
near_empty = record { kept = kept_empty; start = λ e. refl; slots = omega arith; trees_some = λ h. h; place = omega arith }

near_step : Keeps Near
unfolding with_size with_window with_load with_leaf with_join
near_step at m to n v (Taken.size c k z wc wk) =
    record { kept = kept_step at m to n v.kept (Taken.size c k z wc wk); start = λ e. absurd (omega arith); slots = v.slots; trees_some = v.trees_some; place = omega (arith, v.start z) }
near_step at m to n v (Taken.window w h r) =
    record { kept = kept_step at m to n v.kept (Taken.window w h r); start = λ e. absurd (omega (arith, v.kept.ordered.chains_none e)); slots = v.slots; trees_some = v.trees_some; place = omega (arith, v.place) }
near_step at m to n v (Taken.load c k l z wc wk wl p) =
    record { kept = kept_step at m to n v.kept (Taken.load c k l z wc wk wl p); start = λ e. absurd (omega arith); slots = omega (arith, slot_room m v.kept.sound c k wc wk); trees_some = v.trees_some; place = omega (arith, v.place) }
near_step at m to n v (Taken.leaf c g w u e) =
    record { kept = kept_step at m to n v.kept (Taken.leaf c g w u e); start = λ z. absurd (omega arith); slots = v.slots; trees_some = λ h. omega arith; place = omega (arith, v.place, leaf_more m v.kept.sound c w e) }
near_step at m to n v (Taken.join a h) =
    record { kept = kept_step at m to n v.kept (Taken.join a h); start = λ z. absurd (omega (arith, v.kept.ordered.nodes_none z)); slots = v.slots; trees_some = λ k. omega arith; place = omega (arith, v.place) }

-- every record begins at 714 or before
module _ (at : ℕ) (m : Model) (v : Near at m) where
  -- the parts of `place`, each with its largest value
  near_sum : at ≤ 683 + m.count
  near_sum = omega (arith, v.place, v.slots, v.kept.ordered.given_few, v.kept.sound.chains_few, in_tree_few 1 m.placed, v.kept.sound.placed_long)

  near_place : at ≤ 714
  near_place = by m.count refl
    where
      by : (k : ℕ) → m.count ≡ k → at ≤ 714
      by zero e = omega (arith, near_sum)
      by (suc k) e = omega (arith, near_sum, v.trees_some (omega arith), v.kept.sound.nodes_few, in_tree_few 1 m.placed, v.kept.sound.placed_long)

pub accepted_short : (file : List ℕ) → (read_file file).verdict ≡ Ok tt → length file ≤ 715
accepted_short file e = let r = reached Near near_step near_empty file e in omega (arith, r.last, near_place _ _ r.kept)

-- ---- the first 716 bytes

-- a due record ends there
near_room : (at : ℕ) (m : Model) (kind : ℕ) → Near at m → Due m kind → at + body_length kind < 716
unfolding body_length
near_room at m kind v (Due.size z) = omega (arith, v.start z)
near_room at m kind v (Due.window s w) = by m.count refl
  where
    by : (k : ℕ) → m.count ≡ k → at + 2 < 716
    by zero e = omega (arith, near_sum at m v)
    by (suc k) e = absurd (omega (arith, v.kept.ordered.given_all (omega arith)))
near_room at m kind v (Due.load s w z) = omega (arith, near_sum at m v)
near_room at m kind v (Due.leaf s w) = omega (arith, near_place at m v)
near_room at m kind v (Due.join s w n) = omega (arith, near_place at m v)
near_room at m kind v (Due.end s w n) = omega (arith, near_place at m v)

-- a record that ends among the first n bytes reads the same without the rest
module _ (n : ℕ) (rest : List ℕ) (at : ℕ) (m : Model) (two : 2 ≤ n) (long : n ≤ length rest) where
  same : (i : ℕ) → i < n → get_or (take n rest) i 0 ≡ get_or rest i 0
  same i h = get_or-take n rest i 0 h

  body_front : (kind : ℕ) → Due m kind → body_length kind < n → read_body kind (take n rest) at m ≡ read_body kind rest at m
  unfolding read_body read_size read_window read_load read_leaf read_join read_end body_length
  body_front kind (Due.size z) h = rw (same 1 (omega arith), same 2 (omega arith))
  body_front kind (Due.window s w) h = rw (same 1 (omega arith), same 2 (omega arith))
  body_front kind (Due.load s w z) h = rw (same 1 (omega arith), same 2 (omega arith), same 3 (omega arith), same 4 (omega arith))
  body_front kind (Due.leaf s w) h = rw (same 1 (omega arith))
  body_front kind (Due.join s w k) h = refl
  body_front kind (Due.end s w k) h = rw (length-take-le n rest long, lt-ltb 1 n (omega arith), lt-ltb 1 (length rest) (omega arith))

  record_front : (Due m (get_or rest 0 0) → body_length (get_or rest 0 0) < n) → read_record (take n rest) at m ≡ read_record rest at m
  unfolding read_record
  record_front room = rw (same 0 (omega arith), length-take-le n rest long) (by (some (eqb (get_or rest 0 0)) (due m)) refl)
    where
      by : (t : Bool) → some (eqb (get_or rest 0 0)) (due m) ≡ t
          → pick (not t) (refuse Fault.NotDue at m) (pick (leb n (body_length (get_or rest 0 0))) (refuse Fault.Incomplete (at + n) m) (read_body (get_or rest 0 0) (take n rest) at m)) ≡ pick (not t) (refuse Fault.NotDue at m) (pick (leb (length rest) (body_length (get_or rest 0 0))) (refuse Fault.Incomplete (at + length rest) m) (read_body (get_or rest 0 0) rest at m))
      by false e = refl
      by true e =
          let d = due_is m (get_or rest 0 0) e in
          let h = room d in
          rw (lt-leb n (body_length (get_or rest 0 0)) h, lt-leb (length rest) (body_length (get_or rest 0 0)) (omega arith)) (body_front (get_or rest 0 0) d h)

from_front : (xs : List ℕ) (k skip at : ℕ) (m : Model) → at + k ≡ 716 → k ≤ length xs → Near (at + skip) m → read_from (take k xs) skip at m ≡ read_from xs skip at m
unfolding read_from
from_front [] k skip at m e l v = absurd (omega (arith, near_place _ _ v))
from_front (x ∷ xs) zero skip at m e l v = absurd (omega (arith, near_place _ _ v))
from_front (x ∷ xs) (suc k) (suc skip) at m e l v = let p : at + suc skip ≡ suc at + skip = omega arith in from_front xs k skip (suc at) m (omega arith) (omega arith) (subst (λ n. Near n m) p v)
from_front (x ∷ xs) (suc k) zero at m e l v =
    let r : read_record (x ∷ take k xs) at m ≡ read_record (x ∷ xs) at m = record_front (suc k) (x ∷ xs) at m (omega (arith, near_place at m here)) l (λ d. omega (arith, near_room at m x here d)) in
    rw r (by (read_record (x ∷ xs) at m) (record_outcome (x ∷ xs) at m) (λ n. from_front xs k (body_length x) (suc at) n (omega arith) (omega arith)))
  where
    here : Near at m
    here = let p : at + 0 ≡ at = omega arith in subst (λ n. Near n m) p v

    by : (r : Stepped) → Outcome (x ∷ xs) at m r → ((n : Model) → Near (suc at + body_length x) n → read_from (take k xs) (body_length x) (suc at) n ≡ read_from xs (body_length x) (suc at) n)
        → onward r.step r.model (read_from (take k xs) (body_length x) (suc at) r.model) ≡ onward r.step r.model (read_from xs (body_length x) (suc at) r.model)
    by r (Outcome.goes {n} b t) f = f n (near_step at m _ n here t)
    by r (Outcome.ends d b) f = refl
    by r (Outcome.stops p) f = refl

-- the whole reading, model included
pub front_settles : (file : List ℕ) → read_file (take 716 file) ≡ read_file file
unfolding read_file
front_settles file = by (ltb 716 (length file)) refl
  where
    by : (t : Bool) → ltb 716 (length file) ≡ t → read_from (take 716 file) 0 0 empty_model ≡ read_from file 0 0 empty_model
    by true e = let h = ltb-true 716 (length file) e in from_front file 716 0 0 empty_model refl (omega arith) near_empty
    by false e = ap (λ xs. read_from xs 0 0 empty_model) (take_all 716 file (ltb-false 716 (length file) e))
