-- An accepted file guarantees a whole model: an invariant of three parts (the order of the sections, the windows and loads, the growing
-- tree) is kept by the five steps, and what the end record has shown turns it into Guaranteed.
use Prim.Native.Nat.{ℕ, zero, suc, ◌+◌, ◌*◌, ◌<◌, ◌≤◌}
use mathlib.Core.Path.{◌≡◌, refl, ap, subst, ◌∙◌}
use mathlib.Core.Bool.{Bool, true, false, not}
use mathlib.Core.List.{List, [], ◌∷◌, Permᴰ}
use native.Mathlib.Omega.{arith}
use lib.Dec.{ltb, eqb}
use lib.ListN.{length, get_or, set, take, replicate}
use lib.Seq.{get_or-set_other}
use borrow.Author.Tests.{ltb-true, ltb-false, eqb-false, not-true, not-false}
use Rattle.sums.specs.Lists.{from, some}
use Rattle.sums.proofs.ListLaws.{from_in, length_from}
use Rattle.sums.proofs.BoolLaws.{some_is, none_of}
use Rattle.network.specs.Coverage.{under}
use Rattle.std.specs.Prelude.{Ok}
use Rattle.modelfile.specs.Model.{empty_model, with_size, with_window, slot, with_load, with_leaf, with_join}
use Rattle.modelfile.specs.Records.{loaded, chain_without_centre, centre_missing}
use Rattle.modelfile.specs.File.{read_file}
use Rattle.modelfile.specs.Network.{subtrees, latest, tree_of}
use Rattle.modelfile.specs.declared.Model.{Model}
use Rattle.modelfile.proofs.StepLaws.{Taken, Ended}
use Rattle.modelfile.proofs.WalkLaws.{Keeps, reached}
use Rattle.modelfile.proofs.InTreeLaws.{in_tree, in_tree_all}
use Rattle.modelfile.proofs.SoundLaws.{Sound, sound_empty, sound_kept, leaf_room, join_room}
use Rattle.modelfile.proofs.TreeLaws.{all_under, one_latest, Growing, growing_leaf, growing_join}
use Rattle.modelfile.proofs.Guaranteed.{Guaranteed}

-- ---- the invariant

-- size, then windows, then leaves
pub record Ordered (centres chains given count : ℕ) : Type 0 where
  pub chains_none : centres ≡ 0 → chains ≡ 0
  pub nodes_none : centres ≡ 0 → count ≡ 0
  pub chains_some : 1 ≤ centres → 1 ≤ chains
  pub given_few : given ≤ chains
  pub given_all : 1 ≤ count → chains ≤ given

record Filled (centres : ℕ) (windows loads : List ℕ) : Type 0 where
  window_range : (k : ℕ) → get_or windows k 0 ≤ 15
  load_range : (i : ℕ) → get_or loads i 0 ≤ 65535
  loads_inside : (c k : ℕ) → k < 8 → centres ≤ c → get_or loads (c * 8 + k) 0 ≡ 0

abbrev Visited : ℕ → ℕ → List ℕ → Type 0
Visited centres chains loads = (k : ℕ) → k < chains → (c : ℕ) × (c < centres) × (get_or loads (c * 8 + k) 0 ≡ 0 → ⊥)

pub record Kept (m : Model) : Type 0 where
  pub sound : Sound m
  pub ordered : Ordered m.centres m.chains m.given m.count
  filled : Filled m.centres m.windows m.loads
  visited : 1 ≤ m.count → Visited m.centres m.chains m.loads
  growing : Growing m.centres m.count m.nodes m.trees m.placed

zeros : (n i : ℕ) → ◌≡◌ {A = ℕ} (get_or (replicate n 0) i 0) 0
zeros zero i = refl
zeros (suc n) zero = refl
zeros (suc n) (suc i) = zeros n i

pub kept_empty : Kept empty_model
unfolding empty_model subtrees all_under in_tree
kept_empty =
    record {
      sound = sound_empty;
      ordered = record { chains_none = λ e. refl; nodes_none = λ e. refl; chains_some = λ h. absurd (omega arith); given_few = omega arith; given_all = λ h. omega arith };
      filled = record { window_range = λ k. omega (arith, zeros 8 k); load_range = λ i. omega (arith, zeros 128 i); loads_inside = λ c k h l. zeros 128 (c * 8 + k) };
      visited = λ h. absurd (omega arith);
      growing = record { unplaced = λ i h. zeros 16 i; counted = refl; flagged = Permᴰ.nil };
    }

-- ---- each step keeps it

set_range : (xs : List ℕ) (i v last : ℕ) → v ≤ last → ((k : ℕ) → get_or xs k 0 ≤ last) → (k : ℕ) → get_or (set xs i v) k 0 ≤ last
set_range [] i v last h f k = f k
set_range (x ∷ xs) zero v last h f zero = h
set_range (x ∷ xs) zero v last h f (suc k) = f (suc k)
set_range (x ∷ xs) (suc i) v last h f zero = f 0
set_range (x ∷ xs) (suc i) v last h f (suc k) = set_range xs i v last h (λ j. f (suc j)) k

none_below : (test : ℕ → Bool) (n : ℕ) → some test (from 0 n) ≡ false → (i : ℕ) → i < n → test i ≡ false
none_below test n e i h = let p : 0 + i ≡ i = omega arith in rw p at (none_of test (from_in 0 n i h) e)

-- at the first leaf no chain is without a centre, and loads are of declared centres only
first_visited : (m : Model) → Sound m → Filled m.centres m.windows m.loads → chain_without_centre m ≡ false → Visited m.centres m.chains m.loads
unfolding chain_without_centre
first_visited m s f e k h =
    let r = some_is (loaded m.loads k) (from 0 16) (not-false _ (none_below (λ k. not (some (loaded m.loads k) (from 0 16))) m.chains e k h)) in
    let n = eqb-false _ _ (not-true _ r.2) in
    (r.0, by r.0 n (ltb r.0 m.centres) refl, n)
  where
    by : (c : ℕ) → (get_or m.loads (c * 8 + k) 0 ≡ 0 → ⊥) → (t : Bool) → ltb c m.centres ≡ t → c < m.centres
    by c n true a = ltb-true c m.centres a
    by c n false a = absurd (n (f.loads_inside c k (omega (arith, s.chains_few)) (ltb-false c m.centres a)))

pub kept_step : Keeps (λ at m. Kept m)
unfolding with_size with_window with_load with_leaf with_join
kept_step at m to n v (Taken.size c k z wc wk) =
    let o = v.ordered in
    let none = o.nodes_none z in
    record {
      sound = sound_kept at m to n v.sound (Taken.size c k z wc wk);
      ordered = record { chains_none = λ e. absurd (omega arith); nodes_none = λ e. none; chains_some = λ h. wk.low; given_few = omega (arith, o.chains_none z, o.given_few); given_all = λ h. absurd (omega arith) };
      filled = record { window_range = v.filled.window_range; load_range = v.filled.load_range; loads_inside = λ i j h l. v.filled.loads_inside i j h (omega arith) };
      visited = λ h. absurd (omega arith);
      growing = record { unplaced = λ i h. v.growing.unplaced i (omega arith); counted = v.growing.counted; flagged = v.growing.flagged };
    }
kept_step at m to n v (Taken.window w h r) =
    let o = v.ordered in
    record {
      sound = sound_kept at m to n v.sound (Taken.window w h r);
      ordered = record { chains_none = o.chains_none; nodes_none = o.nodes_none; chains_some = o.chains_some; given_few = omega arith; given_all = λ l. omega (arith, o.given_all l) };
      filled = record { window_range = set_range m.windows m.given w 15 r v.filled.window_range; load_range = v.filled.load_range; loads_inside = v.filled.loads_inside };
      visited = v.visited;
      growing = v.growing;
    }
kept_step at m to n v (Taken.load c k l z wc wk wl p) =
    record {
      sound = sound_kept at m to n v.sound (Taken.load c k l z wc wk wl p);
      ordered = v.ordered;
      filled =
          record {
            window_range = v.filled.window_range;
            load_range = set_range m.loads (slot c k) l 65535 wl.high v.filled.load_range;
            loads_inside = λ i j h g. get_or-set_other m.loads (slot c k) (i * 8 + j) l 0 (λ e. omega (arith, e, v.sound.chains_few)) ∙ v.filled.loads_inside i j h g;
          };
      visited = λ h. absurd (omega arith);
      growing = v.growing;
    }
kept_step at m to n v (Taken.leaf c g w u e) =
    let s = v.sound in
    let o = v.ordered in
    record {
      sound = sound_kept at m to n s (Taken.leaf c g w u e);
      ordered = record { chains_none = o.chains_none; nodes_none = λ z. absurd (omega arith); chains_some = o.chains_some; given_few = o.given_few; given_all = λ h. g };
      filled = v.filled;
      visited = λ h. seen m.count refl;
      growing = growing_leaf v.growing (omega (arith, leaf_room m s c w e, s.nodes_long)) c w.low w.high (omega (arith, s.placed_long, s.centres_few)) e;
    }
  where
    seen : (k : ℕ) → m.count ≡ k → Visited m.centres m.chains m.loads
    seen zero a = first_visited m v.sound v.filled (u a)
    seen (suc k) a = v.visited (omega arith)
kept_step at m to n v (Taken.join a h) =
    let s = v.sound in
    let o = v.ordered in
    record {
      sound = sound_kept at m to n s (Taken.join a h);
      ordered = record { chains_none = o.chains_none; nodes_none = λ z. absurd (omega (arith, o.nodes_none z)); chains_some = o.chains_some; given_few = o.given_few; given_all = λ k. o.given_all a };
      filled = v.filled;
      visited = λ k. v.visited a;
      growing = growing_join v.growing (omega (arith, join_room m s h, s.nodes_long)) h;
    }

-- ---- the end

guaranteed : (m : Model) → Kept m → Ended m → Guaranteed m
unfolding centre_missing tree_of all_under
guaranteed m v d =
    let s = v.sound in
    let o = v.ordered in
    let S = subtrees [] (take m.count m.nodes) in
    let one : S ≡ latest S ∷ [] = one_latest S (v.growing.counted ∙ d.one_left) in
    let all : in_tree 1 m.placed ≡ from 1 m.centres = in_tree_all 1 m.placed m.centres (omega (arith, s.placed_long, s.centres_few)) (λ i h. eqb-false _ _ (none_below (λ c. eqb (get_or m.placed c 0) 0) m.centres d.all_placed i h)) v.growing.unplaced in
    let count : m.count + 1 ≡ 2 * m.centres = omega (arith, s.nodes_few, d.one_left, ap length all, length_from 1 m.centres) in
    record {
      centres_range = (d.centres_some, s.centres_few);
      chains_range = (o.chains_some d.centres_some, s.chains_few);
      windows_given = omega (arith, o.given_few, d.windows_given);
      windows_long = s.windows_long;
      window_range = v.filled.window_range;
      loads_long = s.loads_long;
      load_range = v.filled.load_range;
      loads_inside = v.filled.loads_inside;
      visited = v.visited d.nodes_some;
      nodes_long = s.nodes_long;
      count_is = count;
      count_range = omega (arith, s.centres_few);
      one_tree = one;
      leaves = subst (λ cs. Permᴰ (under (latest S)) cs) all (subst (λ T. Permᴰ (all_under T) (in_tree 1 m.placed)) one v.growing.flagged);
    }

pub accepted : (file : List ℕ) → (read_file file).verdict ≡ Ok tt → Guaranteed (read_file file).model
accepted file e = let r = reached (λ at m. Kept m) kept_step kept_empty file e in guaranteed _ r.kept r.ended
