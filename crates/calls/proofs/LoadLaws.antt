-- No load is looked at: two files that differ in loads only have the same routes, windows and tree, and so the same plan.
use Prim.Native.Nat.{ℕ, zero, suc, ◌+◌, ◌*◌, ◌≤◌, ◌<◌}
use mathlib.Core.Path.{◌≡◌, refl, sym, ap, ◌∙◌}
use mathlib.Core.Bool.{Bool, true, false}
use mathlib.Core.List.{List, [], map, map-map}
use native.Mathlib.Omega.{arith}
use lib.Dec.{ltb, eqb}
use lib.ListN.{get_or, take, length-map}
use lib.Seq.{ext_get_or}
use Rattle.sums.specs.Lists.{from}
use Rattle.sums.proofs.ListLaws.{map_cong, get_or-map_in, from_out}
use Rattle.network.specs.Centre.{routes_of, visit, queue}
use Rattle.network.specs.Cells.{all_cells}
use Rattle.network.specs.Pairs.{all_pairs}
use Rattle.modelfile.specs.File.{read_file}
use Rattle.modelfile.specs.Network.{windows_of, loads_of, centres_of, subtrees, latest, tree_of}
use Rattle.modelfile.specs.declared.Model.{Model}
use Rattle.std.specs.Prelude.{Ok, Err}
use Rattle.modelfile.proofs.Guaranteed.{Guaranteed}
use Rattle.modelfile.proofs.AcceptedLaws.{accepted}
use Rattle.calls.specs.declared.Refusal.{Refusal}
use Rattle.calls.specs.Asked.{Asked, refused, granted, pick_asked, less_one, lowering, on_verdict, ask, on_granted, cells_in, pairs_in}
use Rattle.calls.specs.Plan.{plan, SameButLoads}
use Rattle.calls.specs.Answers.{PlanAnswer, planned_as}
use Rattle.calls.proofs.FileLaws.{length_loads, load_at}

abbrev planned : Asked → PlanAnswer
planned a = on_granted a (λ r. Err r) (λ m windows. planned_as (cells_in m windows) (pairs_in m windows))

module _ (m n : Model) (gm : Guaranteed m) (gn : Guaranteed n) (s : SameButLoads m n) where
  same_windows : windows_of m ≡ windows_of n
  unfolding windows_of
  same_windows = λ i. take (s.chains i) (s.windows i)

  same_tree : tree_of m ≡ tree_of n
  unfolding tree_of
  same_tree = λ i. latest (subtrees [] (take (s.count i) (s.nodes i)))

  -- a centre's marks, by its loads
  marks : (c : ℕ) → c < m.centres → map visit (loads_of m (suc c)) ≡ map visit (loads_of n (suc c))
  marks c h =
      let lm = length_loads m gm c h in
      let ln = length_loads n gn c (omega (arith, s.centres)) in
      ext_get_or false (map visit (loads_of m (suc c))) (map visit (loads_of n (suc c)))
      (length-map (loads_of m (suc c)) visit ∙ lm ∙ s.chains ∙ sym ln ∙ sym (length-map (loads_of n (suc c)) visit))
      (λ k l. let b : k < m.chains = omega (arith, length-map (loads_of m (suc c)) visit) in
      get_or-map_in visit (loads_of m (suc c)) k false 0 (omega arith) ∙ ap visit (load_at m gm c k h b)
      ∙ s.loads (c * 8 + k)
      ∙ sym (get_or-map_in visit (loads_of n (suc c)) k false 0 (omega (arith, s.chains)) ∙ ap visit (load_at n gn c k (omega (arith, s.centres)) (omega (arith, s.chains)))))

  same_routes : routes_of (centres_of m) ≡ routes_of (centres_of n)
  unfolding centres_of
  same_routes =
      map-map (λ c. c.route) (λ c. queue (loads_of m c)) (from 1 m.centres)
      ∙ map_cong (from 1 m.centres) _ _ (λ c k. by c (from_out 1 m.centres c k))
      ∙ ap (λ k. map (λ c. map visit (loads_of n c)) (from 1 k)) s.centres
      ∙ sym (map-map (λ c. c.route) (λ c. queue (loads_of n c)) (from 1 n.centres))
    where
      by : (c : ℕ) → (1 ≤ c) × (c < 1 + m.centres) → map visit (loads_of m c) ≡ map visit (loads_of n c)
      by zero r = absurd (omega arith)
      by (suc c) r = marks c (omega arith)

  -- the answer for any windows, and then for what lowering makes of them
  answer : (windows : List ℕ) → planned_as (cells_in m windows) (pairs_in m windows) ≡ planned_as (cells_in n windows) (pairs_in n windows)
  answer windows = λ i. planned_as (all_cells (same_routes i) windows (same_tree i)) (all_pairs (same_routes i) windows (same_tree i))

  same_plan : (lower : ℕ) → planned (lowering m lower) ≡ planned (lowering n lower)
  unfolding lowering
  same_plan zero = answer (windows_of m) ∙ ap (λ w. planned_as (cells_in n w) (pairs_in n w)) same_windows
  same_plan (suc k) = by (ltb m.chains (suc k)) (eqb (get_or (windows_of m) k 0) 0) ∙ (λ i. planned (pick_asked (ltb (s.chains i) (suc k)) (refused Refusal.NoSuchChain) (pick_asked (eqb (get_or (same_windows i) k 0) 0) (refused Refusal.WindowZero) (granted n (less_one (same_windows i) k)))))
    where
      by : (a z : Bool) → planned (pick_asked a (refused Refusal.NoSuchChain) (pick_asked z (refused Refusal.WindowZero) (granted m (less_one (windows_of m) k)))) ≡ planned (pick_asked a (refused Refusal.NoSuchChain) (pick_asked z (refused Refusal.WindowZero) (granted n (less_one (windows_of m) k))))
      by true z = refl
      by false true = refl
      by false false = answer (less_one (windows_of m) k)

-- plan answers the same for both, whatever chain is lowered
pub loads_free : (f g : List ℕ) → (read_file f).verdict ≡ Ok tt → (read_file g).verdict ≡ Ok tt → SameButLoads (read_file f).model (read_file g).model → (lower : ℕ) → plan f lower ≡ plan g lower
unfolding plan ask
loads_free f g p q s lower =
    (λ i. planned (on_verdict (p i) (lowering (read_file f).model lower)))
    ∙ same_plan (read_file f).model (read_file g).model (accepted f p) (accepted g q) s lower
    ∙ sym (λ i. planned (on_verdict (q i) (lowering (read_file g).model lower)))
