-- A model's table, node by node: each entry is that of a node in postorder, a join's children are the entries the code finds, and their
-- cells lie in the area. So after i nodes the walk has gone over the pairs of the first i.
use Prim.Native.Nat.{ℕ, ◌+◌, ◌-◌, ◌≤◌, ◌<◌}
use mathlib.Core.Path.{◌≡◌, refl, sym, ap, subst, ◌∙◌}
use mathlib.Core.Bool.{true}
use mathlib.Core.List.{List, [], ◌∷◌, ◌++◌, flat_map, append-nil, Memᴰ}
use native.Mathlib.Omega.{arith}
use native.Mathlib.Numerals.{add-one}
use lib.ListN.{length, get_or, take, drop, take-append-drop}
use lib.Seq.{take-suc, take_all}
use Rattle.sums.proofs.ListLaws.{get_or_in, flat_append}
use Rattle.network.specs.Coverage.{Tree, leaf, join, under}
use Rattle.network.specs.Cells.{all_cells}
use Rattle.network.specs.Pairs.{Pair}
use Rattle.network.proofs.CoverageLaws.{Parted}
use Rattle.network.proofs.PostorderLaws.{nodes_in, nodes_some, length-postorder, pairs_of, listed-postorder, parted_in, children}
use Rattle.network.proofs.AreaLaws.{base_is}
use Rattle.network.proofs.LayoutLaws.{room_at}
use Rattle.modelfile.specs.Network.{tree_of}
use Rattle.modelfile.specs.declared.Model.{Model}
use Rattle.calls.specs.Asked.{cells_in, pairs_listed}
use Rattle.plan.specs.Asking.{Prepared, chains_of}
use Rattle.plan.specs.Table.{entry, routes_in, windows_in}
use Rattle.plan.specs.Steps.{no_node, left_of, right_of}
use Rattle.plan.specs.declared.Chains.{Chains}
use Rattle.plan.specs.declared.Node.{Node}
use Rattle.plan.specs.declared.Table.{Table}
use Rattle.plan.proofs.EntriesLaws.{entry_of}
use Rattle.plan.proofs.PreparedLaws.{tree_nodes, length_windows, parted_all, centre_range, length_nodes, entry_at}
use Rattle.joins.specs.Walk.{state, walk, ended}
use Rattle.joins.specs.declared.Quota.{Quota}
use Rattle.joins.proofs.WalkLaws.{walk-append, walk-ended}
use Rattle.spends.specs.Joins.{NodeIn, node_pairs}

abbrev pub node_at : Table → ℕ → Node
node_at t i = get_or t.nodes i no_node

-- a node past the end
abbrev nowhere : Tree × ℕ
nowhere = (leaf 0, 0)

abbrev pairs_to : Model → List ℕ → ℕ → List Pair
pairs_to m windows i = flat_map (pairs_of (routes_in m) (windows_in m windows)) (take i (tree_nodes m windows))

module _ {m : Model} {windows : List ℕ} {t : Table} (p : Prepared m windows t) where
  entry_is : (i : ℕ) → i < t.count → (x : Tree × ℕ) → get_or (tree_nodes m windows) i nowhere ≡ x → node_at t i ≡ entry_of (routes_in m) (windows_in m windows) x
  entry_is i h x e = entry_at p i h ∙ ap (entry_of (routes_in m) (windows_in m windows)) e

  span_at : (x : Tree × ℕ) → (entry_of (routes_in m) (windows_in m windows) x).span ≡ nodes_in x.0
  unfolding entry
  span_at x = refl

  module _ (i : ℕ) (h : i < t.count) where
    here_in : Memᴰ (get_or (tree_nodes m windows) i nowhere) (tree_nodes m windows)
    here_in = get_or_in nowhere (tree_nodes m windows) i (omega (arith, length_nodes p))

    here_room : (get_or (tree_nodes m windows) i nowhere).1 + all_cells (routes_in m) (windows_in m windows) (get_or (tree_nodes m windows) i nowhere).0 ≤ cells_in m (windows_in m windows)
    here_room = omega (arith, room_at (routes_in m) (windows_in m windows) (tree_of m) 0 i (omega (arith, length_nodes p)), base_is (routes_in m) (windows_in m windows) (get_or (tree_nodes m windows) i nowhere).0 (get_or (tree_nodes m windows) i nowhere).1)

    -- the node with its children, where the code finds them
    pub node_in : {l r : Node} → l ≡ left_of t i → r ≡ right_of t i → (n old : ℕ) → n ≡ old → cells_in m (windows_in m windows) ≤ old
        → (x : NodeIn (chains_of p) l r (node_at t i) n) × (node_pairs x ≡ pairs_of (routes_in m) (windows_in m windows) (get_or (tree_nodes m windows) i nowhere))
    unfolding left_of right_of
    node_in a b n old same room = rw (a, b) (by (get_or (tree_nodes m windows) i nowhere) refl (parted_in (routes_in m) (windows_in m windows) (tree_of m) [] (parted_all p) 0 _ here_in) here_room)
      where
        by : (x : Tree × ℕ) → get_or (tree_nodes m windows) i nowhere ≡ x → (others : List ℕ) × Parted (routes_in m) (under x.0) others → x.1 + all_cells (routes_in m) (windows_in m windows) x.0 ≤ cells_in m (windows_in m windows)
            → (y : NodeIn (chains_of p) (left_of t i) (right_of t i) (node_at t i) n) × (node_pairs y ≡ pairs_of (routes_in m) (windows_in m windows) x)
        by (leaf c, start) e parted low = (NodeIn.alone (routes_in m) (windows_in m windows) c start (entry_is i h (leaf c, start) e) (centre_range p c parted.0 parted.1).0, refl)
        by (join x y, start) e parted low =
            let k = children (routes_in m) (windows_in m windows) (tree_of m) 0 i (omega (arith, length_nodes p, length-postorder (routes_in m) (windows_in m windows) (tree_of m) 0)) x y start e in
            let second : ℕ = start + all_cells (routes_in m) (windows_in m windows) x in
            let right : right_of t i ≡ entry_of (routes_in m) (windows_in m windows) (y, second) = entry_is (i - 1) (omega (arith, k.enough, nodes_some x)) _ k.right in
            let place : i - 1 - (right_of t i).span ≡ i - 1 - nodes_in y = ap (λ n. i - 1 - n) (ap (λ (e : Node). e.span) right ∙ span_at (y, second)) in (
              NodeIn.joined (record {
                routes = routes_in m;
                windows = windows_in m windows;
                l = x;
                r = y;
                start = start;
                count_is = sym (length_windows p);
                windows_are = refl;
                left_is = ap (node_at t) place ∙ entry_is (i - 1 - nodes_in y) (omega (arith, k.enough, nodes_some x)) _ k.left;
                right_is = right;
                own_is = entry_is i h (join x y, start) e;
                rest = parted.0;
                parted = parted.1;
                room = omega (arith, low, room, same);
              }),
              refl,
            )

    -- of the chains that the code makes
    pub node_ready : {ch : Chains} {l r : Node} → chains_of p ≡ ch → l ≡ left_of t i → r ≡ right_of t i → (n old : ℕ) → n ≡ old → cells_in m (windows_in m windows) ≤ old → NodeIn ch l r (node_at t i) n
    node_ready {l = l} {r = r} e a b n old same room = subst (λ ch. NodeIn ch l r (node_at t i) n) e (node_in a b n old same room).0

    pairs_more : pairs_to m windows (i + 1) ≡ pairs_to m windows i ++ pairs_of (routes_in m) (windows_in m windows) (get_or (tree_nodes m windows) i nowhere)
    unfolding flat_map
    pairs_more =
        let g : Tree × ℕ → List Pair = pairs_of (routes_in m) (windows_in m windows) in
        ap (λ k. flat_map g (take k (tree_nodes m windows))) (add-one i)
        ∙ ap (flat_map g) (take-suc (tree_nodes m windows) i nowhere (omega (arith, length_nodes p)))
        ∙ flat_append g (take i (tree_nodes m windows)) (get_or (tree_nodes m windows) i nowhere ∷ [])
        ∙ ap (λ l. pairs_to m windows i ++ l) (append-nil (g (get_or (tree_nodes m windows) i nowhere)))

  -- those of the first i, and the others
  pairs_rest : (i : ℕ) → pairs_to m windows t.count ≡ pairs_to m windows i ++ flat_map (pairs_of (routes_in m) (windows_in m windows)) (drop i (tree_nodes m windows))
  pairs_rest i =
      let g : Tree × ℕ → List Pair = pairs_of (routes_in m) (windows_in m windows) in
      ap (flat_map g) (take_all t.count (tree_nodes m windows) (omega (arith, length_nodes p)) ∙ sym (take-append-drop i (tree_nodes m windows)))
      ∙ flat_append g (take i (tree_nodes m windows)) (drop i (tree_nodes m windows))

  -- all nodes give all pairs
  pairs_all : (i : ℕ) → t.count ≤ i → pairs_to m windows i ≡ pairs_listed m (windows_in m windows)
  pairs_all i h =
      ap (flat_map (pairs_of (routes_in m) (windows_in m windows))) (take_all i (tree_nodes m windows) (omega (arith, length_nodes p)))
      ∙ sym (listed-postorder (routes_in m) (windows_in m windows) (tree_of m) 0)

-- ---- after i nodes, or after all where the walk has ended: the others would not change it

-- of whichever model they are the table and the chains
pub record Walked (t : Table) (ch : Chains) (q : Quota) (old : List ℕ) (e : Quota) (area : List ℕ) (i : ℕ) : Type 0 where
  pub low : i ≤ t.count
  pub long : length area ≡ length old
  pub is : (m : Model) (windows : List ℕ) → (p : Prepared m windows t) → chains_of p ≡ ch → cells_in m (windows_in m windows) ≤ length old → state e area ≡ walk (pairs_to m windows i) (state q old)

pub walked_first : (t : Table) (ch : Chains) (q : Quota) (old : List ℕ) → Walked t ch q old q old 0
unfolding walk flat_map
walked_first t ch q old = record { low = omega arith; long = refl; is = λ m windows p c room. refl }

module _ {t : Table} {ch : Chains} {q : Quota} {old : List ℕ} {e : Quota} {area : List ℕ} {i : ℕ} (w : Walked t ch q old e area i) where
  -- one node more
  pub walked_turn : i < t.count → {l r : Node} → l ≡ left_of t i → r ≡ right_of t i → (f : Quota) (after : List ℕ) → length after ≡ length area
      → ((x : NodeIn ch l r (node_at t i) (length area)) → state f after ≡ walk (node_pairs x) (state e area))
      → Walked t ch q old f after (i + 1)
  walked_turn h {l} {r} a b f after long gives = record {
    low = omega arith;
    long = long ∙ w.long;
    is = λ m windows p c room.
        let x : Tree × ℕ = get_or (tree_nodes m windows) i nowhere in
        let y : (y : NodeIn ch l r (node_at t i) (length area)) × (node_pairs y ≡ pairs_of (routes_in m) (windows_in m windows) x) =
        subst (λ ch. (y : NodeIn ch l r (node_at t i) (length area)) × (node_pairs y ≡ pairs_of (routes_in m) (windows_in m windows) x)) c (node_in p i h a b (length area) (length old) w.long room) in
        gives y.0
        ∙ (λ k. walk (y.1 k) (w.is m windows p c room k))
        ∙ sym (walk-append (pairs_to m windows i) (pairs_of (routes_in m) (windows_in m windows) x) (state q old))
        ∙ ap (λ ps. walk ps (state q old)) (sym (pairs_more p i h));
  }

  pub walked_last : (m : Model) (windows : List ℕ) → (p : Prepared m windows t) → chains_of p ≡ ch → cells_in m (windows_in m windows) ≤ length old → t.count ≤ i → state e area ≡ walk (pairs_listed m (windows_in m windows)) (state q old)
  walked_last m windows p c room h = w.is m windows p c room ∙ ap (λ ps. walk ps (state q old)) (pairs_all p i h)

  -- the others would not change a walk that has ended
  pub walked_left : (m : Model) (windows : List ℕ) → (p : Prepared m windows t) → chains_of p ≡ ch → cells_in m (windows_in m windows) ≤ length old → ended e.over e.skip e.budget ≡ true → state e area ≡ walk (pairs_listed m (windows_in m windows)) (state q old)
  walked_left m windows p c room h =
      let others : List Pair = flat_map (pairs_of (routes_in m) (windows_in m windows)) (drop i (tree_nodes m windows)) in
      sym (walk-ended others (state e area) h)
      ∙ ap (walk others) (w.is m windows p c room)
      ∙ sym (walk-append (pairs_to m windows i) others (state q old))
      ∙ ap (λ ps. walk ps (state q old)) (sym (pairs_rest p i) ∙ pairs_all p t.count (omega arith))
