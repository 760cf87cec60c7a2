-- The loop over the nodes: after i of them the table holds the entries of the subtrees that they leave. A node's entry is made from a
-- leaf's loads or from the two latest subtrees' own entries; at the end one tree is left.
use Prim.Native.Nat.{ℕ, zero, suc, ◌+◌, ◌-◌, ◌*◌, ◌^◌, ◌≤◌, ◌<◌}
use mathlib.Core.Path.{◌≡◌, refl, sym, ap, subst, ◌∙◌}
use mathlib.Core.List.Memᴰ
use mathlib.Core.List.{List, [], ◌∷◌, ◌++◌, map, Permᴰ}
use native.Mathlib.Omega.{arith}
use native.Mathlib.Numerals.{add-one}
use lib.ListN.{length, get_or, set, take, drop, length-set}
use lib.Seq.{get_or-take, take-suc-set, take_all, length-take-le}
use Rattle.sums.specs.Lists.{from}
use Rattle.sums.proofs.ListLaws.{from_out}
use Rattle.sums.proofs.PermLaws.{perm_in}
use Rattle.network.specs.Coverage.{Tree, leaf, join, under, visits}
use Rattle.network.specs.Cells.{cells, spans_at, all_cells}
use Rattle.network.specs.Pairs.{all_pairs}
use Rattle.network.proofs.CoverageLaws.{Parted, parted_right}
use Rattle.network.proofs.PostorderLaws.{nodes_in}
use Rattle.modelfile.specs.Network.{subtrees, tree_of}
use Rattle.modelfile.specs.declared.Model.{Model}
use Rattle.modelfile.proofs.TreeLaws.{all_under}
use Rattle.modelfile.proofs.Guaranteed.{Guaranteed}
use Rattle.calls.proofs.FileLaws.{length_routes}
use Rattle.plan.specs.Table.{row, counts_at, totals_of, pairs_at, entry, entries, windows_in, routes_in, Tabled}
use Rattle.plan.specs.Steps.{Small, count_by, no_node, right_of, left_of, shape_by, pairs_by, node_leaf, node_joined, node_by, node_made, with_node, empty_table, Ready}
use Rattle.plan.specs.declared.Chains.{Chains}
use Rattle.plan.specs.declared.Node.{Node}
use Rattle.plan.specs.declared.Table.{Table}
use Rattle.plan.proofs.RowLaws.{row_few, take_is}
use Rattle.plan.proofs.ThoseLaws.{those_few}
use Rattle.plan.proofs.FewLaws.{cells_few, factors_few}
use Rattle.plan.proofs.StackLaws.{Next, nodes_of, leaves_in, nodes_under, stack, parted_stack, stack_count, next}
use Rattle.plan.proofs.ForestLaws.{forest_cells, forest_pairs, forest, right_found, left_found, join_follows, join-base, join_cells, join_pairs}
use Rattle.plan.proofs.EntryLaws.{totals_are, leaf-entry, join-entry}
use Rattle.plan.proofs.ModelLaws.{loads_agree, tree_count}

-- ---- the code's numbers stay small

module _ (ch : Chains) (loads : List ℕ) (t : Table) where
  made_cells : (x : ℕ) → (node_made ch loads t x).cells ≤ 2 ^ 32
  unfolding node_made node_by node_leaf node_joined shape_by
  made_cells zero = cells_few ch.windows ch.window_range ch.totals _ 0 ch.count ch.chains_few
  made_cells (suc c) = cells_few ch.windows ch.window_range ch.totals _ 0 ch.count ch.chains_few

  made_pairs : (x : ℕ) → (node_made ch loads t x).pairs ≤ 136 ^ 8
  unfolding node_made node_by node_leaf node_joined pairs_by
  made_pairs zero = factors_few ch.windows ch.window_range ch.totals _ _ _ 0 ch.count ch.chains_few
  made_pairs (suc c) = omega arith

-- ---- one node more

-- the table's entries are those of the subtrees S
pub record Standing (m : Model) (windows : List ℕ) (t : Table) (S : List Tree) : Type 0 where
  pub long : length t.nodes ≡ 31
  pub count_is : t.count ≡ nodes_of S
  pub few : t.count ≤ 31
  pub totals_are : t.totals ≡ totals_of (routes_in m) (windows_in m windows)
  pub nodes_are : take t.count t.nodes ≡ forest (routes_in m) (windows_in m windows) S
  pub cells_are : t.cells ≡ forest_cells (routes_in m) (windows_in m windows) S
  pub pairs_are : t.pairs ≡ forest_pairs (routes_in m) (windows_in m windows) S

-- the next entry is that of the next subtree, which makes T of S
record Follows (m : Model) (windows : List ℕ) (t : Table) (x : ℕ) (e : Node) (S T : List Tree) : Type 0 where
  top : Tree
  start : ℕ
  ready : Ready t x
  made : e ≡ entry (routes_in m) (windows_in m windows) top start
  count_more : nodes_of T ≡ nodes_of S + 1
  nodes_more : forest (routes_in m) (windows_in m windows) T ≡ forest (routes_in m) (windows_in m windows) S ++ (entry (routes_in m) (windows_in m windows) top start ∷ [])
  cells_more : forest_cells (routes_in m) (windows_in m windows) T ≡ forest_cells (routes_in m) (windows_in m windows) S + cells (spans_at (routes_in m) (windows_in m windows) top)
  pairs_more : forest_pairs (routes_in m) (windows_in m windows) T ≡ forest_pairs (routes_in m) (windows_in m windows) S + pairs_at (routes_in m) (windows_in m windows) top

standing_more : {m : Model} {windows : List ℕ} (t : Table) {x : ℕ} (e : Node) {S T : List Tree} → Standing m windows t S → Follows m windows t x e S T → t.count < 31 → Standing m windows (with_node t e) T
unfolding with_node entry
standing_more {m} {windows} t e {S} s f h =
    record {
      long = length-set t.nodes t.count e ∙ s.long;
      count_is = omega (arith, s.count_is, f.count_more);
      few = omega arith;
      totals_are = s.totals_are;
      nodes_are =
          ap (λ n. take n (set t.nodes t.count e)) (add-one t.count)
          ∙ take-suc-set t.nodes t.count e (omega (arith, s.long))
          ∙ (λ i. s.nodes_are i ++ (f.made i ∷ []))
          ∙ sym f.nodes_more;
      cells_are = omega (arith, s.cells_are, ap (λ (n : Node). n.cells) f.made, f.cells_more);
      pairs_are = omega (arith, s.pairs_are, ap (λ (n : Node). n.pairs) f.made, f.pairs_more);
    }

module _ (m : Model) (g : Guaranteed m) (windows : List ℕ) (long : length windows ≡ 8) where
  windows_count : length (windows_in m windows) ≡ m.chains
  windows_count = length-take-le m.chains windows (omega (arith, g.chains_range.1))

  entry_small : (t : Tree) (b : ℕ) → nodes_in t ≤ 31 → Small (entry (routes_in m) (windows_in m windows) t b)
  unfolding entry counts_at
  entry_small t b h =
      record {
        short = h;
        low = row_few _ 31 (λ k. omega (arith, those_few (visits (routes_in m) (suc k)) (under t), nodes_under t)) (length (windows_in m windows));
      }

  -- a join's children in the table
  module _ (t : Table) (l r : Tree) (S : List Tree) (s : Standing m windows t (r ∷ l ∷ S)) where
    children_some : nodes_in r < t.count
    unfolding nodes_of
    children_some = omega (arith, s.count_is, nodes_under l)

    children_right : right_of t t.count ≡ entry (routes_in m) (windows_in m windows) r (forest_cells (routes_in m) (windows_in m windows) (l ∷ S))
    unfolding right_of
    children_right =
        sym (get_or-take t.count t.nodes (t.count - 1) no_node (omega (arith, children_some)))
        ∙ ap (λ es. get_or es (t.count - 1) no_node) s.nodes_are
        ∙ right_found (routes_in m) (windows_in m windows) l r S t.count s.count_is

    right_span : (right_of t t.count).span ≡ nodes_in r
    unfolding entry
    right_span = ap (λ (e : Node). e.span) children_right

    children_left : left_of t t.count ≡ entry (routes_in m) (windows_in m windows) l (forest_cells (routes_in m) (windows_in m windows) S)
    unfolding left_of
    children_left =
        ap (λ n. get_or t.nodes (t.count - 1 - n) no_node) right_span
        ∙ sym (get_or-take t.count t.nodes (t.count - 1 - nodes_in r) no_node (omega (arith, children_some)))
        ∙ ap (λ es. get_or es (t.count - 1 - nodes_in r) no_node) s.nodes_are
        ∙ left_found (routes_in m) (windows_in m windows) l r S t.count s.count_is

    join-ready : Ready t 0
    unfolding nodes_of
    join-ready =
        record {
          few = s.few;
          leaf_range = omega arith;
          left_small = λ z. subst Small (sym children_left) (entry_small l _ (omega (arith, s.count_is, s.few)));
          right_small = λ z. subst Small (sym children_right) (entry_small r _ (omega (arith, s.count_is, s.few)));
        }

  module _ (ch : Chains) (ec : ch.count ≡ m.chains) (ew : ch.windows ≡ windows) (et : ch.totals ≡ totals_of (routes_in m) (windows_in m windows)) where
    count_is : ch.count ≡ length (windows_in m windows)
    count_is = ec ∙ sym windows_count

    windows_are : map (λ i. get_or ch.windows i 0) (from 0 (length (windows_in m windows))) ≡ windows_in m windows
    windows_are = rw (ew, windows_count) (take_is windows m.chains (omega (arith, g.chains_range.1)))

    -- the centres under the latest subtree, and all others
    parted_top : (top : Tree) (S : List Tree) (rest : List ℕ) → all_under (top ∷ S) ++ rest ≡ under (tree_of m) → Parted (routes_in m) (under top) (all_under S ++ rest)
    unfolding all_under
    parted_top top S rest e = parted_right (routes_in m) (all_under S) (under top) rest (subst (λ l. Permᴰ l (from 1 (length (routes_in m)))) (sym e) (rw (length_routes m g) g.leaves))

    follows : {S T : List Tree} {x : ℕ} (t : Table) (rest : List ℕ) → Next S x T → Standing m windows t S → all_under T ++ rest ≡ under (tree_of m) → Follows m windows t x (node_made ch m.loads t x) S T
    unfolding node_made node_by nodes_of nodes_in forest entries forest_cells all_cells forest_pairs all_pairs pairs_at under
    follows {S} t rest (Next.grown c) s e =
        let p = parted_top (leaf (suc c)) S rest e in
        let b = from_out 1 (length (routes_in m)) (suc c) (perm_in p (Memᴰ.head refl)) in
        let high : suc c ≤ length (routes_in m) = omega (arith, b.1) in
        record {
          top = leaf (suc c);
          start = forest_cells (routes_in m) (windows_in m windows) S;
          ready = record { few = s.few; leaf_range = omega (arith, length_routes m g, g.centres_range.1); left_small = λ z. absurd (omega arith); right_small = λ z. absurd (omega arith) };
          made =
              leaf-entry (routes_in m) (windows_in m windows) ch count_is et windows_are m.loads (λ k d h. loads_agree m g k d (omega (arith, windows_count))) (suc c) t.cells (omega arith) high (all_under S ++ rest) p
              ∙ ap (entry (routes_in m) (windows_in m windows) (leaf (suc c))) s.cells_are;
          count_more = refl;
          nodes_more = refl;
          cells_more = refl;
          pairs_more = refl;
        }
    follows {T = T} t rest (Next.closed {S} l r) s e =
        let R = routes_in m in
        let N = windows_in m windows in
        let right = children_right t l r S s in
        let left = children_left t l r S s in
        record {
          top = join l r;
          start = forest_cells R N S;
          ready = join-ready t l r S s;
          made =
              (λ i. node_joined ch (left i) (right i) t.cells)
              ∙ join-entry R N ch count_is et windows_are l r (forest_cells R N S) (forest_cells R N (l ∷ S)) t.cells (forest_cells R N S) (s.cells_are ∙ sym (join-base R N l r S)) (all_under S ++ rest) (parted_top (join l r) S rest e);
          count_more = omega arith;
          nodes_more = join_follows R N l r S;
          cells_more = join_cells R N l r S;
          pairs_more = join_pairs R N l r S;
        }

-- ---- the loop

abbrev pub nodes_given : Model → List ℕ
nodes_given m = take m.count m.nodes

pub record Grown (m : Model) (windows : List ℕ) (t : Table) (i : ℕ) : Type 0 where
  pub at_most : i ≤ m.count
  pub standing : Standing m windows t (stack (nodes_given m) i)
  pub cells_low : t.cells ≤ i * 2 ^ 32
  pub pairs_low : t.pairs ≤ i * 136 ^ 8

module _ (m : Model) (g : Guaranteed m) (windows : List ℕ) (long : length windows ≡ 8) where
  given_count : length (nodes_given m) ≡ m.count
  given_count = length-take-le m.count m.nodes (omega (arith, g.nodes_long, g.count_range))

  grown_first : (totals : List ℕ) → totals ≡ row m.chains (λ k. count_by m.loads k (from 1 m.centres)) → Grown m windows (empty_table totals) 0
  unfolding empty_table stack subtrees nodes_of forest forest_cells forest_pairs
  grown_first totals e =
      record {
        at_most = omega arith;
        standing =
            record {
              long = refl;
              count_is = refl;
              few = omega arith;
              totals_are = e ∙ rows;
              nodes_are = refl;
              cells_are = refl;
              pairs_are = refl;
            };
        cells_low = omega arith;
        pairs_low = omega arith;
      }
    where
      rows : row m.chains (λ k. count_by m.loads k (from 1 m.centres)) ≡ totals_of (routes_in m) (windows_in m windows)
      rows =
          (λ i. row (sym (windows_count m g windows long) i) (λ k. count_by m.loads k (from 1 (sym (length_routes m g) i))))
          ∙ totals_are (routes_in m) (windows_in m windows) m.loads (λ k c h. loads_agree m g k c (omega (arith, windows_count m g windows long)))

  grown_last : (t : Table) (i : ℕ) → Grown m windows t i → m.count ≤ i → Tabled m windows t
  unfolding stack forest forest_cells forest_pairs nodes_of
  grown_last t i w h =
      let s = w.standing in
      let e : stack (nodes_given m) i ≡ tree_of m ∷ [] = ap (subtrees []) (take_all i (nodes_given m) (omega (arith, given_count))) ∙ g.one_tree in
      record {
        nodes_long = s.long;
        nodes_are = s.nodes_are ∙ ap (forest (routes_in m) (windows_in m windows)) e;
        count_is = s.count_is ∙ ap nodes_of e ∙ omega (arith, tree_count m g, given_count);
        totals_are = s.totals_are;
        cells_are = s.cells_are ∙ ap (forest_cells (routes_in m) (windows_in m windows)) e ∙ omega arith;
        pairs_are = s.pairs_are ∙ ap (forest_pairs (routes_in m) (windows_in m windows)) e ∙ omega arith;
      }

-- ---- one turn of it

-- what each turn has: the model, its chains, and the table so far
pub record Growing (m : Model) (ch : Chains) (t : Table) (i : ℕ) : Type 0 where
  pub model : Guaranteed m
  pub windows_long : length ch.windows ≡ 8
  pub chains_are : ch.count ≡ m.chains
  pub totals_are : ch.totals ≡ t.totals
  pub grown : Grown m ch.windows t i

pub growing_first : {m : Model} (ch : Chains) → Guaranteed m → ch.count ≡ m.chains → length ch.windows ≡ 8 → ch.totals ≡ row m.chains (λ k. count_by m.loads k (from 1 m.centres))
    → {t : Table} → t ≡ empty_table ch.totals → Growing m ch t 0
unfolding empty_table
growing_first {m} ch g count long e et =
    rw et (record { model = g; windows_long = long; chains_are = count; totals_are = refl; grown = grown_first m g ch.windows long ch.totals e })

pub growing_last : {m : Model} {ch : Chains} {t : Table} {i : ℕ} → Growing m ch t i → length (nodes_given m) ≤ i → Tabled m ch.windows t
growing_last {m} {ch} {t} {i} w h = grown_last m w.model ch.windows w.windows_long t i w.grown (omega (arith, given_count m w.model ch.windows w.windows_long))

module _ {m : Model} {ch : Chains} {t : Table} {i : ℕ} (w : Growing m ch t i) (h : i < length (nodes_given m)) where
  low : i < m.count
  low = omega (arith, given_count m w.model ch.windows w.windows_long)

  count_same : t.count ≡ i
  count_same = w.grown.standing.count_is ∙ stack_count (nodes_given m) (tree_of m) w.model.one_tree (tree_count m w.model) i (omega (arith, given_count m w.model ch.windows w.windows_long))

  pub count_low : t.count < 31
  count_low = omega (arith, count_same, low, w.model.count_range)

  turn : Follows m ch.windows t (get_or (nodes_given m) i 0) (node_made ch m.loads t (get_or (nodes_given m) i 0)) (stack (nodes_given m) i) (stack (nodes_given m) (suc i))
  turn =
      let g = w.model in
      follows m g ch.windows w.windows_long ch w.chains_are refl (w.totals_are ∙ w.grown.standing.totals_are) t (leaves_in (drop (suc i) (nodes_given m)))
      (next (nodes_given m) (tree_of m) g.one_tree (tree_count m g) i h)
      w.grown.standing
      (parted_stack (nodes_given m) (tree_of m) g.one_tree (tree_count m g) (suc i))

  pub node_low : get_or (nodes_given m) i 0 ≤ 16
  node_low = turn.ready.leaf_range

  -- by the two children that the code takes out
  module _ {l r : Node} (el : l ≡ left_of t t.count) (er : r ≡ right_of t t.count) where
    pub children_small : get_or (nodes_given m) i 0 ≡ 0 → Small l × Small r
    children_small z = (subst Small (sym el) (turn.ready.left_small z), subst Small (sym er) (turn.ready.right_small z))

    module _ {e : Node} (ee : e ≡ node_by ch m.loads l r t.cells (get_or (nodes_given m) i 0)) where
      made : e ≡ node_made ch m.loads t (get_or (nodes_given m) i 0)
      unfolding node_made
      made = ee ∙ (λ j. node_by ch m.loads (el j) (er j) t.cells (get_or (nodes_given m) i 0))

      cells_low : e.cells ≤ 2 ^ 32
      cells_low = subst (λ (n : Node). n.cells ≤ 2 ^ 32) (sym made) (made_cells ch m.loads t (get_or (nodes_given m) i 0))

      pairs_low : e.pairs ≤ 136 ^ 8
      pairs_low = subst (λ (n : Node). n.pairs ≤ 136 ^ 8) (sym made) (made_pairs ch m.loads t (get_or (nodes_given m) i 0))

      pub cells_fit : t.cells + e.cells < 2 ^ 64
      cells_fit = omega (arith, cells_low, w.grown.cells_low, low, w.model.count_range)

      pub pairs_fit : t.pairs + e.pairs < 2 ^ 64
      pairs_fit = omega (arith, pairs_low, w.grown.pairs_low, low, w.model.count_range)

      pub turn_growing : Growing m ch (with_node t e) (i + 1)
      unfolding with_node
      turn_growing =
          rw (add-one i)
          (record {
            model = w.model;
            windows_long = w.windows_long;
            chains_are = w.chains_are;
            totals_are = w.totals_are;
            grown =
                record {
                  at_most = omega (arith, low);
                  standing = standing_more t e w.grown.standing (subst (λ n. Follows m ch.windows t (get_or (nodes_given m) i 0) n (stack (nodes_given m) i) (stack (nodes_given m) (suc i))) (sym made) turn) count_low;
                  cells_low = omega (arith, cells_low, w.grown.cells_low);
                  pairs_low = omega (arith, pairs_low, w.grown.pairs_low);
                };
          })
