-- The table of a prepared run, node by node: each node's cells as the code finds them are its array in what a start writes, and they begin
-- where those of the nodes before it end.
use Prim.Native.Nat.{ℕ, zero, suc, ◌+◌, ◌≤◌, ◌<◌}
use mathlib.Core.Path.{◌≡◌, refl, sym, ap, ◌∙◌}
use mathlib.Core.List.{List, [], map, flat_map, Memᴰ}
use native.Mathlib.Omega.{arith}
use native.Mathlib.Nat.{zero-add}
use lib.ListN.{length, get_or, take, replicate}
use lib.Seq.{take-take, take_all}
use Rattle.sums.proofs.ListLaws.{flat_cong, flat_map-map, get_or_in, take-map, take_member, map-zero}
use Rattle.network.specs.Centre.{Route}
use Rattle.network.specs.Coverage.{Tree, leaf, join, under}
use Rattle.network.specs.Cells.{indices, cells, spans_at, centre_by, start_cell, filled}
use Rattle.network.specs.Weight.{weight}
use Rattle.network.proofs.CoverageLaws.{Parted}
use Rattle.network.proofs.CellLaws.{length-indices}
use Rattle.network.proofs.PostorderLaws.{array_of, spread-postorder, parted_in, none}
use Rattle.network.proofs.LayoutLaws.{base_at, room_at}
use Rattle.modelfile.specs.Network.{loads_of, centres_of, tree_of}
use Rattle.modelfile.specs.declared.Model.{Model}
use Rattle.calls.specs.Asked.{cells_in, filled_by}
use Rattle.calls.proofs.FileLaws.{length_loads, take_low}
use Rattle.weights.proofs.SpanLaws.{leaf_ends}
use Rattle.plan.specs.Table.{centre_at, counts_at, entry, windows_in, routes_in}
use Rattle.plan.specs.Steps.{spans_by, no_node}
use Rattle.plan.specs.Asking.{Prepared, chains_of}
use Rattle.plan.specs.declared.Chains.{Chains}
use Rattle.plan.specs.declared.Table.{Table}
use Rattle.plan.proofs.RowLaws.{take_is}
use Rattle.plan.proofs.EntryLaws.{spans_are}
use Rattle.plan.proofs.EntriesLaws.{entry_of}
use Rattle.plan.proofs.ModelLaws.{centre_at_lem, route_at}
use Rattle.plan.proofs.PreparedLaws.{tree_nodes, length_windows, parted_all, centre_range, count_few, nodes_are, length_nodes, entry_at}
use Rattle.fills.specs.Nodes.{leaf_cells, cells_by, node_cells, LeafIn, NodeIn}

module _ (m : Model) (windows : List ℕ) (t : Table) (p : Prepared m windows t) where
  abbrev ws : List ℕ
  ws = windows_in m windows

  abbrev routes : List Route
  routes = routes_in m

  abbrev ch : Chains
  ch = chains_of p

  abbrev nodes : List (Tree × ℕ)
  nodes = tree_nodes m windows

  -- ---- one node, if the rest of the tree is apart from it

  module _ (x : Tree) (rest : List ℕ) (parted : Parted routes (under x) rest) where
    spans_at_lem : spans_by t.totals windows (counts_at routes ws x) 0 m.chains ≡ spans_at routes ws x
    spans_at_lem = spans_are routes ws ch (sym (length_windows p)) p.tabled.totals_are
        (take_is windows (length ws) (omega (arith, length_windows p, p.windows_long, p.guaranteed.chains_range))
        ∙ ap (λ n. take n windows) (length_windows p)) x rest parted

  module _ (c : ℕ) (rest : List ℕ) (parted : Parted routes (under (leaf c)) rest) where
    in_range : (1 ≤ c) × (c ≤ m.centres)
    in_range = centre_range p c rest parted

    leaf_in : (start : ℕ) → LeafIn m.loads ch (entry routes ws (leaf c) start)
    unfolding entry centre_at loads_of
    leaf_in start = record {
      centre_range = (in_range.0, omega (arith, in_range, p.guaranteed.centres_range));
      loads_long = p.guaranteed.loads_long;
      ends = rw (spans_at_lem (leaf c) rest parted) (leaf_ends routes ws (loads_of m c) c (omega (arith, length_windows p, p.guaranteed.chains_range))
          (long c in_range ∙ sym (length_windows p)) low (route_at m p.guaranteed c in_range.0 in_range.1));
      cells_are = ap cells (sym (spans_at_lem (leaf c) rest parted));
    }
      where
        long : (c : ℕ) → (1 ≤ c) × (c ≤ m.centres) → length (loads_of m c) ≡ m.chains
        long zero r = absurd (omega arith)
        long (suc c) r = length_loads m p.guaranteed c (omega arith)

        low : (k : ℕ) → get_or ws k 0 ≤ 15
        low = take_low m.chains windows 15 p.windows_low

    leaf_cells_lem : (start : ℕ) → leaf_cells m.loads ch (entry routes ws (leaf c) start) ≡ array_of routes ws (start_cell (centres_of m)) (leaf c, start)
    unfolding leaf_cells entry centre_at start_cell loads_of
    leaf_cells_lem start = λ j. map (same j) (indices (spans_at_lem (leaf c) rest parted j))
      where
        same : weight (loads_of m c) ≡ (centre_by (centres_of m) c).weigh
        same = sym (ap (λ x. x.weigh) (centre_at_lem m p.guaranteed c _ in_range.0 in_range.1))

  module _ (start : ℕ) where
    -- a node's cells are its array
    node_cells_lem : (x : Tree) (rest : List ℕ) → Parted routes (under x) rest
        → node_cells m.loads ch (entry routes ws x start) ≡ array_of routes ws (start_cell (centres_of m)) (x, start)
    unfolding node_cells entry centre_at start_cell cells_by
    node_cells_lem (leaf c) rest parted = leaf_is c (in_range c rest parted).0 ∙ leaf_cells_lem c rest parted start
      where
        leaf_is : (c : ℕ) → 1 ≤ c → cells_by c (replicate (cells (spans_at routes ws (leaf c))) 0) (leaf_cells m.loads ch (entry routes ws (leaf c) start))
            ≡ leaf_cells m.loads ch (entry routes ws (leaf c) start)
        leaf_is zero h = absurd (omega arith)
        leaf_is (suc c) h = refl
    node_cells_lem (join l r) rest parted = sym (map-zero (indices (spans_at routes ws (join l r)))
        ∙ ap (λ n. replicate n 0) (length-indices (spans_at routes ws (join l r))))

    node_in : (x : Tree) (rest : List ℕ) → Parted routes (under x) rest → NodeIn m.loads ch (entry routes ws x start)
    unfolding entry centre_at
    node_in (leaf c) rest parted z = leaf_in c rest parted start
    node_in (join l r) rest parted z = absurd (z refl)

  -- ---- the nodes of the table

  parted_at : (x : Tree × ℕ) → Memᴰ x nodes → (rest : List ℕ) × Parted routes (under x.0) rest
  parted_at x k = parted_in routes ws (tree_of m) [] (parted_all p) 0 x k

  pub count_low : t.count ≤ length t.nodes
  count_low = omega (arith, p.tabled.nodes_long, count_few p)

  -- the cells of the first i nodes
  cells_to : (i : ℕ) → i ≤ t.count → flat_map (node_cells m.loads ch) (take i t.nodes)
      ≡ flat_map (array_of routes ws (start_cell (centres_of m))) (take i nodes)
  cells_to i h =
      ap (flat_map (node_cells m.loads ch)) (sym (take-take i t.count t.nodes h) ∙ ap (take i) (nodes_are p) ∙ take-map (entry_of routes ws) i nodes)
      ∙ flat_map-map (node_cells m.loads ch) (entry_of routes ws) (take i nodes)
      ∙ flat_cong (take i nodes) _ _ (λ x k. let r = parted_at x (take_member i nodes k) in node_cells_lem x.1 x.0 r.0 r.1)

  pub filled_is : flat_map (node_cells m.loads ch) (take t.count t.nodes) ≡ filled_by m ws
  unfolding filled
  filled_is =
      cells_to t.count (omega arith) ∙ ap (flat_map (array_of routes ws (start_cell (centres_of m)))) (take_all t.count nodes (omega (arith, length_nodes p)))
      ∙ sym (spread-postorder routes ws (start_cell (centres_of m)) (tree_of m) 0)

  module _ (i : ℕ) (h : i < t.count) where
    at : Tree × ℕ
    at = get_or nodes i (none routes ws)

    node_at : get_or t.nodes i no_node ≡ entry_of routes ws at
    unfolding at
    node_at = entry_at p i h

    at_parted : (rest : List ℕ) × Parted routes (under at.0) rest
    unfolding at
    at_parted = parted_at (get_or nodes i (none routes ws)) (get_or_in (none routes ws) nodes i (omega (arith, length_nodes p)))

    pub node_ready : NodeIn m.loads ch (get_or t.nodes i no_node)
    node_ready = rw node_at (node_in at.1 at.0 at_parted.0 at_parted.1)

    pub node_base : (get_or t.nodes i no_node).base ≡ length (flat_map (node_cells m.loads ch) (take i t.nodes))
    unfolding entry at
    node_base =
        ap (λ n. n.base) node_at ∙ base_at routes ws (start_cell (centres_of m)) (tree_of m) 0 i (omega (arith, length_nodes p))
        ∙ zero-add _ ∙ ap length (sym (cells_to i (omega arith)))

    pub node_room : (get_or t.nodes i no_node).base + (get_or t.nodes i no_node).cells ≤ cells_in m ws
    unfolding entry at
    node_room = rw node_at (omega (arith, room_at routes ws (tree_of m) 0 i (omega (arith, length_nodes p))))
