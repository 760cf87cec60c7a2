-- A prepared run: its windows fit the model, its tree has every centre once, and its table's entries are those of the nodes in postorder.
use Prim.Native.Nat.{ℕ, ◌≤◌, ◌<◌}
use mathlib.Core.Path.{◌≡◌, refl, sym, ap, ◌∙◌}
use mathlib.Core.List.Memᴰ
use mathlib.Core.List.{List, [], map, append-nil}
use native.Mathlib.Omega.{arith}
use lib.ListN.{length, get_or, take, length-map}
use lib.Seq.{length-take-le, get_or-take}
use Rattle.sums.proofs.ListLaws.{get_or-map_in, from_out}
use Rattle.sums.proofs.PermLaws.{perm_in}
use Rattle.network.specs.Coverage.{Tree, leaf, under}
use Rattle.network.proofs.CoverageLaws.{Parted}
use Rattle.network.proofs.AreaLaws.{cells_some}
use Rattle.network.proofs.PostorderLaws.{postorder, none}
use Rattle.modelfile.specs.Network.{tree_of}
use Rattle.modelfile.specs.declared.Model.{Model}
use Rattle.calls.specs.Asked.{pairs_listed}
use Rattle.calls.proofs.FileLaws.{Fit, fit, take_low, length_routes}
use Rattle.calls.proofs.SlotLaws.{listed_pairs}
use Rattle.plan.specs.Table.{routes_in, windows_in}
use Rattle.plan.specs.Steps.{no_node}
use Rattle.plan.specs.Asking.{Prepared, chains_of}
use Rattle.plan.specs.declared.Chains.{Chains}
use Rattle.plan.specs.declared.Table.{Table}
use Rattle.plan.proofs.EntriesLaws.{entry_of, entries-postorder}

-- the nodes of a model's tree, each with where its subtree's cells begin
abbrev pub tree_nodes : Model → List ℕ → List (Tree × ℕ)
tree_nodes m windows = postorder (routes_in m) (windows_in m windows) (tree_of m) 0

module _ {m : Model} {windows : List ℕ} {t : Table} (p : Prepared m windows t) where
  -- ---- the run

  pub length_windows : length (windows_in m windows) ≡ m.chains
  length_windows = length-take-le m.chains windows (omega (arith, p.windows_long, p.guaranteed.chains_range))

  pub fits : Fit m (windows_in m windows)
  fits = fit m p.guaranteed (windows_in m windows) length_windows (take_low m.chains windows 15 p.windows_low)

  -- the chains that the code makes
  pub chains_made : {ch : Chains}
      → ((few : m.chains ≤ 8) (low : (k : ℕ) → get_or windows k 0 ≤ 15)
      → ch ≡ record { count = m.chains; totals = t.totals; windows = windows; chains_few = few; window_range = low }) → chains_of p ≡ ch
  chains_made e = sym (e p.guaranteed.chains_range.1 p.windows_low)

  pub some_cells : 1 ≤ t.cells
  some_cells = omega (arith, p.tabled.cells_are, cells_some (routes_in m) (windows_in m windows) (tree_of m))

  pub pairs_counted : length (pairs_listed m (windows_in m windows)) ≡ t.pairs
  pairs_counted = listed_pairs m (windows_in m windows) fits ∙ sym p.tabled.pairs_are

  pub parted_all : Parted (routes_in m) (under (tree_of m)) []
  parted_all = rw (append-nil (under (tree_of m)), length_routes m p.guaranteed) p.guaranteed.leaves

  pub centre_range : (c : ℕ) (rest : List ℕ) → Parted (routes_in m) (under (leaf c)) rest → (1 ≤ c) × (c ≤ m.centres)
  unfolding under
  centre_range c rest parted =
      let r = from_out 1 (length (routes_in m)) c (perm_in parted (Memᴰ.head refl)) in
      (omega (arith, r), omega (arith, r, length_routes m p.guaranteed))

  -- ---- the table

  pub count_few : t.count ≤ 31
  count_few = omega (arith, p.tabled.count_is, p.guaranteed.count_range)

  pub nodes_are : take t.count t.nodes ≡ map (entry_of (routes_in m) (windows_in m windows)) (tree_nodes m windows)
  nodes_are = p.tabled.nodes_are ∙ entries-postorder (routes_in m) (windows_in m windows) (tree_of m) 0

  pub length_nodes : length (tree_nodes m windows) ≡ t.count
  length_nodes =
      sym (length-map (tree_nodes m windows) (entry_of (routes_in m) (windows_in m windows))) ∙ sym (ap length nodes_are)
      ∙ length-take-le t.count t.nodes (omega (arith, p.tabled.nodes_long, count_few))

  pub entry_at : (i : ℕ) → i < t.count → get_or t.nodes i no_node ≡ entry_of (routes_in m) (windows_in m windows) (get_or (tree_nodes m windows) i (none (routes_in m) (windows_in m windows)))
  entry_at i h =
      sym (get_or-take t.count t.nodes i no_node h) ∙ ap (λ l. get_or l i no_node) nodes_are
      ∙ get_or-map_in (entry_of (routes_in m) (windows_in m windows)) (tree_nodes m windows) i no_node (none (routes_in m) (windows_in m windows)) (omega (arith, length_nodes))
