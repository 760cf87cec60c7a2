-- A leaf's chains as found for it: what is between their ends are the leaf's cells.
use Prim.Native.Nat.{ℕ, ◌+◌, ◌-◌, ◌≤◌}
use mathlib.Core.Path.{◌≡◌, sym, ap, ◌∙◌}
use mathlib.Core.List.{List, ◌++◌, map}
use native.Mathlib.Omega.{arith}
use lib.ListN.{length, take, drop, length-map, length-drop}
use lib.Seq.{length-take-le}
use borrow.Rule.Slice.PartMut.{put_mid, Post-is}
use Rattle.network.specs.Cells.{indices}
use Rattle.network.specs.Weight.{weight}
use Rattle.network.proofs.CellLaws.{length-indices}
use Rattle.weights.specs.declared.Reach.{Reach}
use Rattle.weights.specs.Leaf.{reaches, loads_of, between}
use Rattle.weights.proofs.BetweenLaws.{between_spans, reaches_loads, between-cells}
use Rattle.plan.specs.declared.Chains.{Chains}
use Rattle.plan.specs.declared.Node.{Node}
use Rattle.fills.specs.Nodes.{spans_in, loads_in, leaf_cells, put, LeafIn}
use Rattle.fills.proofs.EndLaws.{spans-length}

-- cells lent as a part, and put back
pub part_room : (at count : ℕ) (area : List ℕ) → at + count ≤ length area → length (take (at + count - at) (drop at area)) ≡ count
part_room at count area h = length-take-le (at + count - at) (drop at area) (omega (arith, length-drop at area)) ∙ omega arith

pub put_part : (at count : ℕ) (area : List ℕ) {own cells : List ℕ} → own ≡ cells → length cells ≡ count
    → put_mid at (at + count - at) area own ≡ put at cells area
unfolding put
put_part at count area {own} {cells} eo e = rw eo (ap (λ l. take at area ++ (cells ++ l)) (Post-is at (at + count) area (omega arith)
    ∙ ap (λ k. drop (at + k) area) (sym e)))

module _ (loads : List ℕ) (ch : Chains) (n : Node) (leaf : LeafIn loads ch n) where
  pub length_cells : length (leaf_cells loads ch n) ≡ n.cells
  unfolding leaf_cells
  length_cells = length-map (indices (spans_in ch n)) (weight (loads_in loads ch n)) ∙ length-indices (spans_in ch n) ∙ sym leaf.cells_are

  -- what the chains have there has the leaf's cells
  module _ (chains : List Reach) (e : chains ≡ reaches (loads_in loads ch n) (spans_in ch n)) where
    pub part_cells : map (weight (loads_of chains)) (between chains) ≡ leaf_cells loads ch n
    unfolding leaf_cells
    part_cells = rw e (λ t. map (weight (reaches_loads (loads_in loads ch n) (spans_in ch n) (spans-length leaf) t))
        (between_spans (loads_in loads ch n) (spans_in ch n) (spans-length leaf) t))

    pub part_length : length (between chains) ≡ n.cells
    part_length = rw e (between-cells (loads_in loads ch n) (spans_in ch n) (spans-length leaf) ∙ sym leaf.cells_are)
