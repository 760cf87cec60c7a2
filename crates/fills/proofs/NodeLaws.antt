-- A node's cells by its kind: those of a join are 0, and so not too large.
use Prim.Native.Nat.{ℕ, zero, suc, ◌+◌, ◌-◌}
use mathlib.Core.Path.{◌≡◌, refl, sym, ap, ◌∙◌}
use mathlib.Core.Bool.{false}
use mathlib.Core.List.{List}
use lib.ListN.{length, replicate, length-replicate}
use borrow.Rule.Slice.PartMut.{put_mid}
use Rattle.sums.specs.Lists.{some}
use Rattle.calls.specs.Start.{too_large}
use Rattle.plan.specs.declared.Chains.{Chains}
use Rattle.plan.specs.declared.Node.{Node}
use Rattle.fills.specs.Nodes.{leaf_cells, cells_by, node_cells, put}
use Rattle.fills.proofs.LeafLaws.{put_part}

module _ (loads : List ℕ) (ch : Chains) (n : Node) where
  pub join_cells : n.centre ≡ 0 → node_cells loads ch n ≡ replicate n.cells 0
  unfolding node_cells cells_by
  join_cells e = rw e

  pub leaf_cells_lem : (n.centre ≡ 0 → ⊥) → node_cells loads ch n ≡ leaf_cells loads ch n
  unfolding node_cells cells_by
  leaf_cells_lem f = by n.centre f
    where
      by : (c : ℕ) → (c ≡ 0 → ⊥) → cells_by c (replicate n.cells 0) (leaf_cells loads ch n) ≡ leaf_cells loads ch n
      by zero f = absurd (f refl)
      by (suc c) f = refl

  pub join_low : n.centre ≡ 0 → false ≡ some too_large (node_cells loads ch n)
  unfolding some
  join_low e = sym (ap (some too_large) (join_cells e) ∙ zeros n.cells)
    where
      zeros : (k : ℕ) → some too_large (replicate k 0) ≡ false
      zeros zero = refl
      zeros (suc k) = zeros k

  -- a join's part cleared, and put back
  pub join_put : (area : List ℕ) {own : List ℕ} {long : ℕ} → n.centre ≡ 0 → own ≡ replicate long 0 → long ≡ n.cells
      → put_mid n.base (n.base + n.cells - n.base) area own ≡ put n.base (node_cells loads ch n) area
  join_put area e eo el = put_part n.base n.cells area (eo ∙ ap (λ k. replicate k 0) el ∙ sym (join_cells e)) (ap length (join_cells e)
      ∙ length-replicate n.cells 0)
