-- The table's entries are those of the nodes in postorder, one for each.
use Prim.Native.Nat.{ℕ, ◌+◌}
use mathlib.Core.Path.{◌≡◌, refl, sym, ap, ◌∙◌}
use mathlib.Core.List.{List, [], ◌∷◌, ◌++◌, map}
use Rattle.sums.proofs.ListLaws.{map-append}
use Rattle.network.specs.Centre.{Route}
use Rattle.network.specs.Coverage.{Tree, leaf, join}
use Rattle.network.specs.Cells.{all_cells}
use Rattle.network.proofs.PostorderLaws.{postorder}
use Rattle.plan.specs.Table.{entry, entries}
use Rattle.plan.specs.declared.Node.{Node}

module _ (routes : List Route) (windows : List ℕ) where
  abbrev pub entry_of : Tree × ℕ → Node
  entry_of x = entry routes windows x.0 x.1

  pub entries-postorder : (t : Tree) (start : ℕ) → entries routes windows t start ≡ map entry_of (postorder routes windows t start)
  unfolding entries postorder
  entries-postorder (leaf c) start = refl
  entries-postorder (join l r) start =
      let second = start + all_cells routes windows l in
      (λ i. entries-postorder l start i ++ (entries-postorder r second i ++ (entry routes windows (join l r) start ∷ [])))
      ∙ ap (λ xs. map entry_of (postorder routes windows l start) ++ xs) (sym (map-append entry_of (postorder routes windows r second) ((join l r, start) ∷ [])))
      ∙ sym (map-append entry_of (postorder routes windows l start) (postorder routes windows r second ++ ((join l r, start) ∷ [])))
