-- The entries of the subtrees that stand, one after the other: a leaf's entry follows them, and so does a join's, whose children are
-- the last entry and the one before the right subtree.
use Prim.Native.Nat.{ℕ, ◌+◌, ◌-◌, ◌<◌}
use mathlib.Core.Path.{◌≡◌, refl, ap, ◌∙◌}
use mathlib.Core.List.{List, [], ◌∷◌, ◌++◌, append_assoc}
use native.Mathlib.Omega.{arith}
use lib.ListN.{length, get_or, length-append, length-map, get_or-append}
use lib.Seq.{get_or-append_seam}
use Rattle.network.specs.Centre.{Route}
use Rattle.network.specs.Coverage.{Tree, leaf, join}
use Rattle.network.specs.Cells.{cells, spans_at, all_cells, base}
use Rattle.network.specs.Pairs.{all_pairs}
use Rattle.network.proofs.PostorderLaws.{nodes_in, nodes_some, postorder, length-postorder}
use Rattle.plan.specs.Table.{pairs_at, entry, entries}
use Rattle.plan.specs.Steps.{no_node}
use Rattle.plan.specs.declared.Node.{Node}
use Rattle.plan.proofs.StackLaws.{nodes_of}
use Rattle.plan.proofs.EntriesLaws.{entry_of, entries-postorder}

module _ (routes : List Route) (windows : List ℕ) where
  unfoldable pub forest_cells : List Tree → ℕ
  forest_cells [] = 0
  forest_cells (t ∷ S) = forest_cells S + all_cells routes windows t

  unfoldable pub forest_pairs : List Tree → ℕ
  forest_pairs [] = 0
  forest_pairs (t ∷ S) = forest_pairs S + all_pairs routes windows t

  unfoldable pub forest : List Tree → List Node
  forest [] = []
  forest (t ∷ S) = forest S ++ entries routes windows t (forest_cells S)

  length-entries : (t : Tree) (b : ℕ) → length (entries routes windows t b) ≡ nodes_in t
  length-entries t b = ap length (entries-postorder routes windows t b) ∙ length-map (postorder routes windows t b) (entry_of routes windows) ∙ length-postorder routes windows t b

  pub length-forest : (S : List Tree) → length (forest S) ≡ nodes_of S
  unfolding forest nodes_of
  length-forest [] = refl
  length-forest (t ∷ S) = length-append (forest S) (entries routes windows t (forest_cells S)) ∙ omega (arith, length-forest S, length-entries t (forest_cells S))

  -- the last entry is the tree's own
  last_entry : (t : Tree) (b : ℕ) (es : List Node) (n : ℕ) → n + 1 ≡ length (es ++ entries routes windows t b) → get_or (es ++ entries routes windows t b) n no_node ≡ entry routes windows t b
  unfolding entries
  last_entry (leaf c) b es n e =
      let k : n ≡ length es = omega (arith, e, length-append es (entry routes windows (leaf c) b ∷ [])) in
      rw k (get_or-append_seam es (entry routes windows (leaf c) b) [] no_node)
  last_entry (join l r) b es n e =
      let pre = es ++ (entries routes windows l b ++ entries routes windows r (b + all_cells routes windows l)) in
      let own = entry routes windows (join l r) b in
      let f : es ++ (entries routes windows l b ++ (entries routes windows r (b + all_cells routes windows l) ++ (own ∷ []))) ≡ pre ++ (own ∷ []) = simp append_assoc in
      let k : n ≡ length pre = omega (arith, e, ap length f, length-append pre (own ∷ [])) in
      rw (f, k) (get_or-append_seam pre own [] no_node)

  module _ (l r : Tree) (S : List Tree) where
    -- the two children
    pub right_found : (n : ℕ) → n ≡ nodes_of (r ∷ l ∷ S) → get_or (forest (r ∷ l ∷ S)) (n - 1) no_node ≡ entry routes windows r (forest_cells (l ∷ S))
    unfolding forest forest_cells nodes_of
    right_found n e = last_entry r (forest_cells (l ∷ S)) (forest (l ∷ S)) (n - 1) (omega (arith, length-forest (r ∷ l ∷ S), nodes_some r))

    pub left_found : (n : ℕ) → n ≡ nodes_of (r ∷ l ∷ S) → get_or (forest (r ∷ l ∷ S)) (n - 1 - nodes_in r) no_node ≡ entry routes windows l (forest_cells S)
    unfolding forest forest_cells nodes_of
    left_found n e =
        let h : n - 1 - nodes_in r < length (forest (l ∷ S)) = omega (arith, length-forest (l ∷ S), nodes_some l) in
        get_or-append (forest (l ∷ S)) (entries routes windows r (forest_cells (l ∷ S))) no_node (n - 1 - nodes_in r) h
        ∙ last_entry l (forest_cells S) (forest S) (n - 1 - nodes_in r) (omega (arith, length-forest (l ∷ S), nodes_some l))

    pub join_follows : forest (join l r ∷ S) ≡ forest (r ∷ l ∷ S) ++ (entry routes windows (join l r) (forest_cells S) ∷ [])
    unfolding forest forest_cells entries
    join_follows = simp append_assoc

    pub join-base : base routes windows (join l r) (forest_cells S) ≡ forest_cells (r ∷ l ∷ S)
    unfolding base forest_cells
    join-base = omega arith

    pub join_cells : forest_cells (join l r ∷ S) ≡ forest_cells (r ∷ l ∷ S) + cells (spans_at routes windows (join l r))
    unfolding forest_cells all_cells
    join_cells = omega arith

    pub join_pairs : forest_pairs (join l r ∷ S) ≡ forest_pairs (r ∷ l ∷ S) + pairs_at routes windows (join l r)
    unfolding forest_pairs all_pairs pairs_at
    join_pairs = omega arith
