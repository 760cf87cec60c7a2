-- The subtrees that the nodes leave, one node at a time: a leaf adds its centre, a join keeps all centres and takes one subtree away.
use Prim.Native.Nat.{ℕ, zero, suc, ◌+◌, ◌-◌, ◌<◌, ◌≤◌}
use mathlib.Core.Path.{◌≡◌, refl, sym, ap, subst, ◌∙◌}
use mathlib.Core.List.{List, [], ◌∷◌, ◌++◌, append_assoc, Permᴰ}
use native.Mathlib.Omega.{arith}
use native.Mathlib.Numerals.{add-one}
use lib.ListN.{length, get_or, set, take}
use lib.Seq.{take-suc-set, get_or-set_other}
use Rattle.sums.proofs.PermLaws.{perm_turn}
use Rattle.network.specs.Coverage.{Tree, leaf, under}
use Rattle.modelfile.specs.Network.{joined, subtrees, latest}
use Rattle.modelfile.proofs.InTreeLaws.{in_tree, in_tree-set}

-- the centres under the subtrees, the latest subtree first in the stack
unfoldable pub all_under : List Tree → List ℕ
all_under [] = []
all_under (t ∷ stack) = all_under stack ++ under t

pub subtrees-append : (stack : List Tree) (xs ys : List ℕ) → subtrees stack (xs ++ ys) ≡ subtrees (subtrees stack xs) ys
unfolding subtrees
subtrees-append stack [] ys = refl
subtrees-append stack (zero ∷ xs) ys = subtrees-append (joined stack) xs ys
subtrees-append stack (suc c ∷ xs) ys = subtrees-append (leaf (suc c) ∷ stack) xs ys

subtrees-leaf : (stack : List Tree) (c : ℕ) → 1 ≤ c → subtrees stack (c ∷ []) ≡ leaf c ∷ stack
unfolding subtrees
subtrees-leaf stack zero h = absurd (omega arith)
subtrees-leaf stack (suc c) h = refl

pub joined-under : (stack : List Tree) → all_under (joined stack) ≡ all_under stack
unfolding all_under joined under
joined-under [] = refl
joined-under (r ∷ []) = refl
joined-under (r ∷ l ∷ stack) = sym (append_assoc (all_under stack) (under l) (under r))

joined_length : (stack : List Tree) → 2 ≤ length stack → length (joined stack) + 1 ≡ length stack
unfolding joined
joined_length [] h = absurd (omega arith)
joined_length (r ∷ []) h = absurd (omega arith)
joined_length (r ∷ l ∷ stack) h = omega arith

pub one_latest : (stack : List Tree) → length stack ≡ 1 → stack ≡ latest stack ∷ []
one_latest [] h = absurd (omega arith)
one_latest (t ∷ []) h = refl
one_latest (t ∷ u ∷ stack) h = absurd (omega arith)

-- ---- nodes and flags tell the same

-- the subtrees that `count` nodes leave: as many as counted, with the flagged centres under them
pub record Growing (centres count : ℕ) (nodes : List ℕ) (trees : ℕ) (placed : List ℕ) : Type 0 where
  pub unplaced : (i : ℕ) → centres ≤ i → get_or placed i 0 ≡ 0
  pub counted : length (subtrees [] (take count nodes)) ≡ trees
  pub flagged : Permᴰ (all_under (subtrees [] (take count nodes))) (in_tree 1 placed)

-- one node more
grown : (count : ℕ) (nodes : List ℕ) (node : ℕ) → count < length nodes → subtrees [] (take (count + 1) (set nodes count node)) ≡ subtrees (subtrees [] (take count nodes)) (node ∷ [])
grown count nodes node h = ap (subtrees []) (ap (λ n. take n (set nodes count node)) (add-one count) ∙ take-suc-set nodes count node h) ∙ subtrees-append [] (take count nodes) (node ∷ [])

module _ {centres count : ℕ} {nodes : List ℕ} {trees : ℕ} {placed : List ℕ} (g : Growing centres count nodes trees placed) (room : count < length nodes) where
  pub growing_leaf : (c : ℕ) → 1 ≤ c → c ≤ centres → c ≤ length placed → get_or placed (c - 1) 0 ≡ 0 → Growing centres (count + 1) (set nodes count c) (trees + 1) (set placed (c - 1) 1)
  unfolding all_under under
  growing_leaf c l h i z =
      let S = subtrees [] (take count nodes) in
      let e : subtrees [] (take (count + 1) (set nodes count c)) ≡ leaf c ∷ S = grown count nodes c room ∙ subtrees-leaf S c l in
      let d : 1 + (c - 1) ≡ c = omega arith in
      let q : Permᴰ (c ∷ in_tree 1 placed) (in_tree 1 (set placed (c - 1) 1)) = rw d at (in_tree-set 1 placed (c - 1) (omega arith) z) in
      record {
        unplaced = λ j k. get_or-set_other placed (c - 1) j 1 0 (λ w. omega (arith, w)) ∙ g.unplaced j k;
        counted = ap length e ∙ omega (arith, g.counted);
        flagged = subst (λ T. Permᴰ (all_under T) (in_tree 1 (set placed (c - 1) 1))) (sym e) (mathlib.Core.List.Permᴰ.trans (perm_turn (all_under S) (c ∷ [])) (mathlib.Core.List.Permᴰ.trans (mathlib.Core.List.Permᴰ.cons refl g.flagged) q));
      }

  pub growing_join : 2 ≤ trees → Growing centres (count + 1) (set nodes count 0) (trees - 1) placed
  unfolding subtrees
  growing_join h =
      let S = subtrees [] (take count nodes) in
      let e : subtrees [] (take (count + 1) (set nodes count 0)) ≡ joined S = grown count nodes 0 room in
      let l : 2 ≤ length S = omega (arith, g.counted) in
      record {
        unplaced = g.unplaced;
        counted = ap length e ∙ omega (arith, joined_length S l, g.counted);
        flagged = subst (λ T. Permᴰ (all_under T) (in_tree 1 placed)) (sym e) (rw (joined-under S) g.flagged);
      }
