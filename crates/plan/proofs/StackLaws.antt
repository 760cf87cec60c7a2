-- The subtrees that the first nodes of a whole tree leave. Each node adds a leaf or closes the two latest subtrees: a join that found
-- fewer than two would be counted in no subtree, and the whole tree counts all nodes. The centres so far and those to come are the tree's.
use Prim.Native.Nat.{ℕ, zero, suc, ◌+◌, ◌*◌, ◌≤◌, ◌<◌}
use mathlib.Core.Path.{◌≡◌, refl, sym, ap, subst, ◌∙◌}
use mathlib.Core.List.{List, [], ◌∷◌, ◌++◌, append_assoc, append-nil}
use native.Mathlib.Omega.{arith}
use lib.ListN.{length, get_or, take, drop, length-append, length-drop, take-append-drop}
use lib.Seq.{take-suc, length-take-le}
use Rattle.network.specs.Coverage.{Tree, leaf, join, under}
use Rattle.network.proofs.PostorderLaws.{nodes_in}
use Rattle.modelfile.specs.Network.{joined, subtrees}
use Rattle.modelfile.proofs.TreeLaws.{all_under, subtrees-append, joined-under}

-- what one node makes of the subtrees, the latest first
pub data Next : List Tree → ℕ → List Tree → Type 0 where
  grown : {S : List Tree} (c : ℕ) → Next S (suc c) (leaf (suc c) ∷ S)
  closed : {S : List Tree} (l r : Tree) → Next (r ∷ l ∷ S) 0 (join l r ∷ S)

-- how many nodes the subtrees have
unfoldable pub nodes_of : List Tree → ℕ
nodes_of [] = 0
nodes_of (t ∷ S) = nodes_of S + nodes_in t

-- the leaves among nodes
unfoldable pub leaves_in : List ℕ → List ℕ
leaves_in [] = []
leaves_in (zero ∷ xs) = leaves_in xs
leaves_in (suc c ∷ xs) = suc c ∷ leaves_in xs

pub nodes_under : (t : Tree) → nodes_in t + 1 ≡ 2 * length (under t)
unfolding nodes_in under
nodes_under (leaf c) = refl
nodes_under (join l r) = omega (arith, nodes_under l, nodes_under r, length-append (under l) (under r))

joined_nodes : (S : List Tree) → nodes_of (joined S) ≤ nodes_of S + 1
unfolding joined nodes_of nodes_in
joined_nodes [] = omega arith
joined_nodes (r ∷ []) = omega arith
joined_nodes (r ∷ l ∷ S) = omega arith

nodes_few : (S : List Tree) (xs : List ℕ) → nodes_of (subtrees S xs) ≤ nodes_of S + length xs
unfolding subtrees nodes_of nodes_in
nodes_few S [] = omega arith
nodes_few S (zero ∷ xs) = omega (arith, nodes_few (joined S) xs, joined_nodes S)
nodes_few S (suc c ∷ xs) = omega (arith, nodes_few (leaf (suc c) ∷ S) xs)

under-subtrees : (S : List Tree) (xs : List ℕ) → all_under (subtrees S xs) ≡ all_under S ++ leaves_in xs
unfolding subtrees leaves_in all_under under
under-subtrees S [] = sym (append-nil (all_under S))
under-subtrees S (zero ∷ xs) = under-subtrees (joined S) xs ∙ ap (λ l. l ++ leaves_in xs) (joined-under S)
under-subtrees S (suc c ∷ xs) = under-subtrees (leaf (suc c) ∷ S) xs ∙ append_assoc (all_under S) (suc c ∷ []) (leaves_in xs)

unfoldable pub stack : List ℕ → ℕ → List Tree
stack nodes i = subtrees [] (take i nodes)

module _ (nodes : List ℕ) (t : Tree) (one : subtrees [] nodes ≡ t ∷ []) (all : nodes_in t ≡ length nodes) where
  -- the centres so far and those to come
  pub parted_stack : (i : ℕ) → all_under (stack nodes i) ++ leaves_in (drop i nodes) ≡ under t
  unfolding stack all_under
  parted_stack i =
      sym (under-subtrees (subtrees [] (take i nodes)) (drop i nodes))
      ∙ ap all_under (sym (subtrees-append [] (take i nodes) (drop i nodes)) ∙ ap (subtrees []) (take-append-drop i nodes) ∙ one)

  stack_more : (i : ℕ) → i < length nodes → stack nodes (suc i) ≡ subtrees (stack nodes i) (get_or nodes i 0 ∷ [])
  unfolding stack
  stack_more i h = ap (subtrees []) (take-suc nodes i 0 h) ∙ subtrees-append [] (take i nodes) (get_or nodes i 0 ∷ [])

  stack_few : (i : ℕ) → i ≤ length nodes → nodes_of (stack nodes i) ≤ i
  unfolding stack nodes_of
  stack_few i h = omega (arith, nodes_few [] (take i nodes), length-take-le i nodes h)

  -- all nodes are in the end in the tree, so the nodes to come cannot be too few
  stack_enough : (i : ℕ) → i ≤ length nodes → i ≤ nodes_of (stack nodes i)
  unfolding stack nodes_of
  stack_enough i h =
      let e : subtrees (subtrees [] (take i nodes)) (drop i nodes) ≡ t ∷ [] = sym (subtrees-append [] (take i nodes) (drop i nodes)) ∙ ap (subtrees []) (take-append-drop i nodes) ∙ one in
      omega (arith, ap nodes_of e, all, nodes_few (subtrees [] (take i nodes)) (drop i nodes), length-drop i nodes)

  pub stack_count : (i : ℕ) → i ≤ length nodes → nodes_of (stack nodes i) ≡ i
  stack_count i h = omega (arith, stack_few i h, stack_enough i h)

  pub next : (i : ℕ) → i < length nodes → Next (stack nodes i) (get_or nodes i 0) (stack nodes (suc i))
  unfolding subtrees joined nodes_of nodes_in
  next i h =
      subst (Next (stack nodes i) (get_or nodes i 0)) (sym (stack_more i h))
      (by (stack nodes i) (get_or nodes i 0) (sym (ap nodes_of (stack_more i h)) ∙ stack_count (suc i) h ∙ ap suc (sym (stack_count i (omega arith)))))
    where
      by : (S : List Tree) (x : ℕ) → nodes_of (subtrees S (x ∷ [])) ≡ suc (nodes_of S) → Next S x (subtrees S (x ∷ []))
      by S (suc c) e = Next.grown c
      by [] zero e = absurd (omega arith)
      by (r ∷ []) zero e = absurd (omega arith)
      by (r ∷ l ∷ S) zero e = Next.closed l r
