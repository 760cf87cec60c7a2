-- One node of the table: a leaf gives no pairs, and a join's number of pairs is what the table says. So a node is passed over, left, or
-- walked, as the code does.
use Prim.Native.Nat.{ℕ, ◌-◌, ◌≤◌}
use mathlib.Core.Path.{◌≡◌, refl, sym, ap, ◌∙◌}
use mathlib.Core.Bool.{true, false}
use mathlib.Core.List.{List}
use native.Mathlib.Omega.{arith}
use lib.ListN.{length}
use Rattle.network.specs.Centre.{Route}
use Rattle.network.specs.Coverage.{leaf}
use Rattle.network.specs.Pairs.{Pair}
use Rattle.network.proofs.CountLaws.{own_count}
use Rattle.plan.specs.Table.{entry, centre_at, pairs_at}
use Rattle.plan.specs.declared.Chains.{Chains}
use Rattle.plan.specs.declared.Node.{Node}
use Rattle.joins.specs.Walk.{State, state, walk}
use Rattle.joins.specs.declared.Quota.{Quota}
use Rattle.joins.proofs.WalkLaws.{walk_over, walk_past, walk_none}
use Rattle.spends.specs.Joins.{JoinIn, NodeIn, join_pairs, node_pairs}

leaf_centre : (own : Node) (routes : List Route) (windows : List ℕ) (c start : ℕ) → own ≡ entry routes windows (leaf c) start → own.centre ≡ c
unfolding entry centre_at
leaf_centre own routes windows c start e = ap (λ e. e.centre) e

module _ {ch : Chains} {left right own : Node} {n : ℕ} where
  join_centre : JoinIn ch left right own n → own.centre ≡ 0
  unfolding entry centre_at
  join_centre j = ap (λ e. e.centre) j.own_is

  join_count : (j : JoinIn ch left right own n) → length (join_pairs j) ≡ own.pairs
  unfolding entry pairs_at
  join_count j = own_count j.routes j.windows j.l j.r j.rest j.parted j.start ∙ sym (ap (λ e. e.pairs) j.own_is)

  -- a leaf
  pub node_leaf : (s : State) (x : NodeIn ch left right own n) → (own.centre ≡ 0 → ⊥) → s ≡ walk (node_pairs x) s
  unfolding walk
  node_leaf s (NodeIn.alone routes windows c start e h) f = refl
  node_leaf s (NodeIn.joined j) f = absurd (f (join_centre j))

  -- a join that is passed over
  pub node_past : (q : Quota) (A : List ℕ) (x : NodeIn ch left right own n) → own.centre ≡ 0 → q.over ≡ false → own.pairs ≤ q.skip
      → state (record { skip = q.skip - own.pairs; budget = q.budget; over = q.over }) A ≡ walk (node_pairs x) (state q A)
  node_past q A (NodeIn.alone routes windows c start e h) z o k = absurd (omega (arith, leaf_centre own routes windows c start e))
  node_past q A (NodeIn.joined j) z o k =
      let c = join_count j in
      ap (λ b. record { skip = q.skip - own.pairs; budget = q.budget; over = b; area = A }) o
      ∙ sym (ap (λ b. walk (join_pairs j) (record { skip = q.skip; budget = q.budget; over = b; area = A })) o
      ∙ walk_past (join_pairs j) q.skip q.budget A (omega arith)
      ∙ ap (λ x. record { skip = q.skip - x; budget = q.budget; over = false; area = A }) c)

  -- a join that is walked
  pub node_join : NodeIn ch left right own n → own.centre ≡ 0 → JoinIn ch left right own n
  node_join (NodeIn.alone routes windows c start e h) z = absurd (omega (arith, leaf_centre own routes windows c start e))
  node_join (NodeIn.joined j) z = j

  pub node_walked : (s e : State) (x : NodeIn ch left right own n) → own.centre ≡ 0 → ((j : JoinIn ch left right own n) → e ≡ walk (join_pairs j) s) → e ≡ walk (node_pairs x) s
  node_walked s e (NodeIn.alone routes windows c start d h) z f = absurd (omega (arith, leaf_centre own routes windows c start d))
  node_walked s e (NodeIn.joined j) z f = f j

-- ---- walks that add nothing: one that is over, and one without a budget

pub quota_over : (ps : List Pair) (q : Quota) (A : List ℕ) → q.over ≡ true → state q A ≡ walk ps (state q A)
quota_over ps q A o = sym (ap (λ b. walk ps (record { skip = q.skip; budget = q.budget; over = b; area = A })) o ∙ walk_over ps q.skip q.budget A ∙ ap (λ b. record { skip = q.skip; budget = q.budget; over = b; area = A }) (sym o))

pub quota_none : (ps : List Pair) (q : Quota) (A : List ℕ) (n k : ℕ) → length ps ≡ n → q.over ≡ false → q.budget ≡ 0 → k ≡ q.skip - n
    → state (record { skip = k; budget = 0; over = false }) A ≡ walk ps (state q A)
quota_none ps q A n k counted o z e = sym (rw (o, z) (walk_none ps q.skip A ∙ rw (counted, ← e)))
