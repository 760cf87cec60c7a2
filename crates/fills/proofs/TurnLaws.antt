-- The two loops over the nodes of a prepared run, turn by turn: which cells the nodes passed have, and what is known of the next one.
use Prim.Native.Nat.{ℕ, zero, suc, ◌+◌, ◌≤◌, ◌<◌}
use mathlib.Core.Path.{◌≡◌, refl, sym, ap, subst, ◌∙◌}
use mathlib.Core.Bool.{Bool, true, false}
use mathlib.Core.List.{List, ◌++◌}
use native.Mathlib.Nat.{le_refl}
use native.Mathlib.Omega.{arith}
use lib.ListN.{length, get_or, take, drop}
use lib.Seq.{length-take-le, get_or-take}
use native.Mathlib.Numerals.{add-one}
use Rattle.std.specs.Bool.{MatchBool}
use Rattle.std.specs.List.{AllWithin, HoldsAt}
use Rattle.std.proofs.lemmas.List.{get_or_default}
use Rattle.sums.specs.Lists.{some}
use Rattle.network.specs.Cells.{start_cell, filled}
use Rattle.network.proofs.AreaLaws.{length-spread}
use Rattle.modelfile.specs.Network.{centres_of, tree_of}
use Rattle.modelfile.specs.declared.Model.{Model}
use Rattle.calls.specs.Asked.{cells_in, filled_by}
use Rattle.calls.specs.Start.{too_large}
use Rattle.plan.specs.Table.{windows_in, routes_in}
use Rattle.plan.specs.Steps.{no_node}
use Rattle.plan.specs.Asking.{Prepared, chains_of}
use Rattle.plan.specs.declared.Chains.{Chains}
use Rattle.plan.specs.declared.Node.{Node}
use Rattle.plan.specs.declared.Table.{Table}
use Rattle.fills.specs.Nodes.{node_cells, put, NodeIn}
use Rattle.fills.proofs.FillLaws.{cells_to, none_first, none_more, some_found, none_at, Filled, filled_first, filled_turn}
use Rattle.fills.proofs.PreparedLaws.{count_low, filled_is, node_ready, node_base, node_room}

abbrev pub node_at : Table → ℕ → Node
node_at t i = get_or t.nodes i no_node

module _ (loads : List ℕ) (ch : Chains) (t : Table) where
  -- the cells of the first i nodes
  abbrev first_cells : ℕ → List ℕ
  first_cells i = cells_to (node_cells loads ch) t.nodes no_node i

  -- they are written
  pub record Written (old now : List ℕ) (i : ℕ) : Type 0 where
    pub low : i ≤ t.count
    pub filled : Filled (node_cells loads ch) t.nodes no_node old now i
    pub long : length now ≡ length old

  pub written_first : (old : List ℕ) → Written old old 0
  written_first old = record { low = omega arith; filled = filled_first (node_cells loads ch) t.nodes no_node old; long = refl }

-- ch: the run's chains as the code makes them
module _ (m : Model) (windows : List ℕ) (t : Table) (p : Prepared m windows t) {ch : Chains} (made : chains_of p ≡ ch) where
  abbrev cells_of : Node → List ℕ
  cells_of = node_cells m.loads ch

  abbrev whole : List ℕ
  whole = filled_by m (windows_in m windows)

  length_whole : length whole ≡ cells_in m (windows_in m windows)
  unfolding filled
  length_whole = length-spread (routes_in m) (windows_in m windows) (start_cell (centres_of m)) (tree_of m)

  filled_here : first_cells m.loads ch t t.count ≡ whole
  filled_here = subst (λ ch. first_cells m.loads ch t t.count ≡ whole) made (filled_is m windows t p)

  base_here : (i : ℕ) → i < t.count → (node_at t i).base ≡ length (first_cells m.loads ch t i)
  base_here i h = subst (λ ch. (node_at t i).base ≡ length (first_cells m.loads ch t i)) made (node_base m windows t p i h)

  pub ready_here : (i : ℕ) → i < t.count → NodeIn m.loads ch (node_at t i)
  ready_here i h = subst (λ ch. NodeIn m.loads ch (node_at t i)) made (node_ready m windows t p i h)

  pub written_last : {old now : List ℕ} {i : ℕ} → Written m.loads ch t old now i → t.count ≤ i → now ≡ whole ++ drop (cells_in m (windows_in m windows)) old
  written_last {old} {now} {i} w h =
      let e : i ≡ t.count = omega (arith, w.low) in
      let f = ap (first_cells m.loads ch t) e ∙ filled_here in
      w.filled.is ∙ ap (λ l. l ++ drop (length l) old) f ∙ ap (λ n. whole ++ drop n old) length_whole

  -- the nodes passed over: the first n
  first_nodes : {n : ℕ} → n ≤ t.count → length (take n t.nodes) ≡ n
  first_nodes {n} l = length-take-le n t.nodes (omega (arith, count_low m windows t p))

  pub among_first : {n i : ℕ} → i < length (take n t.nodes) → n ≤ t.count → i < t.count
  among_first h l = omega (arith, first_nodes l)

  pub first_at : {n i : ℕ} → i < length (take n t.nodes) → n ≤ t.count → get_or (take n t.nodes) i no_node ≡ node_at t i
  first_at {n} {i} h l = get_or-take n t.nodes i no_node (omega (arith, first_nodes l))

  pub past_first : {n i : ℕ} → length (take n t.nodes) ≤ i → n ≡ t.count → t.count ≤ i
  past_first {n} h e = let l : n ≤ t.count = omega arith in omega (arith, first_nodes l)

  -- each of them, as it is found there
  pub item_ready : {x : Node} {k : ℕ} → k < length (take t.count t.nodes) → x ≡ get_or (take t.count t.nodes) k x → NodeIn m.loads ch x
  item_ready {x} {k} h e =
      let l = among_first h (le_refl t.count) in
      let d : x ≡ node_at t k = e ∙ get_or_default (take t.count t.nodes) k x no_node h ∙ first_at h (le_refl t.count) in
      subst (NodeIn m.loads ch) (sym d) (ready_here k l)

  -- the nodes passed over, and what the question asks of each
  abbrev passed : List Node
  passed = take t.count t.nodes

  abbrev Large : Node → Type 0
  Large x = some too_large (cells_of x) ≡ true

  abbrev Low : Node → Type 0
  Low x = some too_large (cells_of x) ≡ false

  none_in : (n : ℕ) → n ≤ t.count → AllWithin Low passed 0 (length passed) → some too_large (first_cells m.loads ch t n) ≡ false
  none_in zero l h = none_first cells_of t.nodes no_node too_large
  none_in (suc n) l h =
      let k : n < length t.nodes = omega (arith, count_low m windows t p) in
      let i : n < length passed = omega (arith, first_nodes (le_refl t.count)) in
      let e : some too_large (cells_of (node_at t n)) ≡ false = rw (first_at i (le_refl t.count)) at (h n no_node (omega arith) i) in
      rw (← add-one n) (none_more cells_of t.nodes no_node too_large n k (none_in n (omega arith) h) e)

  pub any_is : (b : Bool) → MatchBool b ((k : ℕ) × (k < length passed) × HoldsAt Large passed k) (AllWithin Low passed 0 (length passed)) → b ≡ some too_large whole
  any_is true r =
      let h = among_first r.1 (le_refl t.count) in
      let e : some too_large (cells_of (node_at t r.0)) ≡ true = rw (first_at r.1 (le_refl t.count)) at (r.2 no_node) in
      sym (ap (some too_large) (sym (filled_here)) ∙ some_found cells_of t.nodes no_node too_large t.count r.0 (count_low m windows t p) h e)
  any_is false h = sym (ap (some too_large) (sym (filled_here)) ∙ none_in t.count (le_refl t.count) h)

  module _ {i : ℕ} (h : i < t.count) where
    pub inside : i < length t.nodes
    inside = omega (arith, count_low m windows t p)

    pub next_low : some too_large whole ≡ false → some too_large (cells_of (node_at t i)) ≡ false
    next_low e = none_at cells_of t.nodes no_node too_large t.count i (count_low m windows t p) h (ap (some too_large) (filled_here) ∙ e)

    module _ {old now : List ℕ} (w : Written m.loads ch t old now i) (room : cells_in m (windows_in m windows) ≤ length old) where
      pub next_room : (node_at t i).base + (node_at t i).cells ≤ length now
      next_room = omega (arith, node_room m windows t p i h, w.long)

      pub written_turn : {next : List ℕ} → next ≡ put (node_at t i).base (cells_of (node_at t i)) now → length next ≡ length now
          → Written m.loads ch t old next (i + 1)
      written_turn e l = record {
        low = omega arith;
        filled = filled_turn cells_of t.nodes no_node inside (base_here i h) w.filled e;
        long =
            l ∙ w.long;
      }
