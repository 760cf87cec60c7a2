-- What an accepted file guarantees of its model. The law is `accepted` in AcceptedLaws.
use Prim.Native.Nat.{ℕ, ◌+◌, ◌*◌, ◌<◌, ◌≤◌}
use mathlib.Core.Path.{◌≡◌}
use mathlib.Core.List.{[], ◌∷◌, Permᴰ}
use lib.ListN.{length, get_or, take}
use Rattle.sums.specs.Lists.{from}
use Rattle.network.specs.Coverage.{under}
use Rattle.modelfile.specs.Network.{subtrees, tree_of}
use Rattle.modelfile.specs.declared.Model.{Model}

pub record Guaranteed (m : Model) : Type 0 where
  -- the size record
  pub centres_range : (1 ≤ m.centres) × (m.centres ≤ 16)
  pub chains_range : (1 ≤ m.chains) × (m.chains ≤ 8)
  -- one window for each chain
  pub windows_given : m.given ≡ m.chains
  pub windows_long : length m.windows ≡ 8
  pub window_range : (k : ℕ) → get_or m.windows k 0 ≤ 15
  -- loads of declared centres only; each chain visits a centre
  pub loads_long : length m.loads ≡ 128
  pub load_range : (i : ℕ) → get_or m.loads i 0 ≤ 65535
  pub loads_inside : (c k : ℕ) → k < 8 → m.centres ≤ c → get_or m.loads (c * 8 + k) 0 ≡ 0
  pub visited : (k : ℕ) → k < m.chains → (c : ℕ) × (c < m.centres) × (get_or m.loads (c * 8 + k) 0 ≡ 0 → ⊥)
  -- the nodes leave one tree, in which each centre is exactly one leaf
  pub nodes_long : length m.nodes ≡ 31
  pub count_is : m.count + 1 ≡ 2 * m.centres
  pub count_range : m.count ≤ 31
  pub one_tree : subtrees [] (take m.count m.nodes) ≡ tree_of m ∷ []
  pub leaves : Permᴰ (under (tree_of m)) (from 1 m.centres)
