-- The network that a model as read describes: windows, centres and tree.
use Rattle.std.specs.Prelude.{ℕ, zero, suc, ◌-◌, ◌*◌, List, [], ◌∷◌, map, take, drop}
use Rattle.sums.specs.Lists.{from}
use Rattle.network.specs.Centre.{Centre, queue}
use Rattle.network.specs.Coverage.{Tree, leaf, join}
use Rattle.modelfile.specs.Ends.{last_chain}
use Rattle.modelfile.specs.declared.Model.{Model}

unfoldable pub windows_of : Model → List ℕ
windows_of m = take m.chains m.windows

-- a centre's loads, one a chain; 0 where the chain does not visit
unfoldable pub loads_of : Model → ℕ → List ℕ
loads_of m centre = take m.chains (drop ((centre - 1) * last_chain) m.loads)

-- the centres, centre 1 first
unfoldable pub centres_of : Model → List Centre
centres_of m = map (λ centre. queue (loads_of m centre)) (from 1 m.centres)

-- "joins the two latest subtrees, the earlier one on the left": the latest stands first
unfoldable pub joined : List Tree → List Tree
joined [] = []
joined (r ∷ []) = r ∷ []
joined (r ∷ l ∷ stack) = join l r ∷ stack

-- "Leaves and joins stand in postorder": the subtrees that the nodes leave
unfoldable pub subtrees : List Tree → List ℕ → List Tree
subtrees stack [] = stack
subtrees stack (zero ∷ nodes) = subtrees (joined stack) nodes
subtrees stack (suc c ∷ nodes) = subtrees (leaf (suc c) ∷ stack) nodes

abbrev pub latest : List Tree → Tree
latest [] = leaf 0
latest (t ∷ stack) = t

unfoldable pub tree_of : Model → Tree
tree_of m = latest (subtrees [] (take m.count m.nodes))
