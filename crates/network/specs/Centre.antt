-- A centre, as the laws know it: which chains visit it, and its weight for any numbers of messages, one a chain.
use Rattle.std.specs.Prelude.{ℕ, zero, suc, ◌≤◌, ◌≡◌, Bool, true, false, List, [], ◌∷◌, map}
use Rattle.network.specs.Weight.{weight}

-- for each chain, whether it visits
abbrev pub Route : Type 0
Route = List Bool

pub record Centre : Type 0 where
  pub route : Route
  pub weigh : List ℕ → ℕ

abbrev pub routes_of : List Centre → List Route
routes_of centres = map (λ c. c.route) centres

-- "A chain visits a centre exactly if the file gives a load for the pair": loads are at least 1, and 0 stands for none
unfoldable pub visit : ℕ → Bool
visit zero = false
visit (suc load) = true

-- a fixed-rate queueing centre
abbrev pub queue : List ℕ → Centre
queue loads = record { route = map visit loads; weigh = weight loads }

-- the numbers of messages, one a chain, are 0 where the chain does not visit
unfoldable pub fits : Route → List ℕ → Bool
fits [] [] = true
fits [] (n ∷ ns) = false
fits (visits ∷ route) [] = false
fits (true ∷ route) (n ∷ ns) = fits route ns
fits (false ∷ route) (zero ∷ ns) = fits route ns
fits (false ∷ route) (suc n ∷ ns) = false

-- the two properties of a weight: 0 off the route; at least 1 on it
abbrev pub Off : Centre → Type 0
Off c = (ns : List ℕ) → fits c.route ns ≡ false → c.weigh ns ≡ 0

abbrev pub On : Centre → Type 0
On c = (ns : List ℕ) → fits c.route ns ≡ true → 1 ≤ c.weigh ns
