-- Document 01, "Weights": "A state places each chain's N messages on the centres it visits. The value G(N) is the sum over all
-- states of the product of the centres' weights."
use Rattle.std.specs.Prelude.{ℕ, zero, suc, ◌*◌, ◌<◌, ◌≡◌, Bool, true, false, ◌&&◌, length, get_or}
use mathlib.Core.List.{List, [], ◌∷◌, map, flat_map}
use Rattle.sums.specs.Lists.{when}
use Rattle.sums.specs.Sums.{sum_over, vector_splits}
use Rattle.network.specs.Centre.{Route, Centre, routes_of, fits}

-- for each centre, how many messages of each chain stand there
abbrev pub State : Type 0
State = List (List ℕ)

-- with no centre there is one state if no message is left, and none otherwise
unfoldable pub empty_states : List ℕ → List State
empty_states [] = [] ∷ []
empty_states (zero ∷ left) = empty_states left
empty_states (suc n ∷ left) = []

-- every split of the messages into those at the first centre, which must visit it, and those at the other centres
unfoldable pub states : List Route → List ℕ → List State
states [] messages = empty_states messages
states (route ∷ routes) messages =
    flat_map (λ p. when (fits route p.0) (map (λ state. p.0 ∷ state) (states routes p.1))) (vector_splits messages)

-- how many messages of chain k + 1 a state has in all
abbrev pub held : ℕ → State → ℕ
held k state = sum_over state (λ ns. get_or ns k 0)

-- the numbers at each centre are 0 where the chain does not visit it
unfoldable pub on_routes : List Route → State → Bool
on_routes [] [] = true
on_routes [] (ns ∷ state) = false
on_routes (route ∷ routes) [] = false
on_routes (route ∷ routes) (ns ∷ state) = fits route ns && on_routes routes state

-- "A state places each chain's N messages on the centres it visits": the list above holds exactly these, and none twice (StateLaws)
pub record Placement (routes : List Route) (windows : List ℕ) (state : State) : Type 0 where
  pub routed : on_routes routes state ≡ true
  pub full : (k : ℕ) → k < length windows → held k state ≡ get_or windows k 0

-- the product of the centres' weights
unfoldable pub state_weight : List Centre → State → ℕ
state_weight [] state = 1
state_weight (c ∷ centres) [] = 0
state_weight (c ∷ centres) (ns ∷ state) = c.weigh ns * state_weight centres state

-- G(N)
unfoldable pub value : List Centre → List ℕ → ℕ
value centres windows = sum_over (states (routes_of centres) windows) (state_weight centres)

-- f where chain k, counted from 1, has one message less: 0 if it has none to give, f itself if k is 0
unfoldable pub lowered : ℕ → (List ℕ → ℕ) → List ℕ → ℕ
lowered zero f ns = f ns
lowered (suc zero) f [] = 0
lowered (suc zero) f (zero ∷ ns) = 0
lowered (suc zero) f (suc n ∷ ns) = f (n ∷ ns)
lowered (suc (suc k)) f [] = 0
lowered (suc (suc k)) f (n ∷ ns) = lowered (suc k) (λ rest. f (n ∷ rest)) ns
