-- The model as read: empty at first, and with one record more.
use Rattle.std.specs.Prelude.{ℕ, ◌+◌, ◌-◌, ◌*◌, Bool, true, false, eqb, set, replicate}
use Rattle.modelfile.specs.Ends.{last_chain}
use Rattle.modelfile.specs.declared.Model.{Model}

unfoldable pub empty_model : Model
empty_model = record { centres = 0; chains = 0; given = 0; windows = replicate 8 0; passed = 0; loads = replicate 128 0; first = 0; count = 0; nodes = replicate 31 0; trees = 0; placed = replicate 16 0 }

unfoldable pub with_size : Model → ℕ → ℕ → Model
with_size m centres chains =
    record { centres = centres; chains = chains; given = m.given; windows = m.windows; passed = m.passed; loads = m.loads; first = m.first; count = m.count; nodes = m.nodes; trees = m.trees; placed = m.placed }

-- the next chain's window
unfoldable pub with_window : Model → ℕ → Model
with_window m window =
    record { centres = m.centres; chains = m.chains; given = m.given + 1; windows = set m.windows m.given window; passed = m.passed; loads = m.loads; first = m.first; count = m.count; nodes = m.nodes; trees = m.trees; placed = m.placed }

-- "ascending by centre, then chain": the slots stand in that order, from 0
abbrev pub slot : ℕ → ℕ → ℕ
slot centre chain = (centre - 1) * last_chain + (chain - 1)

unfoldable pub with_load : Model → ℕ → ℕ → ℕ → Model
with_load m centre chain load =
    record { centres = m.centres; chains = m.chains; given = m.given; windows = m.windows; passed = slot centre chain + 1; loads = set m.loads (slot centre chain) load; first = m.first; count = m.count; nodes = m.nodes; trees = m.trees; placed = m.placed }

-- the first leaf's place, if this leaf at `at` is the first
abbrev pub first_place : Bool → ℕ → ℕ → ℕ
first_place true at first = at
first_place false at first = first

unfoldable pub with_leaf : Model → ℕ → ℕ → Model
with_leaf m at centre =
    record { centres = m.centres; chains = m.chains; given = m.given; windows = m.windows; passed = m.passed; loads = m.loads; first = first_place (eqb m.count 0) at m.first; count = m.count + 1; nodes = set m.nodes m.count centre; trees = m.trees + 1; placed = set m.placed (centre - 1) 1 }

unfoldable pub with_join : Model → Model
with_join m =
    record { centres = m.centres; chains = m.chains; given = m.given; windows = m.windows; passed = m.passed; loads = m.loads; first = m.first; count = m.count + 1; nodes = set m.nodes m.count 0; trees = m.trees - 1; placed = m.placed }
