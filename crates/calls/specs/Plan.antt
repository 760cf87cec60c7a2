-- "Plan returns cells and pairs." It gives 1 to 11.
use Rattle.std.specs.Prelude.{Err}
use Rattle.std.specs.Prelude.{ℕ, ◌≡◌, List, get_or}
use Rattle.network.specs.Centre.{visit}
use Rattle.modelfile.specs.declared.Model.{Model}
use Rattle.calls.specs.Asked.{ask, on_granted, cells_in, pairs_in}
use Rattle.calls.specs.Answers.{PlanAnswer, planned_as}

unfoldable pub plan : List ℕ → ℕ → PlanAnswer
plan file lower =
    on_granted (ask file lower) (λ r. Err r) λ m windows.
    planned_as (cells_in m windows) (pairs_in m windows)

-- two models that differ in loads only: where one has a load the other has one
pub record SameButLoads (m n : Model) : Type 0 where
  pub centres : m.centres ≡ n.centres
  pub chains : m.chains ≡ n.chains
  pub windows : m.windows ≡ n.windows
  pub count : m.count ≡ n.count
  pub nodes : m.nodes ≡ n.nodes
  pub loads : (i : ℕ) → visit (get_or m.loads i 0) ≡ visit (get_or n.loads i 0)
