-- "Plan, start and advance take a file and a chain to lower: 0 for none, else that chain's window counts one less." What is asked is
-- refused with 1 to 11, or is a model and the windows of the run.
use Rattle.modelfile.specs.declared.Refusal.{Refusal as FileRefusal}
use Rattle.std.specs.Prelude.{ℕ, zero, suc, ◌-◌, Bool, true, false, List, ltb, eqb, get_or, set}
use Rattle.network.specs.Cells.{all_cells, filled}
use Rattle.network.specs.Centre.{routes_of}
use Rattle.network.specs.Pairs.{Pair, all_pairs, listed}
use Rattle.modelfile.specs.File.{read_file}
use Rattle.modelfile.specs.Network.{windows_of, centres_of, tree_of}
use Rattle.calls.specs.declared.Refusal.{Refusal}
use Rattle.modelfile.specs.declared.Model.{Model}
use Rattle.std.specs.Prelude.{⊤, Result, Ok, Err}

pub data Asked : Type 0 where
  refused : Refusal → Asked
  granted : Model → List ℕ → Asked

abbrev pub pick_asked : Bool → Asked → Asked → Asked
pick_asked true stop on = stop
pick_asked false stop on = on

-- chain k's window counts one less
abbrev pub less_one : List ℕ → ℕ → List ℕ
less_one windows k = set windows k (get_or windows k 0 - 1)

-- the windows of a run
abbrev pub run_windows : Model → ℕ → List ℕ
run_windows m zero = windows_of m
run_windows m (suc k) = less_one (windows_of m) k

-- 10: "lowered chain above the number of chains"; 11: "lowered chain has window 0"
unfoldable pub lowering : Model → ℕ → Asked
lowering m zero = granted m (run_windows m zero)
lowering m (suc k) =
    pick_asked (ltb m.chains (suc k)) (refused Refusal.NoSuchChain)
    (pick_asked (eqb (get_or (windows_of m) k 0) 0) (refused Refusal.WindowZero)
    (granted m (run_windows m (suc k))))

abbrev pub on_verdict : Result ⊤ FileRefusal → Asked → Asked
on_verdict (Ok u) asked = asked
on_verdict (Err r) asked = refused (Refusal.File r)

unfoldable pub ask : List ℕ → ℕ → Asked
ask file lower = on_verdict (read_file file).verdict (lowering (read_file file).model lower)

-- the model of a file, and the windows of a run of it
abbrev pub model_of : List ℕ → Model
model_of file = (read_file file).model

abbrev pub windows_for : List ℕ → ℕ → List ℕ
windows_for file lower = run_windows (model_of file) lower

-- what is answered where nothing of 1 to 11 is refused
module _ {A : Type 0} where
  abbrev pub on_granted : Asked → (Refusal → A) → (Model → List ℕ → A) → A
  on_granted (refused r) stop on = stop r
  on_granted (granted m windows) stop on = on m windows

-- ---- a model under the windows of a run

abbrev pub cells_in : Model → List ℕ → ℕ
cells_in m windows = all_cells (routes_of (centres_of m)) windows (tree_of m)

abbrev pub pairs_in : Model → List ℕ → ℕ
pairs_in m windows = all_pairs (routes_of (centres_of m)) windows (tree_of m)

abbrev pub pairs_listed : Model → List ℕ → List Pair
pairs_listed m windows = listed (routes_of (centres_of m)) windows (tree_of m) 0

abbrev pub filled_by : Model → List ℕ → List ℕ
filled_by m windows = filled (centres_of m) windows (tree_of m)
