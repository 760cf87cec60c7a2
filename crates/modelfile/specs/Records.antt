-- Document 01, "The model file" and refusals 1 to 9, record by record. `rest` is the file from a record's kind byte on, `at` the
-- place of that byte, and `m` what the records before have given. "Within a record: kind, completeness, fields from left to right,
-- then 4 to 8": the first test that holds decides.
use Rattle.std.specs.Prelude.{ℕ, ◌+◌, ◌-◌, ◌*◌, Bool, true, false, not, ◌&&◌, ◌||◌, List, [], ◌∷◌, ltb, leb, eqb, length, get_or, Ok, Err}
use Rattle.sums.specs.Lists.{from, some}
use Rattle.modelfile.specs.Ends.{last_centre, last_chain, largest_window, largest_load, outside}
use Rattle.modelfile.specs.Model.{with_size, with_window, slot, with_load, with_leaf, with_join}
use Rattle.modelfile.specs.declared.Fault.{Fault}
use Rattle.modelfile.specs.declared.Model.{Model}
use Rattle.modelfile.specs.declared.Step.{Step}
use Rattle.modelfile.specs.declared.Stepped.{Stepped}

abbrev pub more : Model → Stepped
more m = record { step = Ok Step.More; model = m }

abbrev pub refuse : Fault → ℕ → Model → Stepped
refuse fault place m = record { step = Err (record { fault = fault; place = place }); model = m }

abbrev pub pick : Bool → Stepped → Stepped → Stepped
pick true stop on = stop
pick false stop on = on

-- ---- what 5 and 8 look at

-- centre c + 1 has a load of chain k + 1
abbrev pub loaded : List ℕ → ℕ → ℕ → Bool
loaded loads k c = not (eqb (get_or loads (c * last_chain + k) 0) 0)

-- 5: "some chain has no centre"
unfoldable pub chain_without_centre : Model → Bool
chain_without_centre m = some (λ k. not (some (loaded m.loads k) (from 0 last_centre))) (from 0 m.chains)

-- 8: "a centre missing"
unfoldable pub centre_missing : Model → Bool
centre_missing m = some (λ c. eqb (get_or m.placed c 0) 0) (from 0 m.centres)

-- ---- the six kinds

-- kind 1: centres, chains
unfoldable pub read_size : List ℕ → ℕ → Model → Stepped
read_size rest at m =
    pick (outside 1 last_centre (get_or rest 1 0)) (refuse Fault.OutOfRange (at + 1) m)
    (pick (outside 1 last_chain (get_or rest 2 0)) (refuse Fault.OutOfRange (at + 2) m)
    (more (with_size m (get_or rest 1 0) (get_or rest 2 0))))

-- kind 2: chain, window; "one for each chain, 1 upward"
unfoldable pub read_window : List ℕ → ℕ → Model → Stepped
read_window rest at m =
    pick (not (eqb (get_or rest 1 0) (m.given + 1))) (refuse Fault.OutOfRange (at + 1) m)
    (pick (outside 0 largest_window (get_or rest 2 0)) (refuse Fault.OutOfRange (at + 2) m)
    (more (with_window m (get_or rest 2 0))))

-- kind 3: centre, chain, load, "high byte first"; 4 is "a load not above the one before in order"
abbrev pub load_in : List ℕ → ℕ
load_in rest = get_or rest 3 0 * 256 + get_or rest 4 0

unfoldable pub read_load : List ℕ → ℕ → Model → Stepped
read_load rest at m =
    pick (outside 1 m.centres (get_or rest 1 0)) (refuse Fault.OutOfRange (at + 1) m)
    (pick (outside 1 m.chains (get_or rest 2 0)) (refuse Fault.OutOfRange (at + 2) m)
    (pick (outside 1 largest_load (load_in rest)) (refuse Fault.OutOfRange (at + 3) m)
    (pick (ltb (slot (get_or rest 1 0) (get_or rest 2 0)) m.passed) (refuse Fault.OutOfOrder at m)
    (more (with_load m (get_or rest 1 0) (get_or rest 2 0) (load_in rest))))))

-- kind 4: a leaf; 5 is looked at where it is the first, 6 is "a centre already in the tree"
unfoldable pub read_leaf : List ℕ → ℕ → Model → Stepped
read_leaf rest at m =
    pick (outside 1 m.centres (get_or rest 1 0)) (refuse Fault.OutOfRange (at + 1) m)
    (pick (eqb m.count 0 && chain_without_centre m) (refuse Fault.ChainWithoutCentre at m)
    (pick (not (eqb (get_or m.placed (get_or rest 1 0 - 1) 0) 0)) (refuse Fault.CentreAgain (at + 1) m)
    (more (with_leaf m at (get_or rest 1 0)))))

-- kind 5: a join; 7 is "a join with fewer than two subtrees"
unfoldable pub read_join : List ℕ → ℕ → Model → Stepped
read_join rest at m = pick (ltb m.trees 2) (refuse Fault.TooFewSubtrees at m) (more (with_join m))

-- kind 6: the end; 8 is "not one subtree, or a centre missing", 9 "bytes after the end"
unfoldable pub read_end : List ℕ → ℕ → Model → Stepped
read_end rest at m =
    pick (not (eqb m.trees 1) || centre_missing m) (refuse Fault.NotOneTree at m)
    (pick (ltb 1 (length rest)) (refuse Fault.PastTheEnd (at + 1) m)
    (record { step = Ok Step.Last; model = m }))

-- ---- one record of any kind

-- "A record is one byte of kind, then a body whose length the kind fixes": kinds 0 to 6
unfoldable pub body_length : ℕ → ℕ
body_length kind = get_or (0 ∷ 2 ∷ 2 ∷ 4 ∷ 1 ∷ 0 ∷ 0 ∷ []) kind 0

abbrev pub pick_kinds : Bool → List ℕ → List ℕ → List ℕ
pick_kinds true kinds others = kinds
pick_kinds false kinds others = others

-- "size, once, first"; the windows, "one for each chain"; "After the windows kind 3 or 4 is due; after the first leaf, kinds 4, 5 or 6."
unfoldable pub due : Model → List ℕ
due m =
    pick_kinds (eqb m.centres 0) (1 ∷ [])
    (pick_kinds (ltb m.given m.chains) (2 ∷ [])
    (pick_kinds (eqb m.count 0) (3 ∷ 4 ∷ [])
    (4 ∷ 5 ∷ 6 ∷ [])))

unfoldable pub read_body : ℕ → List ℕ → ℕ → Model → Stepped
read_body kind rest at m =
    pick (eqb kind 1) (read_size rest at m)
    (pick (eqb kind 2) (read_window rest at m)
    (pick (eqb kind 3) (read_load rest at m)
    (pick (eqb kind 4) (read_leaf rest at m)
    (pick (eqb kind 5) (read_join rest at m)
    (read_end rest at m)))))

-- 2: "a kind that isn't due"; 1: "bytes end before the due record does", at the file's length
unfoldable pub read_record : List ℕ → ℕ → Model → Stepped
read_record rest at m =
    pick (not (some (eqb (get_or rest 0 0)) (due m))) (refuse Fault.NotDue at m)
    (pick (leb (length rest) (body_length (get_or rest 0 0))) (refuse Fault.Incomplete (at + length rest) m)
    (read_body (get_or rest 0 0) rest at m))
