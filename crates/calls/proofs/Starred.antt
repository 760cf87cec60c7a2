-- Document 01, "Numbers on each side": the starred lines, one table with a named part for each, computed from the bytes of each file
-- through the definitions of the calls. Each part holds by computing both sides.
use Prim.Native.Nat.{ℕ, ◌^◌}
use mathlib.Core.Path.{◌≡◌, refl}
use mathlib.Core.List.{List, [], ◌∷◌, ◌++◌, flat_map, zip_with}
use lib.ListN.{replicate}
use Rattle.modelfile.specs.Refusals.{fault_number}
use Rattle.calls.specs.Answers.{number_of, place_of, sheet_numbers}
use Rattle.sums.specs.Lists.{from, by_number, some, all, when, those, among}
use Rattle.sums.specs.Sums.{sum_over, splits, vector_splits}
use Rattle.network.specs.Weight.{binomial, multinomial, powers, weight}
use Rattle.network.specs.Centre.{visit, fits}
use Rattle.network.specs.States.{empty_states, states, state_weight, value, lowered}
use Rattle.network.specs.Coverage.{under, visits, chain_centres, coverage_by, coverage, coverages}
use Rattle.network.specs.Cells.{span, index_values, indices, size, cells, stride, strides, along, spans_at, all_cells, base, cell_of, spread, start_cell, filled}
use Rattle.network.specs.Pairs.{chain_pairs, index_pairs, factor, factors, own_pairs, listed, all_pairs, triangles, plain_pairs}
use Rattle.network.specs.Run.{sum_at, add, spend}
use Rattle.modelfile.specs.Ends.{outside}
use Rattle.modelfile.specs.Model.{empty_model, with_size, with_window, with_load, with_leaf, with_join}
use Rattle.modelfile.specs.Records.{chain_without_centre, centre_missing, read_size, read_window, read_load, read_leaf, read_join, read_end, body_length, due, read_body, read_record}
use Rattle.modelfile.specs.File.{read_from, read_file}
use Rattle.modelfile.specs.Part.{tree_part, part_from}
use Rattle.modelfile.specs.Network.{windows_of, loads_of, centres_of, joined, subtrees, tree_of}
use Rattle.calls.specs.Answers.{Left, plan_numbers, start_numbers, advance_numbers, no_sheet, part_numbers}
use Rattle.calls.specs.Asked.{lowering, ask}
use Rattle.calls.specs.Plan.{plan}
use Rattle.calls.specs.Start.{no_room, start_in, start}
use Rattle.calls.specs.Advance.{value_at, told, advance_in, advance}
use Rattle.calls.specs.Sheet.{full_value, numerator, load_sum, largest, first_with, busiest, numerators, full_sheet, sheet_of, cleared, sheet_in, sheet}
use Rattle.calls.specs.declared.PlanNumbers.{PlanNumbers}
use Rattle.calls.specs.Answers.{StartAnswer}
use Rattle.calls.specs.declared.StartNumbers.{StartNumbers}
use Rattle.calls.specs.Answers.{AdvanceAnswer}
use Rattle.calls.specs.declared.AdvanceNumbers.{AdvanceNumbers}

-- ---- the files

-- B's size, windows and loads; then "tree 1 2 join 3 join", and "tree 2 3 join 1 join"
unfoldable pub front : List ℕ
front = 1 ∷ 3 ∷ 2 ∷ 2 ∷ 1 ∷ 1 ∷ 2 ∷ 2 ∷ 1 ∷ 3 ∷ 1 ∷ 1 ∷ 0 ∷ 1 ∷ 3 ∷ 1 ∷ 2 ∷ 0 ∷ 2 ∷ 3 ∷ 2 ∷ 1 ∷ 0 ∷ 3 ∷ 3 ∷ 3 ∷ 2 ∷ 0 ∷ 1 ∷ []

unfoldable pub B : List ℕ
B = front ++ (4 ∷ 1 ∷ 4 ∷ 2 ∷ 5 ∷ 4 ∷ 3 ∷ 5 ∷ 6 ∷ [])

unfoldable pub other : List ℕ
other = front ++ (4 ∷ 2 ∷ 4 ∷ 3 ∷ 5 ∷ 4 ∷ 1 ∷ 5 ∷ 6 ∷ [])

-- "2 centres, 1 chain, window 2, loads 1 and 2"
unfoldable pub two : List ℕ
two = 1 ∷ 2 ∷ 1 ∷ 2 ∷ 1 ∷ 2 ∷ 3 ∷ 1 ∷ 1 ∷ 0 ∷ 1 ∷ 3 ∷ 2 ∷ 1 ∷ 0 ∷ 2 ∷ 4 ∷ 1 ∷ 4 ∷ 2 ∷ 5 ∷ 6 ∷ []

-- "1 centre, windows 2 and 1, loads 2 and 3"
unfoldable pub both : List ℕ
both = 1 ∷ 1 ∷ 2 ∷ 2 ∷ 1 ∷ 2 ∷ 2 ∷ 2 ∷ 1 ∷ 3 ∷ 1 ∷ 1 ∷ 0 ∷ 2 ∷ 3 ∷ 1 ∷ 2 ∷ 0 ∷ 3 ∷ 4 ∷ 1 ∷ 6 ∷ []

-- "2 centres, the chain visits only centre 1, load 5, window 3"
unfoldable pub once : List ℕ
once = 1 ∷ 2 ∷ 1 ∷ 2 ∷ 1 ∷ 3 ∷ 3 ∷ 1 ∷ 1 ∷ 0 ∷ 5 ∷ 4 ∷ 1 ∷ 4 ∷ 2 ∷ 5 ∷ 6 ∷ []

-- one centre and one chain: its window, and the two bytes of its load
unfoldable pub single : ℕ → ℕ → ℕ → List ℕ
single window high low = 1 ∷ 1 ∷ 1 ∷ 2 ∷ 1 ∷ window ∷ 3 ∷ 1 ∷ 1 ∷ high ∷ low ∷ 4 ∷ 1 ∷ 6 ∷ []

-- ---- a run in an area of n cells that hold 7: a start, then one advance

unfoldable pub started : ℕ → List ℕ → ℕ → Left StartAnswer
started n file lower = start file lower (replicate n 7)

unfoldable pub advanced : ℕ → List ℕ → ℕ → ℕ → Left AdvanceAnswer
advanced n file lower budget = advance file lower 0 budget (started n file lower).area

unfoldable pub run_of : ℕ → List ℕ → ℕ → ℕ → AdvanceNumbers
run_of n file lower budget = advance_numbers (advanced n file lower budget).answer

-- the sum over all states
unfoldable pub states_of : List ℕ → ℕ
states_of file = full_value (read_file file).model

unfoldable pub plain_of : List ℕ → ℕ
plain_of file = plain_pairs (read_file file).model.centres (windows_of (read_file file).model)

-- ---- the answers

abbrev pub plan_tells : ℕ → ℕ → PlanNumbers
plan_tells cells pairs = record { refusal = 0; place = 0; cells = cells; pairs = pairs }

abbrev pub start_tells : ℕ → StartNumbers
start_tells number = record { refusal = number; place = 0 }

abbrev pub advance_tells : ℕ → ℕ → AdvanceNumbers
advance_tells done value = record { refusal = 0; place = 0; done = done; value = value }

-- ---- the table

pub record Starred : Type 0 where
  pub B_value : states_of B ≡ 14
  pub B_run : run_of 11 B 0 6 ≡ advance_tells 6 14
  pub B_cells_pairs : plan_numbers (plan B 0) ≡ plan_tells 11 6
  pub B_plain : plain_of B ≡ 18
  pub B_lowered_1 : run_of 11 B 1 6 ≡ advance_tells 4 3
  pub B_lowered_2 : run_of 11 B 2 6 ≡ advance_tells 3 4
  pub B_sheet : sheet_numbers (sheet B (replicate 11 7)).answer
      ≡ record { refusal = 0; place = 0; value = 14; pairs = 6; cells = 11; chains = 2; numerators = 3 ∷ 4 ∷ 0 ∷ 0 ∷ 0 ∷ 0 ∷ 0 ∷ 0 ∷ []; busiest = 1 }
  pub B_sheet_area : (sheet B (replicate 12 7)).area ≡ replicate 11 0 ++ (7 ∷ [])
  pub B_started : start_numbers (started 12 B 0).answer ≡ start_tells 0
  pub B_started_area : (started 12 B 0).area ≡ 1 ∷ 2 ∷ 1 ∷ 4 ∷ 1 ∷ 3 ∷ 0 ∷ 0 ∷ 1 ∷ 1 ∷ 0 ∷ 7 ∷ []
  pub B_area_0 : (advanced 12 B 0 0).area ≡ 1 ∷ 2 ∷ 1 ∷ 4 ∷ 1 ∷ 3 ∷ 0 ∷ 0 ∷ 1 ∷ 1 ∷ 0 ∷ 7 ∷ []
  pub B_area_1 : (advanced 12 B 0 1).area ≡ 1 ∷ 2 ∷ 1 ∷ 4 ∷ 1 ∷ 3 ∷ 3 ∷ 0 ∷ 1 ∷ 1 ∷ 0 ∷ 7 ∷ []
  pub B_area_3 : (advanced 12 B 0 3).area ≡ 1 ∷ 2 ∷ 1 ∷ 4 ∷ 1 ∷ 3 ∷ 4 ∷ 6 ∷ 1 ∷ 1 ∷ 0 ∷ 7 ∷ []
  pub B_area_6 : (advanced 12 B 0 6).area ≡ 1 ∷ 2 ∷ 1 ∷ 4 ∷ 1 ∷ 3 ∷ 4 ∷ 10 ∷ 1 ∷ 1 ∷ 14 ∷ 7 ∷ []
  pub B_tree_part : tree_part B ≡ 4 ∷ 1 ∷ 4 ∷ 2 ∷ 5 ∷ 4 ∷ 3 ∷ 5 ∷ []
  pub B_tree_place : part_numbers B ≡ record { from = 29; length = 8 }
  pub other_run : run_of 13 other 0 8 ≡ advance_tells 8 14
  pub other_cells_pairs : plan_numbers (plan other 0) ≡ plan_tells 13 8
  pub two_run : run_of 7 two 0 3 ≡ advance_tells 3 7
  pub two_lowered : run_of 7 two 1 3 ≡ advance_tells 2 3
  pub two_cells_pairs : plan_numbers (plan two 0) ≡ plan_tells 7 3
  pub two_sheet : sheet_numbers (sheet two (replicate 7 7)).answer
      ≡ record { refusal = 0; place = 0; value = 7; pairs = 3; cells = 7; chains = 1; numerators = 3 ∷ 0 ∷ 0 ∷ 0 ∷ 0 ∷ 0 ∷ 0 ∷ 0 ∷ []; busiest = 2 }
  pub both_run : run_of 1 both 0 0 ≡ advance_tells 0 36
  pub both_lowered_1 : run_of 1 both 1 0 ≡ advance_tells 0 12
  pub both_lowered_2 : run_of 1 both 2 0 ≡ advance_tells 0 4
  pub idle_run : run_of 1 (single 0 0 9) 0 0 ≡ advance_tells 0 1
  pub idle_cells_pairs : plan_numbers (plan (single 0 0 9) 0) ≡ plan_tells 1 0
  pub idle_lowered : plan_numbers (plan (single 0 0 9) 1) ≡ record { refusal = 11; place = 0; cells = 0; pairs = 0 }
  pub idle_rate : sheet_numbers (sheet (single 0 0 9) (7 ∷ [])).answer
      ≡ record { refusal = 0; place = 0; value = 1; pairs = 0; cells = 1; chains = 1; numerators = replicate 8 0; busiest = 1 }
  pub once_run : run_of 3 once 0 1 ≡ advance_tells 1 125
  pub once_lowered : run_of 3 once 1 1 ≡ advance_tells 1 25
  pub once_cells_pairs : plan_numbers (plan once 0) ≡ plan_tells 3 1
  pub large_window_4 : run_of 1 (single 4 255 255) 0 0 ≡ advance_tells 0 18445618199572250625
  pub large_window_5 : start_numbers (started 1 (single 5 255 255) 0).answer ≡ start_tells 14
  pub large_window_5_area : (started 1 (single 5 255 255) 0).area ≡ 7 ∷ []
  pub exact_value : states_of (single 8 1 0) ≡ 2 ^ 64
  pub exact_refused : start_numbers (started 1 (single 8 1 0) 0).answer ≡ start_tells 14
  pub exact_sheet : (sheet_numbers (sheet (single 8 1 0) (7 ∷ [])).answer).refusal ≡ 14
  pub below_accepted : start_numbers (started 1 (single 8 0 255) 0).answer ≡ start_tells 0

pub starred : Starred
unfolding flat_map zip_with from by_number some all when those among sum_over splits vector_splits
    binomial multinomial powers weight visit fits empty_states states state_weight value lowered
    under visits chain_centres coverage_by coverage coverages span index_values indices size cells stride strides along spans_at all_cells base cell_of spread start_cell filled
    chain_pairs index_pairs factor factors own_pairs listed all_pairs triangles plain_pairs sum_at add spend
    outside empty_model with_size with_window with_load with_leaf with_join chain_without_centre centre_missing read_size read_window read_load read_leaf read_join read_end body_length due read_body read_record read_from read_file tree_part part_from part_numbers
    windows_of loads_of centres_of joined subtrees tree_of fault_number number_of place_of plan_numbers start_numbers advance_numbers sheet_numbers lowering ask plan no_room start_in start value_at told advance_in advance
    full_value numerator load_sum largest first_with busiest no_sheet numerators full_sheet sheet_of cleared sheet_in sheet
    front B other two both once single started advanced run_of states_of plain_of
starred = record {
  B_value = refl;
  B_run = refl;
  B_cells_pairs = refl;
  B_plain = refl;
  B_lowered_1 = refl;
  B_lowered_2 = refl;
  B_sheet = refl;
  B_sheet_area = refl;
  B_started = refl;
  B_started_area = refl;
  B_area_0 = refl;
  B_area_1 = refl;
  B_area_3 = refl;
  B_area_6 = refl;
  B_tree_part = refl;
  B_tree_place = refl;
  other_run = refl;
  other_cells_pairs = refl;
  two_run = refl;
  two_lowered = refl;
  two_cells_pairs = refl;
  two_sheet = refl;
  both_run = refl;
  both_lowered_1 = refl;
  both_lowered_2 = refl;
  idle_run = refl;
  idle_cells_pairs = refl;
  idle_lowered = refl;
  idle_rate = refl;
  once_run = refl;
  once_lowered = refl;
  once_cells_pairs = refl;
  large_window_4 = refl;
  large_window_5 = refl;
  large_window_5_area = refl;
  exact_value = refl;
  exact_refused = refl;
  exact_sheet = refl;
  below_accepted = refl;
}
