-- Refused files, one table: for each refusal number at least one file, computed from its bytes, with its place, in every call that gives it. For 1 to 9 a
-- line computes what the reading says, and demand_1 carries it to every call, number and area. Document 01's own are among them: the empty file, one byte
-- more, the second leaf naming centre 1, the last join left out, B in an area of 10 cells, and both loads 65535.
use Prim.Native.Nat.{ℕ}
use mathlib.Core.Path.{◌≡◌, refl}
use mathlib.Core.List.{List, [], ◌∷◌, ◌++◌, flat_map, zip_with}
use lib.ListN.{take, replicate, set}
use Rattle.modelfile.specs.Refusals.{fault_number}
use Rattle.calls.specs.Answers.{number_of, place_of, sheet_numbers}
use Rattle.calls.specs.declared.SheetNumbers.{SheetNumbers}
use Rattle.modelfile.specs.declared.Refusal.{Refusal as FileRefusal}
use Rattle.sums.specs.Lists.{from, by_number, some, all, when, those, among}
use Rattle.sums.specs.Sums.{sum_over, splits, vector_splits}
use Rattle.network.specs.Weight.{binomial, multinomial, powers, weight}
use Rattle.network.specs.Centre.{visit, fits}
use Rattle.network.specs.States.{empty_states, states, state_weight, value, lowered}
use Rattle.network.specs.Coverage.{under, visits, chain_centres, coverage_by, coverage, coverages}
use Rattle.network.specs.Cells.{span, index_values, indices, size, cells, stride, strides, along, spans_at, all_cells, base, cell_of, spread, start_cell, filled}
use Rattle.network.specs.Pairs.{chain_pairs, index_pairs, factor, factors, own_pairs, listed, all_pairs}
use Rattle.network.specs.Run.{sum_at, add, spend}
use Rattle.modelfile.specs.Ends.{outside}
use Rattle.modelfile.specs.Model.{empty_model, with_size, with_window, with_load, with_leaf, with_join}
use Rattle.modelfile.specs.Records.{chain_without_centre, centre_missing, read_size, read_window, read_load, read_leaf, read_join, read_end, body_length, due, read_body, read_record}
use Rattle.modelfile.specs.File.{read_from, read_file}
use Rattle.modelfile.specs.Network.{windows_of, loads_of, centres_of, joined, subtrees, tree_of}
use Rattle.std.specs.Prelude.{Err}
use Rattle.calls.specs.Answers.{Left, tell, plan_numbers, start_numbers, advance_numbers, no_sheet}
use Rattle.calls.specs.Asked.{lowering, ask}
use Rattle.calls.specs.Plan.{plan}
use Rattle.calls.specs.Start.{no_room, start_in, start}
use Rattle.calls.specs.Advance.{value_at, told, advance_in, advance}
use Rattle.calls.specs.Sheet.{full_value, numerator, load_sum, largest, first_with, busiest, numerators, full_sheet, sheet_of, cleared, sheet_in, sheet}
use Rattle.calls.specs.declared.PlanNumbers.{PlanNumbers}
use Rattle.calls.specs.declared.StartNumbers.{StartNumbers}
use Rattle.calls.specs.declared.AdvanceNumbers.{AdvanceNumbers}
use Rattle.calls.proofs.Demand1.{FileRefused, sheet_refused, demand_1}
use Rattle.calls.proofs.Starred.{front, B, single}

-- B with another byte at a place: 3 centres, 2 chains; windows at 3 and 6, loads at 9, 14, 19 and 24, leaves at 29, 31 and 34, joins at 33 and 36, the end at 37
unfoldable pub with_byte : ℕ → ℕ → List ℕ
with_byte place byte = set B place byte

-- 1 centre and 2 chains, of which the second has no load; its first leaf stands at 14
unfoldable pub unvisited : List ℕ
unvisited = 1 ∷ 1 ∷ 2 ∷ 2 ∷ 1 ∷ 1 ∷ 2 ∷ 2 ∷ 1 ∷ 3 ∷ 1 ∷ 1 ∷ 0 ∷ 1 ∷ 4 ∷ 1 ∷ 6 ∷ []

-- "2 centres, window 4, .. Both loads 65535"
unfoldable pub wide : List ℕ
wide = 1 ∷ 2 ∷ 1 ∷ 2 ∷ 1 ∷ 4 ∷ 3 ∷ 1 ∷ 1 ∷ 255 ∷ 255 ∷ 3 ∷ 2 ∷ 1 ∷ 255 ∷ 255 ∷ 4 ∷ 1 ∷ 4 ∷ 2 ∷ 5 ∷ 6 ∷ []

-- ---- what a refusal tells, with zeros beside its number; 10 to 15 have place 0

abbrev no_plan : ℕ → PlanNumbers
no_plan number = record { refusal = number; place = 0; cells = 0; pairs = 0 }

abbrev no_start_in : ℕ → List ℕ → Left StartNumbers
no_start_in number area = record { answer = record { refusal = number; place = 0 }; area = area }

abbrev no_advance_in : ℕ → List ℕ → Left AdvanceNumbers
no_advance_in number area = record { answer = record { refusal = number; place = 0; done = 0; value = 0 }; area = area }

abbrev no_sheet_in : ℕ → List ℕ → Left SheetNumbers
no_sheet_in number area = record { answer = sheet_refused number 0; area = area }

-- ---- the table

pub record Refusals : Type 0 where
  -- 1: "bytes end before the due record does", at the file's length
  pub empty : FileRefused [] 1 0
  pub cut_load : FileRefused (take 12 B) 1 12
  pub cut_after_windows : FileRefused (take 9 B) 1 9
  pub cut_before_end : FileRefused (take 37 B) 1 37
  -- 2: "a kind that isn't due", at the kind byte
  pub window_first : FileRefused (with_byte 0 2) 2 0
  pub load_for_window : FileRefused (with_byte 3 3) 2 3
  pub window_too_many : FileRefused (with_byte 9 2) 2 9
  pub join_for_leaf : FileRefused (with_byte 9 5) 2 9
  pub end_for_leaf : FileRefused (with_byte 9 6) 2 9
  pub load_after_leaf : FileRefused (with_byte 31 3) 2 31
  pub no_such_kind : FileRefused (with_byte 33 7) 2 33
  -- 3: "a field outside its range, or a chain number not due in kind 2", at the first byte of the field
  pub centres_none : FileRefused (with_byte 1 0) 3 1
  pub centres_many : FileRefused (with_byte 1 17) 3 1
  pub chains_none : FileRefused (with_byte 2 0) 3 2
  pub chains_many : FileRefused (with_byte 2 9) 3 2
  pub chain_not_due : FileRefused (with_byte 4 2) 3 4
  pub window_large : FileRefused (with_byte 5 16) 3 5
  pub load_centre_none : FileRefused (with_byte 10 0) 3 10
  pub load_centre_large : FileRefused (with_byte 10 4) 3 10
  pub load_chain_none : FileRefused (with_byte 11 0) 3 11
  pub load_chain_large : FileRefused (with_byte 11 3) 3 11
  pub load_none : FileRefused (with_byte 13 0) 3 12
  pub leaf_none : FileRefused (with_byte 30 0) 3 30
  pub leaf_large : FileRefused (with_byte 30 4) 3 30
  -- 4: "a load not above the one before in order", at its kind byte
  pub load_twice : FileRefused (with_byte 16 1) 4 14
  pub load_late : FileRefused (with_byte 20 1) 4 19
  -- 5: "at the first leaf, some chain has no centre", at that kind byte
  pub no_centre : FileRefused unvisited 5 14
  -- 6: "a centre already in the tree", at its number
  pub leaf_twice : FileRefused (with_byte 32 1) 6 32
  -- 7: "a join with fewer than two subtrees", at its kind byte
  pub join_of_one : FileRefused (with_byte 31 5) 7 31
  -- 8: "at the end, not one subtree, or a centre missing", at its kind byte
  pub last_join_left_out : FileRefused (take 36 B ++ (6 ∷ [])) 8 36
  pub centre_missing_lem : FileRefused (take 34 B ++ (6 ∷ [])) 8 34
  -- 9: "bytes after the end", at the first of them
  pub one_byte_more : FileRefused (B ++ (0 ∷ [])) 9 38
  -- 10: "lowered chain above the number of chains"
  pub ten_plan : plan_numbers (plan B 3) ≡ no_plan 10
  pub ten_start : tell start_numbers (start B 3 (replicate 11 7)) ≡ no_start_in 10 (replicate 11 7)
  pub ten_advance : tell advance_numbers (advance B 3 0 1 (replicate 11 7)) ≡ no_advance_in 10 (replicate 11 7)
  -- 11: "lowered chain has window 0"
  pub eleven_plan : plan_numbers (plan (single 0 0 9) 1) ≡ no_plan 11
  pub eleven_start : tell start_numbers (start (single 0 0 9) 1 (7 ∷ [])) ≡ no_start_in 11 (7 ∷ [])
  pub eleven_advance : tell advance_numbers (advance (single 0 0 9) 1 0 1 (7 ∷ [])) ≡ no_advance_in 11 (7 ∷ [])
  -- 12: "cells above 8192 or above the area's length": "B in an area of 10 cells: 12"
  pub twelve_start : tell start_numbers (start B 0 (replicate 10 7)) ≡ no_start_in 12 (replicate 10 7)
  pub twelve_advance : tell advance_numbers (advance B 0 7 1 (replicate 10 7)) ≡ no_advance_in 12 (replicate 10 7)
  pub twelve_sheet : tell sheet_numbers (sheet B (replicate 10 7)) ≡ no_sheet_in 12 (replicate 10 7)
  -- 13: "pairs done above the total"
  pub thirteen_advance : tell advance_numbers (advance B 0 7 0 (replicate 11 7)) ≡ no_advance_in 13 (replicate 11 7)
  -- 14: "a cell would reach 2^64"; "Both loads 65535: advance refuses 14 with 1 pair done"
  pub fourteen_start : tell start_numbers (start (single 5 255 255) 0 (7 ∷ [])) ≡ no_start_in 14 (7 ∷ [])
  pub fourteen_advance : advance_numbers (advance wide 0 0 5 (start wide 0 (replicate 12 7)).area).answer ≡ record { refusal = 14; place = 0; done = 1; value = 0 }
  pub fourteen_advance_area : (advance wide 0 0 5 (start wide 0 (replicate 12 7)).area).area
      ≡ 1 ∷ 65535 ∷ 4294836225 ∷ 281462092005375 ∷ 18445618199572250625 ∷ 1 ∷ 65535 ∷ 4294836225 ∷ 281462092005375 ∷ 18445618199572250625 ∷ 18445618199572250625 ∷ 7 ∷ []
  pub fourteen_sheet : tell sheet_numbers (sheet (single 8 1 0) (7 ∷ 7 ∷ [])) ≡ no_sheet_in 14 (0 ∷ 7 ∷ [])

-- a file that computes to a refusal is refused by every call
by : {file : List ℕ} {r : FileRefusal} → (read_file file).verdict ≡ Err r → FileRefused file (fault_number r.fault) r.place
by {file} {r} e = (demand_1 file).refused r e

pub refusals : Refusals
unfolding flat_map zip_with from by_number some all when those among sum_over splits vector_splits
    binomial multinomial powers weight visit fits empty_states states state_weight value lowered
    under visits chain_centres coverage_by coverage coverages span index_values indices size cells stride strides along spans_at all_cells base cell_of spread start_cell filled
    chain_pairs index_pairs factor factors own_pairs listed all_pairs sum_at add spend
    outside empty_model with_size with_window with_load with_leaf with_join chain_without_centre centre_missing
    read_size read_window read_load read_leaf read_join read_end body_length due read_body read_record read_from read_file
    windows_of loads_of centres_of joined subtrees tree_of fault_number number_of place_of plan_numbers start_numbers advance_numbers sheet_numbers lowering ask plan no_room start_in start value_at told advance_in advance
    full_value numerator load_sum largest first_with busiest no_sheet numerators full_sheet sheet_of cleared sheet_in sheet
    front B single with_byte unvisited wide
refusals = record {
  empty = by refl;
  cut_load = by refl;
  cut_after_windows = by refl;
  cut_before_end = by refl;
  window_first = by refl;
  load_for_window = by refl;
  window_too_many = by refl;
  join_for_leaf = by refl;
  end_for_leaf = by refl;
  load_after_leaf = by refl;
  no_such_kind = by refl;
  centres_none = by refl;
  centres_many = by refl;
  chains_none = by refl;
  chains_many = by refl;
  chain_not_due = by refl;
  window_large = by refl;
  load_centre_none = by refl;
  load_centre_large = by refl;
  load_chain_none = by refl;
  load_chain_large = by refl;
  load_none = by refl;
  leaf_none = by refl;
  leaf_large = by refl;
  load_twice = by refl;
  load_late = by refl;
  no_centre = by refl;
  leaf_twice = by refl;
  join_of_one = by refl;
  last_join_left_out = by refl;
  centre_missing_lem = by refl;
  one_byte_more = by refl;
  ten_plan = refl;
  ten_start = refl;
  ten_advance = refl;
  eleven_plan = refl;
  eleven_start = refl;
  eleven_advance = refl;
  twelve_start = refl;
  twelve_advance = refl;
  twelve_sheet = refl;
  thirteen_advance = refl;
  fourteen_start = refl;
  fourteen_advance = refl;
  fourteen_advance_area = refl;
  fourteen_sheet = refl;
}
