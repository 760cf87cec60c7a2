-- "The sheet runs the full model, then each chain lowered in turn. It returns G(N), the full model's pairs and cells, the number of
-- chains, a numerator for each chain (0 past that number) and the busiest centre." It gives 1 to 9, 12, 14 and 15.
use Rattle.calls.specs.declared.Refusal.{Refusal}
use Rattle.std.specs.Prelude.{Ok, Err}
use Rattle.std.specs.Prelude.{ℕ, suc, max, List, [], ◌∷◌, ◌++◌, map, eqb, drop, replicate}
use Rattle.sums.specs.Choice.{choose}
use Rattle.sums.specs.Lists.{from, some}
use Rattle.sums.specs.Sums.{sum_over}
use Rattle.network.specs.States.{value, lowered}
use Rattle.modelfile.specs.Network.{windows_of, loads_of, centres_of}
use Rattle.modelfile.specs.declared.Model.{Model}
use Rattle.calls.specs.declared.Sheet.{Sheet}
use Rattle.calls.specs.Answers.{Left}
use Rattle.calls.specs.Asked.{ask, on_granted, cells_in, pairs_in}
use Rattle.calls.specs.Start.{no_room, too_large}
use Rattle.calls.specs.Answers.{SheetAnswer}

-- G(N), and "G(N with its window one less)", 0 for "a chain with window 0" and past the number of chains
unfoldable pub full_value : Model → ℕ
full_value m = value (centres_of m) (windows_of m)

unfoldable pub numerator : Model → ℕ → ℕ
numerator m chain = lowered chain (value (centres_of m)) (windows_of m)

-- "The busiest centre is the lowest-numbered one among those with the largest sum of loads."
unfoldable pub load_sum : Model → ℕ → ℕ
load_sum m centre = sum_over (loads_of m centre) (λ load. load)

unfoldable pub largest : List ℕ → ℕ
largest [] = 0
largest (n ∷ ns) = max n (largest ns)

-- the number, counted from 1, of the first n in the list
unfoldable pub first_with : ℕ → List ℕ → ℕ
first_with n [] = 1
first_with n (x ∷ xs) = choose (eqb x n) (λ u. 1) (λ u. suc (first_with n xs))

unfoldable pub busiest : Model → ℕ
busiest m = let sums = map (load_sum m) (from 1 m.centres) in first_with (largest sums) sums

unfoldable pub numerators : Model → List ℕ
numerators m = map (numerator m) (from 1 8)

unfoldable pub full_sheet : Model → Sheet
full_sheet m =
    let windows = windows_of m in
    record { value = full_value m; pairs = pairs_in m windows; cells = cells_in m windows; chains = m.chains; numerators = numerators m; busiest = busiest m }

-- 14: G(N) is 2^64 or more; 15: "G(N) is below 2^64, a lowered value isn't"
unfoldable pub sheet_of : Model → SheetAnswer
sheet_of m =
    choose (too_large (full_value m)) (λ u. Err Refusal.TooLarge) λ u.
    choose (some too_large (numerators m)) (λ u. Err Refusal.LoweredTooLarge) λ u.
    Ok (full_sheet m)

-- "Afterwards the full model's cells are all 0", at 14 and 15 too
unfoldable pub cleared : ℕ → List ℕ → List ℕ
cleared cells area = replicate cells 0 ++ drop cells area

-- 12 is judged by the full model's cells, and leaves the area as it is, like 1 to 9
unfoldable pub sheet_in : Model → List ℕ → List ℕ → Left SheetAnswer
sheet_in m windows area =
    choose (no_room (cells_in m windows) area) (λ u. record { answer = Err Refusal.NoRoom; area = area }) λ u.
    record { answer = sheet_of m; area = cleared (cells_in m windows) area }

unfoldable pub sheet : List ℕ → List ℕ → Left SheetAnswer
sheet file area = on_granted (ask file 0) (λ r. record { answer = Err r; area = area }) λ m windows. sheet_in m windows area
