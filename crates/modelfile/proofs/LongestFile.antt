-- 715 bytes are reached: a file with every load of 16 centres and 8 chains is accepted. By computing its reading.
use Prim.Native.Nat.{ℕ}
use mathlib.Core.Path.{◌≡◌, refl}
use mathlib.Core.List.{List, [], ◌∷◌, ◌++◌, flat_map}
use lib.ListN.{length}
use Rattle.sums.specs.Lists.{from, some}
use Rattle.std.specs.Prelude.{Ok}
use Rattle.modelfile.specs.Ends.{outside}
use Rattle.modelfile.specs.Model.{empty_model, with_size, with_window, with_load, with_leaf, with_join}
use Rattle.modelfile.specs.Records.{chain_without_centre, centre_missing, read_size, read_window, read_load, read_leaf, read_join, read_end, body_length, due, read_body, read_record}
use Rattle.modelfile.specs.File.{read_from, read_file}

-- size; windows; loads by centre, then chain; a leaf, then leaf and join for each centre more; end
unfoldable pub longest : List ℕ
longest =
    (1 ∷ 16 ∷ 8 ∷ [])
    ++ flat_map (λ k. 2 ∷ k ∷ 15 ∷ []) (from 1 8)
    ++ flat_map (λ c. flat_map (λ k. 3 ∷ c ∷ k ∷ 255 ∷ 255 ∷ []) (from 1 8)) (from 1 16)
    ++ (4 ∷ 1 ∷ [])
    ++ flat_map (λ c. 4 ∷ c ∷ 5 ∷ []) (from 2 15)
    ++ (6 ∷ [])

pub longest_accepted : (length longest ≡ 715) × ((read_file longest).verdict ≡ Ok tt)
unfolding longest from some flat_map outside empty_model with_size with_window with_load with_leaf with_join chain_without_centre centre_missing read_size read_window read_load read_leaf read_join read_end body_length due read_body read_record read_from read_file
longest_accepted = (refl, refl)
