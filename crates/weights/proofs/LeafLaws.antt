-- A whole leaf: filling from the first chain present on writes the weights, since the chains present have all the cells.
use Prim.Native.Nat.{ℕ, ◌+◌, ◌^◌}
use mathlib.Core.Path.{◌≡◌, sym, ap, ◌∙◌}
use mathlib.Core.Bool.{false}
use mathlib.Core.List.{List, map, ◌++◌}
use native.Mathlib.Omega.{arith}
use lib.Dec.{leb}
use lib.ListN.{length, take}
use lib.Seq.{take_all, length-take-le}
use Rattle.std.specs.List.{All}
use Rattle.std.proofs.lemmas.List.Elements.{All-filter}
use Rattle.sums.specs.Lists.{some}
use Rattle.sums.proofs.ListLaws.{map_cong}
use Rattle.network.specs.Weight.{weight}
use Rattle.weights.specs.declared.Reach.{Reach}
use Rattle.weights.specs.Leaf.{loads_of, highs_of, between, Sound, LeafEnds}
use Rattle.weights.specs.Parts.{cells_from, ToFill}
use Rattle.weights.specs.Present.{Kept}
use Rattle.weights.proofs.WeightLaws.{weight_whole}
use Rattle.weights.proofs.BetweenLaws.{top_low}
use Rattle.weights.proofs.FillLaws.{cells_length}
use Rattle.weights.proofs.PresentLaws.{present_cells}

leaf_cells_lem : (chains : List Reach) → cells_from 1 0 chains ≡ map (weight (loads_of chains)) (between chains)
unfolding cells_from
leaf_cells_lem chains = map_cong (between chains) _ _ (λ ns m. weight_whole (loads_of chains) ns)

module _ {chains : List Reach} (ends : LeafEnds chains) {n : ℕ} {kept : List Reach} (k : Kept chains n kept) where
  kept_length : length (take n kept) ≡ n
  kept_length = length-take-le n kept (omega (arith, k.room, k.few))

  kept_sound : All Sound (take n kept)
  kept_sound = rw k.list (All-filter _ Sound chains ends.sound)

  kept_cells : cells_from 1 0 (take n kept) ≡ cells_from 1 0 chains
  kept_cells = ap (cells_from 1 0) k.list ∙ present_cells 1 0 chains ends.sound

  kept_between : length (between (take n kept)) ≡ length (between chains)
  kept_between = sym (cells_length 1 0 (take n kept)) ∙ ap length kept_cells ∙ cells_length 1 0 chains

  kept_weights : map (weight (loads_of (take n kept))) (between (take n kept)) ≡ map (weight (loads_of chains)) (between chains)
  kept_weights = sym (leaf_cells_lem (take n kept)) ∙ kept_cells ∙ leaf_cells_lem chains

  pub kept_to_fill : (room : ℕ) → room ≡ length (between chains) → some (λ n. leb (2 ^ 64) n) (map (weight (loads_of chains)) (between chains)) ≡ false
      → ToFill (take n kept) 1 0 0 room
  kept_to_fill room e none =
      record {
        sound = kept_sound;
        messages = omega (arith, kept_length, k.few);
        largest = omega (
          arith,
          weight_whole (loads_of (take n kept)) (highs_of (take n kept)),
          top_low (take n kept) kept_sound (ap (some (λ n. leb (2 ^ 64) n)) kept_weights ∙ none),
        );
        space = omega (arith, kept_between);
      }

  pub kept_filled : (old out : List ℕ) (r : ℕ) → length out ≡ length (between chains) → r ≡ 0 + length (between (take n kept))
      → take r out ≡ take 0 old ++ cells_from 1 0 (take n kept) → out ≡ map (weight (loads_of chains)) (between chains)
  kept_filled old out r s e l = sym (take_all r out (omega (arith, kept_between))) ∙ l ∙ leaf_cells_lem (take n kept) ∙ kept_weights
