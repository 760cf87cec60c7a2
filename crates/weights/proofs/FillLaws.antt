-- A leaf's cells chain by chain: those of a chain and of the chains after it are, for each of its index values in turn, those of the
-- chains after it. What is written and what remains always make up the whole; no product on the way is larger than the largest cell.
use Prim.Native.Nat.{ℕ, suc, ◌+◌, ◌-◌, ◌*◌, ◌^◌, ◌%◌, ◌≤◌, ◌<◌}
use mathlib.Core.Path.{◌≡◌, refl, sym, ap, subst, ◌∙◌}
use mathlib.Core.List.{List, [], ◌∷◌, ◌++◌, map, map-map, flat_map, append_assoc, append-nil}
use native.Mathlib.Nat.{le_refl, mul-le-mul, mul-one, mul_assoc, pow-suc}
use native.Mathlib.Numerals.{add-one}
use native.Mathlib.Omega.{arith}
use lib.ListN.{length, take, set, length-map, length-append}
use lib.Seq.{take-suc-set}
use Rattle.std.specs.List.{All}
use Rattle.std.proofs.lemmas.List.Elements.{All-head, All-tail}
use Rattle.sums.specs.Lists.{from}
use Rattle.sums.proofs.ListLaws.{map-append, map_cong, flat_cong}
use Rattle.network.specs.Weight.{binomial, multinomial, powers}
use Rattle.weights.specs.declared.Reach.{Reach}
use Rattle.weights.specs.Leaf.{loads_of, highs_of, between, Sound}
use Rattle.weights.specs.Parts.{weight_after, cells_from, ToFill}
use Rattle.weights.proofs.PowerLaws.{times_more}
use Rattle.weights.proofs.WeightLaws.{binomial_pos, after_more, after_pos}
use Rattle.weights.proofs.MonotonyLaws.{binomial-rises, power_rises, after_rises, fits_of}
use Rattle.weights.proofs.BetweenLaws.{highs_absent, highs-length}

map_flat : {A B C : Type 0} (f : B → C) (g : A → List B) (xs : List A) → map f (flat_map g xs) ≡ flat_map (λ x. map f (g x)) xs
unfolding flat_map
map_flat f g [] = refl
map_flat f g (x ∷ xs) = map-append f (g x) (flat_map g xs) ∙ ap (λ z. map f (g x) ++ z) (map_flat f g xs)

-- what a chain's n messages make of `acc`
abbrev pub part : ℕ → ℕ → ℕ → ℕ → ℕ
part acc before load n = acc * load ^ n * binomial (before + n) n

pub chain_cells : (acc before : ℕ) (r : Reach) (later : List Reach)
    → cells_from acc before (r ∷ later) ≡ flat_map (λ n. cells_from (part acc before r.load n) (before + n) later) (from r.low (suc r.high - r.low))
unfolding cells_from between
chain_cells acc before r later =
    map_flat (λ ns. acc * weight_after before (loads_of (r ∷ later)) ns) (λ i. map (λ index. i ∷ index) (between later)) (from r.low (suc r.high - r.low))
    ∙ flat_cong (from r.low (suc r.high - r.low)) _ _ (λ n m.
    map-map (λ ns. acc * weight_after before (loads_of (r ∷ later)) ns) (λ index. n ∷ index) (between later)
    ∙ map_cong (between later) _ _ (λ ns l. omega (arith, ap (λ x. acc * x) (after_more before r.load n (loads_of later) ns))))

pub cells_length : (acc before : ℕ) (chains : List Reach) → length (cells_from acc before chains) ≡ length (between chains)
unfolding cells_from
cells_length acc before chains = length-map (between chains) _

-- past the last chain there is one cell
none_left : (chains : List Reach) → length chains ≡ 0 → chains ≡ []
none_left [] e = refl
none_left (r ∷ chains) e = absurd (omega arith)

one_filled : (acc before : ℕ) (out : List ℕ) (at : ℕ) → at < length out → take (at + 1) (set out at acc) ≡ take at out ++ cells_from acc before []
unfolding cells_from between weight_after multinomial powers
one_filled acc before out at l = rw (add-one at) (take-suc-set out at acc l ∙ ap (λ x. take at out ++ (x ∷ [])) (sym (mul-one acc)))

module _ (chains : List Reach) (none : length chains ≡ 0) where
  pub one_cell : length (between chains) ≡ 1
  unfolding between
  one_cell = rw (none_left chains none)

  pub last_filled : (acc before : ℕ) (out : List ℕ) (at : ℕ) → at < length out → take (at + 1) (set out at acc) ≡ take at out ++ cells_from acc before chains
  last_filled acc before out at l = rw (none_left chains none) (one_filled acc before out at l)

-- ---- a chain, and those after it

module _ (r : Reach) (later : List Reach) (acc before : ℕ) where
  abbrev whole : List ℕ
  whole = cells_from acc before (r ∷ later)

  -- the cells with n messages of the chain
  abbrev pub cells_at : ℕ → List ℕ
  cells_at n = cells_from (part acc before r.load n) (before + n) later

  -- those with i or more
  unfoldable pub remaining : ℕ → List ℕ
  remaining i = flat_map cells_at (from i (suc r.high - i))

  remaining_all : remaining r.low ≡ whole
  unfolding remaining
  remaining_all = sym (chain_cells acc before r later)

  remaining_more : (i : ℕ) → i ≤ r.high → remaining i ≡ cells_at i ++ remaining (i + 1)
  unfolding remaining from flat_map
  remaining_more i h =
      let e : suc r.high - i ≡ suc (r.high - i) = omega arith in
      let d : suc r.high - suc i ≡ r.high - i = omega arith in
      rw (add-one i, e, d)

  remaining_none : (i : ℕ) → i ≡ r.high + 1 → remaining i ≡ []
  unfolding remaining from flat_map
  remaining_none i h = let e : suc r.high - i ≡ 0 = omega arith in rw e

  -- the cells before `next` are written, those with i or more messages remain; `power` is what i messages need
  pub record Filling (at : ℕ) (old : List ℕ) (i power next : ℕ) (out : List ℕ) : Type 0 where
    pub power_is : i ≤ r.high → power ≡ acc * r.load ^ i
    pub place : next + length (remaining i) ≡ at + length whole
    pub list : take next out ++ remaining i ≡ take at old ++ whole

  module _ (at : ℕ) (old : List ℕ) where
    pub filling_start : (power : ℕ) → power ≡ acc * r.load ^ r.low → Filling at old r.low power at old
    filling_start power e = record { power_is = λ h. e; place = ap (λ l. at + length l) remaining_all; list = ap (λ l. take at old ++ l) remaining_all }

    end : {i power next : ℕ} {out : List ℕ} → Filling at old i power next out → i ≡ r.high + 1
        → (next ≡ at + length (between (r ∷ later))) × (take next out ≡ take at old ++ whole)
    end {i} {power} {next} {out} f h =
        let e = remaining_none i h in (
          omega (arith, f.place, ap length e, cells_length acc before (r ∷ later)),
          sym (append-nil (take next out)) ∙ ap (λ x. take next out ++ x) (sym e)
              ∙ f.list,
        )

-- ---- no product is too large

module _ {chains later : List Reach} {r : Reach} {acc before at room : ℕ} (split : chains ≡ r ∷ later) (asked : ToFill chains acc before at room) where
  to : ToFill (r ∷ later) acc before at room
  to = rw split at asked

  here : Sound r
  here = All-head Sound r later to.sound

  there : All Sound later
  there = All-tail Sound r later to.sound

  abbrev after : ℕ → ℕ
  after n = weight_after (before + n) (loads_of later) (highs_of later)

  at_top : part acc before r.load r.high * after r.high < 2 ^ 64
  at_top = omega (arith, ap (λ x. acc * x) (after_more before r.load r.high (loads_of later) (highs_of later)), to.largest)

  after_low : (n : ℕ) → 1 ≤ after n
  after_low n = after_pos (before + n) (loads_of later) (highs_of later)
      (fits_of (loads_of later) (highs_of later) (highs-length later) (highs_absent later there))

  high_small : r.high ≤ 15
  high_small = here.window

  module _ {i : ℕ} (l : i ≤ r.high) where
    deeper_low : part acc before r.load i * after i < 2 ^ 64
    deeper_low =
        let s : before + i ≤ before + r.high = omega arith in
        let a : acc * r.load ^ i ≤ acc * r.load ^ r.high = mul-le-mul (le_refl acc) (power_rises r.load l here.absent) in
        let b : after i ≤ after r.high = after_rises (loads_of later) (highs_of later) (highs_of later) (highs-length later) (highs-length later) s
        (λ j. le_refl _) (highs_absent later there) in
        omega (arith, at_top, mul-le-mul (mul-le-mul a (binomial-rises (le_refl before) l)) b)

    part_low : part acc before r.load i < 2 ^ 64
    part_low = omega (arith, deeper_low, times_more (part acc before r.load i) (after i) (after_low i))

    power_low : acc * r.load ^ i < 2 ^ 64
    power_low = omega (arith, part_low, times_more (acc * r.load ^ i) (binomial (before + i) i) (binomial_pos before i))

  pub start_low : acc * r.load ^ r.low < 2 ^ 64
  start_low = power_low here.ordered

  -- the loop's end
  pub filling_end : {old : List ℕ} {i power next : ℕ} {out : List ℕ} → Filling r later acc before at old i power next out
      → (r.low ≤ r.high + 1 → i ≤ r.high + 1) → r.high + 1 ≤ i
      → (next ≡ at + length (between chains)) × (take next out ≡ take at old ++ cells_from acc before chains)
  filling_end {old} {i} f u h = let e : i ≡ r.high + 1 = omega (arith, here.ordered, u) in rw split (end r later acc before at old f e)

  -- ---- one turn of the loop

  module _ {old : List ℕ} {i power next : ℕ} {out : List ℕ} {ways : ℕ} (f : Filling r later acc before at old i power next out) (h : i < r.high + 1)
      (e : ways ≡ binomial (before + i) i) where
    low : i ≤ r.high
    low = omega arith

    part_is : power * ways ≡ part acc before r.load i
    part_is = λ t. f.power_is low t * e t

    pub product_low : power * ways < 2 ^ 64
    product_low = omega (arith, part_is, part_low low)

    more_is : remaining r later acc before i ≡ cells_from (power * ways) (before + i) later ++ remaining r later acc before (i + 1)
    more_is = remaining_more r later acc before i low ∙ ap (λ p. cells_from p (before + i) later ++ remaining r later acc before (i + 1)) (sym part_is)

    more_length : next + length (between later) + length (remaining r later acc before (i + 1)) ≡ at + length (between (r ∷ later))
    more_length = omega (
      arith,
      f.place,
      ap length more_is,
      length-append (cells_from (power * ways) (before + i) later)
          (remaining r later acc before (i + 1)),
      cells_length (power * ways) (before + i) later,
      cells_length acc before (r ∷ later),
    )

    -- the chains after this one, or the one cell where there are none
    pub deeper : {now_room : ℕ} → now_room ≡ room → ToFill later (power * ways) (before + i) next now_room
    deeper s =
        record {
          sound = there;
          messages = omega (arith, to.messages, high_small);
          largest = subst (λ p. p * after i < 2 ^ 64) (sym part_is) (deeper_low low);
          space = omega (arith, more_length, to.space);
        }

    pub cell_inside : {now_room : ℕ} → now_room ≡ room → length later ≡ 0 → next < now_room
    cell_inside s none = omega (arith, one_cell later none, (deeper s).space)

    -- past the highest value the power may wrap
    power_more : {power_then : ℕ} → power_then ≡ power * r.load % 2 ^ 64 → i + 1 ≤ r.high → power_then ≡ acc * r.load ^ (i + 1)
    power_more d u =
        let m : power * r.load ≡ acc * r.load ^ (i + 1) = rw (add-one i, pow-suc r.load i) (ap (λ x. x * r.load) (f.power_is low)
        ∙ mul_assoc acc (r.load ^ i) r.load) in
        omega (arith, d, m, power_low u)

    pub filling_more : {then power_then : ℕ} {now : List ℕ} → then ≡ next + length (between later)
        → take then now ≡ take next out ++ cells_from (power * ways) (before + i) later → power_then ≡ power * r.load % 2 ^ 64
        → Filling r later acc before at old (i + 1) power_then then now
    filling_more {then} {power_then} {now} p w d =
        record {
          power_is = power_more d;
          place = omega (arith, p, more_length, cells_length acc before (r ∷ later));
          list = ap (λ x. x ++ remaining r later acc before (i + 1)) w
              ∙ append_assoc (take next out) (cells_from (power * ways) (before + i) later) (remaining r later acc before (i + 1))
              ∙ ap (λ x. take next out ++ x) (sym more_is) ∙ f.list;
        }

    pub filling_stored : {power_then room : ℕ} → length out ≡ room → length later ≡ 0 → next < room → power_then ≡ power * r.load % 2 ^ 64
        → Filling r later acc before at old (i + 1) power_then (next + 1) (set out next (power * ways))
    filling_stored s none l d = filling_more (ap (λ n. next + n) (sym (one_cell later none)))
        (last_filled later none (power * ways) (before + i) out next (omega arith)) d
