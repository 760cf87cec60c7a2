-- The loops over the nodes, by what each node gives: after i nodes the area holds their cells, one after the other, and then what it held
-- before; and no cell of theirs has passed the test.
use Prim.Native.Nat.{ℕ, ◌+◌, ◌≤◌, ◌<◌}
use mathlib.Core.Path.{◌≡◌, refl, sym, ap, ◌∙◌}
use mathlib.Core.Bool.{Bool, true, false, true≢false, ◌||◌}
use mathlib.Core.List.{List, [], ◌∷◌, ◌++◌, flat_map, append_assoc, append-nil}
use native.Mathlib.Omega.{arith}
use native.Mathlib.Numerals.{add-one}
use lib.ListN.{length, get_or, take, drop, length-append}
use lib.Seq.{take-suc, get_or-take, length-take-le, take-append_seam, drop-append-add, drop-drop}
use Rattle.sums.specs.Lists.{some}
use Rattle.sums.proofs.ListLaws.{flat_append, flat_in, get_or_in}
use Rattle.sums.proofs.BoolLaws.{some_is, some_of, some-append}
use Rattle.fills.specs.Nodes.{put}

-- ---- node after node

module _ {A : Type 0} (g : A → List ℕ) (nodes : List A) (d : A) where
  abbrev pub cells_to : ℕ → List ℕ
  cells_to i = flat_map g (take i nodes)

  to_more : (i : ℕ) → i < length nodes → cells_to (i + 1) ≡ cells_to i ++ g (get_or nodes i d)
  unfolding flat_map
  to_more i h =
      ap cells_to (add-one i) ∙ ap (flat_map g) (take-suc nodes i d h)
      ∙ flat_append g (take i nodes) (get_or nodes i d ∷ []) ∙ ap (λ l. cells_to i ++ l) (append-nil (g (get_or nodes i d)))

  module _ (test : ℕ → Bool) where
    pub none_first : some test (cells_to 0) ≡ false
    unfolding some flat_map
    none_first = refl

    pub none_more : (i : ℕ) → i < length nodes → some test (cells_to i) ≡ false → some test (g (get_or nodes i d)) ≡ false
        → some test (cells_to (i + 1)) ≡ false
    none_more i h a b = ap (some test) (to_more i h) ∙ some-append test (cells_to i) (g (get_or nodes i d)) ∙ (λ j. a j || b j)

    module _ (n i : ℕ) (k : n ≤ length nodes) (h : i < n) where
      pub some_found : some test (g (get_or nodes i d)) ≡ true → some test (cells_to n) ≡ true
      some_found e =
          let r = some_is test (g (get_or nodes i d)) e in
          let l : i < length (take n nodes) = omega (arith, length-take-le n nodes k) in
          some_of test (flat_in g (rw (get_or-take n nodes i d h) at (get_or_in d (take n nodes) i l)) r.1) r.2

      pub none_at : some test (cells_to n) ≡ false → some test (g (get_or nodes i d)) ≡ false
      none_at e = by (some test (g (get_or nodes i d))) refl
        where
          by : (b : Bool) → some test (g (get_or nodes i d)) ≡ b → some test (g (get_or nodes i d)) ≡ false
          by true f = absurd (true≢false (sym (some_found f) ∙ e))
          by false f = f

  -- the area `now` after i nodes, if it was `old`
  pub record Filled (old now : List ℕ) (i : ℕ) : Type 0 where
    pub is : now ≡ cells_to i ++ drop (length (cells_to i)) old

  pub filled_first : (old : List ℕ) → Filled old old 0
  unfolding flat_map
  filled_first old = record { is = refl }

  pub filled_turn : {old now next : List ℕ} {i at : ℕ} → i < length nodes → at ≡ length (cells_to i) → Filled old now i
      → next ≡ put at (g (get_or nodes i d)) now → Filled old next (i + 1)
  unfolding put
  filled_turn {old} {now} {next} {i} {at} h ea w e =
      let P = cells_to i in
      let X = g (get_or nodes i d) in
      let m : cells_to (i + 1) ≡ P ++ X = to_more i h in
      let k : length P + length X ≡ length (P ++ X) = sym (length-append P X) in
      record {
        is =
            e ∙ (λ j. put (ea j) X (w.is j))
            ∙ (λ j. take-append_seam P (drop (length P) old) j ++
            (X ++ (drop-append-add P (drop (length P) old) (length X) ∙ drop-drop (length X) (length P) old ∙ ap (λ n. drop n old) k) j))
            ∙ sym (append_assoc P X (drop (length (P ++ X)) old))
            ∙ ap (λ l. l ++ drop (length l) old) (sym m);
      }
