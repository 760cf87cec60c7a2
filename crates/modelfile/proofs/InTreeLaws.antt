-- The centres in the tree, listed by their flags: setting a flag adds that centre (in_tree-set), and where exactly the first n flags are
-- set, they are the first n centres (in_tree_all).
use Prim.Native.Nat.{ℕ, zero, suc, ◌+◌, ◌<◌, ◌≤◌}
use mathlib.Core.Path.{◌≡◌, refl, sym, ap}
use mathlib.Core.List.Permᴰ
use mathlib.Core.List.{List, [], ◌∷◌, Permᴰ}
use native.Mathlib.Omega.{arith}
use lib.ListN.{length, get_or, set}
use Rattle.sums.specs.Lists.{from}
use Rattle.sums.proofs.PermLaws.{perm_length}

-- the numbers, from b upward, whose flag is not 0
unfoldable pub in_tree : ℕ → List ℕ → List ℕ
in_tree b [] = []
in_tree b (zero ∷ flags) = in_tree (suc b) flags
in_tree b (suc f ∷ flags) = b ∷ in_tree (suc b) flags

pub in_tree-set : (b : ℕ) (flags : List ℕ) (i : ℕ) → i < length flags → get_or flags i 0 ≡ 0 → Permᴰ ((b + i) ∷ in_tree b flags) (in_tree b (set flags i 1))
unfolding in_tree
in_tree-set b [] i h e = absurd (omega arith)
in_tree-set b (zero ∷ flags) zero h e = let d : b + 0 ≡ b = omega arith in rw d (Permᴰ.refl (b ∷ in_tree (suc b) flags))
in_tree-set b (suc f ∷ flags) zero h e = absurd (omega arith)
in_tree-set b (zero ∷ flags) (suc i) h e = let d : b + suc i ≡ suc b + i = omega arith in rw d (in_tree-set (suc b) flags i (omega arith) e)
in_tree-set b (suc f ∷ flags) (suc i) h e =
    let d : b + suc i ≡ suc b + i = omega arith in
    rw d (Permᴰ.trans (Permᴰ.swap refl refl) (Permᴰ.cons refl (in_tree-set (suc b) flags i (omega arith) e)))

in_tree_none : (b : ℕ) (flags : List ℕ) → ((i : ℕ) → get_or flags i 0 ≡ 0) → in_tree b flags ≡ []
unfolding in_tree
in_tree_none b [] f = refl
in_tree_none b (zero ∷ flags) f = in_tree_none (suc b) flags (λ i. f (suc i))
in_tree_none b (suc x ∷ flags) f = let z = f 0 in absurd (omega arith)

pub in_tree_all : (b : ℕ) (flags : List ℕ) (n : ℕ) → n ≤ length flags → ((i : ℕ) → i < n → get_or flags i 0 ≡ 0 → ⊥) → ((i : ℕ) → n ≤ i → get_or flags i 0 ≡ 0) → in_tree b flags ≡ from b n
unfolding in_tree from
in_tree_all b flags zero h f g = in_tree_none b flags (λ i. g i (omega arith))
in_tree_all b [] (suc n) h f g = absurd (omega arith)
in_tree_all b (zero ∷ flags) (suc n) h f g = absurd (f 0 (omega arith) refl)
in_tree_all b (suc x ∷ flags) (suc n) h f g = ap (λ cs. b ∷ cs) (in_tree_all (suc b) flags n (omega arith) (λ i l. f (suc i) (omega arith)) (λ i l. g (suc i) (omega arith)))

-- ---- how many there are

pub in_tree_few : (b : ℕ) (flags : List ℕ) → length (in_tree b flags) ≤ length flags
unfolding in_tree
in_tree_few b [] = omega arith
in_tree_few b (zero ∷ flags) = omega (arith, in_tree_few (suc b) flags)
in_tree_few b (suc f ∷ flags) = omega (arith, in_tree_few (suc b) flags)

pub in_tree_more : (b : ℕ) (flags : List ℕ) (i : ℕ) → i < length flags → get_or flags i 0 ≡ 0 → length (in_tree b (set flags i 1)) ≡ suc (length (in_tree b flags))
in_tree_more b flags i h e = sym (perm_length (in_tree-set b flags i h e))
