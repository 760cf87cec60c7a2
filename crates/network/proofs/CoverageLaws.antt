-- Coverage from what visits inside and outside: with the centres parted into a set and the rest, a chain is absent if no centre of the
-- set is one of its, finished if one is and none of the rest, partial if both have one. So counting decides it, and the coverage at
-- a join follows from its children's.
use Prim.Native.Nat.{ℕ, zero, suc, ◌+◌}
use mathlib.Core.Path.{◌≡◌, refl, sym, ap, subst, ◌∙◌}
use mathlib.Core.Bool.{Bool, true, false, not, ◌||◌, true≢false}
use mathlib.Core.Logic.{◌⊎◌, inl, inr}
use mathlib.Core.List.Memᴰ
use mathlib.Core.List.Permᴰ
use mathlib.Core.List.{List, [], ◌∷◌, ◌++◌, map, Memᴰ, Permᴰ, append_assoc}
use native.Mathlib.Omega.{arith}
use lib.Dec.{eqb}
use lib.ListN.{length, length-append}
use borrow.Author.Tests.{eq-eqb, ne_eqb}
use Rattle.sums.specs.Lists.{from, some, all, among, those}
use Rattle.sums.proofs.BoolLaws.{some_is, some_of, none_of, all_of, not_all, those_in, those_out, among_in, among_is, some-append, those-append, those_none, those-some}
use Rattle.sums.proofs.ListLaws.{from_nodup, nodup_apart}
use Rattle.sums.proofs.PermLaws.{perm_in, perm_nodup, perm_turn, perm_those}
use Rattle.network.specs.Centre.{Route}
use Rattle.network.specs.Coverage.{Coverage, finished, partial, absent, Tree, join, under, visits, chain_centres, coverage_by, coverage, coverages}

-- a test that is not true is false
bool_false : (b : Bool) → (b ≡ true → ⊥) → b ≡ false
bool_false true f = absurd (f refl)
bool_false false f = refl

-- two tests that hold of the same are equal
bool_same : (a b : Bool) → (a ≡ true → b ≡ true) → (b ≡ true → a ≡ true) → a ≡ b
bool_same true b f g = sym (f refl)
bool_same false true f g = g refl
bool_same false false f g = refl

-- the set and the rest are all centres, each once
abbrev pub Parted : List Route → List ℕ → List ℕ → Type 0
Parted routes set rest = Permᴰ (set ++ rest) (from 1 (length routes))

module _ (routes : List Route) (set rest : List ℕ) (parted : Parted routes set rest) (k : ℕ) where
  in_chain : {c : ℕ} → Memᴰ c (set ++ rest) → visits routes k c ≡ true → Memᴰ c (chain_centres routes k)
  unfolding chain_centres
  in_chain m v = those_in (visits routes k) (perm_in parted m) v

  apart : {c : ℕ} → Memᴰ c set → Memᴰ c rest → ⊥
  apart = nodup_apart set rest (perm_nodup (Permᴰ.symm parted) (from_nodup 1 (length routes)))

  of_chain : {c : ℕ} → Memᴰ c (chain_centres routes k) → (Memᴰ c set ⊎ Memᴰ c rest) × (visits routes k c ≡ true)
  unfolding chain_centres
  of_chain m = let r = those_out (visits routes k) (from 1 (length routes)) m in (Memᴰ.append_cases set (perm_in (Permᴰ.symm parted) r.0), r.1)

  some_inside : some (among set) (chain_centres routes k) ≡ some (visits routes k) set
  some_inside = bool_same _ _
      (λ e. let r = some_is (among set) (chain_centres routes k) e in some_of (visits routes k) (among_is set r.2) (of_chain r.1).1)
      (λ e. let r = some_is (visits routes k) set e in some_of (among set) (in_chain (Memᴰ.append_left rest r.1) r.2) (among_in r.1))

  none_outside : all (among set) (chain_centres routes k) ≡ not (some (visits routes k) rest)
  none_outside = by (some (visits routes k) rest) refl
    where
      by : (b : Bool) → some (visits routes k) rest ≡ b → all (among set) (chain_centres routes k) ≡ not b
      by true e =
          let r = some_is (visits routes k) rest e in
          not_all (among set) (in_chain (Memᴰ.append_right set r.1) r.2) (bool_false _ (λ t. apart (among_is set t) r.1))
      by false e = all_of (among set) (chain_centres routes k) (λ c m. settle c (of_chain m).0 (of_chain m).1)
        where
          settle : (c : ℕ) → Memᴰ c set ⊎ Memᴰ c rest → visits routes k c ≡ true → among set c ≡ true
          settle c (inl n) v = among_in n
          settle c (inr n) v = absurd (true≢false (sym v ∙ none_of (visits routes k) n e))

  pub coverage_parts : coverage routes set k ≡ coverage_by (some (visits routes k) set) (not (some (visits routes k) rest))
  unfolding coverage
  coverage_parts = λ i. coverage_by (some_inside i) (none_outside i)

-- ---- counting decides it

-- none of the chain's centres: absent; all of them: finished; else partial
unfoldable pub coverage_by_count : ℕ → ℕ → Coverage
coverage_by_count zero every = absent
coverage_by_count (suc s) every = coverage_by true (eqb (suc s) every)

module _ (routes : List Route) (set rest : List ℕ) (parted : Parted routes set rest) (k : ℕ) where
  -- the chain's centres are those in the set and those in the rest
  counts_add : length (those (visits routes k) set) + length (those (visits routes k) rest) ≡ length (chain_centres routes k)
  unfolding chain_centres
  counts_add =
      sym (length-append (those (visits routes k) set) (those (visits routes k) rest))
      ∙ ap length (sym (those-append (visits routes k) set rest))
      ∙ perm_those (visits routes k) parted

  -- how many of the chain's centres are in the set, of how many in all, decides its coverage
  pub counting : coverage routes set k ≡ coverage_by_count (length (those (visits routes k) set)) (length (chain_centres routes k))
  unfolding coverage_by coverage_by_count
  counting = coverage_parts routes set rest parted k ∙ by (some (visits routes k) set) (some (visits routes k) rest) refl refl (length (those (visits routes k) set)) refl
    where
      by : (a o : Bool) → some (visits routes k) set ≡ a → some (visits routes k) rest ≡ o → (s : ℕ) → length (those (visits routes k) set) ≡ s
          → coverage_by a (not o) ≡ coverage_by_count s (length (chain_centres routes k))
      by false o p q zero e = refl
      by false o p q (suc s) e = absurd (omega (arith, those_none (visits routes k) set p))
      by true o p q zero e = absurd (omega (arith, those-some (visits routes k) set p))
      by true false p q (suc s) e = ap (coverage_by true) (sym (eq-eqb (suc s) (length (chain_centres routes k)) (omega (arith, counts_add, those_none (visits routes k) rest q))))
      by true true p q (suc s) e = ap (coverage_by true) (sym (ne_eqb (suc s) (length (chain_centres routes k)) (λ d. omega (arith, counts_add, those-some (visits routes k) rest q))))

-- ---- a join

-- what a chain's coverage can be at the left child, at the right child and at their join
pub data Meet : Coverage → Coverage → Coverage → Type 0 where
  left : (c : Coverage) → Meet c absent c
  right : (c : Coverage) → Meet absent c c
  shared : Meet partial partial partial
  closed : Meet partial partial finished

pub data Meets : List Coverage → List Coverage → List Coverage → Type 0 where
  none : Meets [] [] []
  more : {l r j : Coverage} {ls rs js : List Coverage} → Meet l r j → Meets ls rs js → Meets (l ∷ ls) (r ∷ rs) (j ∷ js)

meet_by : (a b o : Bool) → Meet (coverage_by a (not (b || o))) (coverage_by b (not (a || o))) (coverage_by (a || b) (not o))
unfolding coverage_by
meet_by false false o = Meet.left absent
meet_by false true false = Meet.right finished
meet_by false true true = Meet.right partial
meet_by true false false = Meet.left finished
meet_by true false true = Meet.left partial
meet_by true true false = Meet.closed
meet_by true true true = Meet.shared

module _ (routes : List Route) (u v rest : List ℕ) (parted : Parted routes (u ++ v) rest) where
  -- seen from the left child, and from the right one
  pub parted_left : Parted routes u (v ++ rest)
  parted_left = subst (λ l. Permᴰ l (from 1 (length routes))) (append_assoc u v rest) parted

  pub parted_right : Parted routes v (u ++ rest)
  parted_right = subst (λ l. Permᴰ l (from 1 (length routes))) (append_assoc v u rest) (Permᴰ.trans (Permᴰ.append_right rest (perm_turn v u)) parted)

  pub meet : (k : ℕ) → Meet (coverage routes u k) (coverage routes v k) (coverage routes (u ++ v) k)
  meet k =
      let a = some (visits routes k) u in
      let b = some (visits routes k) v in
      let o = some (visits routes k) rest in
      let l : coverage routes u k ≡ coverage_by a (not (b || o)) = coverage_parts routes u (v ++ rest) parted_left k ∙ ap (λ z. coverage_by a (not z)) (some-append (visits routes k) v rest) in
      let r : coverage routes v k ≡ coverage_by b (not (a || o)) = coverage_parts routes v (u ++ rest) parted_right k ∙ ap (λ z. coverage_by b (not z)) (some-append (visits routes k) u rest) in
      let j : coverage routes (u ++ v) k ≡ coverage_by (a || b) (not o) = coverage_parts routes (u ++ v) rest parted k ∙ ap (λ z. coverage_by z (not o)) (some-append (visits routes k) u v) in
      subst (λ z. Meet z (coverage routes v k) (coverage routes (u ++ v) k)) (sym l)
      (subst (λ z. Meet (coverage_by a (not (b || o))) z (coverage routes (u ++ v) k)) (sym r)
      (subst (λ z. Meet (coverage_by a (not (b || o))) (coverage_by b (not (a || o))) z) (sym j) (meet_by a b o)))

-- the same of all chains
pub meets : (routes : List Route) (chains : ℕ) (l r : Tree) (rest : List ℕ) → Parted routes (under (join l r)) rest → Meets (coverages routes chains l) (coverages routes chains r) (coverages routes chains (join l r))
unfolding coverages under
meets routes chains l r rest parted = over (from 1 chains)
  where
    over : (ks : List ℕ) → Meets (map (coverage routes (under l)) ks) (map (coverage routes (under r)) ks) (map (coverage routes (under l ++ under r)) ks)
    over [] = Meets.none
    over (k ∷ ks) = Meets.more (meet routes (under l) (under r) rest parted k) (over ks)
