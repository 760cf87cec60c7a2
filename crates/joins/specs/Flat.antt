-- The lists of loops and rows, chain after chain, from a chain's window and its strides in the left child, the right child and the join.
-- A stride is 0 where the chain is not partial: so a chain with two strides in the children is shared, and one with a stride in the
-- join has an index there.
use Rattle.std.specs.Prelude.{ℕ, ◌+◌, ◌*◌, ◌^◌, ◌≤◌, ◌<◌, ◌≡◌, Bool, true, false, ◌&&◌, List, [], ◌∷◌, ◌++◌, Some, None, ltb, length, get_or, take}
use Rattle.cellsums.specs.declared.Row.{Row}
use Rattle.joins.specs.declared.Loop.{Loop}
use Rattle.joins.specs.declared.Used.{Used}

-- `count`: the pairs of the first result cell
pub record Flat : Type 0 where
  pub loops : List Loop
  pub rows : List Row
  pub count : ℕ

-- by whether the chain is shared, and whether it is partial at the join
unfoldable pub with_chain : Bool → Bool → Flat → ℕ → ℕ → ℕ → ℕ → Flat
with_chain true true f n a b c = record {
  loops = f.loops ++ (record { count = n + 1; row = Some (length f.rows); left = 0; right = 0; own = c } ∷ []);
  rows = f.rows ++ (record { count = 1; left = a; right = b } ∷ []);
  count = f.count;
}
with_chain true false f n a b c = record { loops = f.loops; rows = f.rows ++ (record { count = n + 1; left = a; right = b } ∷ []); count = f.count * (n + 1) }
with_chain false true f n a b c =
    record { loops = f.loops ++ (record { count = n + 1; row = None; left = a; right = b; own = c } ∷ []); rows = f.rows; count = f.count }
with_chain false false f n a b c = f

abbrev pub add_chain : Flat → ℕ → ℕ → ℕ → ℕ → Flat
add_chain f n a b c = with_chain (ltb 0 a && ltb 0 b) (ltb 0 c) f n a b c

unfoldable pub add_chains : Flat → List ℕ → List ℕ → List ℕ → List ℕ → Flat
add_chains f [] lefts rights owns = f
add_chains f (n ∷ windows) [] rights owns = f
add_chains f (n ∷ windows) (a ∷ lefts) [] owns = f
add_chains f (n ∷ windows) (a ∷ lefts) (b ∷ rights) [] = f
add_chains f (n ∷ windows) (a ∷ lefts) (b ∷ rights) (c ∷ owns) = add_chains (add_chain f n a b c) windows lefts rights owns

-- what two arrays hold, of which so much is used
abbrev pub flat : Used → List Loop → List Row → Flat
flat u loops rows = record { loops = take u.loops loops; rows = take u.rows rows; count = u.count }

abbrev pub nothing : Flat
nothing = record { loops = []; rows = []; count = 1 }

-- ---- what the code that builds them asks for, and keeps to

-- the arrays have room for one more chain with window n
pub record Room (u : Used) (n loops rows : ℕ) : Type 0 where
  pub loops_room : u.loops + 1 ≤ loops
  pub rows_room : u.rows + 1 ≤ rows
  pub window : n ≤ 15
  pub count_room : u.count * (n + 1) < 2 ^ 64

-- one chain takes no more
pub record Grown (u v : Used) (n : ℕ) : Type 0 where
  pub loops : v.loops ≤ u.loops + 1
  pub rows : v.rows ≤ u.rows + 1
  pub count : v.count ≤ u.count * (n + 1)

-- at most eight chains, with four numbers each
pub record Chains (windows lefts rights owns : List ℕ) : Type 0 where
  pub few : length windows ≤ 8
  pub lefts_length : length lefts ≡ length windows
  pub rights_length : length rights ≡ length windows
  pub owns_length : length owns ≡ length windows
  pub messages : (k : ℕ) → get_or windows k 0 ≤ 15
