-- A join's chains from how their coverages meet. By cases on the meeting: the chains have the join's spans and strides, their rows list the
-- places of the network's index pairs, and the lists that the code builds from windows and strides are theirs.
use Prim.Native.Nat.{ℕ, zero, suc, ◌+◌, ◌-◌, ◌*◌}
use mathlib.Core.Path.{◌≡◌, refl, sym, ap, ◌∙◌, fun_ext}
use mathlib.Core.List.{List, [], ◌∷◌, map, map-map, flat_map, zip_with, append-nil}
use native.Mathlib.Nat.{mul_comm}
use native.Mathlib.Omega.{arith}
use lib.ListN.{length}
use Rattle.sums.specs.Lists.{from}
use Rattle.sums.specs.Sums.{splits, one_more, before}
use Rattle.network.specs.Coverage.{Coverage, finished, partial, absent}
use Rattle.network.specs.Cells.{span, cells, stride, strides, along}
use Rattle.network.specs.Pairs.{chain_pairs, index_pairs}
use Rattle.network.proofs.CoverageLaws.{Meet, Meets}
use Rattle.cellsums.specs.Places.{places}
use Rattle.joins.proofs.TurnLaws.{map_flat}
use Rattle.joins.proofs.CountLaws.{row_of}
use Rattle.joins.proofs.ChainLaws.{Chain, both, ends, one, still, span_of, own_stride, rows_at, left_at, right_at, flat_map-map}

-- by the cells of the later chains in the left child, in the right one and at the join
unfoldable pub chain : {l r j : Coverage} → Meet l r j → ℕ → ℕ → ℕ → ℕ → Chain
chain (Meet.left finished) n a b c = still n
chain (Meet.left partial) n a b c = one n a 0 c
chain (Meet.left absent) n a b c = still 0
chain (Meet.right finished) n a b c = still n
chain (Meet.right partial) n a b c = one n 0 b c
chain (Meet.right absent) n a b c = still 0
chain Meet.shared n a b c = both n a b c
chain Meet.closed n a b c = ends n a b

unfoldable pub chains : {ls rs js : List Coverage} → Meets ls rs js → List ℕ → List Chain
chains Meets.none N = []
chains (Meets.more t ts) [] = []
chains (Meets.more {ls = ls} {rs = rs} {js = js} t ts) (n ∷ N) = chain t n (cells (zip_with span ls N)) (cells (zip_with span rs N)) (cells (zip_with span js N)) ∷ chains ts N

-- ---- the join's spans and strides

chain-span : {l r j : Coverage} (t : Meet l r j) (n a b c : ℕ) → span_of (chain t n a b c) ≡ span j n
unfolding chain span_of span
chain-span (Meet.left finished) n a b c = refl
chain-span (Meet.left partial) n a b c = refl
chain-span (Meet.left absent) n a b c = refl
chain-span (Meet.right finished) n a b c = refl
chain-span (Meet.right partial) n a b c = refl
chain-span (Meet.right absent) n a b c = refl
chain-span Meet.shared n a b c = refl
chain-span Meet.closed n a b c = refl

chain-stride : {l r j : Coverage} (t : Meet l r j) (n a b c : ℕ) → own_stride (chain t n a b c) ≡ stride (span j n) c
unfolding chain own_stride span stride
chain-stride (Meet.left finished) n a b c = refl
chain-stride (Meet.left partial) n a b c = refl
chain-stride (Meet.left absent) n a b c = refl
chain-stride (Meet.right finished) n a b c = refl
chain-stride (Meet.right partial) n a b c = refl
chain-stride (Meet.right absent) n a b c = refl
chain-stride Meet.shared n a b c = refl
chain-stride Meet.closed n a b c = refl

pub chains-span : {ls rs js : List Coverage} (ts : Meets ls rs js) (N : List ℕ) → map span_of (chains ts N) ≡ zip_with span js N
unfolding chains zip_with
chains-span Meets.none N = refl
chains-span (Meets.more t ts) [] = refl
chains-span (Meets.more {ls = ls} {rs = rs} {js = js} t ts) (n ∷ N) = λ i. chain-span t n (cells (zip_with span ls N)) (cells (zip_with span rs N)) (cells (zip_with span js N)) i ∷ chains-span ts N i

pub chains-stride : {ls rs js : List Coverage} (ts : Meets ls rs js) (N : List ℕ) → map own_stride (chains ts N) ≡ strides (zip_with span js N)
unfolding chains zip_with strides
chains-stride Meets.none N = refl
chains-stride (Meets.more t ts) [] = refl
chains-stride (Meets.more {ls = ls} {rs = rs} {js = js} t ts) (n ∷ N) = λ i. chain-stride t n (cells (zip_with span ls N)) (cells (zip_with span rs N)) (cells (zip_with span js N)) i ∷ chains-stride ts N i

-- ---- the places of a result index's pairs

splits-from : (n : ℕ) → splits n ≡ map (λ j. (j, n - j)) (from 0 (suc n))
unfolding splits from
splits-from zero = refl
splits-from (suc n) =
    let e : suc n ≡ suc n - 0 = omega arith in λ i. (0, e i) ∷ tail (splits-from n) i
  where
    shifted : (a m : ℕ) → map suc (from a m) ≡ from (suc a) m
    shifted a zero = refl
    shifted a (suc m) = ap (λ l. suc a ∷ l) (shifted (suc a) m)

    tail : splits n ≡ map (λ j. (j, n - j)) (from 0 (suc n)) → map one_more (splits n) ≡ map (λ j. (j, suc n - j)) (from 1 (suc n))
    tail h =
        ap (map one_more) h
        ∙ map-map one_more (λ j. (j, n - j)) (from 0 (suc n))
        ∙ ap (λ f. map f (from 0 (suc n))) (fun_ext (λ j. let e : n - j ≡ suc n - suc j = omega arith in λ i. (suc j, e i)))
        ∙ sym (map-map (λ j. (j, suc n - j)) suc (from 0 (suc n)))
        ∙ ap (map (λ j. (j, suc n - j))) (shifted 0 (suc n))

left_at-add : (cs : List Chain) (v : List ℕ) (l x : ℕ) → left_at cs v (l + x) ≡ left_at cs v l + x
unfolding left_at
left_at-add [] v l x = refl
left_at-add (both n a b c ∷ cs) [] l x = refl
left_at-add (ends n a b ∷ cs) [] l x = refl
left_at-add (one n a b c ∷ cs) [] l x = refl
left_at-add (still y ∷ cs) [] l x = refl
left_at-add (both n a b c ∷ cs) (i ∷ v) l x = left_at-add cs v l x
left_at-add (ends n a b ∷ cs) (i ∷ v) l x = left_at-add cs v l x
left_at-add (one n a b c ∷ cs) (i ∷ v) l x = let e : l + x + i * a ≡ l + i * a + x = omega arith in rw e (left_at-add cs v (l + i * a) x)
left_at-add (still y ∷ cs) (i ∷ v) l x = left_at-add cs v l x

right_at-add : (cs : List Chain) (v : List ℕ) (r x : ℕ) → right_at cs v (r + x) ≡ right_at cs v r + x
unfolding right_at
right_at-add [] v r x = refl
right_at-add (both n a b c ∷ cs) [] r x = refl
right_at-add (ends n a b ∷ cs) [] r x = refl
right_at-add (one n a b c ∷ cs) [] r x = refl
right_at-add (still y ∷ cs) [] r x = refl
right_at-add (both n a b c ∷ cs) (i ∷ v) r x = right_at-add cs v r x
right_at-add (ends n a b ∷ cs) (i ∷ v) r x = right_at-add cs v r x
right_at-add (one n a b c ∷ cs) (i ∷ v) r x = let e : r + x + i * b ≡ r + i * b + x = omega arith in rw e (right_at-add cs v (r + i * b) x)
right_at-add (still y ∷ cs) (i ∷ v) r x = right_at-add cs v r x

-- the places of an index pair, from l and r on
abbrev pub placed : List ℕ → List ℕ → ℕ → ℕ → List ℕ × List ℕ → ℕ × ℕ
placed lefts rights l r p = (l + along lefts p.0, r + along rights p.1)

module _ (cs : List Chain) (v : List ℕ) where
  -- the places of the later chains from l and r on
  abbrev later : ℕ → ℕ → List (ℕ × ℕ)
  later l r = places (rows_at cs v) (left_at cs v l) (right_at cs v r)

  -- over the index pairs of one chain: a row where it is shared
  over_splits : (i a b l r : ℕ) → flat_map (λ (p : ℕ × ℕ). later (l + a * p.0) (r + b * p.1)) (splits i) ≡ places (row_of (i + 1) a b ∷ rows_at cs v) (left_at cs v l) (right_at cs v r)
  unfolding places
  over_splits i a b l r =
      ap (flat_map (λ (p : ℕ × ℕ). later (l + a * p.0) (r + b * p.1))) (splits-from i)
      ∙ flat_map-map (λ p. later (l + a * p.0) (r + b * p.1)) (λ j. (j, i - j)) (from 0 (suc i))
      ∙ (let m : suc i ≡ i + 1 = omega arith in ap (λ k. flat_map (λ j. later (l + a * j) (r + b * (i - j))) (from 0 k)) m)
      ∙ ap (λ f. flat_map f (from 0 (i + 1))) (fun_ext (λ j.
      let e : i - j ≡ i + 1 - 1 - j = omega arith in
      λ z. places (rows_at cs v) ((left_at-add cs v l (a * j) ∙ ap (λ x. left_at cs v l + x) (mul_comm a j)) z) ((right_at-add cs v r (b * (i - j)) ∙ ap (λ x. right_at cs v r + x) (mul_comm b (i - j)) ∙ ap (λ x. right_at cs v r + x * b) e) z)))

  -- else one step
  over_one : (a b x y l r l' r' : ℕ) → l + a * x ≡ l' → r + b * y ≡ r' → flat_map (λ (p : ℕ × ℕ). later (l + a * p.0) (r + b * p.1)) ((x, y) ∷ []) ≡ later l' r'
  unfolding flat_map
  over_one a b x y l r l' r' e f = append-nil _ ∙ (λ z. later (e z) (f z))

chain-places : {l r j : Coverage} (t : Meet l r j) (n a b c : ℕ) (cs : List Chain) (i : ℕ) (v : List ℕ) (x y : ℕ)
    → flat_map (λ p. places (rows_at cs v) (left_at cs v (x + stride (span l n) a * p.0)) (right_at cs v (y + stride (span r n) b * p.1))) (chain_pairs l r i)
    ≡ places (rows_at (chain t n a b c ∷ cs) (i ∷ v)) (left_at (chain t n a b c ∷ cs) (i ∷ v) x) (right_at (chain t n a b c ∷ cs) (i ∷ v) y)
unfolding chain stride span chain_pairs rows_at left_at right_at
chain-places (Meet.left finished) n a b c cs i v x y = over_one cs v 0 0 i 0 x y x y (omega arith) (omega arith)
chain-places (Meet.left partial) n a b c cs i v x y = over_one cs v a 0 i 0 x y (x + i * a) (y + i * 0) (omega arith) (omega arith)
chain-places (Meet.left absent) n a b c cs i v x y = over_one cs v 0 0 0 i x y x y (omega arith) (omega arith)
chain-places (Meet.right finished) n a b c cs i v x y = over_one cs v 0 0 0 i x y x y (omega arith) (omega arith)
chain-places (Meet.right partial) n a b c cs i v x y = over_one cs v 0 b 0 i x y (x + i * 0) (y + i * b) (omega arith) (omega arith)
chain-places (Meet.right absent) n a b c cs i v x y = over_one cs v 0 0 0 i x y x y (omega arith) (omega arith)
chain-places Meet.shared n a b c cs i v x y = over_splits cs v i a b x y
chain-places Meet.closed n a b c cs i v x y = over_splits cs v i a b x y

alone : (l r : ℕ) → ◌≡◌ {A = List (ℕ × ℕ)} ((l, r) ∷ []) ((l + 0, r + 0) ∷ [])
alone l r = let e : l ≡ l + 0 = omega arith in let f : r ≡ r + 0 = omega arith in λ i. (e i, f i) ∷ []

pub chains-places : {ls rs js : List Coverage} (ts : Meets ls rs js) (N v : List ℕ) (l r : ℕ) → length js ≡ length N
    → places (rows_at (chains ts N) v) (left_at (chains ts N) v l) (right_at (chains ts N) v r) ≡ map (placed (strides (zip_with span ls N)) (strides (zip_with span rs N)) l r) (index_pairs ls rs v)
unfolding chains zip_with strides along index_pairs rows_at left_at right_at places
chains-places Meets.none N [] l r e = alone l r
chains-places Meets.none N (i ∷ v) l r e = alone l r
chains-places (Meets.more t ts) [] v l r e = absurd (omega arith)
chains-places (Meets.more t ts) (n ∷ N) [] l r e = alone l r
chains-places (Meets.more {l = cl} {r = cr} {ls = ls} {rs = rs} {js = js} t ts) (n ∷ N) (i ∷ v) l r e =
    let lefts = strides (zip_with span ls N) in
    let rights = strides (zip_with span rs N) in
    let a = stride (span cl n) (cells (zip_with span ls N)) in
    let b = stride (span cr n) (cells (zip_with span rs N)) in
    sym (chain-places t n (cells (zip_with span ls N)) (cells (zip_with span rs N)) (cells (zip_with span js N)) (chains ts N) i v l r)
    ∙ ap (λ f. flat_map f (chain_pairs cl cr i)) (fun_ext (λ p.
    chains-places ts N v (l + a * p.0) (r + b * p.1) (omega arith)
    ∙ ap (λ f. map f (index_pairs ls rs v)) (fun_ext (λ q. λ z. (further l (a * p.0) (along lefts q.0) z, further r (b * p.1) (along rights q.1) z)))
    ∙ sym (map-map (placed (a ∷ lefts) (b ∷ rights) l r) (before p) (index_pairs ls rs v))))
    ∙ sym (map_flat (placed (a ∷ lefts) (b ∷ rights) l r) (λ p. map (before p) (index_pairs ls rs v)) (chain_pairs cl cr i))
  where
    further : (x y z : ℕ) → x + y + z ≡ x + (y + z)
    further x y z = omega arith
