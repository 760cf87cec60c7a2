-- Runs: what pairs leave in an area, and the sums that they form on the way (the trace). Pairs that share a
-- result cell add up there; blocks of pairs with different result cells, all above the cells they read, do not disturb one another.
use Prim.Native.Nat.{ℕ, zero, suc, ◌+◌, ◌*◌, ◌≤◌, ◌<◌}
use mathlib.Core.Path.{◌≡◌, refl, sym, ap, subst, ◌∙◌}
use mathlib.Core.List.Memᴰ
use mathlib.Core.List.{List, [], ◌∷◌, ◌++◌, map, flat_map, Memᴰ, Nodup}
use mathlib.Core.Logic.{◌⊎◌, inl, inr}
use native.Mathlib.Omega.{arith}
use native.Mathlib.Nat.{add-zero}
use lib.ListN.{length, get_or, set, take, drop, length-set, take-append-drop}
use lib.Seq.{get_or-set_same, get_or-set_other, set-set, set-get_or}
use Rattle.sums.specs.Sums.{sum_over}
use Rattle.sums.proofs.SumLaws.{sum_over_cong}
use Rattle.sums.proofs.ListLaws.{map_cong, flat_cong, nodup_head, nodup_tail}
use Rattle.network.specs.Pairs.{Pair}
use Rattle.network.specs.Run.{sum_at, add, leave}

-- the sums that pairs form, one after the other
unfoldable pub trace : List Pair → List ℕ → List ℕ
trace [] A = []
trace (p ∷ ps) A = sum_at A p ∷ trace ps (add A p)

pub leave-append : (ps qs : List Pair) (A : List ℕ) → leave (ps ++ qs) A ≡ leave qs (leave ps A)
unfolding leave
leave-append [] qs A = refl
leave-append (p ∷ ps) qs A = leave-append ps qs (add A p)

pub trace-append : (ps qs : List Pair) (A : List ℕ) → trace (ps ++ qs) A ≡ trace ps A ++ trace qs (leave ps A)
unfolding leave trace
trace-append [] qs A = refl
trace-append (p ∷ ps) qs A = ap (λ l. sum_at A p ∷ l) (trace-append ps qs (add A p))

pub length-trace : (ps : List Pair) (A : List ℕ) → length (trace ps A) ≡ length ps
unfolding trace
length-trace [] A = refl
length-trace (p ∷ ps) A = ap suc (length-trace ps (add A p))

pub length-add : (A : List ℕ) (p : Pair) → length (add A p) ≡ length A
unfolding add
length-add A p = length-set A p.result (sum_at A p)

pub add_other : (A : List ℕ) (p : Pair) (i : ℕ) → (i ≡ p.result → ⊥) → get_or (add A p) i 0 ≡ get_or A i 0
unfolding add
add_other A p i f = get_or-set_other A p.result i (sum_at A p) 0 f

pub length-leave : (ps : List Pair) (A : List ℕ) → length (leave ps A) ≡ length A
unfolding leave
length-leave [] A = refl
length-leave (p ∷ ps) A = length-leave ps (add A p) ∙ length-add A p

-- each pair's sum is in the trace
pub trace_at : (ps : List Pair) (A : List ℕ) (n : ℕ) (d : Pair) → n < length ps → Memᴰ (sum_at (leave (take n ps) A) (get_or ps n d)) (trace ps A)
unfolding leave trace
trace_at [] A n d h = absurd (omega arith)
trace_at (p ∷ ps) A zero d h = Memᴰ.head refl
trace_at (p ∷ ps) A (suc n) d h = Memᴰ.tail (trace_at ps (add A p) n d (omega arith))

-- what the first pairs form is formed by all
pub trace-take : (n : ℕ) (ps : List Pair) (A : List ℕ) (x : ℕ) → Memᴰ x (trace (take n ps) A) → Memᴰ x (trace ps A)
trace-take n ps A x m = subst (λ l. Memᴰ x (trace l A)) (take-append-drop n ps) (subst (λ l. Memᴰ x l) (sym (trace-append (take n ps) (drop n ps) A)) (Memᴰ.append_left (trace (drop n ps) (leave (take n ps) A)) m))

-- ---- pairs with one result cell

-- the pairs (left, right) of the result cell q
abbrev pub block : ℕ → List (ℕ × ℕ) → List Pair
block q ps = map (λ p. record { left = p.0; right = p.1; result = q }) ps

abbrev pub product : List ℕ → ℕ × ℕ → ℕ
product A p = get_or A p.0 0 * get_or A p.1 0

-- the sums on the way to y + xs
unfoldable pub running : ℕ → List ℕ → List ℕ
running y [] = []
running y (x ∷ xs) = (y + x) ∷ running (y + x) xs

-- neither factor is the result cell
abbrev Apart : ℕ → List (ℕ × ℕ) → Type 0
Apart q ps = (p : ℕ × ℕ) → Memᴰ p ps → (p.0 ≡ q → ⊥) × (p.1 ≡ q → ⊥)

product_apart : (A : List ℕ) (q x : ℕ) (p : ℕ × ℕ) → (p.0 ≡ q → ⊥) → (p.1 ≡ q → ⊥) → product (set A q x) p ≡ product A p
product_apart A q x p f g = λ i. get_or-set_other A q p.0 x 0 f i * get_or-set_other A q p.1 x 0 g i

pub block_run : (q : ℕ) (ps : List (ℕ × ℕ)) (A : List ℕ) → q < length A → Apart q ps → leave (block q ps) A ≡ set A q (get_or A q 0 + sum_over ps (product A))
unfolding leave add sum_at sum_over
block_run q [] A h f = sym (ap (set A q) (add-zero (get_or A q 0)) ∙ set-get_or A q 0)
block_run q (p ∷ ps) A h f =
    let x = get_or A q 0 + product A p in
    let B = set A q x in
    let g : Apart q ps = λ r m. f r (Memᴰ.tail m) in
    let s : sum_over ps (product B) ≡ sum_over ps (product A) = sum_over_cong ps (product B) (product A) (λ r m. product_apart A q x r (g r m).0 (g r m).1) in
    block_run q ps B (rw (length-set A q x) h) g
    ∙ set-set A q x (get_or B q 0 + sum_over ps (product B))
    ∙ ap (set A q) (omega (arith, get_or-set_same A q x 0 h))

pub block-trace : (q : ℕ) (ps : List (ℕ × ℕ)) (A : List ℕ) → q < length A → Apart q ps → trace (block q ps) A ≡ running (get_or A q 0) (map (product A) ps)
unfolding trace add sum_at running
block-trace q [] A h f = refl
block-trace q (p ∷ ps) A h f =
    let x = get_or A q 0 + product A p in
    let B = set A q x in
    let g : Apart q ps = λ r m. f r (Memᴰ.tail m) in
    let s : map (product B) ps ≡ map (product A) ps = map_cong ps (product B) (product A) (λ r m. product_apart A q x r (g r m).0 (g r m).1) in
    ap (λ l. x ∷ l) (block-trace q ps B (rw (length-set A q x) h) g ∙ (λ i. running (get_or-set_same A q x 0 h i) (s i)))

-- ---- blocks of different result cells

module _ {I : Type 0} (e : ℕ) (q : I → ℕ) (ps : I → List (ℕ × ℕ)) where
  abbrev pub blocks : List I → List Pair
  blocks vs = flat_map (λ v. block (q v) (ps v)) vs

  -- every factor lies below e, every result cell at e or above, and different results have different cells
  pub record Clear (n : ℕ) (vs : List I) : Type 0 where
    pub factors : (v : I) → Memᴰ v vs → (p : ℕ × ℕ) → Memᴰ p (ps v) → (p.0 < e) × (p.1 < e)
    pub results : (v : I) → Memᴰ v vs → (e ≤ q v) × (q v < n)
    pub differ : (u v : I) → Memᴰ u vs → Memᴰ v vs → q u ≡ q v → u ≡ v

  clear_tail : {n : ℕ} {v : I} {vs : List I} → Clear n (v ∷ vs) → Clear n vs
  clear_tail c = record { factors = λ u m. c.factors u (Memᴰ.tail m); results = λ u m. c.results u (Memᴰ.tail m); differ = λ u w m o. c.differ u w (Memᴰ.tail m) (Memᴰ.tail o) }

  clear_apart : {n : ℕ} {v : I} {vs : List I} → Clear n (v ∷ vs) → Apart (q v) (ps v)
  clear_apart {v = v} c p m =
      let f = c.factors v (Memᴰ.head refl) p m in
      let r = c.results v (Memᴰ.head refl) in
      (λ d. omega (arith, f.0, f.1, r.0), λ d. omega (arith, f.0, f.1, r.0))

  -- what is not a result cell stays
  pub blocks_same : (vs : List I) (A : List ℕ) → Clear (length A) vs → (i : ℕ) → ((v : I) → Memᴰ v vs → i ≡ q v → ⊥) → get_or (leave (blocks vs) A) i 0 ≡ get_or A i 0
  unfolding leave flat_map
  blocks_same [] A c i f = refl
  blocks_same (v ∷ vs) A c i f =
      let x = get_or A (q v) 0 + sum_over (ps v) (product A) in
      let B = set A (q v) x in
      ap (λ C. get_or C i 0) (leave-append (block (q v) (ps v)) (blocks vs) A ∙ ap (leave (blocks vs)) (block_run (q v) (ps v) A (c.results v (Memᴰ.head refl)).1 (clear_apart c)))
      ∙ blocks_same vs B (subst (λ n. Clear n vs) (sym (length-set A (q v) x)) (clear_tail c)) i (λ u m. f u (Memᴰ.tail m))
      ∙ get_or-set_other A (q v) i x 0 (f v (Memᴰ.head refl))

  -- the first block leaves what the later ones read
  after_first : (v : I) (vs : List I) (A : List ℕ) (x : ℕ) → Clear (length A) (v ∷ vs) → (u : I) → Memᴰ u vs → (p : ℕ × ℕ) → Memᴰ p (ps u) → product (set A (q v) x) p ≡ product A p
  after_first v vs A x c u m p n =
      let f = c.factors u (Memᴰ.tail m) p n in
      let r = c.results v (Memᴰ.head refl) in
      product_apart A (q v) x p (λ d. omega (arith, f.0, f.1, r.0)) (λ d. omega (arith, f.0, f.1, r.0))

  -- each result cell has its block's sum added
  pub blocks_run : (vs : List I) (A : List ℕ) → Nodup vs → Clear (length A) vs → (v : I) → Memᴰ v vs → get_or (leave (blocks vs) A) (q v) 0 ≡ get_or A (q v) 0 + sum_over (ps v) (product A)
  unfolding leave flat_map
  blocks_run [] A d c v m = absurd (Memᴰ.not-nil m)
  blocks_run (w ∷ vs) A d c v m =
      let x = get_or A (q w) 0 + sum_over (ps w) (product A) in
      let B = set A (q w) x in
      let h = (c.results w (Memᴰ.head refl)).1 in
      let c_b : Clear (length B) vs = subst (λ n. Clear n vs) (sym (length-set A (q w) x)) (clear_tail c) in
      ap (λ C. get_or C (q v) 0) (leave-append (block (q w) (ps w)) (blocks vs) A ∙ ap (leave (blocks vs)) (block_run (q w) (ps w) A h (clear_apart c)))
      ∙ by (Memᴰ.cases_cons m) c_b h (blocks_run vs B (nodup_tail d) c_b v)
    where
      x : ℕ
      x = get_or A (q w) 0 + sum_over (ps w) (product A)

      B : List ℕ
      B = set A (q w) x

      by : (v ≡ w) ⊎ Memᴰ v vs → Clear (length B) vs → q w < length A → (Memᴰ v vs → get_or (leave (blocks vs) B) (q v) 0 ≡ get_or B (q v) 0 + sum_over (ps v) (product B))
          → get_or (leave (blocks vs) B) (q v) 0 ≡ get_or A (q v) 0 + sum_over (ps v) (product A)
      by (inl s) c_b h k =
          subst (λ u. get_or (leave (blocks vs) B) (q u) 0 ≡ get_or A (q u) 0 + sum_over (ps u) (product A)) (sym s)
          (blocks_same vs B c_b (q w) (λ u n z. nodup_head d (Memᴰ.cast (c.differ w u (Memᴰ.head refl) (Memᴰ.tail n) z) n))
          ∙ get_or-set_same A (q w) x 0 h)
      by (inr n) c_b h k =
          k n
          ∙ (λ i. get_or-set_other A (q w) (q v) x 0 (λ z. nodup_head d (Memᴰ.cast (sym (c.differ v w (Memᴰ.tail n) (Memᴰ.head refl) z)) n)) i
          + sum_over_cong (ps v) (product B) (product A) (λ p o. after_first w vs A x c v n p o) i)

  pub blocks-trace : (vs : List I) (A : List ℕ) → Nodup vs → Clear (length A) vs → trace (blocks vs) A ≡ flat_map (λ v. running (get_or A (q v) 0) (map (product A) (ps v))) vs
  unfolding trace flat_map
  blocks-trace [] A d c = refl
  blocks-trace (w ∷ vs) A d c =
      let x = get_or A (q w) 0 + sum_over (ps w) (product A) in
      let B = set A (q w) x in
      let h = (c.results w (Memᴰ.head refl)).1 in
      let c_b : Clear (length B) vs = subst (λ n. Clear n vs) (sym (length-set A (q w) x)) (clear_tail c) in
      trace-append (block (q w) (ps w)) (blocks vs) A
      ∙ (λ i. block-trace (q w) (ps w) A h (clear_apart c) i ++ trace (blocks vs) (block_run (q w) (ps w) A h (clear_apart c) i))
      ∙ ap (λ l. running (get_or A (q w) 0) (map (product A) (ps w)) ++ l)
      (blocks-trace vs B (nodup_tail d) c_b
      ∙ flat_cong vs _ _ (λ v n. λ i. running (get_or-set_other A (q w) (q v) x 0 (λ z. nodup_head d (Memᴰ.cast (sym (c.differ v w (Memᴰ.tail n) (Memᴰ.head refl) z)) n)) i)
      (map_cong (ps v) (product B) (product A) (λ p o. after_first w vs A x c v n p o) i)))
