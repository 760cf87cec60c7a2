-- The nodes of a tree in postorder, each with where its subtree's cells begin: areas, listed pairs and counts are what the nodes give, one
-- after the other; and in that list a join's right child is the node before it, its left child the one before the right subtree.
use Prim.Native.Nat.{ℕ, zero, suc, ◌+◌, ◌-◌, ◌≤◌, ◌<◌}
use mathlib.Core.Path.{◌≡◌, refl, sym, ap, subst, ◌∙◌}
use mathlib.Core.List.Memᴰ
use mathlib.Core.List.{List, [], ◌∷◌, ◌++◌, map, flat_map, append_assoc, append-nil, Memᴰ}
use mathlib.Core.Logic.{◌⊎◌, inl, inr}
use native.Mathlib.Omega.{arith}
use native.Mathlib.Decide.{dec_lt}
use lib.ListN.{length, get_or, length-append, get_or-append}
use lib.Seq.{get_or-append-add, get_or-append_seam}
use Rattle.sums.proofs.ListLaws.{flat_append}
use Rattle.network.specs.Centre.{Route}
use Rattle.network.specs.Coverage.{Tree, leaf, join, under}
use Rattle.network.specs.Cells.{lying, spans_at, all_cells, spread}
use Rattle.network.specs.Pairs.{Pair, own_pairs, listed}
use Rattle.network.proofs.CoverageLaws.{Parted, parted_left, parted_right}

-- how many nodes a subtree has
unfoldable pub nodes_in : Tree → ℕ
nodes_in (leaf c) = 1
nodes_in (join l r) = nodes_in l + nodes_in r + 1

pub nodes_some : (t : Tree) → 1 ≤ nodes_in t
unfolding nodes_in
nodes_some (leaf c) = omega arith
nodes_some (join l r) = omega arith

three : {A : Type 0} (g : Tree × ℕ → List A) (xs ys : List (Tree × ℕ)) (z : Tree × ℕ) → flat_map g xs ++ (flat_map g ys ++ g z) ≡ flat_map g (xs ++ (ys ++ (z ∷ [])))
unfolding flat_map
three g xs ys z =
    (λ i. flat_map g xs ++ (flat_map g ys ++ sym (append-nil (g z)) i))
    ∙ ap (λ l. flat_map g xs ++ l) (sym (flat_append g ys (z ∷ [])))
    ∙ sym (flat_append g xs (ys ++ (z ∷ [])))

-- a join is no leaf; its children
abbrev join_or : Tree → ℕ
join_or (leaf c) = 0
join_or (join l r) = 1

not_join : {c : ℕ} {l r : Tree} → leaf c ≡ join l r → ⊥
not_join e = let z : ◌≡◌ {A = ℕ} 0 1 = ap join_or e in omega arith

abbrev left_child : Tree → Tree
left_child (leaf c) = leaf c
left_child (join l r) = l

abbrev right_child : Tree → Tree
right_child (leaf c) = leaf c
right_child (join l r) = r

module _ (routes : List Route) (windows : List ℕ) where
  unfoldable pub postorder : Tree → ℕ → List (Tree × ℕ)
  postorder (leaf c) start = (leaf c, start) ∷ []
  postorder (join l r) start = postorder l start ++ (postorder r (start + all_cells routes windows l) ++ ((join l r, start) ∷ []))

  pub length-postorder : (t : Tree) (start : ℕ) → length (postorder t start) ≡ nodes_in t
  unfolding postorder nodes_in
  length-postorder (leaf c) start = refl
  length-postorder (join l r) start =
      length-append (postorder l start) (postorder r (start + all_cells routes windows l) ++ ((join l r, start) ∷ []))
      ∙ omega (arith, length-append (postorder r (start + all_cells routes windows l)) ((join l r, start) ∷ []), length-postorder l start, length-postorder r (start + all_cells routes windows l))

  -- a spread area is the nodes' arrays, one after the other
  abbrev pub array_of : (Tree → List ℕ → ℕ) → Tree × ℕ → List ℕ
  array_of f x = map (f x.0) (lying (spans_at routes windows x.0))

  pub spread-postorder : (f : Tree → List ℕ → ℕ) (t : Tree) (start : ℕ) → spread routes windows f t ≡ flat_map (array_of f) (postorder t start)
  unfolding spread postorder flat_map
  spread-postorder f (leaf c) start = sym (append-nil (map (f (leaf c)) (lying (spans_at routes windows (leaf c)))))
  spread-postorder f (join l r) start =
      let second = start + all_cells routes windows l in
      (λ i. spread-postorder f l start i ++ (spread-postorder f r second i ++ array_of f (join l r, start)))
      ∙ three (array_of f) (postorder l start) (postorder r second) (join l r, start)

  -- the listed pairs are the joins' own, one after the other
  abbrev pub pairs_of : Tree × ℕ → List Pair
  pairs_of (leaf c, start) = []
  pairs_of (join l r, start) = own_pairs routes windows l r start

  pub listed-postorder : (t : Tree) (start : ℕ) → listed routes windows t start ≡ flat_map pairs_of (postorder t start)
  unfolding listed postorder flat_map
  listed-postorder (leaf c) start = refl
  listed-postorder (join l r) start =
      let second = start + all_cells routes windows l in
      (λ i. listed-postorder l start i ++ (listed-postorder r second i ++ own_pairs routes windows l r start))
      ∙ three pairs_of (postorder l start) (postorder r second) (join l r, start)

  -- ---- a node of the list

  -- every node is parted from the rest of the tree
  pub parted_in : (t : Tree) (rest : List ℕ) → Parted routes (under t) rest → (start : ℕ) (x : Tree × ℕ) → Memᴰ x (postorder t start) → (others : List ℕ) × Parted routes (under x.0) others
  unfolding postorder under
  parted_in (leaf c) rest parted start x m = (rest, subst (λ y. Parted routes (under y.0) rest) (sym (Memᴰ.eq_of_singleton m)) parted)
  parted_in (join l r) rest parted start x m =
      first (parted_in l (under r ++ rest) (parted_left routes (under l) (under r) rest parted) start x) (parted_in r (under l ++ rest) (parted_right routes (under l) (under r) rest parted) (start + all_cells routes windows l) x) (Memᴰ.append_cases (postorder l start) m)
    where
      second : (Memᴰ x (postorder r (start + all_cells routes windows l)) → (others : List ℕ) × Parted routes (under x.0) others) → Memᴰ x (postorder r (start + all_cells routes windows l)) ⊎ Memᴰ x ((join l r, start) ∷ []) → (others : List ℕ) × Parted routes (under x.0) others
      second g (inl n) = g n
      second g (inr n) = (rest, subst (λ y. Parted routes (under y.0) rest) (sym (Memᴰ.eq_of_singleton n)) parted)

      first : (Memᴰ x (postorder l start) → (others : List ℕ) × Parted routes (under x.0) others) → (Memᴰ x (postorder r (start + all_cells routes windows l)) → (others : List ℕ) × Parted routes (under x.0) others)
          → Memᴰ x (postorder l start) ⊎ Memᴰ x (postorder r (start + all_cells routes windows l) ++ ((join l r, start) ∷ [])) → (others : List ℕ) × Parted routes (under x.0) others
      first f g (inl n) = f n
      first f g (inr n) = second g (Memᴰ.append_cases (postorder r (start + all_cells routes windows l)) n)

  -- stands for a node past the end
  abbrev pub none : Tree × ℕ
  none = (leaf 0, 0)

  -- the last node is the tree's own
  last_node : (t : Tree) (start : ℕ) → get_or (postorder t start) (nodes_in t - 1) none ≡ (t, start)
  unfolding postorder nodes_in
  last_node (leaf c) start = refl
  last_node (join l r) start =
      let second = start + all_cells routes windows l in
      let e : postorder l start ++ (postorder r second ++ ((join l r, start) ∷ [])) ≡ (postorder l start ++ postorder r second) ++ ((join l r, start) ∷ []) = sym (append_assoc (postorder l start) (postorder r second) ((join l r, start) ∷ [])) in
      let n : nodes_in l + nodes_in r + 1 - 1 ≡ length (postorder l start ++ postorder r second) = omega (arith, length-append (postorder l start) (postorder r second), length-postorder l start, length-postorder r second) in
      (λ i. get_or (e i) (n i) none) ∙ get_or-append_seam (postorder l start ++ postorder r second) (join l r, start) [] none

  -- a join's children, by their places in the list
  pub record Children (nodes : List (Tree × ℕ)) (i : ℕ) (l r : Tree) (start : ℕ) : Type 0 where
    pub enough : nodes_in l + nodes_in r ≤ i
    pub right : get_or nodes (i - 1) none ≡ (r, start + all_cells routes windows l)
    pub left : get_or nodes (i - 1 - nodes_in r) none ≡ (l, start)

  -- the same in a list that goes on, or that begins earlier
  later : (xs ys : List (Tree × ℕ)) (i : ℕ) (l r : Tree) (start : ℕ) → i < length xs → Children xs i l r start → Children (xs ++ ys) i l r start
  later xs ys i l r start h c = record {
    enough = c.enough;
    right = get_or-append xs ys none (i - 1) (omega arith) ∙ c.right;
    left = get_or-append xs ys none (i - 1 - nodes_in r) (omega arith) ∙ c.left;
  }

  earlier : (xs ys : List (Tree × ℕ)) (i : ℕ) (l r : Tree) (start : ℕ) → Children ys i l r start → Children (xs ++ ys) (length xs + i) l r start
  earlier xs ys i l r start c =
      let a : length xs + i - 1 ≡ length xs + (i - 1) = omega (arith, c.enough, nodes_some l) in
      let b : length xs + i - 1 - nodes_in r ≡ length xs + (i - 1 - nodes_in r) = omega (arith, c.enough, nodes_some l) in
      record {
        enough = omega (arith, c.enough);
        right = ap (λ n. get_or (xs ++ ys) n none) a ∙ get_or-append-add xs ys (i - 1) none ∙ c.right;
        left = ap (λ n. get_or (xs ++ ys) n none) b ∙ get_or-append-add xs ys (i - 1 - nodes_in r) none ∙ c.left;
      }

  -- the children of the tree's own node
  own_children : (l r : Tree) (start : ℕ) → Children (postorder (join l r) start) (nodes_in l + nodes_in r) l r start
  unfolding postorder
  own_children l r start =
      let second = start + all_cells routes windows l in
      let a : nodes_in l + nodes_in r - 1 ≡ length (postorder l start) + (nodes_in r - 1) = omega (arith, length-postorder l start, nodes_some r) in
      let b : nodes_in l + nodes_in r - 1 - nodes_in r ≡ nodes_in l - 1 = omega (arith, nodes_some l) in
      record {
        enough = omega arith;
        right = ap (λ n. get_or (postorder l start ++ (postorder r second ++ ((join l r, start) ∷ []))) n none) a
            ∙ get_or-append-add (postorder l start) (postorder r second ++ ((join l r, start) ∷ [])) (nodes_in r - 1) none
            ∙ get_or-append (postorder r second) ((join l r, start) ∷ []) none (nodes_in r - 1) (omega (arith, length-postorder r second, nodes_some r))
            ∙ last_node r second;
        left = ap (λ n. get_or (postorder l start ++ (postorder r second ++ ((join l r, start) ∷ []))) n none) b
            ∙ get_or-append (postorder l start) (postorder r second ++ ((join l r, start) ∷ [])) none (nodes_in l - 1) (omega (arith, length-postorder l start, nodes_some l))
            ∙ last_node l start;
      }

  pub children : (t : Tree) (start i : ℕ) → i < nodes_in t → (l r : Tree) (s : ℕ) → get_or (postorder t start) i none ≡ (join l r, s) → Children (postorder t start) i l r s
  unfolding postorder nodes_in
  children (leaf c) start zero h l r s e = absurd (not_join (ap (λ x. x.0) e))
  children (leaf c) start (suc i) h l r s e = absurd (omega arith)
  children (join L R) start i h l r s e = by (dec_lt i (nodes_in L)) (dec_lt i (nodes_in L + nodes_in R)) (children L start i) (children R second (i - nodes_in L))
    where
      second : ℕ
      second = start + all_cells routes windows L

      nl : length (postorder L start) ≡ nodes_in L
      nl = length-postorder L start

      nr : length (postorder R second) ≡ nodes_in R
      nr = length-postorder R second

      whole : List (Tree × ℕ)
      whole = postorder L start ++ (postorder R second ++ ((join L R, start) ∷ []))

      by : Dec (i < nodes_in L) → Dec (i < nodes_in L + nodes_in R)
          → (i < nodes_in L → (l r : Tree) (s : ℕ) → get_or (postorder L start) i none ≡ (join l r, s) → Children (postorder L start) i l r s)
          → (i - nodes_in L < nodes_in R → (l r : Tree) (s : ℕ) → get_or (postorder R second) (i - nodes_in L) none ≡ (join l r, s) → Children (postorder R second) (i - nodes_in L) l r s)
          → Children whole i l r s
      by (yes a) d f g =
          later (postorder L start) (postorder R second ++ ((join L R, start) ∷ [])) i l r s (omega (arith, nl))
          (f a l r s (sym (get_or-append (postorder L start) (postorder R second ++ ((join L R, start) ∷ [])) none i (omega (arith, nl))) ∙ e))
      by (no a) (yes b) f g =
          let k : i ≡ length (postorder L start) + (i - nodes_in L) = omega (arith, nl) in
          let x : get_or (postorder R second) (i - nodes_in L) none ≡ (join l r, s) =
          sym (get_or-append (postorder R second) ((join L R, start) ∷ []) none (i - nodes_in L) (omega (arith, nr)))
          ∙ sym (get_or-append-add (postorder L start) (postorder R second ++ ((join L R, start) ∷ [])) (i - nodes_in L) none)
          ∙ ap (λ n. get_or whole n none) (sym k) ∙ e in
          subst (λ n. Children whole n l r s) (sym k)
          (earlier (postorder L start) (postorder R second ++ ((join L R, start) ∷ [])) (i - nodes_in L) l r s
          (later (postorder R second) ((join L R, start) ∷ []) (i - nodes_in L) l r s (omega (arith, nr)) (g (omega arith) l r s x)))
      by (no a) (no b) f g =
          let k : i ≡ nodes_in L + nodes_in R = omega arith in
          let n : nodes_in L + nodes_in R ≡ length (postorder L start ++ postorder R second) = omega (arith, length-append (postorder L start) (postorder R second), nl, nr) in
          let w : whole ≡ (postorder L start ++ postorder R second) ++ ((join L R, start) ∷ []) = sym (append_assoc (postorder L start) (postorder R second) ((join L R, start) ∷ [])) in
          let self : ◌≡◌ {A = Tree × ℕ} (join L R, start) (join l r, s) = sym ((λ j. get_or (w j) ((k ∙ n) j) none) ∙ get_or-append_seam (postorder L start ++ postorder R second) (join L R, start) [] none) ∙ e in
          let el : L ≡ l = ap (λ x. left_child x.0) self in
          let er : R ≡ r = ap (λ x. right_child x.0) self in
          let es : start ≡ s = ap (λ x. x.1) self in
          subst (λ n. Children whole n l r s) (sym k)
          (subst (λ x. Children whole (nodes_in L + nodes_in R) x r s) el
          (subst (λ x. Children whole (nodes_in L + nodes_in R) L x s) er
          (subst (λ x. Children whole (nodes_in L + nodes_in R) L R x) es (own_children L R start))))
