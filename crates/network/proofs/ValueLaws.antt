-- The value by convolution: G of a list of centres is built centre by centre, splits over an append, does not depend on the order, and
-- is the sum over all states (value-G). By the laws of sums over splits.
use Prim.Native.Nat.{ℕ, zero, suc, ◌*◌}
use mathlib.Core.Path.{◌≡◌, refl, sym, ap, ◌∙◌, fun_ext}
use mathlib.Core.Bool.{Bool, true, false}
use mathlib.Core.List.{List, [], ◌∷◌, ◌++◌, map, Memᴰ, Permᴰ}
use native.Mathlib.Omega.{arith}
use native.Mathlib.Nat.{one-mul, mul_comm, zero-mul}
use Rattle.sums.specs.Lists.{when}
use Rattle.sums.specs.Sums.{sum_over, vector_splits}
use Rattle.sums.proofs.SumLaws.{sum_over-map, sum_over_flat, sum_over_ext, sum_over-mul}
use Rattle.sums.proofs.AntiLaws.{anti, anti_v, anti_v_ext, anti_v-mul, anti_v_swap, anti_v_assoc, anti_v-zero, anti_ext, anti-zero, anti_v_sum}
use Rattle.network.specs.Centre.{Centre, routes_of, fits, Off}
use Rattle.network.specs.States.{State, empty_states, states, state_weight, value}

-- ---- convolution

unfoldable pub conv : (List ℕ → ℕ) → (List ℕ → ℕ) → List ℕ → ℕ
conv f g v = anti_v v (λ j k. f j * g k)

pub conv_comm : (f g : List ℕ → ℕ) (v : List ℕ) → conv f g v ≡ conv g f v
unfolding conv
conv_comm f g v = anti_v_swap v (λ j k. f j * g k) ∙ anti_v_ext v _ _ (λ j k. mul_comm (f k) (g j))

pub conv_assoc : (f g h : List ℕ → ℕ) (v : List ℕ) → conv (conv f g) h v ≡ conv f (conv g h) v
unfolding conv
conv_assoc f g h v =
    anti_v_ext v _ _ (λ r c. mul_comm (anti_v r (λ a b. f a * g b)) (h c) ∙ anti_v-mul r (h c) (λ a b. f a * g b))
    ∙ anti_v_assoc v (λ a b c. h c * (f a * g b))
    ∙ anti_v_ext v _ _ (λ a r. anti_v_ext r _ _ (λ b c. omega arith) ∙ sym (anti_v-mul r (f a) (λ b c. g b * h c)))

-- 1 at the zero vector, 0 elsewhere
unfoldable pub unit : List ℕ → ℕ
unit [] = 1
unit (zero ∷ v) = unit v
unit (suc n ∷ v) = 0

pub conv-unit : (g : List ℕ → ℕ) (v : List ℕ) → conv unit g v ≡ g v
unfolding conv unit anti_v anti
conv-unit g [] = one-mul (g [])
conv-unit g (zero ∷ v) = conv-unit (λ k. g (0 ∷ k)) v
conv-unit g (suc n ∷ v) =
    let rest : anti n (λ a b. anti_v v (λ j k. 0 * g (b ∷ k))) ≡ 0 = anti_ext n _ _ (λ a b. anti_v_ext v _ _ (λ j k. zero-mul (g (b ∷ k))) ∙ anti_v-zero v) ∙ anti-zero n in
    omega (arith, conv-unit (λ k. g (suc n ∷ k)) v, rest)

-- ---- the value of a list of centres, centre by centre

unfoldable pub G : List Centre → List ℕ → ℕ
G [] v = unit v
G (c ∷ cs) v = conv c.weigh (G cs) v

pub G_one : (c : Centre) (v : List ℕ) → G (c ∷ []) v ≡ c.weigh v
unfolding G
G_one c v = conv_comm c.weigh unit v ∙ conv-unit c.weigh v

pub G-append : (xs ys : List Centre) (v : List ℕ) → G (xs ++ ys) v ≡ conv (G xs) (G ys) v
unfolding G
G-append [] ys v = sym (conv-unit (G ys) v)
G-append (c ∷ xs) ys v = ap (λ g. conv c.weigh g v) (fun_ext (G-append xs ys)) ∙ sym (conv_assoc c.weigh (G xs) (G ys) v)

-- the order of the centres does not matter
pub G_perm : {xs ys : List Centre} → Permᴰ xs ys → (v : List ℕ) → G xs v ≡ G ys v
unfolding G
G_perm Permᴰ.nil v = refl
G_perm (Permᴰ.cons e p) v = λ i. conv (e i).weigh (fun_ext (G_perm p) i) v
G_perm (Permᴰ.swap {a = c} {b = d} {a' = d'} {b' = c'} {l = xs} e f) v =
    sym (conv_assoc c.weigh d.weigh (G xs) v)
    ∙ ap (λ g. conv g (G xs) v) (fun_ext (conv_comm c.weigh d.weigh))
    ∙ conv_assoc d.weigh c.weigh (G xs) v
    ∙ (λ i. conv (f i).weigh (conv (e i).weigh (G xs)) v)
G_perm (Permᴰ.trans p q) v = G_perm p v ∙ G_perm q v

-- ---- the sum over all states

value-unit : (v : List ℕ) → sum_over (empty_states v) (state_weight []) ≡ unit v
unfolding sum_over empty_states state_weight unit
value-unit [] = refl
value-unit (zero ∷ v) = value-unit v
value-unit (suc n ∷ v) = refl

kept : (c : Centre) (cs : List Centre) → Off c → (j : List ℕ) (ss : List State) (b : Bool) → fits c.route j ≡ b → sum_over (when b (map (λ s. j ∷ s) ss)) (state_weight (c ∷ cs)) ≡ c.weigh j * sum_over ss (state_weight cs)
unfolding when state_weight sum_over
kept c cs off j ss true e = sum_over-map (λ s. j ∷ s) ss (state_weight (c ∷ cs)) ∙ sum_over-mul (c.weigh j) ss (state_weight cs)
kept c cs off j ss false e = rw (off j e) (omega arith)

-- every weight is 0 off its route
abbrev pub AllOff : List Centre → Type 0
AllOff cs = (c : Centre) → Memᴰ c cs → Off c

pub value-G : (cs : List Centre) → AllOff cs → (v : List ℕ) → value cs v ≡ G cs v
unfolding value states G conv
value-G [] off v = value-unit v
value-G (c ∷ cs) off v =
    sum_over_flat (λ p. when (fits c.route p.0) (map (λ s. p.0 ∷ s) (states (routes_of cs) p.1))) (vector_splits v) (state_weight (c ∷ cs))
    ∙ sum_over_ext (vector_splits v) _ _ (λ p.
    kept c cs (off c (Memᴰ.head refl)) p.0 (states (routes_of cs) p.1) (fits c.route p.0) refl
    ∙ ap (λ x. c.weigh p.0 * x) (value-G cs (λ d m. off d (Memᴰ.tail m)) p.1))
    ∙ sym (anti_v_sum v (λ j k. c.weigh j * G cs k))
