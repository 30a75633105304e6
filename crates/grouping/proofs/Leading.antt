-- Vectors with one more component in front: 0 in front of the time vector and the dependences, the same number in front of all points. Every
-- definition of the partition gives for them what it gives for the vectors themselves, whatever their lengths. Assumes nothing.
use mathlib.Core.Path.{◌≡◌, refl, ap, ap₂, ◌∙◌}
use mathlib.Core.Bool.{Bool, true, false, not, ◌&&◌}
use mathlib.Core.List.{List, [], ◌∷◌, map}
use Prim.Native.Nat.{ℕ, ◌<◌, ◌%◌}
use native.Mathlib.Nat as NatL
use borrow.Author.Tests.{eq-eqb}
use lib.Dec.{eqb}
use lib.IntN.{ℤ, pos, negsuc, nat_abs, ◌+ℤ◌, ◌*ℤ◌, *ℤ-zero, zero-*ℤ, +ℤ_idl}
use lib.ListN.{length, get_or}
use lib.Signed.{quot_z}
use Rattle.integers.specs.Lists.{all, greatest, first_from}
use Rattle.integers.specs.Vector.{Vector, eq_z, is_zero_v, dots, plus, times, minus}
use Rattle.integers.proofs.Images.{behind, first_images, firsts_images, place_images, map_images}
use Rattle.integers.proofs.ListFacts.{get_d_map}
use Rattle.integers.proofs.Solver.{var, con, ◌⊕◌, ◌⊗◌, ring}
use Rattle.integers.proofs.Vector.{eq_z_refl}
use Rattle.grouping.specs.Projection.{projection, divides, makes_whole, multiplier, group_size}
use Rattle.grouping.specs.Grouping.{pivot, clear, remainder, independent_of, may_group, grouping_vector, extend, chosen_vectors, latest, coefficients, left, is_combination, Frame, frame, directions, difference, same_class, coordinates, seeds, class_number, quotients, group}

-- 0 in front
abbrev pub lead : Vector → Vector
lead v = behind (pos 0) v

-- ---- sums, multiples, inner products, projections

-- multiples
times-lead : (c : ℤ) (v : Vector) → times c (lead v) ≡ lead (times c v)
unfolding times
times-lead c v = ap (λ (z : ℤ). z ∷ times c v) (*ℤ-zero c)

-- differences
minus-lead : (v w : Vector) → minus (lead v) (lead w) ≡ lead (minus v w)
unfolding plus times
minus-lead v w = refl

-- inner products with the time vector
pub dots-lead : (x : ℤ) (P v : Vector) → dots (lead P) (behind x v) ≡ dots P v
unfolding dots
dots-lead x P v = ap (λ z. z +ℤ dots P v) (zero-*ℤ x) ∙ +ℤ_idl (dots P v)

-- the projection of a point
projection-behind : (x : ℤ) (P j : Vector) → projection (lead P) (behind x j) ≡ behind (dots P P *ℤ x) (projection P j)
unfolding projection plus times
projection-behind x P j =
    ap₂ (λ (a b : ℤ). minus (times a (behind x j)) (times b (lead P))) (dots-lead (pos 0) P P) (dots-lead x P j)
    ∙ ap (λ (z : ℤ). z ∷ minus (times (dots P P) j) (times (dots P j) P))
    (ring (dots P P ∷ x ∷ dots P j ∷ []) (var 0 ⊗ var 1 ⊕ con (negsuc 0) ⊗ (var 2 ⊗ con (pos 0))) (var 0 ⊗ var 1) tt)

-- of a dependence
projection-lead : (P d : Vector) → projection (lead P) (lead d) ≡ lead (projection P d)
projection-lead P d = projection-behind (pos 0) P d ∙ ap (λ (z : ℤ). z ∷ projection P d) (*ℤ-zero (dots P P))

-- of several dependences
projections_lead : (P : Vector) (vs : List Vector) → map (projection (lead P)) (map lead vs) ≡ map lead (map (projection P) vs)
projections_lead P [] = refl
projections_lead P (v ∷ vs) = ap₂ (λ (x : Vector) (l : List Vector). x ∷ l) (projection-lead P v) (projections_lead P vs)

-- a test that 0 passes
all-lead : (p : ℤ → Bool) (v : Vector) → p (pos 0) ≡ true → all p (lead v) ≡ all p v
unfolding all
all-lead p v h = ap (λ b. elim b as (λ _. Bool) [ true ↦ all p v | false ↦ false ]) h

-- the test for zero
is_zero_v-lead : (v : Vector) → is_zero_v (lead v) ≡ is_zero_v v
unfolding is_zero_v
is_zero_v-lead v = all-lead (λ x. eq_z x (pos 0)) v (eq_z_refl (pos 0))

-- ---- multipliers and the group size

-- the test of a multiplier
makes_whole-lead : (P d : Vector) (k : ℕ) → makes_whole (lead P) (lead d) k ≡ makes_whole P d k
unfolding makes_whole divides
makes_whole-lead P d k =
    ap₂ (λ (s : ℤ) (v : Vector). all (divides (nat_abs s)) (times (pos k) v)) (dots-lead (pos 0) P P) (projection-lead P d)
    ∙ ap (all (divides (nat_abs (dots P P)))) (times-lead (pos k) (projection P d))
    ∙ all-lead (divides (nat_abs (dots P P))) (times (pos k) (projection P d)) (eq-eqb (0 % nat_abs (dots P P)) 0 (NatL.zero-mod (nat_abs (dots P P))))

-- multipliers
pub multiplier-lead : (P d : Vector) → multiplier (lead P) (lead d) ≡ multiplier P d
unfolding multiplier
multiplier-lead P d = λ i. first_from (λ k. makes_whole-lead P d k i) (nat_abs (dots-lead (pos 0) P P i)) 1

-- the group size
pub group_size-lead : (P : Vector) (ds : List Vector) → group_size (lead P) (map lead ds) ≡ group_size P ds
unfolding group_size
group_size-lead P ds = ap greatest (map_images lead (multiplier (lead P)) (multiplier P) (multiplier-lead P) ds)

-- ---- elimination

-- pivots
pivot-lead : (v w : Vector) → pivot (lead v) (lead w) ≡ pivot v w
unfolding pivot
pivot-lead v w = ap (λ b. elim b as (λ _. ℤ × ℤ) [ true ↦ pivot v w | false ↦ (pos 0, pos 0) ]) (eq_z_refl (pos 0))

-- one vector cleared of another
clear-lead : (v w : Vector) → clear (lead v) (lead w) ≡ lead (clear v w)
unfolding clear
clear-lead v w =
    ap (λ (p : ℤ × ℤ). minus (times p.0 (lead w)) (times p.1 (lead v))) (pivot-lead v w)
    ∙ ap₂ (λ (a b : Vector). minus a b) (times-lead (pivot v w).0 w) (times-lead (pivot v w).1 v)
    ∙ minus-lead (times (pivot v w).0 w) (times (pivot v w).1 v)

-- remainders
remainder-lead : (vs : List Vector) (w : Vector) → remainder (map lead vs) (lead w) ≡ lead (remainder vs w)
unfolding remainder
remainder-lead [] w = refl
remainder-lead (v ∷ vs) w = ap₂ clear (remainder-lead vs v) (remainder-lead vs w) ∙ clear-lead (remainder vs v) (remainder vs w)

-- the test for independence
independent-lead : (vs : List Vector) (w : Vector) → independent_of (map lead vs) (lead w) ≡ independent_of vs w
independent-lead vs w = ap (λ v. not (is_zero_v v)) (remainder-lead vs w) ∙ ap not (is_zero_v-lead (remainder vs w))

-- the latest coefficient
latest-lead : (vs : List Vector) (v w : Vector) → latest (map lead vs) (lead v) (lead w) ≡ latest vs v w
unfolding latest
latest-lead vs v w =
    ap (λ (p : ℤ × ℤ). quot_z p.1 p.0) (ap₂ pivot (remainder-lead vs v) (remainder-lead vs w) ∙ pivot-lead (remainder vs v) (remainder vs w))

-- what is left to be combined of the vectors behind the first
less-lead : (vs : List Vector) (v w : Vector) → minus (lead w) (times (latest (map lead vs) (lead v) (lead w)) (lead v)) ≡ lead (minus w (times (latest vs v w) v))
less-lead vs v w =
    ap (λ c. minus (lead w) (times c (lead v))) (latest-lead vs v w)
    ∙ ap (λ (u : Vector). minus (lead w) u) (times-lead (latest vs v w) v)
    ∙ minus-lead w (times (latest vs v w) v)

-- coefficients
coefficients-lead : (vs : List Vector) (w : Vector) → coefficients (map lead vs) (lead w) ≡ coefficients vs w
unfolding coefficients
coefficients-lead [] w = refl
coefficients-lead (v ∷ vs) w =
    ap₂ (λ (c : ℤ) (l : List ℤ). c ∷ l) (latest-lead vs v w)
    (ap (coefficients (map lead vs)) (less-lead vs v w) ∙ coefficients-lead vs (minus w (times (latest vs v w) v)))

-- what is left
left-lead : (vs : List Vector) (w : Vector) → left (map lead vs) (lead w) ≡ lead (left vs w)
unfolding left
left-lead [] w = refl
left-lead (v ∷ vs) w = ap (left (map lead vs)) (less-lead vs v w) ∙ left-lead vs (minus w (times (latest vs v w) v))

-- the test for a combination
is_combination-lead : (vs : List Vector) (w : Vector) → is_combination (map lead vs) (lead w) ≡ is_combination vs w
unfolding is_combination
is_combination-lead vs w = ap is_zero_v (left-lead vs w) ∙ is_zero_v-lead (left vs w)

-- ---- the chosen vectors

-- the test of a grouping vector
may_group-lead : (P : Vector) (ds : List Vector) (d : Vector) → may_group (lead P) (map lead ds) (lead d) ≡ may_group P ds d
unfolding may_group
may_group-lead P ds d =
    ap₂ (λ (b c : Bool). b && c)
    (ap₂ eqb (multiplier-lead P d) (group_size-lead P ds))
    (ap (λ v. not (is_zero_v v)) (projection-lead P d) ∙ ap not (is_zero_v-lead (projection P d)))

-- the grouping vector
grouping_lead : (P : Vector) (ds : List Vector) → grouping_vector (lead P) (map lead ds) ≡ map lead (grouping_vector P ds)
unfolding grouping_vector
grouping_lead P ds = first_images lead (may_group (lead P) (map lead ds)) (may_group P ds) (may_group-lead P ds) ds

-- vectors tried one after the other
extend-lead : (P : Vector) (chosen ds : List Vector) → extend (lead P) (map lead chosen) (map lead ds) ≡ map lead (extend P chosen ds)
unfolding extend
extend-lead P chosen [] = refl
extend-lead P chosen (d ∷ ds) =
    ap (λ b. elim b as (λ _. List Vector) [ true ↦ extend (lead P) (map lead (d ∷ chosen)) (map lead ds) | false ↦ extend (lead P) (map lead chosen) (map lead ds) ])
    (ap₂ independent_of (projections_lead P chosen) (projection-lead P d) ∙ independent-lead (map (projection P) chosen) (projection P d))
    ∙ go (independent_of (map (projection P) chosen) (projection P d)) (extend-lead P (d ∷ chosen) ds) (extend-lead P chosen ds)
  where
    go : (b : Bool) → extend (lead P) (map lead (d ∷ chosen)) (map lead ds) ≡ map lead (extend P (d ∷ chosen) ds) → extend (lead P) (map lead chosen) (map lead ds) ≡ map lead (extend P chosen ds)
        → ◌≡◌ {A = List Vector} (elim b as (λ _. List Vector) [ true ↦ extend (lead P) (map lead (d ∷ chosen)) (map lead ds) | false ↦ extend (lead P) (map lead chosen) (map lead ds) ])
        (map lead (elim b as (λ _. List Vector) [ true ↦ extend P (d ∷ chosen) ds | false ↦ extend P chosen ds ]))
    go true x y = x
    go false x y = y

-- the chosen vectors
pub chosen-lead : (P : Vector) (ds : List Vector) → chosen_vectors (lead P) (map lead ds) ≡ map lead (chosen_vectors P ds)
unfolding chosen_vectors
chosen-lead P ds = ap (λ c. extend (lead P) c (map lead ds)) (grouping_lead P ds) ∙ extend-lead P (grouping_vector P ds) ds

-- ---- classes and groups

-- a frame with 0 in front of its vectors
abbrev pub lead_frame : Frame → Frame
lead_frame F = record { time = lead F.time; chosen = map lead F.chosen; size = F.size }

-- the frame of P and the dependences
pub frame-lead : (P : Vector) (ds : List Vector) → frame (lead P) (map lead ds) ≡ lead_frame (frame P ds)
unfolding frame
frame-lead P ds = ap₂ (λ (c : List Vector) (r : ℕ). record { time = lead P; chosen = c; size = r }) (chosen-lead P ds) (group_size-lead P ds)

module _ (x : ℤ) (F : Frame) where
  -- the chosen projections
  directions-lead : directions (lead_frame F) ≡ map lead (directions F)
  unfolding directions
  directions-lead = projections_lead F.time F.chosen

  -- the difference of the projections of two points
  difference-lead : (i j : Vector) → difference (lead_frame F) (behind x i) (behind x j) ≡ lead (difference F i j)
  unfolding difference plus times
  difference-lead i j =
      ap₂ (λ (a b : Vector). minus a b) (projection-behind x F.time i) (projection-behind x F.time j)
      ∙ ap (λ (z : ℤ). z ∷ minus (projection F.time i) (projection F.time j))
      (ring (dots F.time F.time ∷ x ∷ []) (var 0 ⊗ var 1 ⊕ con (negsuc 0) ⊗ (var 0 ⊗ var 1)) (con (pos 0)) tt)

  -- the test for one class
  same_class-lead : (i j : Vector) → same_class (lead_frame F) (behind x i) (behind x j) ≡ same_class F i j
  unfolding same_class
  same_class-lead i j = ap₂ is_combination directions-lead (difference-lead i j) ∙ is_combination-lead (directions F) (difference F i j)

  -- coordinates
  coordinates-lead : (i j : Vector) → coordinates (lead_frame F) (behind x i) (behind x j) ≡ coordinates F i j
  unfolding coordinates
  coordinates-lead i j = ap₂ coefficients directions-lead (difference-lead i j) ∙ coefficients-lead (directions F) (difference F i j)

  -- class numbers
  class-lead : (sds : List Vector) (j : Vector) → class_number (lead_frame F) (map (behind x) sds) (behind x j) ≡ class_number F sds j
  unfolding class_number
  class-lead sds j = place_images (behind x) (same_class (lead_frame F) (behind x j)) (same_class F j) (same_class-lead j) sds

  -- seeds
  pub seeds-lead : (ps : List Vector) → seeds (lead_frame F) (map (behind x) ps) ≡ map (behind x) (seeds F ps)
  unfolding seeds
  seeds-lead ps = firsts_images (behind x) (same_class (lead_frame F)) (same_class F) same_class-lead ps

  -- the group of a point that is in a seed's class
  pub group-lead : (sds : List Vector) (j : Vector) → class_number F sds j < length sds → group (lead_frame F) (map (behind x) sds) (behind x j) ≡ group F sds j
  unfolding group
  group-lead sds j l =
      ap (λ m. record { class = m; along = quotients F.size (coordinates (lead_frame F) (behind x j) (get_or (map (behind x) sds) m [])) }) (class-lead sds j)
      ∙ ap (λ xs. record { class = class_number F sds j; along = quotients F.size xs })
      (ap (coordinates (lead_frame F) (behind x j)) (get_d_map (behind x) sds (class_number F sds j) [] [] l) ∙ coordinates-lead j (get_or sds (class_number F sds j) []))
