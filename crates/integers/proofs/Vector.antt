-- The laws of vectors as lists of integers, of any length. A list stands for the sequence that goes
-- on with zeros, and `get_or xs i (pos 0)` is the entry at i, so no law here asks anything of a
-- length. Assumes nothing.
use mathlib.Core.Path.{◌≡◌, refl, sym, ◌∙◌, ap}
use mathlib.Core.List.{List, [], ◌∷◌}
use Prim.Native.Nat.{ℕ, zero, suc, ◌+◌, ◌*◌, ◌<◌, ◌≤◌, zero-le}
use native.Mathlib.Nat as NatL
use native.Mathlib.Omega.{arith}
use lib.ListN.{length, take, drop, get_or, replicate}
use lib.IntN.{ℤ, pos, negsuc, nat_abs, ◌+ℤ◌, ◌-ℤ◌, ◌*ℤ◌, +ℤ_assoc, +ℤ_comm, +ℤ_idl, +ℤ_idr, zero-*ℤ, *ℤ-zero, *ℤ_comm}
use lib.Signed.{◌≤ℤ◌}
use Rattle.std.specs.Bool.{one_answer}
use Rattle.std.specs.Cmp.Lexicographic.{pointwise}
use Rattle.std.specs.Cmp.Rules.{signed_items}
use Rattle.std.specs.Ordering.{int_eq}
use Rattle.integers.proofs.Ring.{distr, distl, *ℤ_assoc, *ℤ_idl, zero-factor}
use Rattle.integers.proofs.Linear.{ints, sum}
use Rattle.integers.proofs.Order.{square_nonneg}
use mathlib.Core.Bool.{Bool, true, false}
use borrow.Author.Tests.{eqb-true, eq-eqb}
use Rattle.integers.proofs.Lists.{clash, split}
use Rattle.integers.proofs.Bounds.{abs-+, abs-*}
use Rattle.integers.proofs.Solver.{var, con, ◌⊕◌, ◌⊖◌, ◌⊗◌, ring}
use Rattle.integers.specs.Vector.{Vector, dots, plus, times, minus, AllWithin, eq_z, eq_v}

abbrev pub zeros : ℕ → List ℤ
zeros n = replicate n (pos zero)

-- s·j - (P·j)·P
abbrev pub proj : List ℤ → ℤ → List ℤ → List ℤ
proj P s j = minus (times s j) (times (dots P j) P)

-- ---- entries
pub get_or-plus : (xs ys : List ℤ) (i : ℕ) → get_or (plus xs ys) i (pos zero) ≡ get_or xs i (pos zero) +ℤ get_or ys i (pos zero)
unfolding plus
get_or-plus [] ys i = sym (+ℤ_idl (get_or ys i (pos zero)))
get_or-plus (x ∷ xs) [] i = sym (+ℤ_idr (get_or (x ∷ xs) i (pos zero)))
get_or-plus (x ∷ xs) (y ∷ ys) zero = refl
get_or-plus (x ∷ xs) (y ∷ ys) (suc i) = get_or-plus xs ys i

pub get_or-times : (k : ℤ) (xs : List ℤ) (i : ℕ) → get_or (times k xs) i (pos zero) ≡ k *ℤ get_or xs i (pos zero)
unfolding times
get_or-times k [] i = sym (*ℤ-zero k)
get_or-times k (x ∷ xs) zero = refl
get_or-times k (x ∷ xs) (suc i) = get_or-times k xs i

pub length-times : (k : ℤ) (xs : List ℤ) → length (times k xs) ≡ length xs
unfolding times
length-times k [] = refl
length-times k (x ∷ xs) = ap suc (length-times k xs)

pub length-plus : (xs ys : List ℤ) (n : ℕ) → length xs ≡ n → length ys ≡ n → length (plus xs ys) ≡ n
unfolding plus
length-plus [] ys n p q = q
length-plus (x ∷ xs) [] n p q = p
length-plus (x ∷ xs) (y ∷ ys) zero p q = absurd (NatL.suc-ne-zero (length xs) p)
length-plus (x ∷ xs) (y ∷ ys) (suc n) p q = ap suc (length-plus xs ys n (NatL.suc_inj p) (NatL.suc_inj q))

-- ---- sums and multiples
pub plus_nil : (xs : List ℤ) → plus xs [] ≡ xs
unfolding plus
plus_nil [] = refl
plus_nil (x ∷ xs) = refl

pub plus_comm : (xs ys : List ℤ) → plus xs ys ≡ plus ys xs
unfolding plus
plus_comm [] ys = sym (plus_nil ys)
plus_comm (x ∷ xs) [] = refl
plus_comm (x ∷ xs) (y ∷ ys) = cc (+ℤ_comm x y, plus_comm xs ys)

pub plus_assoc : (xs ys zs : List ℤ) → plus (plus xs ys) zs ≡ plus xs (plus ys zs)
unfolding plus
plus_assoc [] ys zs = refl
plus_assoc (x ∷ xs) [] zs = refl
plus_assoc (x ∷ xs) (y ∷ ys) [] = refl
plus_assoc (x ∷ xs) (y ∷ ys) (z ∷ zs) = cc (+ℤ_assoc x y z, plus_assoc xs ys zs)

pub plus_swap : (a b c d : List ℤ) → plus (plus a b) (plus c d) ≡ plus (plus a c) (plus b d)
plus_swap a b c d =
    plus_assoc a b (plus c d) ∙ ap (plus a) (sym (plus_assoc b c d) ∙ ap (λ (u : List ℤ). plus u d) (plus_comm b c) ∙ plus_assoc c b d) ∙ sym (plus_assoc a c (plus b d))

pub times-plus : (k : ℤ) (xs ys : List ℤ) → times k (plus xs ys) ≡ plus (times k xs) (times k ys)
unfolding plus times
times-plus k [] ys = refl
times-plus k (x ∷ xs) [] = refl
times-plus k (x ∷ xs) (y ∷ ys) = cc (distl k x y, times-plus k xs ys)

pub plus_times : (k l : ℤ) (xs : List ℤ) → times (k +ℤ l) xs ≡ plus (times k xs) (times l xs)
unfolding plus times
plus_times k l [] = refl
plus_times k l (x ∷ xs) = cc (distr k l x, plus_times k l xs)

pub times-times : (k l : ℤ) (xs : List ℤ) → times k (times l xs) ≡ times (k *ℤ l) xs
unfolding times
times-times k l [] = refl
times-times k l (x ∷ xs) = cc (*ℤ_assoc k l x, times-times k l xs)

pub times-one : (xs : List ℤ) → times (pos 1) xs ≡ xs
unfolding times
times-one [] = refl
times-one (x ∷ xs) = cc (*ℤ_idl x, times-one xs)

pub times_zero : (xs : List ℤ) → times (pos 0) xs ≡ zeros (length xs)
unfolding times
times_zero [] = refl
times_zero (x ∷ xs) = cc (zero-*ℤ x, times_zero xs)

pub minus_self : (xs : List ℤ) → minus xs xs ≡ zeros (length xs)
minus_self xs = ap (λ (u : List ℤ). plus u (times (negsuc 0) xs)) (sym (times-one xs)) ∙ sym (plus_times (pos 1) (negsuc 0) xs) ∙ times_zero xs

-- ---- the dot product
pub dots-nil : (xs : List ℤ) → dots xs [] ≡ pos 0
unfolding dots
dots-nil [] = refl
dots-nil (x ∷ xs) = refl

pub dots_comm : (xs ys : List ℤ) → dots xs ys ≡ dots ys xs
unfolding dots
dots_comm [] ys = sym (dots-nil ys)
dots_comm (x ∷ xs) [] = refl
dots_comm (x ∷ xs) (y ∷ ys) = cc (*ℤ_comm x y, dots_comm xs ys)

pub dots-plus : (xs ys zs : List ℤ) → dots xs (plus ys zs) ≡ dots xs ys +ℤ dots xs zs
unfolding dots plus
dots-plus [] ys zs = refl
dots-plus (x ∷ xs) [] zs = sym (+ℤ_idl (dots (x ∷ xs) zs))
dots-plus (x ∷ xs) (y ∷ ys) [] = sym (+ℤ_idr (dots (x ∷ xs) (y ∷ ys)))
dots-plus (x ∷ xs) (y ∷ ys) (z ∷ zs) =
    ap (λ u. x *ℤ (y +ℤ z) +ℤ u) (dots-plus xs ys zs)
    ∙ ring (x ∷ y ∷ z ∷ dots xs ys ∷ dots xs zs ∷ []) (var 0 ⊗ (var 1 ⊕ var 2) ⊕ (var 3 ⊕ var 4)) (var 0 ⊗ var 1 ⊕ var 3 ⊕ (var 0 ⊗ var 2 ⊕ var 4)) tt

pub dots-times : (k : ℤ) (xs ys : List ℤ) → dots xs (times k ys) ≡ k *ℤ dots xs ys
unfolding dots times
dots-times k [] ys = sym (*ℤ-zero k)
dots-times k (x ∷ xs) [] = sym (*ℤ-zero k)
dots-times k (x ∷ xs) (y ∷ ys) =
    ap (λ u. x *ℤ (k *ℤ y) +ℤ u) (dots-times k xs ys) ∙ ring (k ∷ x ∷ y ∷ dots xs ys ∷ []) (var 1 ⊗ (var 0 ⊗ var 2) ⊕ var 0 ⊗ var 3) (var 0 ⊗ (var 1 ⊗ var 2 ⊕ var 3)) tt

pub dots-minus : (xs ys zs : List ℤ) → dots xs (minus ys zs) ≡ dots xs ys -ℤ dots xs zs
dots-minus xs ys zs =
    dots-plus xs ys (times (negsuc 0) zs) ∙ ap (λ u. dots xs ys +ℤ u) (dots-times (negsuc 0) xs zs)
    ∙ ring (dots xs ys ∷ dots xs zs ∷ []) (var 0 ⊕ con (negsuc 0) ⊗ var 1) (var 0 ⊖ var 1) tt

pub dots-zeros : (n : ℕ) (xs : List ℤ) → dots xs (zeros n) ≡ pos 0
unfolding dots
dots-zeros n [] = refl
dots-zeros zero (x ∷ xs) = refl
dots-zeros (suc n) (x ∷ xs) = ap (λ u. x *ℤ pos 0 +ℤ u) (dots-zeros n xs) ∙ +ℤ_idr (x *ℤ pos 0) ∙ *ℤ-zero x

-- one term more, as a loop adds it
pub dots-take : (i : ℕ) (xs ys : List ℤ) → dots (take (suc i) xs) (take (suc i) ys) ≡ dots (take i xs) (take i ys) +ℤ get_or xs i (pos 0) *ℤ get_or ys i (pos 0)
unfolding dots
dots-take zero [] ys = sym (+ℤ_idl (pos 0 *ℤ get_or ys 0 (pos 0)) ∙ zero-*ℤ (get_or ys 0 (pos 0)))
dots-take zero (x ∷ xs) [] = sym (+ℤ_idl (x *ℤ pos 0) ∙ *ℤ-zero x)
dots-take zero (x ∷ xs) (y ∷ ys) = +ℤ_comm (x *ℤ y) (pos 0)
dots-take (suc i) [] ys = sym (+ℤ_idl (pos 0 *ℤ get_or ys (suc i) (pos 0)) ∙ zero-*ℤ (get_or ys (suc i) (pos 0)))
dots-take (suc i) (x ∷ xs) [] = sym (+ℤ_idl (get_or xs i (pos 0) *ℤ pos 0) ∙ *ℤ-zero (get_or xs i (pos 0)))
dots-take (suc i) (x ∷ xs) (y ∷ ys) =
    ap (λ u. x *ℤ y +ℤ u) (dots-take i xs ys) ∙ sym (+ℤ_assoc (x *ℤ y) (dots (take i xs) (take i ys)) (get_or xs i (pos 0) *ℤ get_or ys i (pos 0)))

pub get_or-within : (A : ℕ) (xs : List ℤ) (i : ℕ) → AllWithin A xs → nat_abs (get_or xs i (pos 0)) ≤ A
get_or-within A [] i h = zero-le
get_or-within A (x ∷ xs) zero h = h.0
get_or-within A (x ∷ xs) (suc i) h = get_or-within A xs i h.1

pub all_wider : (A B : ℕ) (xs : List ℤ) → A ≤ B → AllWithin A xs → AllWithin B xs
all_wider A B [] h a = tt
all_wider A B (x ∷ xs) h a = (NatL.le_trans a.0 h, all_wider A B xs h a.1)

pub all_drop : (A k : ℕ) (xs : List ℤ) → AllWithin A xs → AllWithin A (drop k xs)
all_drop A zero xs a = a
all_drop A (suc k) [] a = tt
all_drop A (suc k) (x ∷ xs) a = all_drop A k xs a.1

-- a list is within a bound if each of its entries is
pub all-each : (A : ℕ) (xs : List ℤ) → ((k : ℕ) → k < length xs → nat_abs (get_or xs k (pos 0)) ≤ A) → AllWithin A xs
all-each A [] h = tt
all-each A (x ∷ xs) h = (h 0 (omega arith), all-each A xs (λ k l. h (suc k) (omega arith)))

-- the difference of two is within the sum of their bounds
pub all-minus : (A B : ℕ) (v w : Vector) → AllWithin A v → AllWithin B w → AllWithin (A + B) (minus v w)
all-minus A B v w a b =
    all-each (A + B) (minus v w)
    (λ k l. rw (get_or-plus v (times (negsuc 0) w) k) (abs-+ (get_or v k (pos 0)) (get_or (times (negsuc 0) w) k (pos 0)) (get_or-within A v k a) (opposite k)))
  where
    opposite : (k : ℕ) → nat_abs (get_or (times (negsuc 0) w) k (pos 0)) ≤ B
    opposite k = rw (get_or-times (negsuc 0) w k) (let h = abs-* (negsuc 0) (get_or w k (pos 0)) {A = 1} {B = B} (NatL.le_refl 1) (get_or-within B w k b) in omega arith)

pub dots-within : (A B i : ℕ) (xs ys : List ℤ) → AllWithin A xs → AllWithin B ys → nat_abs (dots (take i xs) (take i ys)) ≤ i * (A * B)
unfolding dots
dots-within A B zero xs ys h k = zero-le
dots-within A B (suc i) [] ys h k = zero-le
dots-within A B (suc i) (x ∷ xs) [] h k = zero-le
dots-within A B (suc i) (x ∷ xs) (y ∷ ys) h k =
    rw (NatL.suc-mul i (A * B), NatL.add_comm (i * (A * B)) (A * B)) (abs-+ (x *ℤ y) (dots (take i xs) (take i ys)) (abs-* x y h.0 k.0) (dots-within A B i xs ys h.1 k.1))

-- ---- projection
pub proj_orth : (P j : List ℤ) → dots P (proj P (dots P P) j) ≡ pos 0
proj_orth P j =
    dots-minus P (times (dots P P) j) (times (dots P j) P) ∙ ap (λ u. u -ℤ dots P (times (dots P j) P)) (dots-times (dots P P) P j) ∙ ap (λ u. dots P P *ℤ dots P j -ℤ u) (dots-times (dots P j) P P)
    ∙ ring (dots P P ∷ dots P j ∷ []) (var 0 ⊗ var 1 ⊖ var 1 ⊗ var 0) (con (pos 0)) tt

pub proj-plus : (P : List ℤ) (s : ℤ) (j k : List ℤ) → proj P s (plus j k) ≡ plus (proj P s j) (proj P s k)
proj-plus P s j k =
    ap (λ (u : List ℤ). plus u (times (negsuc 0) (times (dots P (plus j k)) P))) (times-plus s j k)
    ∙ ap (λ (u : List ℤ). plus (plus (times s j) (times s k)) u)
    (ap (λ (u : ℤ). times (negsuc 0) (times u P)) (dots-plus P j k) ∙ ap (times (negsuc 0)) (plus_times (dots P j) (dots P k) P) ∙ times-plus (negsuc 0) (times (dots P j) P) (times (dots P k) P))
    ∙ plus_swap (times s j) (times s k) (times (negsuc 0) (times (dots P j) P)) (times (negsuc 0) (times (dots P k) P))

pub proj-times : (P : List ℤ) (s t : ℤ) (j : List ℤ) → proj P s (times t j) ≡ times t (proj P s j)
proj-times P s t j =
    ap (λ (u : List ℤ). plus u (times (negsuc 0) (times (dots P (times t j)) P))) (times-times s t j ∙ ap (λ (u : ℤ). times u j) (*ℤ_comm s t) ∙ sym (times-times t s j))
    ∙ ap (λ (u : List ℤ). plus (times t (times s j)) u)
    (ap (λ (u : ℤ). times (negsuc 0) (times u P)) (dots-times t P j)
    ∙ times-times (negsuc 0) (t *ℤ dots P j) P ∙ ap (λ (u : ℤ). times u P) (ring (t ∷ dots P j ∷ []) (con (negsuc 0) ⊗ (var 0 ⊗ var 1)) (var 0 ⊗ (con (negsuc 0) ⊗ var 1)) tt)
    ∙ sym (times-times t (negsuc 0 *ℤ dots P j) P) ∙ ap (times t) (sym (times-times (negsuc 0) (dots P j) P)))
    ∙ sym (times-plus t (times s j) (times (negsuc 0) (times (dots P j) P)))

-- the projection of P itself, and of what lies along P from j
pub proj_self : (P : List ℤ) → proj P (dots P P) P ≡ zeros (length P)
proj_self P = minus_self (times (dots P P) P) ∙ ap zeros (length-times (dots P P) P)

pub times-zeros : (t : ℤ) (n : ℕ) → times t (zeros n) ≡ zeros n
unfolding times
times-zeros t zero = refl
times-zeros t (suc n) = cc (*ℤ-zero t, times-zeros t n)

pub proj-along : (P : List ℤ) (t : ℤ) (j : List ℤ) → proj P (dots P P) (plus j (times t P)) ≡ plus (proj P (dots P P) j) (zeros (length P))
proj-along P t j =
    proj-plus P (dots P P) j (times t P)
    ∙ ap (plus (proj P (dots P P) j)) (proj-times P (dots P P) t P ∙ ap (times t) (proj_self P) ∙ times-zeros t (length P))

pub plus-zeros : (n : ℕ) (xs : List ℤ) → n ≤ length xs → plus xs (zeros n) ≡ xs
unfolding plus
plus-zeros zero xs h = plus_nil xs
plus-zeros (suc n) [] h = absurd (NatL.not-suc-le-zero h)
plus-zeros (suc n) (x ∷ xs) h = cc (+ℤ_idr x, plus-zeros n xs (NatL.le_of_suc-le-suc h))

-- the length of a projection, times s: s·(s·|j|² - (P·j)²)
pub proj-norm : (P j : List ℤ) → dots (proj P (dots P P) j) (proj P (dots P P) j) ≡ dots P P *ℤ (dots P P *ℤ dots j j -ℤ dots P j *ℤ dots P j)
proj-norm P j =
    dots-minus q (times s j) (times t P)
    ∙ ap (λ u. u -ℤ dots q (times t P)) (dots-times s q j ∙ ap (λ u. s *ℤ u) (dots_comm q j ∙ dots-minus j (times s j) (times t P) ∙ ap (λ u. u -ℤ dots j (times t P)) (dots-times s j j) ∙ ap (λ u. s *ℤ dots j j -ℤ u) (dots-times t j P ∙ ap (λ u. t *ℤ u) (dots_comm j P))))
    ∙ ap (λ u. s *ℤ (s *ℤ dots j j -ℤ t *ℤ t) -ℤ u) (dots-times t q P ∙ ap (λ u. t *ℤ u) (dots_comm q P ∙ proj_orth P j))
    ∙ ring (s ∷ t ∷ dots j j ∷ []) (var 0 ⊗ (var 0 ⊗ var 2 ⊖ var 1 ⊗ var 1) ⊖ var 1 ⊗ con (pos 0)) (var 0 ⊗ (var 0 ⊗ var 2 ⊖ var 1 ⊗ var 1)) tt
  where
    s : ℤ
    s = dots P P

    t : ℤ
    t = dots P j

    q : List ℤ
    q = proj P (dots P P) j

-- an entry of a projection
pub get_or-proj : (P : List ℤ) (s : ℤ) (j : List ℤ) (i : ℕ) → get_or (proj P s j) i (pos 0) ≡ s *ℤ get_or j i (pos 0) -ℤ dots P j *ℤ get_or P i (pos 0)
get_or-proj P s j i =
    get_or-plus (times s j) (times (negsuc 0) (times (dots P j) P)) i
    ∙ ap (λ u. u +ℤ get_or (times (negsuc 0) (times (dots P j) P)) i (pos 0)) (get_or-times s j i)
    ∙ ap (λ u. s *ℤ get_or j i (pos 0) +ℤ u) (get_or-times (negsuc 0) (times (dots P j) P) i ∙ ap (λ u. negsuc 0 *ℤ u) (get_or-times (dots P j) P i))
    ∙ ring (s ∷ get_or j i (pos 0) ∷ dots P j ∷ get_or P i (pos 0) ∷ []) (var 0 ⊗ var 1 ⊕ con (negsuc 0) ⊗ (var 2 ⊗ var 3)) (var 0 ⊗ var 1 ⊖ var 2 ⊗ var 3) tt

pub eq_z_true : (a b : ℤ) → eq_z a b ≡ true → a ≡ b
unfolding eq_z
eq_z_true (pos a) (pos b) e = ap pos (eqb-true a b e)
eq_z_true (pos a) (negsuc b) e = clash e refl
eq_z_true (negsuc a) (pos b) e = clash e refl
eq_z_true (negsuc a) (negsuc b) e = ap negsuc (eqb-true a b e)

pub eq_z_refl : (a : ℤ) → eq_z a a ≡ true
unfolding eq_z
eq_z_refl (pos a) = eq-eqb a a refl
eq_z_refl (negsuc a) = eq-eqb a a refl

pub eq_z-same : (a b : ℤ) → a ≡ b → eq_z a b ≡ true
eq_z-same a b e = ap (λ x. eq_z a x) (sym e) ∙ eq_z_refl a

pub eq_z_other : (a b : ℤ) → (a ≡ b → ⊥) → eq_z a b ≡ false
eq_z_other a b h = split (eq_z a b) (λ t. absurd (h (eq_z_true a b t))) (λ e. e)

pub eq_v_true : (v w : Vector) → eq_v v w ≡ true → v ≡ w
unfolding eq_v
eq_v_true [] [] e = refl
eq_v_true [] (y ∷ w) e = clash e refl
eq_v_true (x ∷ v) [] e = clash e refl
eq_v_true (x ∷ v) (y ∷ w) e = go (eq_z x y) refl e (eq_v_true v w)
  where
    go : (b : Bool) → eq_z x y ≡ b → elim b as (λ _. Bool) [ true ↦ eq_v v w | false ↦ false ] ≡ true → (eq_v v w ≡ true → v ≡ w) → x ∷ v ≡ y ∷ w
    go true q e ih = cc (eq_z_true x y q, ih e)
    go false q e ih = clash e refl

pub eq_v_refl : (v : Vector) → eq_v v v ≡ true
unfolding eq_v
eq_v_refl [] = refl
eq_v_refl (x ∷ v) = rw (eq_z_refl x, eq_v) (eq_v_refl v)

pub eq_v-same : (v w : Vector) → v ≡ w → eq_v v w ≡ true
eq_v-same v w e = ap (λ x. eq_v v x) (sym e) ∙ eq_v_refl v

pub eq_v_other : (v w : Vector) → (v ≡ w → ⊥) → eq_v v w ≡ false
eq_v_other v w h = split (eq_v v w) (λ t. absurd (h (eq_v_true v w t))) (λ e. e)

-- ---- the product of a vector with itself, and vectors whose components are all 0

-- what `==` answers at vectors
pub equal_answers : (v w : Vector) → pointwise int_eq v w ≡ eq_v v w
equal_answers v w = one_answer (pointwise int_eq v w) (eq_v v w) (signed_items v w) (eq_v_true v w, eq_v-same v w)

-- it is not negative
pub self_nonneg : (v : Vector) → pos 0 ≤ℤ dots v v
unfolding dots
self_nonneg [] = omega ints
self_nonneg (x ∷ v) = let a = square_nonneg x in let b = self_nonneg v in omega (ints, sum (x *ℤ x) (dots v v))

-- a square is 0 only for 0
square-zero : (x : ℤ) → x *ℤ x ≡ pos 0 → x ≡ pos 0
square-zero x e = split (eq_z x (pos 0)) (eq_z_true x (pos 0)) (λ f. zero-factor x x (λ z. clash (eq_z-same x (pos 0) z) f) e)

-- and the product only for a vector whose components are all 0
pub self_zero : (v : Vector) → dots v v ≡ pos 0 → (i : ℕ) → get_or v i (pos 0) ≡ pos 0
unfolding dots
self_zero [] e i = refl
self_zero (x ∷ v) e zero = let a = square_nonneg x in let b = self_nonneg v in square-zero x (omega (ints, sum (x *ℤ x) (dots v v)))
self_zero (x ∷ v) e (suc i) = let a = square_nonneg x in let b = self_nonneg v in self_zero v (omega (ints, sum (x *ℤ x) (dots v v))) i

-- whose product with any vector is 0
pub zero-dots : (v w : Vector) → ((i : ℕ) → i < length v → get_or v i (pos 0) ≡ pos 0) → dots v w ≡ pos 0
unfolding dots
zero-dots [] w z = refl
zero-dots (x ∷ v) [] z = refl
zero-dots (x ∷ v) (y ∷ w) z =
    ap (λ u. u *ℤ y +ℤ dots v w) (z 0 (omega arith)) ∙ ap (λ u. u +ℤ dots v w) (zero-*ℤ y) ∙ +ℤ_idl (dots v w) ∙ zero-dots v w (λ i l. z (suc i) (omega arith))
