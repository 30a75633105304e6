-- Keys are in the order of the vectors, no two vectors have one key, and the key of a difference is the difference of the keys: for vectors of any one length
-- whose components are below half the base. Assumes nothing.
use mathlib.Core.Path.{◌≡◌, refl, sym, ap, ap₂, subst, ◌∙◌}
use mathlib.Core.Logic.{◌⊎◌, inl, inr}
use mathlib.Core.List.{[], ◌∷◌, ◌++◌}
use Prim.Native.Nat.{ℕ, zero, suc, ◌+◌, ◌*◌, ◌^◌, ◌<◌, ◌≤◌}
use native.Mathlib.Nat as NatL
use native.Mathlib.Omega.{arith}
use lib.IntN.{ℤ, pos, negsuc, nat_abs, ◌+ℤ◌, ◌-ℤ◌, ◌*ℤ◌}
use lib.ListN.{length, length-append, length-replicate}
use lib.Signed.{◌≤ℤ◌, ◌<ℤ◌}
use Rattle.integers.proofs.Bounds.{abs-+, abs-*}
use Rattle.integers.proofs.Lists.{clash, split}
use Rattle.integers.proofs.Linear.{ints, sum, sizes}
use Rattle.integers.proofs.Order.{*-mono_r, decide}
use Rattle.integers.proofs.Solver.{var, con, ◌⊕◌, ◌⊖◌, ◌⊗◌, ring}
use Rattle.integers.specs.Vector.{Vector, plus, times, minus, AllWithin, eq_z, eq_v}
use Rattle.integers.proofs.Vector.{zeros, all-minus, length-plus, length-times, eq_z-same, eq_z_other, eq_v_true, eq_v-same}
use Rattle.nest.specs.Points.{Before}
use Rattle.sources.specs.Keys.{base, key_from, key}

-- what a digit counts that has n digits behind it
abbrev pub weight : ℕ → ℤ
weight n = pos (base ^ n)

-- one digit more behind it
weight-more : (n : ℕ) → weight (suc n) ≡ weight n *ℤ pos base
weight-more n = ap pos (NatL.pow-suc base n)

-- a number in front of the digits
pub key-from : (a : ℤ) (v : Vector) → key_from a v ≡ a *ℤ weight (length v) +ℤ key v
unfolding key_from key
key-from a [] = ring (a ∷ []) (var 0) (var 0 ⊗ con (pos 1) ⊕ con (pos 0)) tt
key-from a (x ∷ v) =
    key-from (a *ℤ pos base +ℤ x) v
    ∙ ring (a ∷ x ∷ weight (length v) ∷ key v ∷ []) ((var 0 ⊗ con (pos base) ⊕ var 1) ⊗ var 2 ⊕ var 3) (var 0 ⊗ (var 2 ⊗ con (pos base)) ⊕ ((con (pos 0) ⊗ con (pos base) ⊕ var 1) ⊗ var 2 ⊕ var 3)) tt
    ∙ ap₂ (λ (w k : ℤ). a *ℤ w +ℤ k) (sym (weight-more (length v))) (sym (key-from (pos 0 *ℤ pos base +ℤ x) v))

-- the key by the first digit
pub key-cons : (x : ℤ) (v : Vector) → key (x ∷ v) ≡ x *ℤ weight (length v) +ℤ key v
unfolding key_from key
key-cons x v = ap (λ (a : ℤ). key_from a v) (ring (x ∷ []) (con (pos 0) ⊗ con (pos base) ⊕ var 0) (var 0) tt) ∙ key-from x v

-- one digit more at the end
pub key_snoc : (a : ℤ) (v : Vector) (x : ℤ) → key_from a (v ++ (x ∷ [])) ≡ key_from a v *ℤ pos base +ℤ x
unfolding key_from
key_snoc a [] x = refl
key_snoc a (y ∷ v) x = key_snoc (a *ℤ pos base +ℤ y) v x

-- ---- sizes

-- half the weight of the digit in front is more than all digits behind it
pub key-size : (A : ℕ) → A + A < base → (v : Vector) → AllWithin A v → nat_abs (key v) + nat_abs (key v) < base ^ length v
key-size A h [] w = unfold key key_from in omega arith
key-size A h (x ∷ v) w =
    let p = base ^ length v in
    let a = nat_abs x in
    let n : nat_abs (key (x ∷ v)) ≤ a * p + nat_abs (key v) =
    rw (key-cons x v) (abs-+ (x *ℤ weight (length v)) (key v) (abs-* x (weight (length v)) (NatL.le_refl a) (NatL.le_refl p)) (NatL.le_refl (nat_abs (key v)))) in
    let m : suc (a + a) * p ≤ base * p = NatL.mul-le-mul_right {m = suc (a + a)} {n = base} p (omega (arith, w.0)) in
    omega (arith, NatL.pow-suc base (length v), NatL.add-mul a a p, NatL.suc-mul (a + a) p, key-size A h v w.1)

-- ---- order

module _ (A : ℕ) (h : A + A < base) where
  -- the earlier vector has the smaller key
  pub key-before : (v w : Vector) → length v ≡ length w → AllWithin A v → AllWithin A w → Before v w → key v <ℤ key w
  key-before [] w e a b l = absurd l
  key-before (x ∷ v) [] e a b l = absurd l
  key-before (x ∷ v) (y ∷ w) e a b (inl l) =
      let p = base ^ length v in
      let q : base ^ length w ≡ p = ap (λ n. base ^ n) (sym (NatL.suc_inj e)) in
      let kv = key-size A h v a.1 in
      let kw : nat_abs (key w) + nat_abs (key w) < p = subst (λ n. nat_abs (key w) + nat_abs (key w) < n) q (key-size A h w b.1) in
      let m : ((x +ℤ pos 1) *ℤ pos p) ≤ℤ (y *ℤ pos p) = *-mono_r (x +ℤ pos 1) y (pos p) (omega ints) (omega (ints, sum x (pos 1))) in
      let r : (x +ℤ pos 1) *ℤ pos p ≡ x *ℤ pos p +ℤ pos p = ring (x ∷ pos p ∷ []) ((var 0 ⊕ con (pos 1)) ⊗ var 1) (var 0 ⊗ var 1 ⊕ var 1) tt in
      rw (key-cons x v, key-cons y w, q)
      (omega (ints, sum (x *ℤ pos p) (key v), sum (y *ℤ pos p) (key w), sum (x *ℤ pos p) (pos p), sizes (key v), sizes (key w)))
  key-before (x ∷ v) (y ∷ w) e a b (inr l) =
      let n = NatL.suc_inj e in
      let k = key-before v w n a.1 b.1 l.1 in
      rw (key-cons x v, key-cons y w, l.0, n) (omega (ints, sum (y *ℤ weight (length w)) (key v), sum (y *ℤ weight (length w)) (key w)))

-- two vectors of one length are equal, or one comes before the other
pub either_before : (v w : Vector) → length v ≡ length w → (v ≡ w) ⊎ (Before v w ⊎ Before w v)
either_before [] [] e = inl refl
either_before [] (y ∷ w) e = absurd (omega arith)
either_before (x ∷ v) [] e = absurd (omega arith)
either_before (x ∷ v) (y ∷ w) e = heads (decide x y) (either_before v w (NatL.suc_inj e))
  where
    -- equal first components
    same : x ≡ y → (v ≡ w) ⊎ (Before v w ⊎ Before w v) → (x ∷ v ≡ y ∷ w) ⊎ (Before (x ∷ v) (y ∷ w) ⊎ Before (y ∷ w) (x ∷ v))
    same q (inl r) = inl (ap₂ (λ (a : ℤ) (u : Vector). a ∷ u) q r)
    same q (inr (inl r)) = inr (inl (inr (q, r)))
    same q (inr (inr r)) = inr (inr (inr (sym q, r)))

    -- by the first components
    heads : (x ≤ℤ y) ⊎ (y <ℤ x) → (v ≡ w) ⊎ (Before v w ⊎ Before w v) → (x ∷ v ≡ y ∷ w) ⊎ (Before (x ∷ v) (y ∷ w) ⊎ Before (y ∷ w) (x ∷ v))
    heads (inr l) r = inr (inr (inl l))
    heads (inl l) r = second (decide y x) r
      where
        second : (y ≤ℤ x) ⊎ (x <ℤ y) → (v ≡ w) ⊎ (Before v w ⊎ Before w v) → (x ∷ v ≡ y ∷ w) ⊎ (Before (x ∷ v) (y ∷ w) ⊎ Before (y ∷ w) (x ∷ v))
        second (inl m) r = same (omega ints) r
        second (inr m) r = inr (inl (inl m))

-- no two vectors of one length have one key
pub key_injective : (A : ℕ) → A + A < base → (v w : Vector) → length v ≡ length w → AllWithin A v → AllWithin A w → key v ≡ key w → v ≡ w
key_injective A h v w e a b q = go (either_before v w e)
  where
    -- neither comes before the other
    go : (v ≡ w) ⊎ (Before v w ⊎ Before w v) → v ≡ w
    go (inl r) = r
    go (inr (inl r)) = absurd (let l = key-before A h v w e a b r in omega ints)
    go (inr (inr r)) = absurd (let l = key-before A h w v (sym e) b a r in omega ints)

-- so the tests agree
pub key_test : (A : ℕ) → A + A < base → (v w : Vector) → length v ≡ length w → AllWithin A v → AllWithin A w → eq_z (key v) (key w) ≡ eq_v v w
key_test A h v w e a b = split (eq_v v w) (λ t. eq_z-same (key v) (key w) (ap key (eq_v_true v w t)) ∙ sym t) (λ f. eq_z_other (key v) (key w) (λ q. clash (eq_v-same v w (key_injective A h v w e a b q)) f) ∙ sym f)

-- ---- differences

-- the key of a difference is the difference of the keys
pub key-minus : (v w : Vector) → length v ≡ length w → key (minus v w) ≡ key v -ℤ key w
unfolding plus times
key-minus [] [] e = unfold key key_from in refl
key-minus [] (y ∷ w) e = absurd (omega arith)
key-minus (x ∷ v) [] e = absurd (omega arith)
key-minus (x ∷ v) (y ∷ w) e =
    let n = NatL.suc_inj e in
    let l : length (minus v w) ≡ length v = length-plus v (times (negsuc 0) w) (length v) refl (length-times (negsuc 0) w ∙ sym n) in
    key-cons (x +ℤ negsuc 0 *ℤ y) (minus v w)
    ∙ ap₂ (λ (m : ℕ) (k : ℤ). (x +ℤ negsuc 0 *ℤ y) *ℤ weight m +ℤ k) l (key-minus v w n)
    ∙ ring (x ∷ y ∷ weight (length v) ∷ key v ∷ key w ∷ []) ((var 0 ⊕ con (negsuc 0) ⊗ var 1) ⊗ var 2 ⊕ (var 3 ⊖ var 4)) (var 0 ⊗ var 2 ⊕ var 3 ⊖ (var 1 ⊗ var 2 ⊕ var 4)) tt
    ∙ ap₂ (λ (a b : ℤ). a -ℤ b) (sym (key-cons x v)) (ap (λ m. y *ℤ weight m +ℤ key w) n ∙ sym (key-cons y w))
