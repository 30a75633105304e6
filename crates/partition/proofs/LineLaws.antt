-- Projection lines: the shortest vector along p. Assumes nothing.
use mathlib.Core.Path.{◌≡◌, refl, sym, ap, ap₂, subst, ◌∙◌}
use mathlib.Core.Logic.{⊎_elim}
use mathlib.Core.List.{[], ◌∷◌, map}
use Prim.Native.Nat.{ℕ, suc, ◌<◌, ◌≤◌}
use native.Mathlib.Nat.{le_trans}
use native.Mathlib.Omega.{arith}
use lib.Dec.{lit≤}
use lib.IntN.{ℤ, pos, nat_abs, ◌-ℤ◌}
use lib.Signed.{◌≤ℤ◌, ◌<ℤ◌, quot_z}
use lib.ListN.{length}
use Rattle.integers.proofs.Bounds.{back}
use Rattle.integers.proofs.Linear.{ints, dif, sizes}
use Rattle.integers.proofs.Lists.{below_or_not}
use Rattle.integers.proofs.Machine.{reads}
use Rattle.integers.specs.Vector.{Vector, AllWithin, times}
use Rattle.integers.proofs.Vector.{zeros}
use Rattle.nest.specs.Nest.{max_component}
use Rattle.grouping.specs.Periods.{Serves}
use Rattle.grouping.specs.Projection.{projection}
use Rattle.grouping.proofs.Whole.{quot_size}
use Rattle.classes.proofs.Lined.{part-is, part-along}
use Rattle.partition.specs.Lines.{Shortest}

-- a quotient of p is the shortest vector if no number above its divisor was found to divide p
pub shortest_found : (p v : Vector) (g : ℕ) → 1 ≤ g → times (pos g) v ≡ p → ((k : ℕ) → g < k → k ≤ max_component → Serves p (pos k) (pos 1) 4 → ⊥) → Shortest p v
shortest_found p v g h e none =
    record { factor = g; positive = h; product = e; largest = λ k l s. ⊎_elim (λ (b : g < k). absurd (none k b l s)) (λ (b : k ≤ g). b) (below_or_not g k) }

-- its projection is zero
pub shortest-along : (p v : Vector) → length p ≡ 4 → Shortest p v → projection p v ≡ zeros 4
shortest-along p v l s = part-along p v (pos s.factor) l s.product

-- ---- the numbers from the greatest down, until one divides p

-- no number above z divides p
abbrev pub NoneAbove : Vector → ℤ → Type 0
NoneAbove p z = (k : ℕ) → z <ℤ pos k → k ≤ max_component → Serves p (pos k) (pos 1) 4 → ⊥

-- a number above zero as one of ℕ
as_pos : (z : ℤ) → pos 1 ≤ℤ z → z ≡ pos (nat_abs z)
as_pos z h = omega (ints, sizes z)

-- the one before z, as it is read
pub less_one : (z : ℤ) → pos 1 ≤ℤ z → z ≤ℤ pos 16 → reads (z -ℤ pos 1) ≡ z -ℤ pos 1
less_one z h k = let s : nat_abs (z -ℤ pos 1) ≤ 16 = omega (ints, dif z (pos 1), sizes (z -ℤ pos 1)) in back (z -ℤ pos 1) s (lit≤ tt)

-- z is ruled out too
pub none-more : (p : Vector) (z : ℤ) → pos 1 ≤ℤ z → NoneAbove p z → (Serves p z (pos 1) 4 → ⊥) → NoneAbove p (z -ℤ pos 1)
none-more p z h none fails k l m s =
    ⊎_elim (λ (b : nat_abs z < k). none k (omega (ints, as_pos z h, b)) m s)
    (λ (b : k ≤ nat_abs z). let e : pos k ≡ z = omega (ints, l, dif z (pos 1), sizes z, b, h) in fails (subst (λ (x : ℤ). Serves p x (pos 1) 4) e s)) (below_or_not (nat_abs z) k)

-- the first that is found
pub none-found : (p v : Vector) (z : ℤ) → pos 1 ≤ℤ z → NoneAbove p z → times z v ≡ p → Shortest p v
none-found p v z h none e =
    let q = as_pos z h in
    shortest_found p v (nat_abs z) (omega (ints, sizes z, h)) (ap (λ (x : ℤ). times x v) (sym q) ∙ e) (λ k l. none k (omega (ints, q, l)))

-- ---- the components of a vector, each divided by a number that divides them

pub divided-times : (v : Vector) (g : ℤ) → pos 1 ≤ℤ g → Serves v g (pos 1) (length v) → times g (map (λ x. quot_z x g) v) ≡ v
unfolding times
divided-times [] g h s = refl
divided-times (x ∷ v) g h s = ap₂ ◌∷◌ (part-is x g (quot_z x g) h (s 0 (omega arith)) refl) (divided-times v g h (λ i l. s (suc i) (omega arith)))

-- none is larger
pub divided-within : (A : ℕ) (v : Vector) (g : ℤ) → AllWithin A v → AllWithin A (map (λ x. quot_z x g) v)
divided-within A [] g w = tt
divided-within A (x ∷ v) g w = (le_trans (quot_size x g) w.0, divided-within A v g w.1)
