-- Numbers within the spans of a nest have room in six columns.
-- Assumes nothing.
use mathlib.Core.Path.{◌≡◌, refl}
use mathlib.Core.Bool.{Bool, true, false, ◌&&◌}
use Prim.Native.Nat.{ℕ, ◌≤◌}
use lib.Dec.{T}
use lib.IntN.{ℤ, pos, neg_ℤ}
use lib.Signed.{le_z}
use Rattle.integers.proofs.Linear.{ints}
use Rattle.nest.specs.Nest.{max_limit, max_component}
use Rattle.nest.proofs.Spans.{Span}
use Rattle.nest_text.specs.Stored.{InColumns}
use Rattle.nest_text.specs.Fields.{least_number, greatest_number}

-- two tests that pass
both : (a b : Bool) → T a → T b → (a && b) ≡ true
both true true p q = refl
both true false p q = absurd q
both false b p q = absurd p

-- a number from -99999 to 999999 has room
pub in_columns : (z : ℤ) → Span least_number greatest_number z → InColumns z
in_columns z h = both (le_z least_number z) (le_z z greatest_number) h.0.le h.1.le

-- so have a loop's limits
pub limit-columns : (z : ℤ) → Span (neg_ℤ (pos max_limit)) (pos max_limit) z → InColumns z
limit-columns z h = let p = h.0 in let q = h.1 in in_columns z (omega ints, omega ints)

-- and a component of a vector
pub component-columns : (z : ℤ) → Span (neg_ℤ (pos max_component)) (pos max_component) z → InColumns z
component-columns z h = let p = h.0 in let q = h.1 in in_columns z (omega ints, omega ints)

-- a number that is not negative
pub count-columns : (low high : ℕ) (z : ℤ) → high ≤ 999999 → Span (pos low) (pos high) z → InColumns z
count-columns low high z l h = let p = h.0 in let q = h.1 in in_columns z (omega ints, omega ints)
