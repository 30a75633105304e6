-- `smallest_multiple` tries one number after another. The loop's invariant: no smaller one serves, and k is at most s, which does.
use Prim.Native.Nat.{ℕ, ◌≤◌, ◌-◌, ◌<◌}
use lib.ListN.{length}
use lib.IntN.{pos, nat_abs}
use lib.Signed.{◌≤ℤ◌}
use Rattle.grouping.specs.Periods.{Serves}
use Rattle.grouping.proofs.arithmetic.smallest_multiple.Given as goal

abbrev pub invariant-loop-k : goal.invariant-loop-k
invariant-loop-k l = record {
  positive : pos 1 ≤ℤ l.k;
  most : l.k ≤ℤ l.s;
  none : (m : ℕ) → 1 ≤ m → m < nat_abs l.k → Serves l.x l.s (pos m) (length l.x) → ⊥;
}

abbrev pub decreases-loop-k : goal.decreases-loop-k
decreases-loop-k l = nat_abs l.s - nat_abs l.k
