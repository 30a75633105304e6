-- `smallest_multiple` meets its contract. Assumes nothing.
use mathlib.Core.Path.{◌≡◌, refl, ◌∙◌, ap, sym, subst}
use mathlib.Core.List.{[], ◌∷◌}
use Prim.Native.Nat.{ℕ, ◌≤◌, ◌+◌, ◌<◌}
use native.Mathlib.Omega.{arith}
use lib.Arith.{lt_of_le-ne}
use lib.ListN.{length, get_or}
use lib.IntN.{ℤ, pos, nat_abs, ◌+ℤ◌, ◌*ℤ◌, *ℤ_comm}
use lib.Signed.{◌≤ℤ◌, ◌<ℤ◌}
use Rattle.integers.proofs.Linear.{ints, sizes, sum, le_in, eq_out, lt_out}
use Rattle.grouping.proofs.Smallest.{upto_more}
use Rattle.integers.proofs.Machine.{Given, reads, read_g}
use Rattle.integers.proofs.Solver.{var, con, ◌⊕◌}
use mir.Syntax.{w64}
use mir.Val.{to_z}
use mir.Facts.{to_z-of_z}
use Rattle.grouping.specs.Periods.{Serves}
use Rattle.grouping.proofs.arithmetic.smallest_multiple.Goals as goal
use Rattle.grouping.proofs.arithmetic.smallest_multiple.Goals.{At-loop-k, Else-serves}

positive_is : (k : ℤ) → pos 1 ≤ℤ k → pos (nat_abs k) ≡ k
positive_is k h = omega (ints, sizes k)

one-more : (k : ℤ) → pos 1 ≤ℤ k → nat_abs (k +ℤ pos 1) ≡ nat_abs k + 1
one-more k h = omega (ints, sizes k, sizes (k +ℤ pos 1), sum k (pos 1))

below : (k s : ℤ) → k ≤ℤ s → (k ≡ s → ⊥) → k <ℤ s
below k s l f = lt_out k s (lt_of_le-ne (le_in k s l) (λ e. f (eq_out k s e)))

-- ---- at the loop's head
-- the number that is tried
abbrev k : At-loop-k → ℤ
k d = to_z w64 d.loop-k.k-bits

positive : (d : At-loop-k) → pos 1 ≤ℤ k d
positive d = d.loop-k.invariant.positive

most : (d : At-loop-k) → k d ≤ℤ d.args.s
most d = rw (to_z-of_z d.ranges.s) at d.loop-k.invariant.most

none : (d : At-loop-k) (m : ℕ) → 1 ≤ m → m < nat_abs (k d) → Serves d.args.x.now d.args.s (pos m) (length d.args.x.now) → ⊥
none d = rw (to_z-of_z d.ranges.s) at d.loop-k.invariant.none

k-small : (d : At-loop-k) → nat_abs (k d) ≤ 100000
k-small d =
    let h = positive d in
    let m = most d in
    omega (ints, sizes (k d), sizes d.args.s, d.requires.s_bound.0)

room : (d : At-loop-k) → Given (k d ∷ []) (k d ∷ []) (100000 ∷ [])
room d = ((refl, k-small d), tt)

-- the next number, as the machine has it
next-is : (d : At-loop-k) → reads (k d +ℤ pos 1) ≡ k d +ℤ pos 1
next-is d = read_g (k d ∷ []) (k d ∷ []) (100000 ∷ []) (var 0 ⊕ con (pos 1)) (room d) tt

-- ---- after the call, which k does not pass
fails : (c : Else-serves) → Serves c.args.x.now c.args.s (to_z w64 c.loop-k.k-bits) (length c.args.x.now) → ⊥
fails c = rw (to_z-of_z c.ranges.s) at (c.serves.ensures.fact c.if-serves.false)

-- s itself passes, so k is below s
under : (c : Else-serves) → to_z w64 c.loop-k.k-bits <ℤ c.args.s
under c =
    below (to_z w64 c.loop-k.k-bits) c.args.s (most (goal.at.Else-serves c).At-loop-k)
    (λ e. fails c (λ i l. record { quotient = get_or c.args.x.now i (pos 0); product = *ℤ_comm (get_or c.args.x.now i (pos 0)) c.args.s ∙ ap (λ (z : ℤ). z *ℤ get_or c.args.x.now i (pos 0)) (sym e) }))

pub loop-k-preserved : goal.loop-k-preserved
loop-k-preserved c =
    let d = (goal.at.loop-k-preserved c).At-loop-k in
    let n = k d in
    let h = positive d in
    let u = under c in
    rw (next-is d, to_z-of_z c.ranges.s) (record {
      positive = omega (ints, sum n (pos 1));
      most = omega (ints, sum n (pos 1));
      none = λ m one l. upto_more (λ m. Serves c.args.x.now c.args.s (pos m) (length c.args.x.now) → ⊥) (nat_abs n) (none d)
          (λ v. fails c (subst (λ (z : ℤ). Serves c.args.x.now c.args.s z (length c.args.x.now)) (positive_is n h) v)) m one (omega (arith, one-more n h, l));
    })
