-- `serves` meets its contract. Assumes nothing.
use mathlib.Core.List.{List, [], ◌∷◌}
use Prim.Native.Nat.{ℕ}
use borrow.Author.Count.{below_more}
use lib.ListN.{get_or}
use lib.IntN.{ℤ, pos, ◌*ℤ◌}
use mir.Facts.{to_z-of_z}
use Rattle.integers.proofs.Bounds.{Has}
use Rattle.integers.proofs.Division.{divides_yes, divides_no}
use Rattle.integers.proofs.Machine.{Within, given, reads, fits, has_g, all_read}
use Rattle.integers.proofs.Solver.{var, ◌⊗◌}
use Rattle.integers.proofs.Vector.{get_or-within}
use Rattle.grouping.proofs.arithmetic.serves.Goals as goal
use Rattle.grouping.proofs.arithmetic.serves.Goals.{At-loop-c}

-- ---- in a turn: k times an entry
abbrev el : At-loop-c → ℤ
el d = get_or d.args.x.now d.loop-c.c-index (pos 0)

abbrev ρ : At-loop-c → List ℤ
ρ d = d.args.k ∷ el d ∷ []

abbrev β : List ℕ
β = 100000 ∷ 100000 ∷ []

h : (d : At-loop-c) → Within (ρ d) β
h d = let p = d.requires.s_bound in (p.1, (get_or-within 100000 d.args.x.now d.loop-c.c-index p.2, tt))

product : (d : At-loop-c) → Has (reads (reads d.args.k *ℤ reads (el d))) (d.args.k *ℤ el d)
product d = has_g (all_read (ρ d)) (ρ d) β (var 0 ⊗ var 1) (given (ρ d) β (h d) tt) tt

pub overflow_mul-k : goal.overflow_mul-k
overflow_mul-k c = fits (ρ (goal.at.overflow_mul-k c).At-loop-c) β (var 0 ⊗ var 1) (h (goal.at.overflow_mul-k c).At-loop-c) tt

pub returns-then-k-c-ne0-clause-fact : goal.returns-then-k-c-ne0-clause-fact
returns-then-k-c-ne0-clause-fact c = λ e v.
    divides_no (product (goal.at.returns-then-k-c-ne0-clause-fact c).At-loop-c) c.ranges.s c.requires.pos_bound c.if-k-c-ne0.true
    (v c.loop-c.c-index c.loop-c-test.true)

pub loop-c-preserved : goal.loop-c-preserved
loop-c-preserved c =
    below_more _ c.loop-c.c-index c.loop-c.invariant
    (rw (to_z-of_z c.ranges.s, to_z-of_z c.ranges.k)
    (divides_yes (product (goal.at.loop-c-preserved c).At-loop-c) c.ranges.s c.requires.pos_bound c.if-k-c-ne0.false))
