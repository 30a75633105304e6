-- `multiplier` meets its contract. Assumes nothing.
use mathlib.Core.Path.{refl, sym, ◌∙◌, subst}
use native.Mathlib.Omega.{arith}
use lib.Dec.{lit≤}
use Rattle.integers.proofs.Bounds.{told}
use Rattle.integers.specs.Vector.{AllWithin}
use Rattle.integers.proofs.Vector.{all_wider}
use Rattle.grouping.specs.Projection.{projection}
use Rattle.grouping.proofs.Four.{dot_within, projection-within}
use Rattle.grouping.proofs.Smallest.{period_multiplier}
use Rattle.grouping.proofs.time_vector.TimeVector.multiplier.Goals as goal

pub inner-requires : goal.inner-requires
inner-requires c = let a = all_wider 16 30000 c.args.self.now.p (lit≤ tt) c.args.self.now.within in (a, a)

pub smallest_multiple-requires-clause-s_bound : goal.smallest_multiple-requires-clause-s_bound
smallest_multiple-requires-clause-s_bound c =
    let p = c.args.self.now.p in
    let w = c.args.self.now.within in
    rw (told c.inner.result c.inner.type_inv) (rw c.inner.ensures (
      omega (arith, dot_within 16 16 p p (omega arith) (omega arith) w w),
      subst (AllWithin 100000) (sym c.project.ensures) (all_wider _ 100000 (projection p c.args.d) (lit≤ tt) (projection-within 16 16 p c.args.d (omega arith) (omega arith) w c.requires)),
    ))

pub returns : goal.returns
returns c =
    told c.smallest_multiple.result c.smallest_multiple.type_inv
    ∙ period_multiplier c.args.self.now.p c.args.d _ c.smallest_multiple.result c.args.self.now.positive refl
    (rw (told c.inner.result c.inner.type_inv, c.inner.ensures, c.project.ensures) at c.smallest_multiple.ensures)
