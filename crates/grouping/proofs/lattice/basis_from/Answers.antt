-- `basis_from` meets its contract. Assumes nothing.
use mathlib.Core.Path.{◌≡◌, sym, ◌∙◌, ap, subst}
use mathlib.Core.List.{List, []}
use Prim.Native.Nat.{ℕ}
use lib.Dec.{lit≤}
use lib.IntN.{ℤ}
use lib.ListN.{get_or}
use mir.Syntax.{w64}
use mir.Val.{to_z, of_z}
use Rattle.integers.proofs.Bounds.{told}
use Rattle.integers.specs.Vector.{AllWithin, Vector, dots}
use Rattle.integers.proofs.Vector.{all_wider}
use Rattle.grouping.specs.Basis.{normal}
use Rattle.grouping.proofs.Sizes.{normal-within}
use Rattle.grouping.proofs.lattice.basis_from.Goals as goal
use Rattle.grouping.proofs.lattice.basis_from.Goals.{Start}

-- a vector of the basis
abbrev at : Start → ℕ → Vector
at c i = get_or c.args.vectors i []

pub inner-d-requires : goal.inner-d-requires
inner-d-requires c =
    let d = (goal.at.inner-d-requires c).Start in
    let s = c.requires.small in (
      subst (AllWithin 30000) (sym c.normal.ensures) (all_wider 24576 30000 (normal c.args.p (at d 2) (at d 1)) (lit≤ tt) (normal-within c.args.p (at d 2) (at d 1) s.0 s.3 s.2)),
      all_wider 16 30000 (at d 0) (lit≤ tt) s.1,
    )

pub invariant_of-result : goal.invariant_of-result
invariant_of-result c =
    let det : to_z w64 (of_z w64 c.inner-d.result) ≡ dots c.normal.result (get_or c.args.vectors 0 []) = told c.inner-d.result c.inner-d.type_inv ∙ c.inner-d.ensures in
    record {
      framed = record {
        time = c.requires.time;
        few = c.requires.few;
        small = c.requires.small;
        lengths = c.requires.lengths;
        first = c.normal.ensures;
        second = c.normal-2.ensures;
        third = c.normal-3.ensures;
        determinant = det;
        regular = λ z. c.requires.regular (ap (λ (u : List ℤ). dots u (get_or c.args.vectors 0 [])) (sym c.normal.ensures) ∙ sym det ∙ z);
        independent = c.requires.independent;
      };
    }
