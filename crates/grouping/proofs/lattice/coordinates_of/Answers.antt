-- `coordinates_of` meets its contract. Assumes nothing.
use mathlib.Core.Path.{◌≡◌, sym, ◌∙◌, ap₂, subst}
use mathlib.Core.List.{List, []}
use Prim.Native.Nat.{◌≤◌}
use native.Mathlib.Omega.{arith}
use lib.Dec.{lit≤}
use lib.ListN.{length, get_or}
use lib.IntN.{ℤ, pos, nat_abs}
use lib.Signed.{quot_z}
use native.Mathlib.Nat.{le_trans}
use Rattle.grouping.proofs.Whole.{quot_size}
use Rattle.integers.proofs.Bounds.{told, back}
use Rattle.integers.proofs.Machine.{reads}
use Rattle.integers.specs.Vector.{AllWithin, dots}
use Rattle.integers.proofs.Vector.{all_wider}
use Rattle.grouping.proofs.Four.{dot_within}
use Rattle.grouping.proofs.Located.{located, within_1, within_2, within_3, length_1, length_2, length_3, determinant-within}
use Rattle.grouping.proofs.lattice.coordinates_of.Goals as goal
use Rattle.grouping.proofs.lattice.coordinates_of.Goals.{Start}

abbrev S : Type 0
S = Start

wide : (d : S) → AllWithin 30000 d.args.e
wide d = all_wider 2000 30000 d.args.e (lit≤ tt) d.requires.all_within

-- a product along one of the three vectors, as the machine has it
size : (d : S) (f : List ℤ) (t : ℤ) → length f ≡ 4 → AllWithin 30000 f → t ≡ dots f d.args.e → nat_abs t ≤ 1000000000
size d f t l w e = subst (λ (z : ℤ). nat_abs z ≤ 1000000000) (sym e) (omega (arith, dot_within 30000 2000 f d.args.e l (omega arith) w d.requires.all_within))

determinant : (d : S) → reads d.args.f.d ≡ d.args.f.d
determinant d = back d.args.f.d (determinant-within d.args.f.framed) (omega arith)

abbrev Safe : ℤ → ℤ → Type 0
Safe t d = (d ≡ pos 0 → ⊥) × (nat_abs t ≤ 1000000000) × (nat_abs d ≤ 1000000000)

safe : (d : S) (f : List ℤ) (t : ℤ) → length f ≡ 4 → AllWithin 30000 f → reads t ≡ t → t ≡ dots f d.args.e → Safe (reads t) (reads d.args.f.d)
safe d f t l w r e = rw (determinant d, r) (d.args.f.framed.regular, size d f t l w e, determinant-within d.args.f.framed)

pub inner-requires : goal.inner-requires
inner-requires c = (within_1 c.args.f.framed, wide (goal.at.inner-requires c).Start)

pub quotient-requires : goal.quotient-requires
quotient-requires c =
    let t = c.inner in
    safe (goal.at.quotient-requires c).Start (get_or c.args.f.duals 0 []) t.result (length_1 c.args.f.framed) (within_1 c.args.f.framed) (told t.result t.type_inv) t.ensures

pub inner-requires-2 : goal.inner-requires-2
inner-requires-2 c = (within_2 c.args.f.framed, wide (goal.at.inner-requires-2 c).Start)

pub quotient-requires-2 : goal.quotient-requires-2
quotient-requires-2 c =
    let t = c.inner-2 in
    safe (goal.at.quotient-requires-2 c).Start (get_or c.args.f.duals 1 []) t.result (length_2 c.args.f.framed) (within_2 c.args.f.framed) (told t.result t.type_inv) t.ensures

pub inner-requires-3 : goal.inner-requires-3
inner-requires-3 c = (within_3 c.args.f.framed, wide (goal.at.inner-requires-3 c).Start)

pub quotient-requires-3 : goal.quotient-requires-3
quotient-requires-3 c =
    let t = c.inner-3 in
    safe (goal.at.quotient-requires-3 c).Start (get_or c.args.f.duals 2 []) t.result (length_3 c.args.f.framed) (within_3 c.args.f.framed) (told t.result t.type_inv) t.ensures

pub returns : goal.returns
returns c =
    let i1 = c.inner in
    let i2 = c.inner-2 in
    let i3 = c.inner-3 in
    let q1 = c.quotient in
    let q2 = c.quotient-2 in
    let q3 = c.quotient-3 in
    let law = located c.args.f.framed c.args.e (omega arith) c.requires.e_value i1.result i2.result i3.result i1.ensures i2.ensures i3.ensures in
    let e1 : reads q1.result ≡ quot_z i1.result c.args.f.d = told q1.result q1.type_inv ∙ q1.ensures ∙ ap₂ quot_z (told i1.result i1.type_inv) (determinant (goal.at.returns c).Start) in
    let e2 : reads q2.result ≡ quot_z i2.result c.args.f.d = told q2.result q2.type_inv ∙ q2.ensures ∙ ap₂ quot_z (told i2.result i2.type_inv) (determinant (goal.at.returns c).Start) in
    let e3 : reads q3.result ≡ quot_z i3.result c.args.f.d = told q3.result q3.type_inv ∙ q3.ensures ∙ ap₂ quot_z (told i3.result i3.type_inv) (determinant (goal.at.returns c).Start) in
    let bound : (t : ℤ) → nat_abs t ≤ 1000000000 → nat_abs (quot_z t c.args.f.d) ≤ 1000000000 = λ t k. le_trans (quot_size t c.args.f.d) k in
    rw (e1, e2, e3) (record {
      along = law.0;
      fill = law.1;
      all_within_2 = (
        bound i1.result (size (goal.at.returns c).Start (get_or c.args.f.duals 0 []) i1.result (length_1 c.args.f.framed) (within_1 c.args.f.framed) i1.ensures),
        (
          bound i2.result (size (goal.at.returns c).Start (get_or c.args.f.duals 1 []) i2.result (length_2 c.args.f.framed) (within_2 c.args.f.framed) i2.ensures),
          (
            bound i3.result (size (goal.at.returns c).Start (get_or c.args.f.duals 2 []) i3.result (length_3 c.args.f.framed) (within_3 c.args.f.framed) i3.ensures),
            tt,
          ),
        ),
      );
    })
