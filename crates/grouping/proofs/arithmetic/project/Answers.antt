-- `project` meets its contract. Assumes nothing.
use mathlib.Core.Path.{◌≡◌, sym, ◌∙◌, ap₂}
use mathlib.Core.List.{List}
use Prim.Native.Nat.{ℕ, ◌≤◌, ◌<◌}
use native.Mathlib.Omega.{arith}
use lib.Dec.{lit≤}
use lib.ListN.{length, get_or}
use lib.IntN.{ℤ, pos, nat_abs, ◌-ℤ◌, ◌*ℤ◌}
use Rattle.integers.proofs.Bounds.{told, back}
use Rattle.integers.proofs.Machine.{reads}
use Rattle.integers.specs.Vector.{AllWithin}
use Rattle.integers.proofs.Vector.{all_wider}
use Rattle.grouping.specs.Projection.{projection}
use Rattle.grouping.proofs.Vectors.{comp, comp-projection}
use Rattle.grouping.proofs.Four.{dot_within, length-four-projection}
use Rattle.numbering.proofs.TableRows.{four_is}
use Rattle.grouping.proofs.arithmetic.project.Goals as goal
use Rattle.grouping.proofs.arithmetic.project.Goals.{After-inner-t}

abbrev Out : Type 0
Out = After-inner-t

abbrev p : Out → List ℤ
p e = e.args.p

abbrev d : Out → List ℤ
d e = e.args.d

-- P·P and P·d are small, so they are read as they are
s-small : (e : Out) → nat_abs e.inner-s.result ≤ 1024
s-small e = rw e.inner-s.ensures (dot_within 16 16 (p e) (p e) (omega arith) (omega arith) e.requires.0 e.requires.0)

t_small : (e : Out) → nat_abs e.inner-t.result ≤ 1024
t_small e = rw e.inner-t.ensures (dot_within 16 16 (p e) (d e) (omega arith) (omega arith) e.requires.0 e.requires.1)

s_read : (e : Out) → reads e.inner-s.result ≡ e.inner-s.result
s_read e = back e.inner-s.result (s-small e) (omega arith)

t_read : (e : Out) → reads e.inner-t.result ≡ e.inner-t.result
t_read e = back e.inner-t.result (t_small e) (omega arith)

-- what is asked of a component
asked : (e : Out) (i : ℕ) → i < 4 → AllWithin 16 (p e) × AllWithin 16 (d e) × (nat_abs (reads e.inner-s.result) ≤ 1024) × (nat_abs (reads e.inner-t.result) ≤ 1024) × (i < 4)
asked e i l = (e.requires.0, e.requires.1, (rw (s_read e) (s-small e)), (rw (t_read e) (t_small e)), l)

-- a component of the projection
exact : (e : Out) (i : ℕ) (z : ℤ) → z ≡ reads e.inner-s.result *ℤ get_or (d e) i (pos 0) -ℤ reads e.inner-t.result *ℤ get_or (p e) i (pos 0) → z ≡ comp (projection (p e) (d e)) i
exact e i z q =
    q ∙ ap₂ (λ (u v : ℤ). u *ℤ get_or (d e) i (pos 0) -ℤ v *ℤ get_or (p e) i (pos 0)) (s_read e ∙ e.inner-s.ensures) (t_read e ∙ e.inner-t.ensures)
    ∙ sym (comp-projection (p e) (d e) i)

four-long : (e : Out) → length (projection (p e) (d e)) ≡ 4
four-long e = length-four-projection (p e) (d e) (omega arith) (omega arith)

pub inner-s-requires : goal.inner-s-requires
inner-s-requires c = let a = all_wider 16 30000 c.args.p (lit≤ tt) c.requires.0 in (a, a)

pub inner-t-requires : goal.inner-t-requires
inner-t-requires c = (all_wider 16 30000 c.args.p (lit≤ tt) c.requires.0, all_wider 16 30000 c.args.d (lit≤ tt) c.requires.1)

pub projected-requires : goal.projected-requires
projected-requires c = asked c 0 (omega arith)

pub projected-requires-2 : goal.projected-requires-2
projected-requires-2 c = asked (goal.at.projected-requires-2 c).After-inner-t 1 (omega arith)

pub projected-requires-3 : goal.projected-requires-3
projected-requires-3 c = asked (goal.at.projected-requires-3 c).After-inner-t 2 (omega arith)

pub projected-requires-4 : goal.projected-requires-4
projected-requires-4 c = asked (goal.at.projected-requires-4 c).After-inner-t 3 (omega arith)

pub returns : goal.returns
returns c =
    four_is (projection (p (goal.at.returns c).After-inner-t) (d (goal.at.returns c).After-inner-t)) _ _ _ _ (four-long (goal.at.returns c).After-inner-t)
    (told c.projected.result c.projected.type_inv ∙ exact (goal.at.returns c).After-inner-t 0 c.projected.result c.projected.ensures)
    (told c.projected-2.result c.projected-2.type_inv ∙ exact (goal.at.returns c).After-inner-t 1 c.projected-2.result c.projected-2.ensures)
    (told c.projected-3.result c.projected-3.type_inv ∙ exact (goal.at.returns c).After-inner-t 2 c.projected-3.result c.projected-3.ensures)
    (told c.projected-4.result c.projected-4.type_inv ∙ exact (goal.at.returns c).After-inner-t 3 c.projected-4.result c.projected-4.ensures)
