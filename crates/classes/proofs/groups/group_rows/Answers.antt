-- `group_rows` meets its contract.
use mathlib.Core.Path.{◌≡◌, refl, ◌∙◌, subst}
use mathlib.Core.Bool.{Bool, true}
use mathlib.Core.List.{List}
use mathlib.Core.Logic.{inl, inr}
use Prim.Native.Nat.{ℕ, ◌≤◌, ◌<◌, ◌+◌}
use native.Mathlib.Nat.{lt_of_le_of_lt}
use native.Mathlib.Omega.{arith}
use lib.ListN.{length, get_or, set}
use Rattle.integers.specs.Vector.{Vector, AllWithin}
use Rattle.numbering.specs.Tables.{row}
use Rattle.numbering.proofs.Table.{Reflexive}
use Rattle.grouping.specs.Basis.{in_one_class_by, basis_frame_by, GroupedAs, Grouped, vector_of}
use Rattle.grouping.specs.Grouping.{Frame}
use Rattle.numbering.proofs.TableRows.{row_within}
use Rattle.classes.proofs.ClassFacts.{class_refl}
use Rattle.classes.proofs.GroupTables.{GroupsTo, Headed, groups-start, groups-more, groups_end, class-most, head-least, head_one, heads_long}
use Rattle.classes.proofs.groups.group_rows.Goals as goal
use Rattle.classes.proofs.groups.group_rows.Goals.{Start, At-loop-i, then-class-count, else-class-count}

-- the test for one class, and the frame
abbrev same : At-loop-i → Vector → Vector → Bool
same l = let f = l.args.f.basis in in_one_class_by f.p f.count (vector_of f 0) (vector_of f 1) (vector_of f 2)

abbrev frame : At-loop-i → Frame
frame l = let f = l.args.f.basis in basis_frame_by f.p f.count (vector_of f 0) (vector_of f 1) (vector_of f 2) l.args.f.r

-- a point is in one class with itself
self : (l : At-loop-i) → Reflexive (same l) l.args.points.now
self l j h = class_refl l.args.f.basis.framed (row l.args.points.now j) (l.told-points j h)

-- the class of point i
abbrev class : At-loop-i → ℕ
class l = get_or l.args.classes.now l.loop-i.i 0

module _ (l : At-loop-i) (w : l.loop-i.i < length l.args.points.now) where
  room : l.loop-i.count < length l.loop-i.heads
  room = omega (arith, w, l.loop-i.invariant.wide, l.loop-i.invariant.groups.num.few, l.requires.few.0)

  short : l.loop-i.i < 4096
  short = omega (arith, w, l.requires.few.0)

  most : class l ≤ l.loop-i.count
  most = class-most (same l) (frame l) l.args.f.basis.count l.args.points.now l.args.groups.now l.loop-i.groups (self l) l.loop-i.heads l.loop-i.count l.loop-i.i (class l) l.loop-i.invariant.groups room w short (l.requires.by_index l.loop-i.i w)

  low : class l < 4096
  low = omega (arith, most, room, l.loop-i.invariant.wide)

  -- after the choice of a head
  module _ (heads : List ℕ) (k head : ℕ) (D : Headed l.loop-i.heads l.loop-i.count l.loop-i.i (class l) heads k head) where
    least : head < length l.args.points.now
    least =
        lt_of_le_of_lt (head-least (same l) (frame l) l.args.f.basis.count l.args.points.now l.args.groups.now l.loop-i.groups (self l) l.loop-i.heads l.loop-i.count l.loop-i.i (class l) l.loop-i.invariant.groups room w short (l.requires.by_index l.loop-i.i w) heads k head D) w

    one : same l (row l.args.points.now l.loop-i.i) (row l.args.points.now head) ≡ true
    one = head_one (same l) (frame l) l.args.f.basis.count l.args.points.now l.args.groups.now l.loop-i.groups (self l) l.loop-i.heads l.loop-i.count l.loop-i.i (class l) l.loop-i.invariant.groups room w short (l.requires.by_index l.loop-i.i w) heads k head D

    long : length heads ≡ length l.loop-i.heads
    long = heads_long (same l) (frame l) l.args.f.basis.count l.args.points.now l.args.groups.now l.loop-i.groups (self l) l.loop-i.heads l.loop-i.count l.loop-i.i (class l) l.loop-i.invariant.groups room w short (l.requires.by_index l.loop-i.i w) heads k head D

    more : (g : Vector) → AllWithin 1000000000 g → GroupedAs (frame l) l.args.f.basis.count (class l) (row l.args.points.now l.loop-i.i) (row l.args.points.now head) g
        → GroupsTo (same l) (frame l) l.args.f.basis.count l.args.points.now l.args.groups.now (set l.loop-i.groups l.loop-i.i g) heads k (l.loop-i.i + 1)
    more g =
        groups-more (same l) (frame l) l.args.f.basis.count l.args.points.now l.args.groups.now l.loop-i.groups (self l) l.loop-i.heads l.loop-i.count l.loop-i.i (class l) l.loop-i.invariant.groups room w short (l.requires.by_index l.loop-i.i w) heads k head D g
        (omega (arith, w, l.requires.few.1, l.loop-i.invariant.groups.size))

pub group_of-requires-clause-all_within : goal.group_of-requires-clause-all_within
group_of-requires-clause-all_within c = (row_within 1000 c.args.points.now c.loop-i.i c.requires.within, row_within 1000 c.args.points.now c.if-class-count.head c.requires.within)

pub loop-i-init : goal.loop-i-init
loop-i-init c =
    let f = c.args.f.basis in record {
      wide = refl;
      groups = groups-start (in_one_class_by f.p f.count (vector_of f 0) (vector_of f 1) (vector_of f 2)) (basis_frame_by f.p f.count (vector_of f 0) (vector_of f 1) (vector_of f 2) c.args.f.r) f.count c.args.points.now c.args.groups.now _;
    }

pub bounds-heads-class : goal.bounds-heads-class
bounds-heads-class c = low (goal.at.bounds-heads-class c).At-loop-i c.loop-i-test.true

pub bounds-points-head : goal.bounds-points-head
bounds-points-head c =
    least (goal.at.bounds-points-head c).At-loop-i c.loop-i-test.true c.if-class-count.heads c.if-class-count.count c.if-class-count.head
    (elim c.if-class-count.branch [
      | then-class-count w ↦ inl (w.if-class-count.true, w.heads-is, w.count-is, w.head-is)
      | else-class-count w ↦ inr (w.if-class-count.false, w.heads-is, w.count-is, w.head-is)
    ])

pub group_of-requires-clause-class_low : goal.group_of-requires-clause-class_low
group_of-requires-clause-class_low c = low (goal.at.group_of-requires-clause-class_low c).At-loop-i c.loop-i-test.true

pub group_of-requires-clause-one_class : goal.group_of-requires-clause-one_class
group_of-requires-clause-one_class c =
    one (goal.at.group_of-requires-clause-one_class c).At-loop-i c.loop-i-test.true c.if-class-count.heads c.if-class-count.count c.if-class-count.head
    (elim c.if-class-count.branch [
      | then-class-count w ↦ inl (w.if-class-count.true, w.heads-is, w.count-is, w.head-is)
      | else-class-count w ↦ inr (w.if-class-count.false, w.heads-is, w.count-is, w.head-is)
    ])

pub loop-i-preserved : goal.loop-i-preserved
loop-i-preserved c =
    let l = (goal.at.loop-i-preserved c).At-loop-i in
    let D : Headed l.loop-i.heads l.loop-i.count l.loop-i.i (class l) c.if-class-count.heads c.if-class-count.count c.if-class-count.head = elim c.if-class-count.branch [
      | then-class-count w ↦ inl (w.if-class-count.true, w.heads-is, w.count-is, w.head-is)
      | else-class-count w ↦ inr (w.if-class-count.false, w.heads-is, w.count-is, w.head-is)
    ] in record {
      wide = long l c.loop-i-test.true c.if-class-count.heads c.if-class-count.count c.if-class-count.head D ∙ l.loop-i.invariant.wide;
      groups = more l c.loop-i-test.true c.if-class-count.heads c.if-class-count.count c.if-class-count.head D c.group_of.result c.group_of.ensures.all_within_2 c.group_of.ensures.grouped_as;
    }

pub returns : goal.returns
returns c =
    let f = c.args.f.basis in
    let e : c.loop-i.i ≡ length c.args.points.now = omega (arith, c.loop-i-test.false) in
    subst (λ (n : ℕ). Grouped (basis_frame_by f.p f.count (vector_of f 0) (vector_of f 1) (vector_of f 2) c.args.f.r) f.count c.args.points.now n c.args.groups.now c.loop-i.groups) e
    (groups_end f.p (vector_of f 0) (vector_of f 1) (vector_of f 2) f.count c.args.f.r c.args.points.now c.args.groups.now c.loop-i.groups c.loop-i.heads c.loop-i.count c.loop-i.i c.loop-i.invariant.groups
    (omega (arith, c.loop-i.invariant.wide, c.loop-i.invariant.groups.num.few, e, c.requires.few.0)) (omega (arith, e)))
