-- `divided` divides, and makes no component larger.
use Rattle.std.proofs.Common.{◌≡◌, ◌∙◌, ◌≤◌, ◌++◌, ℤ, List, get_or, set, map, length, take, drop, sym, ap, ap₂, subst, pos, nat_abs, arith, rules}
use native.Mathlib.Nat.{le_trans}
use lib.Dec.{lit≤}
use mir.Facts.{to_z-of_z}
use Rattle.std.specs.Int.Signed.{quot_z}
use Rattle.std.proofs.lemmas.List.{take_all, drop_all, append-nil}
use Rattle.std.proofs.lemmas.List.Edits.{map_over_more}
use Rattle.integers.proofs.Bounds.{told, back}
use Rattle.integers.proofs.ListFacts.{get_d_default}
use Rattle.integers.proofs.Linear.{ints}
use Rattle.integers.proofs.Machine.{reads}
use Rattle.integers.proofs.Vector.{get_or-within}
use Rattle.grouping.specs.Periods.{Serves}
use Rattle.partition.proofs.LineLaws.{divided-times, divided-within}
use Rattle.numbering.proofs.Filled.{next_old, passed-length}
use Rattle.partition.proofs.inputs.divided.Goals as goal
use Rattle.partition.proofs.inputs.divided.Goals.{In-loop-part, Start}

-- the divisor, as it is read
divisor : (d : Start) → reads d.args.g ≡ d.args.g
divisor d = to_z-of_z d.ranges.g

-- the next component is still the old one, so it is small
abbrev next : In-loop-part → ℤ
next d = get_or d.loop-part.part-items d.loop-part.part-index (pos 0)

next-small : (d : In-loop-part) → nat_abs (next d) ≤ 16
next-small d =
    let i = d.loop-part.part-index in
    let l : length d.args.v ≡ 4 = search rules in
    let e : next d ≡ get_or d.args.v i (pos 0) = ap (λ (u : List ℤ). get_or u i (pos 0)) d.loop-part.invariant ∙ next_old (pos 0) (λ x. quot_z x (reads d.args.g)) d.args.v i (omega arith) in
    subst (λ (z : ℤ). nat_abs z ≤ 16) (sym e) (get_or-within 16 d.args.v i d.requires.0)

next-read : (d : In-loop-part) → reads (next d) ≡ next d
next-read d = back (next d) (next-small d) (lit≤ tt)

pub quotient-requires : goal.quotient-requires
quotient-requires c =
    let d = (goal.at.quotient-requires c).In-loop-part in
    let e = divisor (goal.at.quotient-requires c).Start in
    rw (e, next-read d) ((λ (z : c.args.g ≡ pos 0). let h = c.requires.1 in absurd (omega (ints, z, h))), le_trans (next-small d) (lit≤ tt), le_trans c.requires.2 (lit≤ tt))

pub loop-part-preserved : goal.loop-part-preserved
loop-part-preserved c =
    let d = (goal.at.loop-part-preserved c).In-loop-part in
    let i = c.loop-part.part-index in
    let l : length c.args.v ≡ 4 = search rules in
    let m : length c.loop-part.part-items ≡ 4 = ap (λ (u : List ℤ). length u) c.loop-part.invariant ∙ passed-length (λ x. quot_z x (reads c.args.g)) c.args.v i ∙ l in
    let q : reads c.quotient.result ≡ quot_z (next d) (reads c.args.g) = told c.quotient.result c.quotient.type_inv ∙ c.quotient.ensures ∙ ap (λ (x : ℤ). quot_z x (reads c.args.g)) (next-read d) in
    ap (λ (x : ℤ). set c.loop-part.part-items i x) q
    ∙ map_over_more (λ x. quot_z x (reads c.args.g)) c.args.v c.loop-part.part-items i (next d) (omega arith) c.loop-part.invariant (get_d_default (pos 0) (next d) c.loop-part.part-items i (omega arith))

pub returns : goal.returns
returns c =
    let l : length c.args.v ≡ 4 = search rules in
    let i = c.loop-part.part-index in
    let all : c.loop-part.part-items ≡ map (λ x. quot_z x c.args.g) c.args.v =
    c.loop-part.invariant ∙ ap (λ (g : ℤ). map (λ x. quot_z x g) (take i c.args.v) ++ drop i c.args.v) (divisor (goal.at.returns c).Start)
    ∙ ap₂ (λ (u w : List ℤ). map (λ x. quot_z x c.args.g) u ++ w) (take_all i c.args.v (omega arith)) (drop_all i c.args.v (omega arith)) ∙ append-nil (map (λ x. quot_z x c.args.g) c.args.v) in
    rw all (divided-within 16 c.args.v c.args.g c.requires.0, divided-times c.args.v c.args.g c.requires.1 (subst (λ n. Serves c.args.v c.args.g (pos 1) n) (sym l) c.requires.3))
