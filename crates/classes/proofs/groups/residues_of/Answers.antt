-- `residues_of` answers the residues of a point.
use mathlib.Core.Path.{◌≡◌, sym, ◌∙◌, ap, ap₂, subst}
use mathlib.Core.Bool.{true}
use mathlib.Core.List.{[], ◌∷◌, ◌++◌, map, append-nil}
use Prim.Native.Nat.{◌≤◌}
use native.Mathlib.Omega.{arith}
use lib.Dec.{lit≤, ltb}
use lib.ListN.{length, get_or, take, drop, set}
use mir.Syntax.{w64}
use mir.Val.{to_z}
use lib.IntN.{ℤ, pos, nat_abs}
use Rattle.std.proofs.lemmas.List.{take_all, drop_all}
use Rattle.std.proofs.lemmas.List.Edits.{map_over_more}
use Rattle.std.specs.Int.{int_rem_euclid}
use Rattle.integers.proofs.Bounds.{told, back}
use Rattle.integers.proofs.Division.{rem_euclid_is}
use Rattle.integers.proofs.ListFacts.{get_d_default}
use Rattle.integers.proofs.Machine.{reads}
use Rattle.integers.proofs.Vector.{get_or-within}
use Rattle.integers.specs.Vector.{Vector, AllWithin, dots}
use Rattle.numbering.proofs.Filled.{next_old}
use Rattle.grouping.specs.Basis.{residue_of, dual_of}
use Rattle.grouping.proofs.Four.{dot_within}
use Rattle.grouping.proofs.Located.{determinant-within, within_1, within_2, within_3, length_1, length_2, length_3}
use Rattle.classes.proofs.Residues.{all-front, residue-within, residues-divided}
use Rattle.classes.proofs.groups.residues_of.Goals as goal
use Rattle.classes.proofs.groups.residues_of.Goals.{Start, In-loop-t, After-products_of-residues}

-- the determinant, as it is read
determinant : (d : Start) → reads d.args.f.d ≡ d.args.f.d
determinant d = back d.args.f.d (determinant-within d.args.f.framed) (omega arith)

-- the products are small
product : (d : Start) (f : Vector) → length f ≡ 4 → AllWithin 30000 f → nat_abs (dots f d.args.j) ≤ 1000000000
product d f l w = omega (arith, dot_within 30000 1000 f d.args.j l (omega arith) w d.requires.all_within)

small : (c : After-products_of-residues) → AllWithin 1000000000 c.products_of-residues.result
small c =
    let d = (goal.at.After-products_of-residues c).Start in
    let F = c.args.f.framed in
    subst (AllWithin 1000000000) (sym c.products_of-residues.ensures)
    (product d (dual_of c.args.f 0) (length_1 F) (within_1 F), (product d (dual_of c.args.f 1) (length_2 F) (within_2 F), (product d (dual_of c.args.f 2) (length_3 F) (within_3 F), (lit≤ tt, tt))))

-- the next product is still the old one, so it is small
abbrev next : In-loop-t → ℤ
next d = get_or d.loop-t.t-items d.loop-t.t-index (pos 0)

next-small : (d : In-loop-t) → nat_abs (next d) ≤ 1000000000
next-small d =
    let i = d.loop-t.t-index in
    let w = small (goal.at.In-loop-t d).After-products_of-residues in
    subst (λ (z : ℤ). nat_abs z ≤ 1000000000) (sym (ap (λ (u : Vector). get_or u i (pos 0)) d.loop-t.invariant ∙ next_old (pos 0) (λ t. residue_of true t d.args.f.d) _ i d.loop-t-test.true))
    (get_or-within 1000000000 _ i (search (all-front, w)))

next-read : (d : In-loop-t) → reads (next d) ≡ next d
next-read d = back (next d) (next-small d) (lit≤ tt)

pub rem_euclid-requires-clause-no_overflow : goal.rem_euclid-requires-clause-no_overflow
rem_euclid-requires-clause-no_overflow c _ e =
    let d = (goal.at.rem_euclid-requires-clause-no_overflow c).In-loop-t in
    let least : next d ≡ to_z w64 9223372036854775808 = sym (next-read d) ∙ ap (λ (z : ℤ). reads z) (sym (next-read d)) ∙ ap (to_z w64) e in
    let small : nat_abs (to_z w64 9223372036854775808) ≤ 1000000000 = subst (λ (z : ℤ). nat_abs z ≤ 1000000000) least (next-small d) in
    absurd (omega (arith, small))

pub loop-t-preserved : goal.loop-t-preserved
loop-t-preserved c =
    let d = (goal.at.loop-t-preserved c).In-loop-t in
    let i = c.loop-t.t-index in
    let f = c.args.f in
    let x = c.rem_euclid in
    let q : reads x.result ≡ residue_of true (next d) f.d = told x.result x.type_inv ∙ x.ensures.value ∙ ap₂ int_rem_euclid (next-read d) (determinant (goal.at.loop-t-preserved c).Start) ∙ rem_euclid_is (next d) f.d f.framed.regular in
    ap (λ (z : ℤ). set c.loop-t.t-items i z) q
    ∙ map_over_more (λ t. residue_of true t f.d) _ c.loop-t.t-items i (next d) c.loop-t-test.true c.loop-t.invariant
    (get_d_default (pos 0) (next d) c.loop-t.t-items i (omega (arith, c.loop-t-test.true, c.loop-t.auto.t-items)))

pub returns-clause-value : goal.returns-clause-value
returns-clause-value c =
    let f = c.args.f in
    let i = c.loop-t.t-index in
    let p = c.products_of-residues in
    let old = take f.count p.result in
    let all : c.loop-t.t-items ≡ map (λ t. residue_of true t f.d) old =
    c.loop-t.invariant ∙ ap₂ (λ (u w : Vector). map (λ t. residue_of true t f.d) u ++ w) (take_all i old c.loop-t-test.false) (drop_all i old c.loop-t-test.false) ∙ append-nil (map (λ t. residue_of true t f.d) old) in
    ap (λ (u : Vector). u ++ drop f.count p.result) all
    ∙ ap (λ (u : Vector). map (λ t. residue_of true t f.d) (take f.count u) ++ drop f.count u) p.ensures
    ∙ residues-divided f.count (dots (dual_of f 0) c.args.j) (dots (dual_of f 1) c.args.j) (dots (dual_of f 2) c.args.j) f.d f.framed.few

pub returns-clause-all_within_2 : goal.returns-clause-all_within_2
returns-clause-all_within_2 c =
    let f = c.args.f in
    let p = c.products_of-residues in
    let d = determinant-within f.framed in
    let w : AllWithin 1000000000 (dots (dual_of f 0) c.args.j ∷ dots (dual_of f 1) c.args.j ∷ dots (dual_of f 2) c.args.j ∷ pos 0 ∷ []) = subst (AllWithin 1000000000) p.ensures (small (goal.at.returns-clause-all_within_2 c).After-products_of-residues) in
    subst (AllWithin 1000000000) (sym (returns-clause-value c)) (
      residue-within 1000000000 (ltb 0 f.count) (dots (dual_of f 0) c.args.j) f.d f.framed.regular d w.0,
      (
        residue-within 1000000000 (ltb 1 f.count) (dots (dual_of f 1) c.args.j) f.d f.framed.regular d w.1.0,
        (residue-within 1000000000 (ltb 2 f.count) (dots (dual_of f 2) c.args.j) f.d f.framed.regular d w.1.1.0, (lit≤ tt, tt)),
      ),
    )
