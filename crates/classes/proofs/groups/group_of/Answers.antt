-- `group_of` meets its contract. Assumes nothing.
use mathlib.Core.Path.{◌≡◌, refl, sym, ◌∙◌, ap, ap₂, subst}
use mathlib.Core.List.{List, map}
use native.Mathlib.Omega.{arith}
use Prim.Native.Nat.{ℕ}
use lib.ListN.{get_or}
use lib.IntN.{ℤ, pos}
use mir.Syntax.{w64}
use mir.Val.{to_z, of_z}
use Rattle.integers.specs.Vector.{AllWithin}
use Rattle.grouping.specs.Basis.{pick, vector_of}
use mir.Facts.{to_z_pos}
use native.Mathlib.Nat.{le_trans}
use Rattle.integers.proofs.Bounds.{told, back}
use Rattle.integers.specs.Division as Div
use Rattle.integers.proofs.Division as Divided
use Rattle.integers.proofs.Linear.{ints}
use Rattle.grouping.specs.Projection.{projection}
use Rattle.grouping.specs.Grouping.{is_combination, coefficients}
use Rattle.classes.proofs.ClassFacts.{one_class}
use Rattle.integers.proofs.Vector.{all-minus, get_or-within}
use Rattle.classes.proofs.GroupFours.{grouped}
use Rattle.classes.proofs.groups.group_of.Goals as goal
use Rattle.classes.proofs.groups.group_of.Goals.{Start}

r_is : (d : Start) → to_z w64 d.args.f.r ≡ pos d.args.f.r
r_is d = let k = d.args.f.size in to_z_pos w64 (omega (arith, k.1))

pub coordinates_of-requires-clause-all_within : goal.coordinates_of-requires-clause-all_within
coordinates_of-requires-clause-all_within c = subst (AllWithin 2000) (sym c.difference-e.ensures) (all-minus 1000 1000 c.args.j c.args.k c.requires.all_within.0 c.requires.all_within.1)

pub coordinates_of-requires-clause-e_value : goal.coordinates_of-requires-clause-e_value
coordinates_of-requires-clause-e_value c =
    let f = c.args.f.basis in
    ap (λ (v : List ℤ). is_combination (map (projection f.p) (pick f.count (vector_of f 0) (vector_of f 1) (vector_of f 2))) (projection f.p v)) c.difference-e.ensures
    ∙ one_class f.p (vector_of f 0) (vector_of f 1) (vector_of f 2) f.count c.args.j c.args.k c.args.f.basis.framed.lengths.0 (omega arith) (omega arith) ∙ c.requires.one_class

pub returns : goal.returns
returns c =
    let g = c.coordinates_of in
    let o = c.floor_div-q in
    let f = c.args.f.basis in
    let k = c.args.f.size in
    let b = g.ensures.all_within_2 in
    let along : ℕ → ℤ = λ i. get_or g.result i (pos 0) in
    let w1 : to_z w64 (of_z w64 (along 0)) ≡ (along 0) = back (along 0) (get_or-within 1000000000 g.result 0 b) (omega arith) in
    let w2 : to_z w64 (of_z w64 (along 1)) ≡ (along 1) = back (along 1) (get_or-within 1000000000 g.result 1 b) (omega arith) in
    let w3 : to_z w64 (of_z w64 (along 2)) ≡ (along 2) = back (along 2) (get_or-within 1000000000 g.result 2 b) (omega arith) in
    let wc : to_z w64 c.args.class ≡ pos c.args.class = to_z_pos w64 (omega (arith, c.requires.class_low)) in
    let q : to_z w64 (of_z w64 o.result) ≡ Div.floor_div (along 0) (pos c.args.f.r) = told o.result o.type_inv ∙ o.ensures ∙ ap₂ Div.floor_div w1 (r_is (goal.at.returns c).Start) in
    rw (wc, q, w2, w3) (record {
      grouped_as = grouped f.p (vector_of f 0) (vector_of f 1) (vector_of f 2) f.count c.args.f.r c.args.class c.args.j c.args.k (along 0) (along 1) (along 2) _ c.args.f.basis.framed.lengths.0 (omega arith) (omega arith)
          (g.ensures.along ∙ ap (λ (v : List ℤ). coefficients (map (projection f.p) (pick f.count (vector_of f 0) (vector_of f 1) (vector_of f 2))) (projection f.p v)) c.difference-e.ensures) g.ensures.fill refl;
      all_within_2 = (omega (arith, c.requires.class_low), (le_trans (Divided.floor_div-size (along 0) (pos c.args.f.r) (omega (ints, k.0))) (get_or-within 1000000000 g.result 0 b), (get_or-within 1000000000 g.result 1 b, (get_or-within 1000000000 g.result 2 b, tt))));
    })
