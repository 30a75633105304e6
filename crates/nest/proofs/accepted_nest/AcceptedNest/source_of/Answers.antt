-- `source_of` meets its contract. Assumes nothing.
use mathlib.Core.Path.{◌≡◌, refl, sym, ◌∙◌, ap, ap₂}
use mathlib.Core.Bool.{true}
use mathlib.Core.List.{List}
use Prim.Native.Nat.{ℕ, ◌+◌, ◌*◌, ◌<◌, ◌≤◌}
use native.Mathlib.Nat.{zero-add}
use native.Mathlib.Omega.{arith}
use lib.IntN.{ℤ, pos, nat_abs}
use lib.ListN.{length, get_or, take}
use Rattle.std.proofs.lemmas.List.{length-take-le}
use borrow.Author.Rules.{rules}
use Rattle.integers.specs.Vector.{Vector}
use Rattle.nest.specs.declared.LoopNest.{LoopNest}
use Rattle.nest.specs.Nest.{part, padded, depth_of, count_of, dependence_at, max_depth, max_dependences, max_limit, max_component}
use Rattle.nest.specs.Points.{points_of, is_point, source}
use Rattle.nest.specs.Refusals.{refusal, dependence}
use Rattle.nest.proofs.Accepted.{depth_is, count_is, component-size}
use Rattle.nest.proofs.Slices.{part-first}
use Rattle.nest.proofs.Sources.{index-size}
use Rattle.nest.proofs.Words.{dependence-at, part_length, part_at}
use Rattle.nest.proofs.accepted_nest.AcceptedNest.source_of.Goals as goal

-- the depth as a size, of an accepted nest
module _ (s : LoopNest) (ok : refusal s ≡ 0) (n : ℕ) (depth : n ≡ depth_of s) where
  few : n ≤ max_depth
  few = rw depth (depth_is s ok).1

  -- the slice of a point
  point_is : (point : List ℤ) → length point ≡ max_depth → take n point ≡ part point 0 n
  point_is point l = let h = few in part-first point n (omega arith)

  -- what is asked of point and dependence
  lengths : (point : List ℤ) (i : ℕ) (d : Vector) → length point ≡ max_depth → d ≡ dependence_at s.dependences n i → (length (take n point) ≤ max_depth) × (length d ≡ length (take n point))
  lengths point i d l q = rw (q, point_is point l, part_length point 0 n, part_length s.dependences (i * max_depth) n) (few, refl)

  sizes : (point : List ℤ) (i : ℕ) (d : Vector) → length point ≡ max_depth → d ≡ dependence_at s.dependences n i
      → is_point (points_of s) (part point 0 (depth_of s)) ≡ true → i < count_of s → (k : ℕ) → k < length (take n point)
      → (nat_abs (get_or (take n point) k (pos 0)) ≤ max_limit) × (nat_abs (get_or d k (pos 0)) ≤ max_component)
  sizes point i d l q there m k h =
      let b : k < n = omega (arith, h, ap length (point_is point l) ∙ part_length point 0 n) in
      let g : k < depth_of s = omega (arith, b, depth) in
      let x : get_or (take n point) k (pos 0) ≡ get_or point k (pos 0) =
      ap (λ (v : Vector). get_or v k (pos 0)) (point_is point l) ∙ part_at point 0 n k b ∙ ap (λ j. get_or point j (pos 0)) (zero-add k) in
      let y : get_or d k (pos 0) ≡ get_or s.dependences (i * max_depth + k) (pos 0) = ap (λ (v : Vector). get_or v k (pos 0)) q ∙ part_at s.dependences (i * max_depth) n k b in
      (rw x (index-size s ok point there k g), rw y (component-size s ok i k m g))

  -- and what is had
  result : (point : List ℤ) (i : ℕ) (d : Vector) → length point ≡ max_depth → d ≡ dependence_at s.dependences n i → i < count_of s
      → padded max_depth (source (take n point) d) ≡ padded max_depth (source (part point 0 (depth_of s)) (dependence s i))
  result point i d l q m =
      ap₂ (λ (v w : Vector). padded max_depth (source v w)) (point_is point l ∙ ap (part point 0) depth)
      (q ∙ ap (λ j. dependence_at s.dependences j i) depth ∙ sym (dependence-at s i m))

pub slice_bounds-point-end : goal.slice_bounds-point-end
slice_bounds-point-end c =
    let h = few c.args.self.now.nest c.args.self.now.accepted c.depth-n.result c.depth-n.ensures in
    let long : length c.args.point ≡ max_depth = search rules in
    omega arith

pub slice_bounds-difference-end : goal.slice_bounds-difference-end
slice_bounds-difference-end c =
    let h = few c.args.self.now.nest c.args.self.now.accepted c.depth-n.result c.depth-n.ensures in
    let long : length c.args.point ≡ max_depth = search rules in
    sym (length-take-le c.depth-n.result c.args.point (omega arith))

pub dependence_at-requires : goal.dependence_at-requires
dependence_at-requires c =
    let h = few c.args.self.now.nest c.args.self.now.accepted c.depth-n.result c.depth-n.ensures in
    let m = (count_is c.args.self.now.nest c.args.self.now.accepted).1 in
    let l : length c.args.self.now.nest.dependences ≡ max_depth * max_dependences = search rules in
    omega (arith, h, m, l, c.requires.1)

pub difference-requires-clause-lengths : goal.difference-requires-clause-lengths
difference-requires-clause-lengths c =
    lengths c.args.self.now.nest c.args.self.now.accepted c.depth-n.result c.depth-n.ensures c.args.point c.args.i c.dependence_at.result.now (search rules) c.dependence_at.ensures

pub difference-requires-clause-by_index : goal.difference-requires-clause-by_index
difference-requires-clause-by_index c =
    sizes c.args.self.now.nest c.args.self.now.accepted c.depth-n.result c.depth-n.ensures c.args.point c.args.i c.dependence_at.result.now (search rules) c.dependence_at.ensures c.requires.0 c.requires.1

pub returns : goal.returns
returns c =
    c.difference.ensures
    ∙ result c.args.self.now.nest c.args.self.now.accepted c.depth-n.result c.depth-n.ensures c.args.point c.args.i c.dependence_at.result.now (search rules) c.dependence_at.ensures c.requires.1
