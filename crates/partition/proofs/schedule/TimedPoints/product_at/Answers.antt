-- `product_at` meets its contract. Assumes nothing.
use Rattle.std.proofs.Common.{◌≡◌, ◌∙◌, ℕ, ℤ, pos, length, get_or, take, ap, arith}
use lib.Dec.{lit≤}
use Rattle.integers.proofs.Bounds.{told, back}
use Rattle.integers.specs.Vector.{dots}
use Rattle.integers.proofs.Vector.{get_or-within}
use Rattle.nest.specs.Nest.{padded, max_depth, max_limit, max_component}
use Rattle.nest.proofs.Slices.{part-first}
use Rattle.nest.proofs.Padding.{length-padded, part-padded}
use Rattle.sources.specs.Keys.{digits}
use Rattle.sources.proofs.Digits.{length_digits}
use Rattle.partition.proofs.schedule.TimedPoints.product_at.Goals as goal
use Rattle.partition.proofs.schedule.TimedPoints.product_at.Goals.{After-vector_at-point}

abbrev key : After-vector_at-point → ℤ
key c = get_or c.args.self.now.keys.now c.args.k (pos 0)

abbrev n : After-vector_at-point → ℕ
n c = length c.args.self.now.time.now

-- the index point, with zeros behind
point-is : (c : After-vector_at-point) → c.vector_at-point.result ≡ padded max_depth (digits (n c) (key c))
point-is c = c.vector_at-point.ensures ∙ ap (λ (z : ℤ). padded max_depth (digits (n c) z)) (back (key c) (c.args.self.now.timed.keys_small c.args.k c.requires) (lit≤ tt))

-- the slice of as many indices
slice_is : (c : After-vector_at-point) → take (n c) c.vector_at-point.result ≡ digits (n c) (key c)
slice_is c =
    let v = digits (n c) (key c) in
    let l = length_digits (n c) (key c) in
    ap (take (n c)) (point-is c) ∙ part-first (padded max_depth v) (n c) (omega (arith, c.args.self.now.timed.few_loops, length-padded max_depth v (omega (arith, l, c.args.self.now.timed.few_loops)))) ∙ part-padded max_depth (n c) v l

pub inner_product-requires-clause-by_index : goal.inner_product-requires-clause-by_index
inner_product-requires-clause-by_index c =
    let d = (goal.at.inner_product-requires-clause-by_index c).After-vector_at-point in
    let T = c.args.self.now.timed in
    rw (slice_is d) (λ i l. (get_or-within max_component c.args.self.now.time.now i T.time_small, get_or-within max_limit (digits (n d) (key d)) i (T.points_small c.args.k c.requires)))

pub returns : goal.returns
returns c =
    told c.inner_product.result c.inner_product.type_inv ∙ c.inner_product.ensures ∙ ap (dots c.args.self.now.time.now) (slice_is (goal.at.returns c).After-vector_at-point)
