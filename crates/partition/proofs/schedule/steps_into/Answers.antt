-- `steps_into` meets its contract. Assumes nothing.
use Rattle.std.proofs.Common.{◌≡◌, ◌∙◌, ◌+◌, ◌-◌, ◌*◌, ◌≤◌, ◌<◌, ◌++◌, ℕ, ℤ, List, nat_abs, length, get_or, map, take, drop, sym, ap, ap₂, subst, subst₂, arith, rules}
use Rattle.std.proofs.lemmas.List.{length-take-le}
use Rattle.integers.proofs.Bounds.{told}
use Rattle.integers.proofs.Machine.{reads}
use Rattle.integers.specs.Extremes.{least_z}
use Rattle.integers.specs.Lists.{greatest}
use Rattle.nest.specs.Nest.{max_depth}
use Rattle.nest.specs.Points.{points_of}
use Rattle.nest.proofs.Accepted.{depth_is}
use Rattle.nest.proofs.PointLaws.{some-points}
use Rattle.sources.proofs.Arrays.{keys_length}
use Rattle.partition.specs.KeySteps.{max_product, raised, Counted, standing, ordinals}
use Rattle.partition.specs.Partition.{elapsed_of, steps_of}
use Rattle.partition.proofs.Products.{front_timed, products-front, products, least-small, raised-few, elapsed_are, elapsed-counted, range_most, number_made, steps-made}
use Rattle.partition.proofs.schedule.steps_into.Goals as goal
use Rattle.partition.proofs.schedule.steps_into.Goals.{After-depth, After-elapsed_from-range, After-products_into-least, After-raised, Start}

-- there is a key for each iteration
keys-many : (d : Start) → length d.args.s.now.keys.now ≡ length (points_of d.args.s.now.nest.now.nest)
keys-many d = ap (λ (l : List ℤ). length l) d.args.s.now.keyed ∙ keys_length d.args.s.now.nest.now.nest

room : (d : Start) → length d.args.s.now.keys.now ≤ length d.args.steps.now
room d = omega (arith, keys-many d, d.requires)

-- so many entries are written
front : (d : Start) → length (take (length d.args.s.now.keys.now) d.args.steps.now) ≡ length d.args.s.now.keys.now
front d = length-take-le (length d.args.s.now.keys.now) d.args.steps.now (room d)

-- the array of the time vector has a place for each loop
few : (c : After-depth) → c.depth.result ≤ 4
few c = omega (arith, c.depth.ensures, (depth_is c.args.s.now.nest.now.nest c.args.s.now.nest.now.accepted).1)

fits : (c : After-depth) → c.depth.result ≤ length c.args.s.now.nest.now.nest.time
fits c = let l : length c.args.s.now.nest.now.nest.time ≡ max_depth = search rules in omega (arith, few c, l)

pub slice_bounds-points-end : goal.slice_bounds-points-end
slice_bounds-points-end c = sym (length-take-le c.depth.result c.args.s.now.nest.now.nest.time (fits (goal.at.slice_bounds-points-end c).After-depth))

pub slice_bounds-table-end : goal.slice_bounds-table-end
slice_bounds-table-end c = room (goal.at.slice_bounds-table-end c).Start

pub slice_bounds-table-end-2 : goal.slice_bounds-table-end-2
slice_bounds-table-end-2 c = sym (front (goal.at.slice_bounds-table-end-2 c).Start)

pub invariant_of-points : goal.invariant_of-points
invariant_of-points c =
    let s = c.args.s.now.nest.now.nest in
    record { timed = front_timed s c.args.s.now.nest.now.accepted c.depth.result c.args.s.now.keys.now c.depth.ensures (fits (goal.at.invariant_of-points c).After-depth) c.args.s.now.keyed }

pub products_into-least-requires : goal.products_into-least-requires
products_into-least-requires c =
    let d = (goal.at.products_into-least-requires c).Start in
    (omega (arith, keys-many d, some-points c.args.s.now.nest.now.nest c.args.s.now.nest.now.accepted), front d)

-- each P·j, raised, and the least
all-products : (c : After-products_into-least) → c.products_into-least.new.steps ≡ map raised (products c.args.s.now.nest.now.nest c.args.s.now.nest.now.accepted)
all-products c =
    let s = c.args.s.now.nest.now.nest in
    c.products_into-least.ensures.steps_after
    ∙ ap (map raised) (products-front s c.args.s.now.nest.now.accepted c.depth.result c.args.s.now.keys.now c.depth.ensures (fits (goal.at.After-products_into-least c).After-depth) c.args.s.now.keyed _ (front (goal.at.After-products_into-least c).Start))

least : (c : After-products_into-least) → reads c.products_into-least.result ≡ least_z (products c.args.s.now.nest.now.nest c.args.s.now.nest.now.accepted)
least c =
    let s = c.args.s.now.nest.now.nest in
    told c.products_into-least.result c.products_into-least.type_inv ∙ c.products_into-least.ensures.value
    ∙ ap least_z (products-front s c.args.s.now.nest.now.accepted c.depth.result c.args.s.now.keys.now c.depth.ensures (fits (goal.at.After-products_into-least c).After-depth) c.args.s.now.keyed _ (front (goal.at.After-products_into-least c).Start))

pub raised-requires : goal.raised-requires
raised-requires c =
    subst (λ (z : ℤ). nat_abs z ≤ max_product) (sym (least (goal.at.raised-requires c).After-products_into-least)) (least-small c.args.s.now.nest.now.nest c.args.s.now.nest.now.accepted)

least_raised : (c : After-raised) → c.raised.result ≡ raised (least_z (products c.args.s.now.nest.now.nest c.args.s.now.nest.now.accepted))
least_raised c = c.raised.ensures ∙ ap raised (least (goal.at.After-raised c).After-products_into-least)

pub elapsed_from-range-requires : goal.elapsed_from-range-requires
elapsed_from-range-requires c =
    subst₂ (λ (t : List ℕ) (x : ℕ). (k : ℕ) → k < length t → (x ≤ get_or t k 0) × (get_or t k 0 ≤ 2 * max_product)) (sym (all-products (goal.at.elapsed_from-range-requires c).After-products_into-least)) (sym (least_raised c))
    (raised-few c.args.s.now.nest.now.nest c.args.s.now.nest.now.accepted)

-- each less the least, and how many values there are
all-elapsed : (c : After-elapsed_from-range) → map (λ x. x - c.raised.result) c.products_into-least.new.steps ≡ elapsed_of c.args.s.now.nest.now.nest
all-elapsed c =
    ap₂ (λ (t : List ℕ) (y : ℕ). map (λ x. x - y) t) (all-products (goal.at.After-elapsed_from-range c).After-products_into-least) (least_raised (goal.at.After-elapsed_from-range c).After-raised)
    ∙ elapsed_are c.args.s.now.nest.now.nest c.args.s.now.nest.now.accepted

table_is : (c : After-elapsed_from-range) → c.elapsed_from-range.new.steps ≡ elapsed_of c.args.s.now.nest.now.nest
table_is c = c.elapsed_from-range.ensures.steps_after ∙ all-elapsed c

range_is : (c : After-elapsed_from-range) → c.elapsed_from-range.result ≡ greatest (elapsed_of c.args.s.now.nest.now.nest) + 1
range_is c = c.elapsed_from-range.ensures.value ∙ ap (λ (t : List ℕ). greatest t + 1) (all-elapsed c)

pub ordinals_into-requires : goal.ordinals_into-requires
ordinals_into-requires c =
    let d = (goal.at.ordinals_into-requires c).After-elapsed_from-range in
    let s = c.args.s.now.nest.now.nest in
    let r = c.elapsed_from-range.result in
    (subst (λ (t : List ℕ). Counted t r) (sym (table_is d)) (elapsed-counted s c.args.s.now.nest.now.accepted r (range_is d)), range_most s c.args.s.now.nest.now.accepted r (range_is d))

pub returns-clause-value : goal.returns-clause-value
returns-clause-value c =
    let d = (goal.at.returns-clause-value c).After-elapsed_from-range in
    let r = c.elapsed_from-range.result in
    c.ordinals_into.ensures.value ∙ ap (λ (t : List ℕ). standing t r) (table_is d) ∙ number_made c.args.s.now.nest.now.nest c.args.s.now.nest.now.accepted r (range_is d)

pub returns-clause-steps_after : goal.returns-clause-steps_after
returns-clause-steps_after c =
    let s = c.args.s.now.nest.now.nest in
    let made : c.ordinals_into.new.numbers ≡ steps_of s = c.ordinals_into.ensures.numbers_after ∙ ap ordinals (table_is (goal.at.returns-clause-steps_after c).After-elapsed_from-range) ∙ steps-made s c.args.s.now.nest.now.accepted in
    ap₂ (λ (t : List ℕ) (n : ℕ). t ++ drop n c.args.steps.now) made (keys-many (goal.at.returns-clause-steps_after c).Start)
