-- `products_into` meets its contract. Assumes nothing.
use Rattle.std.proofs.Common.{◌≡◌, ◌∙◌, ◌≤◌, ℕ, ℤ, nat_abs, sym, subst, arith, to_z, w64}
use Rattle.integers.proofs.Bounds.{told}
use Rattle.integers.proofs.Extremes.{min_is}
use Rattle.integers.proofs.Machine.{reads}
use Rattle.partition.specs.KeySteps.{product_at, max_product}
use Rattle.partition.proofs.Products.{product_small}
use Rattle.partition.proofs.StepLaws.{measured_start, measured_more, measured_end}
use Rattle.partition.proofs.schedule.TimedPoints.products_into.Goals as goal
use Rattle.partition.proofs.schedule.TimedPoints.products_into.Goals.{After-next_product-product, Start}

-- P·j of iteration k
abbrev f : Start → ℕ → ℤ
f d = product_at d.args.self.now.time.now d.args.self.now.keys.now

-- the next
next_is : (c : After-next_product-product) → reads c.next_product-product.result ≡ f (goal.at.After-next_product-product c).Start c.loop-k.k
next_is c = told c.next_product-product.result c.next_product-product.type_inv ∙ c.next_product-product.ensures

pub loop-k-init : goal.loop-k-init
loop-k-init c = measured_start (f (goal.at.loop-k-init c).Start) c.args.steps.now (reads c.product_at-product.result) (told c.product_at-product.result c.product_at-product.type_inv ∙ c.product_at-product.ensures)

pub raised-requires : goal.raised-requires
raised-requires c =
    let s = c.args.self.now in
    subst (λ (z : ℤ). nat_abs z ≤ max_product) (sym (next_is c)) (product_small s.time.now s.keys.now s.timed c.loop-k.k (omega (arith, c.requires.1)))

pub loop-k-preserved : goal.loop-k-preserved
loop-k-preserved c =
    let l = c.loop-k in
    measured_more (f (goal.at.loop-k-preserved c).Start) c.args.steps.now l.steps (to_z w64 l.product-bits) (to_z w64 l.least-bits) (reads c.next_product-product.result) (reads c.min-least.result) c.raised.result l.k l.invariant
    (omega arith) (next_is (goal.at.loop-k-preserved c).After-next_product-product) c.raised.ensures (told c.min-least.result c.min-least.type_inv ∙ c.min-least.ensures.value ∙ min_is (to_z w64 l.least-bits) (reads c.next_product-product.result))

pub returns-clause-steps_after : goal.returns-clause-steps_after
returns-clause-steps_after c =
    let l = c.loop-k in
    (measured_end (f (goal.at.returns-clause-steps_after c).Start) c.args.steps.now l.steps (to_z w64 l.product-bits) (to_z w64 l.least-bits) l.k l.invariant (omega arith) (omega (arith, c.requires.0, c.requires.1))).1
