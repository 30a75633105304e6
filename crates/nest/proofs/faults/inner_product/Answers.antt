-- `inner_product` meets its contract. Assumes nothing.
use mathlib.Core.Path.{◌≡◌, refl, sym, ◌∙◌, ap, ap₂}
use mathlib.Core.List.{List, [], ◌∷◌}
use Prim.Native.Nat.{ℕ, ◌*◌, ◌<◌}
use native.Mathlib.Nat.{zero-add}
use native.Mathlib.Omega.{arith}
use lib.IntN.{ℤ, pos, ◌+ℤ◌, ◌*ℤ◌}
use lib.ListN.{length, get_or}
use borrow.Author.Rules.{rules}
use mir.Syntax.{w64}
use mir.Val.{to_z}
use Rattle.integers.specs.Lists.{tab}
use Rattle.integers.proofs.Machine.{reads, Given, fits_g, read_g}
use Rattle.integers.proofs.Solver.{var, ◌⊕◌, ◌⊗◌}
use Rattle.integers.specs.Vector.{dots}
use Rattle.nest.specs.Nest.{part, max_depth, max_limit, max_component}
use Rattle.nest.proofs.Padding.{part-whole}
use Rattle.nest.proofs.Vectors.{product-more, product-size}
use Rattle.nest.proofs.faults.inner_product.Goals as goal
use Rattle.nest.proofs.faults.inner_product.Goals.{In-loop-k}

-- the components that the turn takes
abbrev P : In-loop-k → ℤ
P c = get_or c.args.time.now c.loop-k.k (pos 0)

abbrev x : In-loop-k → ℤ
x c = get_or c.args.xs.now c.loop-k.k (pos 0)

-- the numbers that the machine reads, those that they stand for, and their sizes
abbrev μ : In-loop-k → List ℤ
μ c = to_z w64 c.loop-k.sum-bits ∷ reads (P c) ∷ reads (x c) ∷ []

abbrev ρ : In-loop-k → List ℤ
ρ c = dots (part c.args.time.now 0 c.loop-k.k) (part c.args.xs.now 0 c.loop-k.k) ∷ P c ∷ x c ∷ []

abbrev β : List ℕ
β = max_depth * (max_component * max_limit) ∷ max_component ∷ max_limit ∷ []

given : (c : In-loop-k) → Given (μ c) (ρ c) β
given c =
    let a = c.args in
    let k = c.loop-k.k in
    let n = c.requires.lengths in
    let below : k < length a.xs.now = omega (arith, n.0, c.loop-k-test.true) in
    let h = c.requires.by_index k below in
    let p : reads (P c) ≡ P c = search rules in
    let q : reads (x c) ≡ x c = search rules in (
      (c.loop-k.invariant, product-size a.time.now a.xs.now 0 (length a.xs.now) k (λ i l. rw zero-add (c.requires.by_index i l)) (omega (arith, below)) n.1),
      ((p, h.0), ((q, h.1), tt)),
    )

pub loop-k-init : goal.loop-k-init
unfolding dots part tab
loop-k-init c = refl

pub overflow_mul-sum : goal.overflow_mul-sum
overflow_mul-sum c = fits_g (μ (goal.at.overflow_mul-sum c).In-loop-k) (ρ (goal.at.overflow_mul-sum c).In-loop-k) β (var 1 ⊗ var 2) (given (goal.at.overflow_mul-sum c).In-loop-k) tt

pub overflow_add-sum : goal.overflow_add-sum
overflow_add-sum c = fits_g (μ (goal.at.overflow_add-sum c).In-loop-k) (ρ (goal.at.overflow_add-sum c).In-loop-k) β (var 0 ⊕ var 1 ⊗ var 2) (given (goal.at.overflow_add-sum c).In-loop-k) tt

pub loop-k-preserved : goal.loop-k-preserved
loop-k-preserved c =
    let t = (goal.at.loop-k-preserved c).In-loop-k in
    let a = c.args in
    let k = c.loop-k.k in
    read_g (μ t) (ρ t) β (var 0 ⊕ var 1 ⊗ var 2) (given t) tt
    ∙ sym (product-more a.time.now a.xs.now 0 k ∙ ap (λ i. dots (part a.time.now 0 k) (part a.xs.now 0 k) +ℤ get_or a.time.now k (pos 0) *ℤ get_or a.xs.now i (pos 0)) (zero-add k))

pub returns : goal.returns
returns c =
    let a = c.args in
    let k = c.loop-k.k in
    let k_is : k ≡ length a.time.now = omega (arith, c.loop-k.auto.k-end, c.loop-k-test.false) in
    let k-is : k ≡ length a.xs.now = k_is ∙ c.requires.lengths.0 in
    c.loop-k.invariant ∙ ap₂ dots (part-whole k a.time.now (sym k_is)) (part-whole k a.xs.now (sym k-is))
