-- `next_product` meets its contract. Assumes nothing.
use Rattle.std.proofs.Common.{◌≡◌, ◌∙◌, ◌-◌, ◌≤◌, ◌<◌, ℕ, ℤ, [], ◌∷◌, pos, nat_abs, ◌+ℤ◌, ◌-ℤ◌, length, get_or, sym, ap, ap₂, subst, arith, of_z, w64}
use lib.Dec.{lit≤}
use mir.Facts.{sfits_lit}
use Rattle.integers.proofs.Bounds.{back}
use Rattle.integers.proofs.Tests.{same}
use Rattle.sources.specs.Keys.{max_key}
use Rattle.integers.proofs.Machine.{reads, fits, read}
use Rattle.integers.proofs.Solver.{var, ◌⊕◌, ◌⊖◌}
use Rattle.integers.proofs.Vector.{get_or-within}
use Rattle.nest.specs.Nest.{max_component}
use Rattle.partition.specs.KeySteps.{max_product}
use Rattle.partition.proofs.Products.{product_small, product_next}
use Rattle.partition.proofs.schedule.TimedPoints.next_product.Goals as goal
use Rattle.partition.proofs.schedule.TimedPoints.next_product.Goals.{Start}

abbrev last : Start → ℤ
last d = get_or d.args.self.now.time.now (length d.args.self.now.time.now - 1) (pos 0)

abbrev key_at : Start → ℕ → ℤ
key_at d k = get_or d.args.self.now.keys.now k (pos 0)

-- the two numbers that are added are small
before_small : (d : Start) → nat_abs d.args.before ≤ max_product
before_small d =
    let s = d.args.self.now in
    subst (λ (z : ℤ). nat_abs z ≤ max_product) (sym d.requires.1) (product_small s.time.now s.keys.now s.timed (d.args.k - 1) (let h = d.requires.0 in omega arith))

last_small : (d : Start) → nat_abs (last d) ≤ max_component
last_small d = get_or-within max_component d.args.self.now.time.now (length d.args.self.now.time.now - 1) d.args.self.now.timed.time_small

pub overflow_add-result : goal.overflow_add-result
overflow_add-result c = let d = (goal.at.overflow_add-result c).Start in fits (d.args.before ∷ last d ∷ []) (max_product ∷ max_component ∷ []) (var 0 ⊕ var 1) (before_small d, (last_small d, tt)) tt

-- keys that are one apart, as the machine tests it
apart : (d : Start) → 0 < d.args.k → of_z w64 (reads (key_at d d.args.k) -ℤ reads (key_at d (d.args.k - 1))) ≡ 1 → key_at d d.args.k -ℤ key_at d (d.args.k - 1) ≡ pos 1
apart d some e =
    let a = key_at d d.args.k in
    let b = key_at d (d.args.k - 1) in
    let T = d.args.self.now.timed in
    let h = T.keys_small d.args.k d.requires.0 in
    let i = T.keys_small (d.args.k - 1) (let q = d.requires.0 in omega arith) in
    sym (ap₂ (λ (x y : ℤ). x -ℤ y) (back a h (lit≤ tt)) (back b i (lit≤ tt)))
    ∙ same (fits (a ∷ b ∷ []) (max_key ∷ max_key ∷ []) (var 0 ⊖ var 1) (h, (i, tt)) tt) (sfits_lit {w = w64} {z = pos 1} tt) e

pub returns-then-self-k-eq1 : goal.returns-then-self-k-eq1
returns-then-self-k-eq1 c =
    let d = (goal.at.returns-then-self-k-eq1 c).Start in
    let s = c.args.self.now in
    read (d.args.before ∷ last d ∷ []) (max_product ∷ max_component ∷ []) (var 0 ⊕ var 1) (before_small d, (last_small d, tt)) tt ∙ ap (λ (z : ℤ). z +ℤ last d) c.requires.1
    ∙ sym (product_next s.time.now s.keys.now s.timed (c.args.k - 1) c.args.k (omega arith) c.requires.0 (apart d c.if-k-gt0.true c.if-self-k-eq1.true))
