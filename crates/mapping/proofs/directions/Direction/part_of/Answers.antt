-- `part_of` meets its contract: the value is in the width, so the product is small; without a bit the part is 0. Assumes nothing.
use borrow.Author.Rules.{rules}
use mathlib.Core.Path.{◌≡◌, ap, sym, subst, ◌∙◌}
use Prim.Native.Nat.{◌+◌, ◌*◌, ◌/◌, ◌^◌, ◌<◌, ◌≤◌}
use native.Mathlib.Omega.{arith}
use lib.IntN.{◌-ℤ◌}
use Rattle.nest.specs.Nest.{to_ℕ}
use Rattle.mapping.specs.Mapping.{part_of}
use Rattle.mapping.specs.Held.{direction_of}
use Rattle.mapping.specs.GroupNumbers.{max_number}
use Rattle.mapping.proofs.Codes.{part-below}
use Rattle.mapping.proofs.Small.{small, shifted, above, above_most}
use Rattle.mapping.proofs.directions.Direction.part_of.Goals as goal

-- a direction without a bit has one part
pub returns-then-self-eq0 : goal.returns-then-self-eq0
returns-then-self-eq0 c =
    let d = direction_of c.args.self in
    let no_bit : c.args.self.bits ≡ 0 = search rules in
    let one : part_of d c.args.value < 2 ^ 0 = subst (λ e. part_of d c.args.value < 2 ^ e) no_bit (part-below d c.args.value c.requires.in_width.1) in
    let none : part_of d c.args.value ≡ 0 = omega (arith, one) in
    sym none

pub returns : goal.returns
unfolding part_of
returns c =
    let d = c.args.self in
    let v = c.args.value in
    let order = c.requires.in_width.0 in
    let h : c.abs_diff.result ≡ to_ℕ (v -ℤ d.least) = c.abs_diff.ensures ∙ rw (small v c.requires.value_small, small d.least c.requires.least_small) (above v d.least order) in
    let most : c.abs_diff.result ≤ max_number + max_number = omega (arith, h, above_most v d.least c.requires.value_small c.requires.least_small order) in
    ap (λ x. x / d.width) (shifted c.abs_diff.result d.bits most (omega (arith, c.requires.few_bits)) ∙ ap (λ x. x * 2 ^ d.bits) h)
