-- `vector_at` meets its contract. Assumes nothing.
use Rattle.std.proofs.Common.{◌≡◌, ◌<◌, length, refl, sym, ap, ap₂, subst, ◌∙◌, arith, ℤ, nat_abs, ◌+◌, ◌-◌, ◌≤◌, ◌++◌, drop, set, length-set, to_z, w64}
use mir.Facts.{to_z-of_z}
use Rattle.integers.proofs.Machine.{reads}
use Rattle.nest.specs.Nest.{padded, max_depth}
use Rattle.sources.specs.Keys.{max_key, digits}
use Rattle.sources.proofs.Digits.{above-small, digits-none, digits_more, digits-all}
use Rattle.sources.proofs.Steps.{LastDigit, last_digit}
use Rattle.sources.proofs.vector_at.Goals as goal
use Rattle.sources.proofs.vector_at.Goals.{After-above_digit-above}

pub loop-k-init : goal.loop-k-init
loop-k-init c = record { within = omega arith; places = refl; small = rw (to_z-of_z c.ranges.key) c.requires.0; digits_behind = digits-none c.args.n (reads c.args.key) c.requires.1 }

last : (c : After-above_digit-above) → LastDigit (to_z w64 c.loop-k.rest-bits) c.above_digit-above.result
last c = last_digit (to_z w64 c.loop-k.rest-bits) c.above_digit-above.result c.loop-k.invariant.small c.above_digit-above.ensures

pub overflow_mul-v : goal.overflow_mul-v
overflow_mul-v c = (last (goal.at.overflow_mul-v c).After-above_digit-above).product

pub overflow_sub-v : goal.overflow_sub-v
overflow_sub-v c = (last (goal.at.overflow_sub-v c).After-above_digit-above).difference

pub loop-k-preserved : goal.loop-k-preserved
loop-k-preserved c =
    let l = c.loop-k in
    let k = l.k - 1 in
    let h = last (goal.at.loop-k-preserved c).After-above_digit-above in
    let few : k < length l.v = omega (arith, l.invariant.places, l.invariant.within, c.loop-k-test.true, c.requires.1) in
    let one : k + 1 ≡ l.k = omega (arith, c.loop-k-test.true) in record {
      within = omega (arith, l.invariant.within);
      places = length-set l.v k _ ∙ l.invariant.places;
      small = subst (λ (z : ℤ). nat_abs z ≤ max_key) (sym h.read_above) (above-small (to_z w64 l.rest-bits) l.invariant.small);
      digits_behind =
          ap₂ (λ (a x : ℤ). digits k a ++ drop k (set l.v k x)) h.read_above h.is ∙ sym (digits_more k (to_z w64 l.rest-bits) l.v few)
          ∙ ap (λ i. digits i (to_z w64 l.rest-bits) ++ drop i l.v) one ∙ l.invariant.digits_behind;
    }

pub returns : goal.returns
returns c =
    let l = c.loop-k in
    let none : 0 ≡ l.k = omega (arith, c.loop-k-test.false) in
    digits-all (to_z w64 l.rest-bits) l.v ∙ ap (λ i. digits i (to_z w64 l.rest-bits) ++ drop i l.v) none ∙ l.invariant.digits_behind ∙ ap (λ (z : ℤ). padded max_depth (digits c.args.n z)) (to_z-of_z c.ranges.key)
