-- `deal_bit` meets its contract. Assumes nothing.
use Rattle.std.proofs.Common.{◌≡◌, sym, ap, subst, ◌∙◌, arith, ◌<◌, ◌+◌, ◌≤◌, length, rules, get_or}
use Rattle.std.proofs.lemmas.List.{length-map}
use Rattle.nest.specs.Nest.{max_depth, max_cube}
use Rattle.mapping.specs.Mapping.{Direction, takes_bit, direction_at, bits_of}
use Rattle.mapping.specs.Held.{direction_of, held, deal_of}
use Rattle.mapping.proofs.Arrays.{none, held-at, more-held, Asking, asking_more, asking_take, asking_end}
use Rattle.mapping.proofs.Codes.{bits_at}
use Rattle.mapping.proofs.Deals.{more}
use Rattle.mapping.proofs.dealing.Dealing.deal_bit.Goals as goal
use Rattle.mapping.proofs.dealing.Dealing.deal_bit.Goals.{In-loop, After-takes_bit}

-- the direction whose turn it is
here : (c : In-loop) → (c.loop.self.turn < length c.loop.self.directions) × (direction_at (held c.loop.self.directions) c.loop.self.turn ≡ direction_of (get_or c.loop.self.directions c.loop.self.turn none))
here c =
    let l : length c.loop.self.directions ≡ max_depth = search rules in
    let h : c.loop.self.turn < length c.loop.self.directions = omega (arith, l, c.loop.invariant.asking.turn_is) in
    (h, held-at c.loop.self.directions c.loop.self.turn h)

-- its bits are few
few : (c : In-loop) → (get_or c.loop.self.directions c.loop.self.turn none).bits ≤ max_cube
few c =
    let h = here c in
    let b = bits_at (held c.loop.self.directions) c.loop.self.turn (omega (arith, h.0, length-map c.loop.self.directions direction_of)) in
    omega (arith, b, ap (λ (d : Direction). d.bits) h.1, ap (λ ds. bits_of (held ds)) c.loop.invariant.same, c.requires.1)

-- whether it takes a bit
takes : (c : After-takes_bit) → takes_bit (direction_at (held c.args.self.now.directions) c.loop.self.turn) ≡ c.takes_bit.result
takes c = ap (λ ds. takes_bit (direction_at (held ds) c.loop.self.turn)) (sym c.loop.invariant.same) ∙ ap takes_bit (here (goal.at.After-takes_bit c).In-loop).1 ∙ sym c.takes_bit.ensures

pub takes_bit-requires : goal.takes_bit-requires
takes_bit-requires c = few (goal.at.takes_bit-requires c).In-loop

pub overflow_add-self : goal.overflow_add-self
overflow_add-self c = omega (arith, few (goal.at.overflow_add-self c).In-loop)

pub returns-then-takes_bit : goal.returns-then-takes_bit
returns-then-takes_bit c =
    let p = (goal.at.returns-then-takes_bit c).After-takes_bit in
    let i = (goal.at.returns-then-takes_bit c).In-loop in
    let a = c.args.self.now in
    let m = more-held c.loop.self.directions c.loop.self.turn (here i).0 ∙ ap (λ ds. more (held ds) c.loop.self.turn) c.loop.invariant.same in
    ap (deal_of _) c.next_turn-self.ensures ∙ asking_take a.directions (search rules) a.turn c.loop.counter c.loop.self.turn _ c.loop-test.true c.loop.invariant.asking (takes p ∙ c.if-takes_bit.true) m

pub loop-preserved : goal.loop-preserved
loop-preserved c =
    let p = (goal.at.loop-preserved c).After-takes_bit in
    let a = c.args.self.now in record {
      same = c.loop.invariant.same;
      asking = subst (λ k. Asking a.directions a.turn (c.loop.counter + 1) k) (sym c.next_turn-self.ensures)
          (asking_more a.directions (search rules) a.turn c.loop.counter c.loop.self.turn c.loop-test.true c.loop.invariant.asking (takes p ∙ c.if-takes_bit.false));
    }

pub returns : goal.returns
returns c = ap (λ ds. deal_of ds c.loop.self.turn) c.loop.invariant.same ∙ asking_end c.args.self.now.directions (search rules) c.args.self.now.turn c.loop.counter c.loop.self.turn c.loop-test.false c.loop.invariant.asking
