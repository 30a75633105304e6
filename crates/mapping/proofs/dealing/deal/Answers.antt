-- `deal` meets its contract. Assumes nothing.
use Rattle.mapping.proofs.Arrays.{dealing-more}
use Rattle.mapping.proofs.dealing.deal.Goals as goal

pub loop-preserved : goal.loop-preserved
loop-preserved c =
    dealing-more c.args.directions c.args.c c.loop.dealing.directions c.deal_bit.new.self.directions c.loop.dealing.turn c.deal_bit.new.self.turn c.loop.counter c.loop-test.true c.loop.invariant c.deal_bit.ensures
