-- `deal_bit` meets its contract. The loop's invariant: so many directions have been asked, and nothing is changed but the turn. Assumes nothing.
use Rattle.std.proofs.Common.{◌≡◌}
use Rattle.mapping.proofs.Arrays.{Asking}
use Rattle.mapping.proofs.dealing.Dealing.deal_bit.Given as goal

abbrev pub invariant-loop : goal.invariant-loop
invariant-loop l = record {
  same : l.self.directions ≡ l.initial.self.directions;
  asking : Asking l.initial.self.directions l.initial.self.turn l.counter l.self.turn;
}
