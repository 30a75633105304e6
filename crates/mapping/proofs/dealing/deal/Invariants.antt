-- `deal` meets its contract. The loop's invariant: so many of the c bits are dealt. Assumes nothing.
use Rattle.mapping.proofs.Arrays.{Dealing}
use Rattle.mapping.proofs.dealing.deal.Given as goal

abbrev pub invariant-loop : goal.invariant-loop
invariant-loop l = Dealing l.fn.directions l.c l.dealing.directions l.dealing.turn l.counter
