-- `move_in` makes the move that the numbers ask for. Assumes nothing.
use mathlib.Core.Path.{refl}
use native.Mathlib.Omega.{arith}
use borrow.Author.Tests.{eq-eqb, ne_eqb}
use Rattle.foreign.specs.Numbers.{compute_kind, deliver_kind, move_in}
use Rattle.foreign.proofs.moves.move_in.Goals as goal

pub returns-in-1 : goal.returns-in-1
unfolding move_in
returns-in-1 c = rw (move_in, eq-eqb c.args.kind compute_kind c.in-1.is) refl

pub returns-in-2 : goal.returns-in-2
unfolding move_in
returns-in-2 c = rw (move_in, ne_eqb c.args.kind compute_kind (λ e. omega arith), eq-eqb c.args.kind deliver_kind c.in-2.is) refl

pub returns-in_default : goal.returns-in_default
unfolding move_in
returns-in_default c = rw (move_in, ne_eqb c.args.kind compute_kind (λ e. omega arith), ne_eqb c.args.kind deliver_kind (λ e. omega arith)) refl
