-- `check_room` meets its contract. Assumes nothing.
use mathlib.Core.Path.{sym}
use Rattle.nest.proofs.Entries.{room-answer}
use Rattle.nest.proofs.refusals.check_room.Goals as goal

pub returns-then-any_short : goal.returns-then-any_short
returns-then-any_short c = sym (rw (sym c.any_short.ensures, c.if-any_short.true) at (room-answer c.args.needed c.args.rooms.now))

pub returns : goal.returns
returns c = sym (rw (sym c.any_short.ensures, c.if-any_short.false) at (room-answer c.args.needed c.args.rooms.now))
