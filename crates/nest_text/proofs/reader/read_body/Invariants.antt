-- `read_body` answers whether all lines behind line 1 are in form, and their nest.
use Rattle.nest_text.proofs.BodyLaws.{Reached}
use Rattle.nest_text.proofs.reader.read_body.Given as goal

abbrev pub invariant-loop-i : goal.invariant-loop-i
invariant-loop-i l = Reached l.layout.loops l.layout.dependences l.layout.last l.initial.s.cube l.text l.i l.rest l.s
