-- The nest that is lent in its parts. Assumes nothing.
use Rattle.nest.specs.declared.LoopNest.{LoopNest}
use Rattle.nest.specs.declared.lent.NestParts.{NestParts}
use Rattle.nest.specs.Nest.{nest_from}

abbrev pub nest_of_parts : NestParts → LoopNest
nest_of_parts p = nest_from p.depth p.count p.cube p.lower.now p.upper.now p.time.now p.dependences.now p.boundaries.now
    p.weights.now
