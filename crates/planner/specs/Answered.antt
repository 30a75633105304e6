-- What `plan` answers, said as the definitions of a plan say it. Assumes nothing.
use Rattle.std.specs.Prelude.{Result, Ok, Err}
use Rattle.nest.specs.declared.refusals.Refusal.{Refusal}
use Rattle.nest.specs.Outcomes.{code}
use Rattle.planner.specs.declared.Counts.{Counts}
use Rattle.planner.specs.Plan.{Planning, refused_with}

-- 0 with the counts
abbrev pub made_of : Counts → Planning
made_of c = record {
  refusal = 0;
  iterations = c.iterations;
  steps = c.steps;
  blocks = c.blocks;
  processors = c.processors;
  messages = c.messages;
}

-- or the number of the refusal, with every count 0
abbrev pub planning_of : Result Counts Refusal → Planning
planning_of (Ok c) = made_of c
planning_of (Err e) = refused_with (code e)
