-- `AcceptedNest::new` meets its contract. Assumes nothing.
use mathlib.Core.Path.{sym, ◌∙◌, ap}
use Rattle.nest.specs.Nest.{limits_of}
use Rattle.nest.specs.Points.{point_count, points_of}
use Rattle.nest.proofs.Order.{point-count}
use Rattle.nest.proofs.accepted_nest.AcceptedNest.new.Goals as goal

pub invariant_of-result : goal.invariant_of-result
unfolding points_of
invariant_of-result c =
    record {
      accepted = c.requires;
      counted = c.point_count-iterations.ensures ∙ ap point_count (c.loops.ensures.limits ∙ ap limits_of c.parts.ensures) ∙ sym (point-count (limits_of c.args.nest));
    }
