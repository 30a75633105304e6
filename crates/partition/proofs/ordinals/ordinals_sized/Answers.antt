-- `ordinals_sized` meets its contract: flags, their running count, and the ordinals looked up in it. Assumes nothing.
use Rattle.std.proofs.Common.{◌≡◌, ◌∙◌, ap, map, get_or, arith, ℕ, List, replicate}
use Rattle.std.proofs.lemmas.List.{length-take-le, length-replicate}
use Rattle.partition.specs.KeySteps.{flags}
use Rattle.partition.proofs.OrdinalLaws.{sums-few, all-standing, ordinals-made}
use Rattle.partition.proofs.ordinals.ordinals_sized.Given.{Over}
use Rattle.partition.proofs.ordinals.ordinals_sized.Goals as goal
use Rattle.partition.proofs.ordinals.ordinals_sized.Goals.{After-mark}

-- the table of flags
marked : (g : Over) (c : After-mark g) → c.mark.new.table ≡ flags c.args.numbers.now c.args.range
marked g c = c.mark.ensures ∙ ap (flags c.args.numbers.now) (length-take-le c.args.range (replicate g.row.ROOM 0) (omega (arith, length-replicate {A = ℕ})))

pub running-many-requires : goal.running-many-requires
running-many-requires g c = sums-few c.args.numbers.now c.args.range c.requires.0 c.mark.new.table (marked g (goal.at.running-many-requires g c).After-mark)

pub returns-clause-value : goal.returns-clause-value
returns-clause-value g c = c.running-many.ensures.value ∙ all-standing c.args.numbers.now c.args.range c.requires.0 c.mark.new.table (marked g (goal.at.returns-clause-value g c).After-mark)

pub returns-clause-numbers_after : goal.returns-clause-numbers_after
returns-clause-numbers_after g c =
    c.look_up.ensures ∙ ap (λ (t : List ℕ). map (λ x. get_or t x 0) c.args.numbers.now) c.running-many.ensures.table_after
    ∙ ordinals-made c.args.numbers.now c.args.range c.requires.0 c.mark.new.table (marked g (goal.at.returns-clause-numbers_after g c).After-mark)
