-- `block_processors` meets its contract. Assumes nothing.
use Rattle.std.proofs.Common.{◌≡◌, ap, ◌∙◌, ◌++◌, drop, length, List, ℕ}
use Rattle.integers.specs.Lists.{tab}
use Rattle.mapping.specs.Mapping.{Direction, joined, dealt, bits_of}
use Rattle.mapping.specs.GroupNumbers.{values_in, directions_in, processors_in}
use Rattle.mapping.specs.Held.{held}
use Rattle.mapping.proofs.Ready.{none-dealt, all_held}
use Rattle.mapping.proofs.processors.block_processors.Goals as goal
use Rattle.mapping.proofs.processors.block_processors.Goals.{After-deal-directions}

pub deal-directions-requires : goal.deal-directions-requires
deal-directions-requires c = (c.requires.0, ap bits_of c.directions.ensures ∙ none-dealt c.args.groups.now.rows.now (length c.args.groups.now.rows.now) c.args.c c.args.groups.now.span c.args.groups.now.some)

are : (c : After-deal-directions) → held c.deal-directions.result ≡ dealt c.args.c (directions_in c.args.groups.now.rows.now (length c.args.groups.now.rows.now))
are c = c.deal-directions.ensures ∙ ap (dealt c.args.c) c.directions.ensures

pub fill_processors-requires : goal.fill_processors-requires
fill_processors-requires c = (c.requires.1, λ k h. all_held c.args.groups.now.rows.now (length c.args.groups.now.rows.now) c.args.c c.args.groups.now.span c.args.groups.now.some (held c.deal-directions.result) (are (goal.at.fill_processors-requires c).After-deal-directions) c.requires.0 k h (c.args.groups.now.span.sized k h))

pub returns : goal.returns
unfolding processors_in
returns c =
    c.fill_processors.ensures
    ∙ ap (λ (ds : List Direction). tab (λ (k : ℕ). joined 0 ds (values_in c.args.groups.now.rows.now k)) (length c.args.groups.now.rows.now) ++ drop (length c.args.groups.now.rows.now) c.args.processors.now) (are (goal.at.returns c).After-deal-directions)
