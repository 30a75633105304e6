-- `processors_into` meets its contract. Assumes nothing.
use Rattle.std.proofs.Common.{◌≡◌, ap, ◌∙◌, arith, ◌++◌, drop, length, List, ℕ, get_or}
use Rattle.integers.specs.Vector.{Vector}
use Rattle.integers.proofs.Lists.{tab-same, length-tab}
use Rattle.integers.proofs.ListFacts.{get_or-before}
use Rattle.mapping.specs.Mapping.{dealt, joined}
use Rattle.mapping.specs.GroupNumbers.{values_in, directions_in, processors_in}
use Rattle.mapping.proofs.processors.processors_into.Goals as goal

-- a processor for each block
processors-long : (rows : List Vector) (n c : ℕ) → length (processors_in rows n c) ≡ n
unfolding processors_in
processors-long rows n c = length-tab (λ k. joined 0 (dealt c (directions_in rows n)) (values_in rows k)) n

pub returns : goal.returns
returns c =
    let a = c.args in
    let ps = processors_in a.groups.now.rows.now (length a.groups.now.rows.now) a.c in
    c.place_iterations.ensures
    ∙ ap (λ (l : List ℕ). l ++ drop (length a.blocks.now) a.processors.now)
    (tab-same (λ k. get_or c.block_processors.new.processors (get_or a.blocks.now k 0) 0) (λ k. get_or ps (get_or a.blocks.now k 0) 0) (length a.blocks.now)
    (λ k l. ap (λ (o : List ℕ). get_or o (get_or a.blocks.now k 0) 0) c.block_processors.ensures ∙ get_or-before 0 ps _ (get_or a.blocks.now k 0) (omega (arith, c.requires.blocks.1 k l, processors-long a.groups.now.rows.now (length a.groups.now.rows.now) a.c))))
