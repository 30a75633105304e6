-- `chosen_count` answers β. Assumes nothing.
use Rattle.grouping.specs.Basis.{vector_of, dual_of}
use Rattle.partition.proofs.Answers.{count_same}
use Rattle.partition.proofs.receivers.chosen_count.Goals as goal

pub returns : goal.returns
returns c =
    let b = c.basis_of in
    let f = b.result.basis in
    count_same c.args.s.now.nest c.args.s.now.accepted f.p f.count (vector_of f 0) (vector_of f 1) (vector_of f 2) (dual_of f 0) (dual_of f 1) (dual_of f 2) f.d b.result.r f.framed b.ensures.p_value.0 b.ensures.p_value.1 b.ensures.size
