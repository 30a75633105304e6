-- `check_parts` meets its contract. Assumes nothing.
use native.Mathlib.Omega.{arith}
use Rattle.std.proofs.Common.{rules, ◌≡◌, ◌≤◌}
use mathlib.Core.Path.{sym, ◌∙◌, ap}
use Rattle.integers.proofs.Machine.{reads}
use Rattle.nest.specs.declared.LoopNest.{LoopNest}
use Rattle.nest.specs.Nest.{to_ℕ, depth_of, count_of, max_depth, max_dependences}
use Rattle.nest.specs.NestParts.{nest_of_parts}
use Rattle.nest.specs.Outcomes.{number_in}
use Rattle.nest.specs.Refusals.{first_met, header_order, limit_order, vector_order, weight_order}
use Rattle.nest.proofs.Outcomes.{number_out, refused-above}
use Rattle.nest.proofs.Parts.{header-parts, limit-parts, vector-parts, weight-parts}
use Rattle.nest.proofs.FirstMet.{at-header, at-limits, at_vectors, at-weights, depth_within, count-within}
use Rattle.nest.proofs.refusals.check_parts.Goals as goal
use Rattle.nest.proofs.refusals.check_parts.Goals.{After-check_header, After-check_limits, After-check_vectors, After-check_weights, After-to_size-m, Start}

-- the nest that has these parts
abbrev nest : Start → LoopNest
nest c = nest_of_parts c.args.s.now

-- its header's numbers are what the machine reads
depth_reads : (c : After-check_header) → reads c.args.s.now.depth ≡ c.args.s.now.depth
depth_reads c = search rules

count_reads : (c : After-check_header) → reads c.args.s.now.count ≡ c.args.s.now.count
count_reads c = search rules

cube_reads : (c : After-check_header) → reads c.args.s.now.cube ≡ c.args.s.now.cube
cube_reads c = search rules

-- the depth and the number of dependences
depth_is : (c : After-to_size-m) → c.to_size-n.result ≡ depth_of (nest (goal.at.After-to_size-m c).Start)
depth_is c = c.to_size-n.ensures ∙ ap to_ℕ (depth_reads (goal.at.After-to_size-m c).After-check_header)

count_is : (c : After-to_size-m) → c.to_size-m.result ≡ count_of (nest (goal.at.After-to_size-m c).Start)
count_is c = c.to_size-m.ensures ∙ ap to_ℕ (count_reads (goal.at.After-to_size-m c).After-check_header)

-- what each part answers
header_is : (c : After-check_header) → number_in c.check_header.result ≡ first_met (nest (goal.at.After-check_header c).Start) header_order
header_is c =
    (rw (depth_reads c, count_reads c, cube_reads c) at c.check_header.ensures) ∙ header-parts (nest_of_parts c.args.s.now)

limits-is : (c : After-check_limits) → number_in c.check_limits.result ≡ first_met (nest (goal.at.After-check_limits c).Start) limit_order
limits-is c =
    let m = (goal.at.After-check_limits c).After-to_size-m in
    c.check_limits.ensures ∙ limit-parts (nest (goal.at.After-check_limits c).Start) c.to_size-n.result (depth_is m)

vectors_is : (c : After-check_vectors) → number_in c.check_vectors.result ≡ first_met (nest (goal.at.After-check_vectors c).Start) vector_order
vectors_is c =
    let m = (goal.at.After-check_vectors c).After-to_size-m in
    c.check_vectors.ensures ∙ vector-parts (nest (goal.at.After-check_vectors c).Start) c.to_size-n.result c.to_size-m.result (depth_is m) (count_is m)

weights-is : (c : After-check_weights) → number_in c.check_weights.result ≡ first_met (nest (goal.at.After-check_weights c).Start) weight_order
weights-is c =
    let m = (goal.at.After-check_weights c).After-to_size-m in
    c.check_weights.ensures ∙ weight-parts (nest (goal.at.After-check_weights c).Start) c.to_size-m.result (count_is m)

-- the parts that are passed
header-passed : (c : After-to_size-m) → first_met (nest_of_parts c.args.s.now) header_order ≡ 0
header-passed c = sym (header_is (goal.at.After-to_size-m c).After-check_header) ∙ ap number_in c.in_ok-check_header.was

limits-passed : (c : After-check_vectors) → first_met (nest_of_parts c.args.s.now) limit_order ≡ 0
limits-passed c = sym (limits-is (goal.at.After-check_vectors c).After-check_limits) ∙ ap number_in c.in_ok-check_limits.was

vectors-passed : (c : After-check_weights) → first_met (nest_of_parts c.args.s.now) vector_order ≡ 0
vectors-passed c = sym (vectors_is (goal.at.After-check_weights c).After-check_vectors) ∙ ap number_in c.in_ok-check_vectors.was

depth_low : (c : After-to_size-m) → c.to_size-n.result ≤ max_depth
depth_low c = rw (depth_is c) (depth_within (nest_of_parts c.args.s.now) (header-passed c)).1

count_low : (c : After-to_size-m) → c.to_size-m.result ≤ max_dependences
count_low c = rw (count_is c) (count-within (nest_of_parts c.args.s.now) (header-passed c)).1

pub returns-in_err-check_header : goal.returns-in_err-check_header
returns-in_err-check_header c =
    let e = c.in_err-check_header.field-0.0 in
    let h = header_is (goal.at.returns-in_err-check_header c).After-check_header in
    let w = c.in_err-check_header.was in
    number_out c.from_residual.result e c.from_residual.ensures.1 ∙ sym (ap number_in w) ∙ h
    ∙ sym (at-header (nest_of_parts c.args.s.now) (λ z. refused-above c.check_header.result e w (h ∙ z)))

pub check_limits-requires : goal.check_limits-requires
check_limits-requires c = let d = depth_low (goal.at.check_limits-requires c).After-to_size-m in search rules

pub returns-in_err-check_limits : goal.returns-in_err-check_limits
returns-in_err-check_limits c =
    let e = c.in_err-check_limits.field-0.0 in
    let h = limits-is (goal.at.returns-in_err-check_limits c).After-check_limits in
    let w = c.in_err-check_limits.was in
    number_out c.from_residual-in_err-check_limits.result e c.from_residual-in_err-check_limits.ensures.1 ∙ sym (ap number_in w) ∙ h
    ∙ sym (at-limits (nest_of_parts c.args.s.now) (header-passed (goal.at.returns-in_err-check_limits c).After-to_size-m) (λ z. refused-above c.check_limits.result e w (h ∙ z)))

pub check_vectors-requires : goal.check_vectors-requires
check_vectors-requires c =
    let m = (goal.at.check_vectors-requires c).After-to_size-m in
    let d = depth_low m in
    let n = count_low m in
    let z = c.args.s.now.sized in
    (d, omega (arith, d, z.2), omega (arith, n, z.3))

pub returns-in_err-check_vectors : goal.returns-in_err-check_vectors
returns-in_err-check_vectors c =
    let e = c.in_err-check_vectors.field-0.0 in
    let p = goal.at.returns-in_err-check_vectors c in
    let h = vectors_is p.After-check_vectors in
    let w = c.in_err-check_vectors.was in
    number_out c.from_residual-in_err-check_vectors.result e c.from_residual-in_err-check_vectors.ensures.1 ∙ sym (ap number_in w) ∙ h
    ∙ sym (at_vectors (nest_of_parts c.args.s.now) (header-passed p.After-to_size-m) (limits-passed p.After-check_vectors) (λ z. refused-above c.check_vectors.result e w (h ∙ z)))

pub check_weights-requires : goal.check_weights-requires
check_weights-requires c = let n = count_low (goal.at.check_weights-requires c).After-to_size-m in search rules

pub returns : goal.returns
returns c =
    let p = goal.at.returns c in
    weights-is c ∙ sym (at-weights (nest_of_parts c.args.s.now) (header-passed p.After-to_size-m) (limits-passed p.After-check_vectors) (vectors-passed c))
