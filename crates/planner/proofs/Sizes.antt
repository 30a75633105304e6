-- Every number of an accepted nest's plan is below 1000000, so that six columns hold it and the plan's text has 31 bytes a line. Assumes nothing.
use mathlib.Core.Path.{◌≡◌, refl, ap, subst, ◌∙◌}
use mathlib.Core.List.{List, [], ◌∷◌, map, flat_map, append-nil}
use Prim.Native.Nat.{ℕ, ◌+◌, ◌*◌, ◌<◌, ◌≤◌}
use native.Mathlib.Nat.{mul-le-mul}
use native.Mathlib.Omega.{arith}
use lib.Dec.{eqb}
use lib.IntN.{pos}
use lib.ListN.{length, get_or, length-append}
use Rattle.integers.specs.Lists.{tab, count, firsts}
use Rattle.integers.proofs.Lists.{length-tab, flat_map-length}
use Rattle.nest.specs.declared.LoopNest.{LoopNest}
use Rattle.nest.specs.Nest.{count_of}
use Rattle.nest.specs.Points.{points_of}
use Rattle.nest.specs.Refusals.{refusal}
use Rattle.nest.proofs.Accepted.{count_is}
use Rattle.nest.proofs.PointLaws.{few-points}
use Rattle.nest_text.specs.Text.{line}
use Rattle.numbering.proofs.ByFirst.{firsts-few}
use Rattle.grouping.specs.Grouping.{eq_g, blocks}
use Rattle.partition.specs.Partition.{steps_of, groups_of, blocks_of, block_count}
use Rattle.partition.proofs.Theorems.{step_few, steps-few, block_below}
use Rattle.mapping.specs.Mapping.{processors_of, processor_count, is_message, message_count}
use Rattle.integers.proofs.Sums.{count_most, total-most}
use Rattle.partition.proofs.Nests.{groups-length}
use Rattle.mapping.proofs.Theorems.{processors-length, table_below}
use Rattle.sequential.specs.Sequential.{rule_of, loop, sequential, values_of}
use Rattle.sequential.proofs.LoopLaws.{loop-entry}
use Rattle.sequential.proofs.SumLaws.{sum-all}
use Rattle.planner.specs.Plan.{counts_of}
use Rattle.planner.specs.Listing.{row_of}
use Rattle.planner.specs.Listing.{plan_lines, plan_text}
use Rattle.planner.proofs.LineLaws.{AllSmall, nth_small, counts-length, lines_cons}

module _ (s : LoopNest) (ok : refusal s ≡ 0) where
  -- ---- the counts
  pub blocks-few : block_count s ≤ length (points_of s)
  unfolding block_count blocks firsts
  blocks-few = omega (arith, firsts-few eq_g [] (groups_of s), groups-length s)

  processors-few : processor_count s ≤ length (points_of s)
  unfolding processor_count firsts
  processors-few = omega (arith, firsts-few eqb [] (processors_of s), processors-length s)

  -- at most one for each iteration and dependence
  messages-few : message_count s ≤ length (points_of s) * count_of s
  unfolding message_count
  messages-few =
      total-most (λ k. count (is_message s (processors_of s) k) (tab (λ i. i) (count_of s))) (count_of s) (length (points_of s))
      (λ k. subst (λ m. count (is_message s (processors_of s) k) (tab (λ i. i) (count_of s)) ≤ m) (length-tab (λ i. i) (count_of s)) (count_most (is_message s (processors_of s) k) (tab (λ i. i) (count_of s))))

  pub counts-small : AllSmall (counts_of s)
  unfolding counts_of
  counts-small =
      let n = few-points s ok in
      let m = mul-le-mul n (count_is s ok).1 in
      (omega arith, (omega (arith, steps-few s ok), (omega (arith, blocks-few), (omega (arith, processors-few), (omega (arith, messages-few), tt)))))

  -- ---- the numbers of an iteration
  value-small : (k : ℕ) → k < length (points_of s) → get_or (values_of s) k 0 < 65536
  unfolding values_of sequential
  value-small k h =
      let e = loop-entry (rule_of s) s k (length (points_of s)) 0 h ∙ sum-all s (loop (rule_of s) s k) k in
      omega arith

  -- those of the row of iteration k: rank, step, block, processor, value
  abbrev pub row_numbers : ℕ → List ℕ
  row_numbers k = k ∷ get_or (steps_of s) k 0 ∷ get_or (blocks_of s) k 0 ∷ get_or (processors_of s) k 0 ∷ get_or (values_of s) k 0 ∷ []

  row_small : (k : ℕ) → k < length (points_of s) → AllSmall (row_numbers k)
  row_small k h =
      let n = few-points s ok in
      let p = ap (λ (l : List ℕ). get_or l k 0) (append-nil (processors_of s)) in (
        omega arith,
        (omega (arith, step_few s ok k h), (omega (arith, block_below s ok k h, blocks-few), (omega (arith, table_below s [] (length (points_of s)) refl ok k h), (omega (arith, value-small k h), tt)))),
      )

  -- ---- 31 bytes a line
  rows-length : (n : ℕ) → n ≤ length (points_of s) → length (flat_map line (tab (row_of (steps_of s) (blocks_of s) (processors_of s) (values_of s)) n)) ≡ 31 * n
  unfolding row_of
  rows-length n h =
      flat_map-length line (row_of (steps_of s) (blocks_of s) (processors_of s) (values_of s)) 31 n
      (λ k l. counts-length (row_numbers k) 5 refl (nth_small (row_numbers k) (row_small k (omega arith))))

  -- so many bytes has the text of the plan
  pub plan-length : length (plan_text s) ≡ 31 * (length (points_of s) + 1)
  unfolding plan_text plan_lines counts_of
  plan-length =
      let rows = tab (row_of (steps_of s) (blocks_of s) (processors_of s) (values_of s)) (length (points_of s)) in
      ap length (lines_cons (map pos (counts_of s)) rows) ∙ length-append (line (map pos (counts_of s))) (flat_map line rows)
      ∙ omega (arith, counts-length (counts_of s) 5 refl (nth_small (counts_of s) counts-small), rows-length (length (points_of s)) (omega arith))
