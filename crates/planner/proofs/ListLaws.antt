-- A plan in four tables of 4096 entries, and its text: what `put_plan` needs of it and what it stores. Assumes nothing.
use mathlib.Core.Path.{◌≡◌, refl, sym, ap, ap₂, subst, ◌∙◌}
use mathlib.Core.List.{List, [], ◌∷◌, ◌++◌, map, flat_map}
use Prim.Native.Nat.{ℕ, ◌+◌, ◌*◌, ◌<◌, ◌≤◌}
use native.Mathlib.Omega.{arith}
use lib.IntN.{pos}
use lib.ListN.{length, get_or, drop, length-append, get_or-append}
use lib.Seq.{sets}
use Rattle.integers.specs.Lists.{tab}
use Rattle.integers.proofs.Lists.{tab-same}
use Rattle.nest.specs.declared.LoopNest.{LoopNest}
use Rattle.nest.specs.Points.{points_of}
use Rattle.nest.specs.Refusals.{refusal}
use Rattle.nest.proofs.PointLaws.{few-points}
use Rattle.nest_text.specs.Fields.{Bytes}
use Rattle.nest_text.specs.Text.{line}
use Rattle.nest_text.specs.Stored.{Stored}
use Rattle.nest_text.proofs.WriteLaws.{stored_as, stored-length}
use Rattle.partition.specs.Partition.{steps_of, blocks_of}
use Rattle.partition.proofs.Nests.{steps-length}
use Rattle.partition.proofs.Theorems.{blocks-length, step_few}
use Rattle.mapping.specs.Mapping.{processors_of}
use Rattle.mapping.proofs.Theorems.{processors-length}
use Rattle.sequential.specs.Sequential.{values_of}
use Rattle.planner.specs.Plan.{Planning}
use Rattle.planner.specs.Plan.{plan_answer, counts_of, counts_in}
use Rattle.planner.specs.Listing.{row_of}
use Rattle.planner.specs.Listing.{plan_lines, plan_text}
use Rattle.planner.proofs.LineLaws.{lines-behind, nth_small, counts-length}
use Rattle.planner.proofs.PlanLaws.{values_length}
use Rattle.planner.proofs.Sizes.{counts-small}

-- a table that starts with n entries has them at its first places
front : (n : ℕ) (table rest all : List ℕ) → length table ≡ n → all ≡ table ++ rest → (k : ℕ) → k < n → get_or all k 0 ≡ get_or table k 0
front n table rest all e q k h = ap (λ (l : List ℕ). get_or l k 0) q ∙ get_or-append table rest 0 k (omega arith)

-- and is as long as that at least
as_long : (n : ℕ) (table rest all : List ℕ) → length table ≡ n → all ≡ table ++ rest → n ≤ length all
as_long n table rest all e q = omega (arith, ap length q, length-append table rest)

-- the counts of an answer that is no refusal are the nest's
answer-counts : (s : LoopNest) → counts_in (plan_answer s 0) ≡ counts_of s
unfolding plan_answer counts_of
answer-counts s = refl

-- what holds of the answer r and the four tables that `plan` leaves, for n iterations: each number has room in six columns, each table an entry for each iteration, there is room
-- for the rows behind the line of the counts, and both together are the plan's text
pub record Tabled (s : LoopNest) (n : ℕ) (r : Planning) (a b c d : List ℕ) : Type 0 where
  pub counts_fit : (i : ℕ) → i < 5 → get_or (counts_in r) i 0 < 1000000
  pub steps_fit : (k : ℕ) → k < n → get_or a k 0 < 1000000
  pub long : (n ≤ length a) × (n ≤ length b) × (n ≤ length c) × (n ≤ length d)
  pub room : {old mid : Bytes} {end : ℕ} → 31 * (n + 1) ≤ length old → Stored old 0 (line (map pos (counts_in r))) mid end → end + 31 * n ≤ length mid
  pub stored : {old mid new : Bytes} {end last : ℕ} → Stored old 0 (line (map pos (counts_in r))) mid end → Stored mid end (flat_map line (tab (row_of a b c d) n)) new last → new ≡ sets old 0 (plan_text s)

module _ (s : LoopNest) (ok : refusal s ≡ 0) (n : ℕ) (count : n ≡ length (points_of s)) (a b c d : List ℕ) (r : Planning) (a' b' c' d' : List ℕ)
    (made : r ≡ plan_answer s 0) (steps_are : a' ≡ steps_of s ++ drop n a) (blocks_are : b' ≡ blocks_of s ++ drop n b) (processors_are : c' ≡ processors_of s ++ drop n c)
    (values_are : d' ≡ values_of s ++ drop n d) where
  counts_are : counts_in r ≡ counts_of s
  counts_are = ap counts_in made ∙ answer-counts s

  counts_fit : (i : ℕ) → i < 5 → get_or (counts_in r) i 0 < 1000000
  unfolding counts_of
  counts_fit i h = subst (λ (l : List ℕ). get_or l i 0 < 1000000) (sym counts_are) (nth_small (counts_of s) (counts-small s ok) i h)

  -- each has an entry for each iteration
  tables_long : (n ≤ length a') × (n ≤ length b') × (n ≤ length c') × (n ≤ length d')
  tables_long = (
    as_long n (steps_of s) (drop n a) a' (steps-length s ∙ sym count) steps_are,
    as_long n (blocks_of s) (drop n b) b' (blocks-length s ok ∙ sym count) blocks_are,
    as_long n (processors_of s) (drop n c) c' (processors-length s ∙ sym count) processors_are,
    as_long n (values_of s) (drop n d) d' (values_length s ∙ sym count) values_are,
  )

  -- the steps have room in six columns
  steps_fit : (k : ℕ) → k < n → get_or a' k 0 < 1000000
  steps_fit k h = omega (arith, front n (steps_of s) (drop n a) a' (steps-length s ∙ sym count) steps_are k h, step_few s ok k (omega arith), few-points s ok)

  -- the rows of the tables are those of the plan
  rows_are : tab (row_of a' b' c' d') n ≡ tab (row_of (steps_of s) (blocks_of s) (processors_of s) (values_of s)) (length (points_of s))
  unfolding row_of
  rows_are =
      tab-same (row_of a' b' c' d') (row_of (steps_of s) (blocks_of s) (processors_of s) (values_of s)) n
      (λ k h.
      ap₂ (λ x y. pos k ∷ pos x ∷ pos y ∷ pos (get_or c' k 0) ∷ pos (get_or d' k 0) ∷ []) (front n (steps_of s) (drop n a) a' (steps-length s ∙ sym count) steps_are k h) (front n (blocks_of s) (drop n b) b' (blocks-length s ok ∙ sym count) blocks_are k h)
      ∙ ap₂ (λ x y. pos k ∷ pos (get_or (steps_of s) k 0) ∷ pos (get_or (blocks_of s) k 0) ∷ pos x ∷ pos y ∷ []) (front n (processors_of s) (drop n c) c' (processors-length s ∙ sym count) processors_are k h)
      (front n (values_of s) (drop n d) d' (values_length s ∙ sym count) values_are k h))
      ∙ ap (tab (row_of (steps_of s) (blocks_of s) (processors_of s) (values_of s))) count

  -- behind the line of the counts there is room for the rows
  rows-room : {old mid : Bytes} {end : ℕ} → 31 * (n + 1) ≤ length old → Stored old 0 (line (map pos (counts_in r))) mid end → end + 31 * n ≤ length mid
  rows-room {old} {mid} {end} h S = omega (arith, S.ends, stored-length S, counts-length (counts_in r) 5 refl counts_fit)

  -- the counts, and behind them the rows, are the plan's text
  plan-stored : {old mid new : Bytes} {end last : ℕ} → Stored old 0 (line (map pos (counts_in r))) mid end → Stored mid end (flat_map line (tab (row_of a' b' c' d') n)) new last → new ≡ sets old 0 (plan_text s)
  unfolding plan_text plan_lines
  plan-stored p q =
      (lines-behind (map pos (counts_of s)) (tab (row_of (steps_of s) (blocks_of s) (processors_of s) (values_of s)) (length (points_of s)))
      (stored_as (ap (λ (l : List ℕ). line (map pos l)) counts_are) p) (stored_as (ap (flat_map line) rows_are) q)).bytes

  pub tabled : Tabled s n r a' b' c' d'
  tabled = record { counts_fit = counts_fit; steps_fit = steps_fit; long = tables_long; room = rows-room; stored = plan-stored }
