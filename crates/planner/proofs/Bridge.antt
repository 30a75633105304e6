-- The partition's table of the blocks' groups is one that the mapping reads; and what the called functions ensure, as the plan's parts. Assumes nothing.
use mathlib.Core.Path.{◌≡◌, refl, sym, ap, ap₂, subst, ◌∙◌}
use mathlib.Core.List.{List, [], ◌∷◌, ◌++◌, reverse}
use Prim.Native.Nat.{ℕ, zero, suc, ◌+◌, ◌-◌, ◌^◌, ◌<◌, ◌≤◌}
use native.Mathlib.Omega.{arith}
use Rattle.std.proofs.lemmas.List.{get_or-take}
use lib.Dec.{eqb}
use lib.IntN.{ℤ, pos}
use lib.ListN.{length, get_or, take, drop, length-append}
use Rattle.integers.specs.Lists.{tab, count, firsts, total}
use Rattle.integers.specs.Vector.{Vector}
use Rattle.integers.proofs.Lists.{tab-same, tab-list}
use Rattle.nest.specs.declared.LoopNest.{LoopNest}
use Rattle.nest.specs.Nest.{padded, count_of, max_depth, max_cube}
use Rattle.nest.specs.Points.{points_of}
use Rattle.nest.specs.Refusals.{refusal}
use Rattle.nest.proofs.Accepted.{depth_is}
use Rattle.grouping.specs.Grouping.{Group}
use Rattle.partition.specs.Partition.{no_group, step_count, block_count, block_groups, chosen_of}
use Rattle.grouping.specs.Basis.{pick, Fill}
use Rattle.numbering.specs.Tables.{row}
use Rattle.partition.specs.GroupRows.{GroupRow, GroupTable}
use Rattle.partition.proofs.Theorems.{chosen-bound}
use Rattle.mapping.specs.Mapping.{order_in, in_order, next_turn, processors_of, processor_count, is_message, message_count}
use Rattle.mapping.specs.GroupNumbers.{Laid, RowsInSpan, column_of, values_of as row_values}
use Rattle.mapping.proofs.Deals.{turn_below, turn_next, turn-first}
use Rattle.mapping.proofs.Theorems.{processors-length, table_below, table-processors, table-messages}
use Rattle.sequential.specs.Sequential.{sequential, loop, rule_of, values_of}
use Rattle.planner.specs.Plan.{Planning}
use Rattle.planner.specs.Plan.{plan_answer}

-- ---- the table of groups

-- the first four numbers of a row
abbrev quad : Vector → Vector
quad v = get_or v 0 (pos 0) ∷ get_or v 1 (pos 0) ∷ get_or v 2 (pos 0) ∷ get_or v 3 (pos 0) ∷ []

quad_at : (v : Vector) (i : ℕ) → i < max_depth → get_or v i (pos 0) ≡ get_or (quad v) i (pos 0)
quad_at v zero h = refl
quad_at v (suc zero) h = refl
quad_at v (suc (suc zero)) h = refl
quad_at v (suc (suc (suc zero))) h = refl
quad_at v (suc (suc (suc (suc i)))) h = absurd (omega arith)

-- numbers read from the second on, and the first one last
turned : (x : ℤ) (v : Vector) → tab (λ j. get_or (x ∷ v) (next_turn (suc (length v)) j) (pos 0)) (suc (length v)) ≡ v ++ (x ∷ [])
unfolding tab
turned x v =
    ap₂ (λ (w : Vector) (i : ℕ). w ++ (get_or (x ∷ v) i (pos 0) ∷ []))
    (tab-list (λ j. get_or (x ∷ v) (next_turn (suc (length v)) j) (pos 0)) v (pos 0) (length v) refl (λ j h. ap (λ (i : ℕ). get_or (x ∷ v) i (pos 0)) (let e : j + 1 ≡ suc j = omega arith in turn_next (suc (length v)) j (omega arith) ∙ e)))
    (turn-first (suc (length v)) (length v) (omega arith))

-- what the code's three places for chosen vectors hold: the coordinates in the order of choice, and 0 where no vector is chosen
along-padded : (count : ℕ) (x y z : ℤ) → count ≤ 3 → Fill count x y z → padded (max_depth - 1) (reverse (pick count x y z)) ≡ x ∷ y ∷ z ∷ []
unfolding padded
along-padded zero x y z h f = λ i. sym f.0 i ∷ sym f.1 i ∷ sym f.2 i ∷ []
along-padded (suc zero) x y z h f = λ i. x ∷ sym f.0 i ∷ sym f.1 i ∷ []
along-padded (suc (suc zero)) x y z h f = λ i. x ∷ y ∷ sym f i ∷ []
along-padded (suc (suc (suc zero))) x y z h f = refl
along-padded (suc (suc (suc (suc n)))) x y z h f = absurd (omega arith)

-- the values of a row are those of its group
values_are : (v : Vector) (count : ℕ) (g : Group) → count < max_depth → GroupRow count g v → row_values v ≡ in_order g
unfolding row_values column_of order_in
values_are v count g h r =
    tab-same (λ j. get_or v (next_turn max_depth j) (pos 0)) (λ j. get_or (quad v) (next_turn max_depth j) (pos 0)) max_depth
    (λ j l. quad_at v (next_turn max_depth j) (turn_below max_depth j l))
    ∙ turned (get_or v 0 (pos 0)) (drop 1 (quad v))
    ∙ ap₂ (λ (w : Vector) (c : ℤ). w ++ (c ∷ []))
    (sym (along-padded count (get_or v 1 (pos 0)) (get_or v 2 (pos 0)) (get_or v 3 (pos 0)) (omega arith) r.fill) ∙ ap (λ (l : List ℤ). padded (max_depth - 1) (reverse l)) r.along_is)
    r.class_is

-- the rows in front of a table of groups
pub front_table : (k n : ℕ) (gs : List Group) (table : List Vector) → GroupTable k gs table → n ≡ length gs → GroupTable k gs (take n table)
front_table k n gs table T e = λ c h. subst (GroupRow k (get_or gs c no_group)) (sym (get_or-take n table c [] (omega (arith, e, h)))) (T c h)

module _ (s : LoopNest) (ok : refusal s ≡ 0) (rows : List Vector) (T : GroupTable (chosen_of s) (block_groups s) rows) where
  -- fewer vectors are chosen than there may be loops
  few : chosen_of s < max_depth
  few = omega (arith, chosen-bound s ok, (depth_is s ok).1)

  -- there is a row for each block
  pub has_rows : (n : ℕ) → n ≡ block_count s → n ≤ length rows → RowsInSpan rows n
  unfolding block_count
  has_rows n e h = record { room = h; sized = λ k l. (T k (omega (arith, l, e))).within }

  -- the table holds the groups
  pub laid : block_count s ≤ length rows → Laid (block_groups s) rows
  laid h = record {
    has_rows = has_rows (length (block_groups s)) (unfold block_count in refl) (unfold block_count in h);
    laid = λ k l j b. ap (λ (v : Vector). get_or v j (pos 0)) (values_are (row rows k) (chosen_of s) (get_or (block_groups s) k no_group) few (T k l));
  }

-- ---- a table that starts with the processors
module _ (s : LoopNest) (rest : List ℕ) (n : ℕ) (e : n ≡ length (points_of s)) (ps : List ℕ) (q : ps ≡ processors_of s ++ rest) where
  -- it has an entry for each iteration
  pub placed_room : n ≤ length ps
  placed_room = omega (arith, e, ap (λ (l : List ℕ). length l) q, length-append (processors_of s) rest, processors-length s)

  -- its first entries are processors of the largest hypercube
  pub placed_below : refusal s ≡ 0 → (k : ℕ) → k < n → get_or ps k 0 < 2 ^ max_cube
  placed_below ok k h = subst (λ (l : List ℕ). get_or l k 0 < 2 ^ max_cube) (sym q) (table_below s rest n e ok k h)

  -- the different ones and the messages are the nest's
  pub placed_processors : length (firsts eqb (take n ps)) ≡ processor_count s
  placed_processors = ap (λ (l : List ℕ). length (firsts eqb (take n l))) q ∙ table-processors s rest n e

  pub placed_messages : total (tab (λ k. count (is_message s (take n ps) k) (tab (λ i. i) (count_of s))) n) ≡ message_count s
  placed_messages = ap (λ (l : List ℕ). total (tab (λ k. count (is_message s (take n l) k) (tab (λ i. i) (count_of s))) n)) q ∙ table-messages s rest n e

-- ---- the values and the answer

-- the table that the loop leaves starts with the values
pub loop-values : (s : LoopNest) (old : List ℕ) (n : ℕ) → n ≡ length (points_of s) → loop (rule_of s) s (length (points_of s)) ++ drop (length (points_of s)) old ≡ values_of s ++ drop n old
unfolding values_of sequential
loop-values s old n e = ap (λ (k : ℕ). loop (rule_of s) s (length (points_of s)) ++ drop k old) (sym e)

-- the answer to a call that is not refused
pub answer-is : (s : LoopNest) (n a b p m : ℕ) → n ≡ length (points_of s) → a ≡ step_count s → b ≡ block_count s → p ≡ processor_count s → m ≡ message_count s
    → record { refusal = 0; iterations = n; steps = a; blocks = b; processors = p; messages = m } ≡ plan_answer s 0
unfolding plan_answer
answer-is s n a b p m en ea eb ep em =
    ap (λ (x : ℕ). made x a b p m) en ∙ ap (λ (x : ℕ). made (length (points_of s)) x b p m) ea ∙ ap (λ (x : ℕ). made (length (points_of s)) (step_count s) x p m) eb
    ∙ ap (λ (x : ℕ). made (length (points_of s)) (step_count s) (block_count s) x m) ep ∙ ap (λ (x : ℕ). made (length (points_of s)) (step_count s) (block_count s) (processor_count s) x) em
  where
    made : ℕ → ℕ → ℕ → ℕ → ℕ → Planning
    made x y z u v = record { refusal = 0; iterations = x; steps = y; blocks = z; processors = u; messages = v }
