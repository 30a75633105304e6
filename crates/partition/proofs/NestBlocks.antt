-- The blocks of an accepted nest from the tables that are made for its projection lines. Assumes nothing.
use mathlib.Core.Path.{◌≡◌, sym, ap, ap₂, subst, ◌∙◌}
use mathlib.Core.List.{List, ◌++◌, map}
use Prim.Native.Nat.{ℕ, ◌<◌, ◌≤◌}
use native.Mathlib.Omega.{arith}
use lib.IntN.{ℤ, pos}
use lib.ListN.{length, get_or, drop}
use lib.Seq.{drop_at}
use Rattle.integers.specs.Lists.{tab}
use Rattle.integers.proofs.Lists.{tab-same}
use Rattle.integers.specs.Vector.{Vector, AllWithin}
use Rattle.integers.proofs.ListFacts.{get_or-before}
use Rattle.nest.specs.declared.LoopNest.{LoopNest}
use Rattle.nest.specs.Nest.{padded, depth_of, time_of, dependences_of, max_limit}
use Rattle.nest.specs.Points.{points_of, point}
use Rattle.nest.specs.Refusals.{refusal}
use Rattle.sources.specs.Keys.{digits, keys_of, source_in}
use Rattle.sources.proofs.Arrays.{keys_length}
use Rattle.sources.proofs.Cursors.{keys-most}
use Rattle.sources.proofs.NestKeys.{point-within, digits-point}
use Rattle.grouping.specs.declared.dual_basis.SizedBasis.{SizedBasis}
use Rattle.grouping.specs.Basis.{vector_of, dual_of, chosen_in, basis_frame}
use Rattle.grouping.specs.Grouping.{Frame, Group, chosen_vectors, blocks, block_number}
use Rattle.grouping.specs.Projection.{group_size}
use Rattle.partition.specs.GroupRows.{groups_on, GroupTable}
use Rattle.partition.specs.Heads.{heads_to, lines_to, points_by, PointAt}
use Rattle.partition.specs.Lines.{Apart}
use Rattle.partition.specs.Partition.{no_group, blocks_of, block_count, block_groups, chosen_of}
use Rattle.partition.proofs.Answers.{count_same, heads-blocks, heads-count, heads-numbers}
use Rattle.partition.proofs.HeadLaws.{head-below, heads-few, line-below, lines-length}
use Rattle.partition.proofs.Passed.{map_same}
use Rattle.partition.proofs.NestLines.{line-projection}

-- ---- points by their keys

module _ (s : LoopNest) (ok : refusal s ≡ 0) where
  -- an iteration has a key and a small point
  pub point_at : (k : ℕ) → k < length (points_of s) → PointAt (keys_of s) (depth_of s) k
  point_at k h = record {
    iteration = omega (arith, keys_length s, h);
    key_small = keys-most s ok k;
    within = subst (AllWithin max_limit) (sym (digits-point s ok k h)) (point-within s ok k h);
  }

  -- the points of some iterations
  points_by_lem : (zs : List ℕ) → ((i : ℕ) → i < length zs → get_or zs i 0 < length (points_of s)) → points_by (keys_of s) (depth_of s) zs ≡ map (λ k. padded 4 (point s k)) zs
  unfolding points_by
  points_by_lem zs low = map_same 0 (λ k. padded 4 (digits (depth_of s) (get_or (keys_of s) k (pos 0)))) (λ k. padded 4 (point s k)) zs (λ i l. ap (padded 4) (digits-point s ok (get_or zs i 0) (low i l)))

-- ---- the tables of lines

module _ (s : LoopNest) (ok : refusal s ≡ 0) (before : ℕ → ℕ) (heads lines₀ lines : List ℕ) (heads_are : heads ≡ heads_to before (length (points_of s)))
    (lines_are : lines ≡ lines_to before (length (points_of s)) ++ drop (length (points_of s)) lines₀) where
  counted : length heads ≡ length (heads_to before (length (points_of s)))
  counted = ap (λ (hs : List ℕ). length hs) heads_are

  -- no more lines than iterations
  pub lines-few : length heads ≤ length (points_of s)
  lines-few = omega (arith, counted, heads-few before (length (points_of s)))

  -- the first iterations are iterations
  pub heads-points : (l : ℕ) → l < length heads → PointAt (keys_of s) (depth_of s) (get_or heads l 0)
  heads-points l h = point_at s ok (get_or heads l 0) (subst (λ (k : ℕ). k < length (points_of s)) (ap (λ (hs : List ℕ). get_or hs l 0) (sym heads_are)) (head-below before (length (points_of s)) l (omega (arith, counted, h))))

  -- the number of an iteration's line
  line_at : (k : ℕ) → k < length (points_of s) → get_or lines k 0 ≡ get_or (lines_to before (length (points_of s))) k 0
  line_at k h = ap (λ (l : List ℕ). get_or l k 0) lines_are ∙ get_or-before 0 (lines_to before (length (points_of s))) (drop (length (points_of s)) lines₀) k (omega (arith, lines-length before (length (points_of s)), h))

  -- it is one of the lines
  pub lines-low : (k : ℕ) → k < length (points_of s) → get_or lines k 0 < length heads
  lines-low k h = omega (arith, line_at k h, line-below before (length (points_of s)) k h, counted)

  -- what stands behind
  lines_rest : drop (length (points_of s)) lines ≡ drop (length (points_of s)) lines₀
  lines_rest = ap (drop (length (points_of s))) lines_are ∙ drop_at (lines_to before (length (points_of s))) (drop (length (points_of s)) lines₀) (length (points_of s)) (lines-length before (length (points_of s)))

  module _ (f : SizedBasis) (time : f.basis.p ≡ padded 4 (time_of s)) (chosen : chosen_in f.basis ≡ map (padded 4) (chosen_vectors (time_of s) (dependences_of s)))
      (size : f.r ≡ group_size (time_of s) (dependences_of s)) (distance : ℤ) (A : Apart f.basis.p (depth_of s) distance) (by : before ≡ (λ k. source_in (keys_of s) k distance)) where
    abbrev F : Frame
    F = basis_frame f

    -- the groups of the first iterations, as they are computed
    abbrev gs : List Group
    gs = groups_on F (points_by (keys_of s) (depth_of s) heads)

    -- and as they are defined
    abbrev hs : List ℕ
    hs = heads_to (λ k. source_in (keys_of s) k distance) (length (points_of s))

    gs_are : gs ≡ groups_on F (map (λ k. padded 4 (point s k)) hs)
    gs_are =
        ap (λ (zs : List ℕ). groups_on F (points_by (keys_of s) (depth_of s) zs)) (heads_are ∙ ap (λ (q : ℕ → ℕ). heads_to q (length (points_of s))) by)
        ∙ ap (groups_on F) (points_by_lem s ok hs (head-below (λ k. source_in (keys_of s) k distance) (length (points_of s))))

    -- the number of blocks
    pub blocks-number : length (blocks gs) ≡ block_count s
    blocks-number = ap (λ (l : List Group). length (blocks l)) gs_are ∙ heads-count s ok f.basis.p f.basis.count (vector_of f.basis 0) (vector_of f.basis 1) (vector_of f.basis 2) (dual_of f.basis 0) (dual_of f.basis 1) (dual_of f.basis 2) f.basis.d f.r f.basis.framed time chosen size (λ k. source_in (keys_of s) k distance) (line-projection s ok f.basis.p time distance A)

    -- their table
    pub blocks-table : (out : List ℕ) → out ≡ tab (λ k. block_number (blocks gs) (get_or gs (get_or lines k 0) no_group)) (length (points_of s)) ++ drop (length (points_of s)) lines
        → out ≡ blocks_of s ++ drop (length (points_of s)) lines₀
    blocks-table out e =
        e ∙ ap (λ (l : List ℕ). tab (λ k. block_number (blocks gs) (get_or gs (get_or lines k 0) no_group)) (length (points_of s)) ++ l) lines_rest
        ∙ ap (λ (l : List ℕ). l ++ drop (length (points_of s)) lines₀)
        (tab-same (λ k. block_number (blocks gs) (get_or gs (get_or lines k 0) no_group)) (λ k. block_number (blocks gs) (get_or gs (get_or (lines_to before (length (points_of s))) k 0) no_group)) (length (points_of s)) (λ k h. ap (λ (i : ℕ). block_number (blocks gs) (get_or gs i no_group)) (line_at k h))
        ∙ ap₂ (λ (l : List Group) (q : ℕ → ℕ). tab (λ k. block_number (blocks l) (get_or l (get_or (lines_to q (length (points_of s))) k 0) no_group)) (length (points_of s))) gs_are by
        ∙ heads-numbers s ok f.basis.p f.basis.count (vector_of f.basis 0) (vector_of f.basis 1) (vector_of f.basis 2) (dual_of f.basis 0) (dual_of f.basis 1) (dual_of f.basis 2) f.basis.d f.r f.basis.framed time chosen size (λ k. source_in (keys_of s) k distance) (line-projection s ok f.basis.p time distance A))

    -- and their groups
    pub blocks-groups : (U : List Vector) → GroupTable f.basis.count (blocks gs) U → GroupTable (chosen_of s) (block_groups s) U
    blocks-groups U G =
        subst (λ (k : ℕ). GroupTable k (block_groups s) U) (count_same s ok f.basis.p f.basis.count (vector_of f.basis 0) (vector_of f.basis 1) (vector_of f.basis 2) (dual_of f.basis 0) (dual_of f.basis 1) (dual_of f.basis 2) f.basis.d f.r f.basis.framed time chosen size)
        (subst (λ (bs : List Group). GroupTable f.basis.count bs U) (ap blocks gs_are ∙ heads-blocks s ok f.basis.p f.basis.count (vector_of f.basis 0) (vector_of f.basis 1) (vector_of f.basis 2) (dual_of f.basis 0) (dual_of f.basis 1) (dual_of f.basis 2) f.basis.d f.r f.basis.framed time chosen size (λ k. source_in (keys_of s) k distance) (line-projection s ok f.basis.p time distance A)) G)
