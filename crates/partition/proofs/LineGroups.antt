-- The tables of groups and of numbers over some points: what they say of the points' groups, and of the blocks that these make. Assumes nothing.
use mathlib.Core.Path.{◌≡◌, sym, ap, subst, subst₂, ◌∙◌}
use mathlib.Core.List.{List, [], ◌++◌, map, append-nil}
use Prim.Native.Nat.{ℕ, ◌<◌, ◌≤◌}
use native.Mathlib.Omega.{arith}
use lib.ListN.{length, get_or, take, drop, length-map}
use lib.Seq.{drop-length, take-length, length-take-le, get_or-take}
use Rattle.integers.specs.Lists.{tab, place, firsts}
use Rattle.integers.proofs.Lists.{tab-same, tab-list, map-tab}
use Rattle.integers.specs.Vector.{Vector, eq_v}
use Rattle.integers.proofs.ListFacts.{get_d_map, get_or-before}
use Rattle.grouping.specs.Grouping.{Frame, Group, group, seeds, blocks, block_number}
use Rattle.grouping.specs.Basis.{Grouped}
use Rattle.numbering.specs.Limits.{max_entry}
use Rattle.numbering.specs.Tables.{row, rows, RowsWithin}
use Rattle.numbering.proofs.TableRows.{get_d_rows, length-rows, rows-within}
use Rattle.classes.proofs.RowNumbers.{block_numbers, block_count_lem, block_rows}
use Rattle.partition.specs.Partition.{no_group}
use Rattle.partition.specs.GroupRows.{GroupRow, groups_on, GroupTable, LinesGrouped}

module _ (F : Frame) (count : ℕ) (t : List Vector) (n : ℕ) (ps K₀ K : List Vector) (lt : n ≤ length t) (lu : n ≤ length K) (G : Grouped F count t n K₀ K) (points : rows t n ≡ ps) where
  -- the groups
  abbrev gs : List Group
  gs = groups_on F ps

  gs_are : map (group F (seeds F (rows t n))) (rows t n) ≡ gs
  unfolding groups_on
  gs_are = ap (λ (R : List Vector). map (group F (seeds F R)) R) points

  -- how many there are
  gs-length : length gs ≡ n
  unfolding groups_on
  gs-length = length-map ps (group F (seeds F ps)) ∙ ap (λ (R : List Vector). length R) (sym points) ∙ length-rows t n lt

  -- as many blocks as different rows
  pub lines-count : length (firsts eq_v (rows K n)) ≡ length (blocks gs)
  lines-count = block_count_lem F count t n K₀ K lt lu G ∙ ap (λ (l : List Group). length (blocks l)) gs_are

  -- the number in the table is that of the block
  pub line-number : (out rest : List ℕ) → out ≡ map (λ x. place (eq_v x) (firsts eq_v (rows K n))) (rows K n) ++ rest → (l : ℕ) → l < n → get_or out l 0 ≡ block_number (blocks gs) (get_or gs l no_group)
  line-number out rest e l h =
      ap (λ (o : List ℕ). get_or o l 0) (e ∙ ap (λ (o : List ℕ). o ++ rest) (block_numbers F count t n K₀ K lt lu G ∙ ap (λ (l : List Group). map (block_number (blocks l)) l) gs_are))
      ∙ get_or-before 0 (map (block_number (blocks gs)) gs) rest l (omega (arith, length-map gs (block_number (blocks gs)), gs-length, h))
      ∙ get_d_map (block_number (blocks gs)) gs l no_group 0 (omega (arith, gs-length, h))

  -- so a table that leads to lines leads to blocks
  pub spread-is : (out rest lines : List ℕ) → out ≡ map (λ x. place (eq_v x) (firsts eq_v (rows K n))) (rows K n) ++ rest → (m : ℕ) → ((k : ℕ) → k < m → get_or lines k 0 < n)
      → tab (λ k. get_or out (get_or lines k 0) 0) m ≡ tab (λ k. block_number (blocks gs) (get_or gs (get_or lines k 0) no_group)) m
  spread-is out rest lines e m low = tab-same (λ k. get_or out (get_or lines k 0) 0) (λ k. block_number (blocks gs) (get_or gs (get_or lines k 0) no_group)) m (λ k h. line-number out rest e (get_or lines k 0) (low k h))

  -- a row is its group
  row_same : (j : ℕ) → j < n → GroupRow count (group F (seeds F (rows t n)) (row t j)) (row K j)
  unfolding group
  row_same j l = let k = G.grouped j l in record { class_is = k.class_is; along_is = k.along_is; fill = k.fill; within = G.within j l }

  -- the different rows, gathered, are the groups of the blocks
  pub gathered : (U : List Vector) → rows U (length (firsts eq_v (rows K n))) ≡ firsts eq_v (rows K n) → GroupTable count (blocks gs) U
  gathered U e c h =
      let l : c < length (firsts eq_v (rows K n)) = omega (arith, lines-count, h) in
      let b = block_rows F count t n K₀ K lt lu G no_group c l in
      subst₂ (GroupRow count) (sym (ap (λ (l : List Group). get_or (blocks l) c no_group) (sym gs_are) ∙ b.3)) (sym (sym (get_d_rows U (length (firsts eq_v (rows K n))) c l) ∙ ap (λ (R : List Vector). get_or R c []) e ∙ b.2)) (row_same b.0 b.1)

-- ---- what the functions over the points leave, one after the other

module _ (F : Frame) (count : ℕ) (t ps K₀ K : List Vector) (G : Grouped F count t (length t) K₀ K) (points : t ≡ ps) (room : length t ≤ length K)
    (old out : List ℕ) (numbered : out ≡ map (λ x. place (eq_v x) (firsts eq_v (rows K (length t)))) (rows K (length t)) ++ drop (length t) old) (found : length old ≡ length t) where
  -- the first rows are all
  all : rows t (length t) ≡ ps
  all = take-length t ∙ points

  -- nothing stands behind the numbers
  numbers-are : out ≡ map (λ x. place (eq_v x) (firsts eq_v (rows K (length t)))) (rows K (length t))
  numbers-are =
      numbered ∙ ap (λ (u : List ℕ). map (λ x. place (eq_v x) (firsts eq_v (rows K (length t)))) (rows K (length t)) ++ u) (ap (λ (n : ℕ). drop n old) (sym found) ∙ drop-length old)
      ∙ append-nil (map (λ x. place (eq_v x) (firsts eq_v (rows K (length t)))) (rows K (length t)))

  pub numbers-long : length out ≡ length t
  numbers-long = ap (λ (u : List ℕ). length u) numbers-are ∙ length-map (rows K (length t)) (λ x. place (eq_v x) (firsts eq_v (rows K (length t)))) ∙ length-rows K (length t) room

  -- what `gather` asks
  pub gather-within : RowsWithin max_entry (rows K (length out))
  gather-within = subst (λ (n : ℕ). RowsWithin max_entry (rows K n)) (sym numbers-long) (rows-within max_entry K (length t) G.within)

  -- what is left in the end
  pub lines-grouped : (made : ℕ) → made ≡ length (firsts eq_v (rows K (length t)))
      → (U : List Vector) → rows U (length (firsts eq_v (rows K (length out)))) ≡ firsts eq_v (rows K (length out))
      → (lines : List ℕ) (m : ℕ) → m ≤ length lines → ((k : ℕ) → k < m → get_or lines k 0 < length t)
      → (spread : List ℕ) → spread ≡ map (λ l. get_or out l 0) (take m lines)
      → LinesGrouped count (groups_on F ps) m lines (spread ++ drop m lines) U made
  lines-grouped made e U g lines m h low spread q =
      record {
        made_is = e ∙ lines-count F count t (length t) ps K₀ K (omega arith) room G all;
        numbers_are =
            ap (λ (u : List ℕ). u ++ drop m lines)
            (q ∙ sym (sym (map-tab (λ l. get_or out l 0) (λ k. get_or lines k 0) m) ∙ ap (map (λ l. get_or out l 0)) (tab-list (λ k. get_or lines k 0) (take m lines) 0 m (length-take-le m lines h) (λ k l. sym (get_or-take m lines k 0 l))))
            ∙ spread-is F count t (length t) ps K₀ K (omega arith) room G all out (drop (length t) old) lines numbered m low);
        groups_are = gathered F count t (length t) ps K₀ K (omega arith) room G all U (subst (λ (n : ℕ). rows U (length (firsts eq_v (rows K n))) ≡ firsts eq_v (rows K n)) numbers-long g);
      }
