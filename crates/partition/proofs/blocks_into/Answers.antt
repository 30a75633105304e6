-- `blocks_into` writes the block numbers of an accepted nest and the groups of its blocks. Assumes nothing.
use Rattle.std.proofs.Common.{◌≡◌, ◌∙◌, ◌≤◌, ◌<◌, ◌++◌, ℕ, List, ℤ, length, get_or, take, drop, sym, ap, ap₂, subst, subst₂, arith}
use Rattle.integers.proofs.Bounds.{told}
use Rattle.integers.proofs.Machine.{reads}
use Rattle.integers.specs.Lists.{tab}
use Rattle.nest.specs.Nest.{depth_of}
use Rattle.nest.specs.Points.{points_of}
use Rattle.nest.proofs.Accepted.{depth_is}
use Rattle.nest.proofs.PointLaws.{few-points}
use Rattle.sources.specs.Keys.{keys_of, source_in, Searchable}
use Rattle.sources.proofs.Arrays.{keys_length}
use Rattle.grouping.specs.Basis.{basis_frame}
use Rattle.grouping.specs.Grouping.{Group, blocks, block_number}
use Rattle.partition.specs.GroupRows.{groups_on, GroupTable}
use Rattle.partition.specs.Heads.{heads_to, lines_to, points_by, PointAt}
use Rattle.partition.specs.Partition.{no_group}
use Rattle.partition.specs.Lines.{Apart}
use Rattle.partition.proofs.NestBlocks.{lines-few, heads-points, lines-low, blocks-number, blocks-table, blocks-groups}
use Rattle.partition.proofs.NestLines.{line_searchable}
use Rattle.partition.proofs.blocks_into.Goals as goal
use Rattle.partition.proofs.blocks_into.Goals.{After-line_distance, After-lines_into-count, Start}

-- there is a key for each iteration
keys-count : (d : Start) → length d.args.s.now.keys.now ≡ length (points_of d.args.s.now.nest.now.nest)
keys-count d = ap (λ (l : List ℤ). length l) d.args.s.now.keyed ∙ keys_length d.args.s.now.nest.now.nest

pub line_distance-requires : goal.line_distance-requires
line_distance-requires c = (c.basis_of-f.result.basis.framed.small.0, omega (arith, c.depth-depth.ensures, (depth_is c.args.s.now.nest.now.nest c.args.s.now.nest.now.accepted).1))

-- how far apart neighbours on a line are
apart : (c : After-line_distance) → Apart c.basis_of-f.result.basis.p (depth_of c.args.s.now.nest.now.nest) c.line_distance.result
apart c = subst (λ (n : ℕ). Apart c.basis_of-f.result.basis.p n c.line_distance.result) c.depth-depth.ensures c.line_distance.ensures

-- as the machine reads it
distance_read : (c : After-line_distance) → reads c.line_distance.result ≡ c.line_distance.result
distance_read c = told c.line_distance.result c.line_distance.type_inv

pub lines_into-count-requires : goal.lines_into-count-requires
lines_into-count-requires c =
    let d = (goal.at.lines_into-count-requires c).After-line_distance in
    let s = c.args.s.now.nest.now.nest in
    let f = few-points s c.args.s.now.nest.now.accepted in
    let k = keys-count (goal.at.lines_into-count-requires c).Start in (
      omega (arith, f, k),
      omega (arith, f, k),
      omega (arith, k, c.requires.1),
      subst₂ Searchable (sym c.args.s.now.keyed) (sym (distance_read d)) (line_searchable s c.args.s.now.nest.now.accepted c.basis_of-f.result.basis.p c.basis_of-f.ensures.p_value.0 c.line_distance.result (apart d)),
    )

abbrev before : After-lines_into-count → ℕ → ℕ
before m = λ k. source_in m.args.s.now.keys.now k (reads m.line_distance.result)

-- the first iterations, and the numbers of the lines
abbrev heads : After-lines_into-count → List ℕ
heads m = take m.lines_into-count.result m.lines_into-count.new.heads

abbrev lines : After-lines_into-count → List ℕ
lines m = m.lines_into-count.new.lines

heads_are : (m : After-lines_into-count) → heads m ≡ heads_to (before m) (length (points_of m.args.s.now.nest.now.nest))
heads_are m = m.lines_into-count.ensures.heads_after ∙ ap (heads_to (before m)) (keys-count (goal.at.After-lines_into-count m).Start)

lines_are : (m : After-lines_into-count) → lines m ≡ lines_to (before m) (length (points_of m.args.s.now.nest.now.nest)) ++ drop (length (points_of m.args.s.now.nest.now.nest)) m.args.blocks.now
lines_are m = m.lines_into-count.ensures.lines_after ∙ ap (λ (n : ℕ). lines_to (before m) n ++ drop n m.args.blocks.now) (keys-count (goal.at.After-lines_into-count m).Start)

few : (m : After-lines_into-count) → length (heads m) ≤ length (points_of m.args.s.now.nest.now.nest)
few m = lines-few m.args.s.now.nest.now.nest m.args.s.now.nest.now.accepted (before m) (heads m) m.args.blocks.now (lines m) (heads_are m) (lines_are m)

-- the iteration before is the source along the line
by : (m : After-lines_into-count) → before m ≡ (λ k. source_in (keys_of m.args.s.now.nest.now.nest) k m.line_distance.result)
by m = ap₂ (λ (ks : List ℤ) (z : ℤ). λ (k : ℕ). source_in ks k z) m.args.s.now.keyed (distance_read (goal.at.After-lines_into-count m).After-line_distance)

pub invariant_of-lines : goal.invariant_of-lines
invariant_of-lines c =
    let m = (goal.at.invariant_of-lines c).After-lines_into-count in
    let s = c.args.s.now.nest.now.nest in
    let ok = c.args.s.now.nest.now.accepted in
    record {
      lines = record {
        few_loops = omega (arith, c.depth-depth.ensures, (depth_is s ok).1);
        few_keys = omega (arith, few-points s ok, keys-count (goal.at.invariant_of-lines c).Start);
        few_lines_is = omega (arith, few-points s ok, few m);
        head_points =
            subst₂ (λ (ks : List ℤ) (n : ℕ). (i : ℕ) → i < length (heads m) → PointAt ks n (get_or (heads m) i 0)) (sym c.args.s.now.keyed) (sym c.depth-depth.ensures)
            (heads-points s ok (before m) (heads m) c.args.blocks.now (lines m) (heads_are m) (lines_are m));
      };
    }

pub group_lines-requires : goal.group_lines-requires
group_lines-requires c =
    let m = (goal.at.group_lines-requires c).After-lines_into-count in
    let k = keys-count (goal.at.group_lines-requires c).Start in
    record {
      lines_given = record {
        groups_long = omega (arith, few m, c.requires.0);
        numbers_long = omega (arith, c.lines_into-count.auto.lines, k, c.requires.1);
        line_low = λ i h. lines-low c.args.s.now.nest.now.nest c.args.s.now.nest.now.accepted (before m) (heads m) c.args.blocks.now (lines m) (heads_are m) (lines_are m) i (omega (arith, h, k));
      };
    }

-- the groups of the first iterations
same_groups : (m : After-lines_into-count)
    → let F = basis_frame m.basis_of-f.result in
    groups_on F (points_by m.args.s.now.keys.now m.depth-depth.result (heads m)) ≡ groups_on F (points_by (keys_of m.args.s.now.nest.now.nest) (depth_of m.args.s.now.nest.now.nest) (heads m))
same_groups m = ap₂ (λ (ks : List ℤ) (n : ℕ). groups_on (basis_frame m.basis_of-f.result) (points_by ks n (heads m))) m.args.s.now.keyed m.depth-depth.ensures

pub returns-clause-value : goal.returns-clause-value
returns-clause-value c =
    let m = (goal.at.returns-clause-value c).After-lines_into-count in
    let f = c.basis_of-f in
    c.group_lines.ensures.made_is ∙ ap (λ (gs : List Group). length (blocks gs)) (same_groups m)
    ∙ blocks-number c.args.s.now.nest.now.nest c.args.s.now.nest.now.accepted (before m) (heads m) c.args.blocks.now (lines m) (heads_are m) (lines_are m) f.result f.ensures.p_value.0 f.ensures.p_value.1 f.ensures.size
    c.line_distance.result (apart (goal.at.returns-clause-value c).After-line_distance) (by m)

pub returns-clause-blocks_after : goal.returns-clause-blocks_after
returns-clause-blocks_after c =
    let m = (goal.at.returns-clause-blocks_after c).After-lines_into-count in
    let f = c.basis_of-f in
    blocks-table c.args.s.now.nest.now.nest c.args.s.now.nest.now.accepted (before m) (heads m) c.args.blocks.now (lines m) (heads_are m) (lines_are m) f.result f.ensures.p_value.0 f.ensures.p_value.1 f.ensures.size
    c.line_distance.result (apart (goal.at.returns-clause-blocks_after c).After-line_distance) (by m) c.group_lines.new.numbers
    (c.group_lines.ensures.numbers_are ∙ ap₂ (λ (gs : List Group) (n : ℕ). tab (λ i. block_number (blocks gs) (get_or gs (get_or (lines m) i 0) no_group)) n ++ drop n (lines m)) (same_groups m) (keys-count (goal.at.returns-clause-blocks_after c).Start))

pub returns-clause-group_table : goal.returns-clause-group_table
returns-clause-group_table c =
    let m = (goal.at.returns-clause-group_table c).After-lines_into-count in
    let f = c.basis_of-f in
    blocks-groups c.args.s.now.nest.now.nest c.args.s.now.nest.now.accepted (before m) (heads m) c.args.blocks.now (lines m) (heads_are m) (lines_are m) f.result f.ensures.p_value.0 f.ensures.p_value.1 f.ensures.size
    c.line_distance.result (apart (goal.at.returns-clause-group_table c).After-line_distance) (by m) c.group_lines.new.groups
    (subst (λ (gs : List Group). GroupTable f.result.basis.count (blocks gs) c.group_lines.new.groups) (same_groups m) c.group_lines.ensures.groups_are)
