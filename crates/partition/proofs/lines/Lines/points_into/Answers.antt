-- `points_into` meets its contract. Assumes nothing.
use Rattle.std.proofs.Common.{◌≡◌, ◌∙◌, ◌<◌, ℕ, ℤ, pos, length, map, get_or, refl, sym, ap, subst, arith}
use lib.Dec.{lit≤}
use Rattle.integers.proofs.Bounds.{back}
use Rattle.integers.proofs.Machine.{reads}
use Rattle.integers.specs.Lists.{tab}
use Rattle.integers.proofs.Lists.{tab-list, map-tab, length-tab, get_or-tab}
use Rattle.integers.specs.Vector.{Vector, AllWithin}
use Rattle.integers.proofs.Vector.{get_or-within}
use Rattle.nest.specs.Nest.{padded, max_depth, max_limit}
use Rattle.numbering.specs.Tables.{RowsWithin}
use Rattle.numbering.proofs.Filled.{filled_none, filled_more}
use Rattle.sources.specs.Keys.{digits}
use Rattle.partition.specs.Heads.{points_by}
use Rattle.partition.proofs.NestVectors.{padded-within}
use Rattle.partition.proofs.Passed.{filled-all}
use Rattle.partition.proofs.lines.Lines.points_into.Invariants.{point_at}
use Rattle.partition.proofs.lines.Lines.points_into.Goals as goal
use Rattle.partition.proofs.lines.Lines.points_into.Goals.{In-loop-l, Start}

-- the point of a line
abbrev at : Start → ℕ → Vector
at d = let s = d.args.self.now in point_at s.keys.now s.depth s.heads.now

pub loop-l-init : goal.loop-l-init
loop-l-init c = filled_none (at (goal.at.loop-l-init c).Start) c.args.points.now

pub loop-l-preserved : goal.loop-l-preserved
loop-l-preserved c =
    let s = c.args.self.now in
    let l = c.loop-l.l in
    let h : l < length s.heads.now = omega (arith, c.requires, c.loop-l-test.true) in
    let k = get_or s.heads.now l 0 in
    let e : c.vector_at.result ≡ at (goal.at.loop-l-preserved c).Start l =
    c.vector_at.ensures ∙ ap (λ i. padded max_depth (digits s.depth (reads (get_or s.keys.now i (pos 0))))) c.from-head.ensures
    ∙ ap (λ (z : ℤ). padded max_depth (digits s.depth z)) (back (get_or s.keys.now k (pos 0)) (s.lines.head_points l h).key_small (lit≤ tt)) in
    filled_more (at (goal.at.loop-l-preserved c).Start) c.args.points.now l c.vector_at.result c.loop-l.points (omega arith) c.loop-l.invariant e

pub returns : goal.returns
unfolding points_by
returns c =
    let d = (goal.at.returns c).Start in
    let s = c.args.self.now in
    let n = length s.heads.now in
    let all : c.loop-l.points ≡ tab (at d) n = filled-all (at d) c.args.points.now c.loop-l.points c.loop-l.l n c.loop-l.invariant c.requires (omega (arith, c.requires, c.loop-l-test.false)) in
    let f = λ (k : ℕ). padded 4 (digits s.depth (get_or s.keys.now k (pos 0))) in
    let same : tab (at d) n ≡ map f s.heads.now =
    sym (map-tab f (λ l. get_or s.heads.now l 0) n) ∙ ap (map f) (tab-list (λ l. get_or s.heads.now l 0) s.heads.now 0 n refl (λ i l. refl)) in (
      all ∙ same,
      subst (RowsWithin max_limit) (sym all)
          (λ l e h.
          let i : l < n = omega (arith, h, length-tab (at d) n) in
          let v = digits s.depth (get_or s.keys.now (get_or s.heads.now l 0) (pos 0)) in
          subst (AllWithin max_limit) (sym (get_or-tab (at d) n l e i)) (padded-within max_limit 4 (length v) v refl (λ j b. get_or-within max_limit v j (s.lines.head_points l i).within))),
    )
