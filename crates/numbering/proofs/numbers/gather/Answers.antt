-- `gather` meets its contract.
use mathlib.Core.Path.{◌≡◌}
use Prim.Native.Nat.{ℕ, ◌<◌}
use native.Mathlib.Omega.{arith}
use lib.ListN.{length, get_or}
use Rattle.integers.specs.Lists.{place, firsts}
use Rattle.integers.specs.Vector.{eq_v}
use Rattle.numbering.specs.Tables.{row, rows}
use Rattle.numbering.proofs.TableRows.{rows_within, rows-within}
use Rattle.numbering.proofs.Gathering.{number_is, number-low, gathered_start, gathered_more}
use Rattle.numbering.proofs.numbers.gather.Goals as goal
use Rattle.numbering.proofs.numbers.gather.Goals.{Start}

-- how many rows there are
abbrev many : Start → ℕ
many d = length d.args.numbers.now

-- the number of row i
at : (d : Start) (i : ℕ) → i < many d → get_or d.args.numbers.now i 0 ≡ place (eq_v (row d.args.table.now i)) (firsts eq_v (rows d.args.table.now (many d)))
at d i l = number_is d.args.table.now d.args.numbers.now d.requires.few.1 d.requires.by_index i l

pub loop-i-init : goal.loop-i-init
loop-i-init c = gathered_start 1000000000 c.args.table.now (length c.args.numbers.now) (rows_within 1000000000 c.args.table.now (length c.args.numbers.now) c.requires.few.1 c.requires.within)

pub bounds-table-number : goal.bounds-table-number
bounds-table-number c =
    let i = c.loop-i.i in
    let l = c.loop-i-test.true in
    omega (arith, l, at (goal.at.bounds-table-number c).Start i l, number-low c.args.table.now (length c.args.numbers.now) i c.requires.few.1 l, c.loop-i.invariant.size, c.requires.few.1)

pub loop-i-preserved : goal.loop-i-preserved
loop-i-preserved c =
    let i = c.loop-i.i in
    let l = c.loop-i-test.true in
    gathered_more 1000000000 c.args.table.now c.loop-i.table (length c.args.numbers.now) i (get_or c.args.numbers.now i 0) c.loop-i.invariant l c.requires.few.1 (at (goal.at.loop-i-preserved c).Start i l)

pub returns-clause-within_2 : goal.returns-clause-within_2
returns-clause-within_2 c = rows-within 1000000000 c.loop-i.table (length c.args.numbers.now) c.loop-i.invariant.within
