-- `number_table` meets its contract.
use mathlib.Core.List.{List, ◌++◌, map}
use native.Mathlib.Nat.{le_of_lt}
use mathlib.Core.Path.{◌≡◌, refl, ap, ◌∙◌}
use Prim.Native.Nat.{ℕ, ◌<◌}
use native.Mathlib.Omega.{arith}
use lib.ListN.{length, drop, length-set, length-replicate}
use lib.Seq.{take_all}
use Rattle.integers.specs.Lists.{place, firsts}
use Rattle.integers.specs.Vector.{Vector, eq_v}
use Rattle.numbering.specs.Tables.{row, rows}
use Rattle.numbering.proofs.ChainLaws.{hash_low, chained_start, chained_add}
use Rattle.numbering.proofs.Gathering.{rows_reflexive}
use Rattle.numbering.proofs.Table.{numbered-start, found_number, new_number, numbered_seen, numbered_new}
use Rattle.numbering.proofs.numbers.number_table.Goals as goal
use Rattle.numbering.proofs.numbers.number_table.Goals.{Start, At-loop-i, in-Some, in-None}

-- the row that a turn is at, and the facts of the turn
abbrev x : At-loop-i → Vector
x l = row l.args.table.now l.loop-i.i

room : (l : At-loop-i) → l.loop-i.i < length l.args.table.now → l.loop-i.chains.count < length l.loop-i.chains.heads
room l w = omega (arith, w, l.loop-i.invariant.numbered.few, l.loop-i.invariant.wide, l.requires.few.0)

pub loop-i-init : goal.loop-i-init
loop-i-init c =
    let e = c.new-chains.ensures in
    record {
      wide = ap (λ (u : List ℕ). length u) e.0 ∙ length-replicate {A = ℕ} 4096 0;
      numbered = rw e.3 (numbered-start eq_v c.args.table.now c.args.out.now c.new-chains.result.heads);
      chained = rw (e.1, e.2, e.3) (chained_start _);
    }

pub add-number-requires : goal.add-number-requires
add-number-requires c =
    let w = c.loop-i-test.true in (
      omega (arith, w, c.loop-i.invariant.numbered.few, c.requires.few.0),
      omega (arith, w, c.requires.few.0),
      omega (arith, c.hash_of-hash.ensures, hash_low (row c.args.table.now c.loop-i.i)),
    )

pub loop-i-preserved : goal.loop-i-preserved
loop-i-preserved c =
    let l = (goal.at.loop-i-preserved c).At-loop-i in
    let t = c.args.table.now in
    let o = c.args.out.now in
    let s = c.loop-i.chains in
    let i = c.loop-i.i in
    let N = c.loop-i.invariant.numbered in
    let h = c.loop-i-test.true in
    let wide : s.count < length s.heads = room l h in
    let long : i < length o = omega (arith, h, c.requires.few.1) in
    elim c.match-find.branch [
      | in-Some w ↦
          let f = w.in-Some.ensures.found in
          rw (w.chains-is, w.number-is) (record {
            wide = c.loop-i.invariant.wide;
            numbered = numbered_seen eq_v t (rows_reflexive t) o c.loop-i.out s.heads s.count i w.in-Some.number N wide h long (found_number t o c.loop-i.out s.heads s.count i w.in-Some.number (x l) N (le_of_lt wide) f.0 f.1) f.0;
            chained = c.loop-i.invariant.chained;
          })
      | in-None w ↦
          let a = w.add-number.ensures in
          rw (w.chains-is, w.number-is, a.number.0, a.number.1, a.heads, a.next, a.first) (record {
            wide = length-set s.heads s.count i ∙ c.loop-i.invariant.wide;
            numbered = numbered_new eq_v t (rows_reflexive t) o c.loop-i.out s.heads s.count i s.count N wide h long (new_number t o c.loop-i.out s.heads s.count i (x l) N (le_of_lt wide) (w.in-None.ensures.none refl)) refl;
            chained = chained_add t s.heads s.first s.next s.count i c.hash_of-hash.result c.loop-i.invariant.chained (omega (arith, wide, c.loop-i.invariant.wide)) wide c.hash_of-hash.ensures;
          })
    ]

pub returns-clause-out_after : goal.returns-clause-out_after
returns-clause-out_after c =
    let t = c.args.table.now in
    let e : rows t c.loop-i.i ≡ t = take_all c.loop-i.i t (omega (arith, c.loop-i-test.false)) in
    let q : c.loop-i.i ≡ length t = omega (arith, c.loop-i-test.false) in
    rw (← q) (c.loop-i.invariant.numbered.table ∙ ap (λ (xs : List Vector). map (λ y. place (eq_v y) (firsts eq_v xs)) xs ++ drop c.loop-i.i c.args.out.now) e)
