-- `find` meets its contract.
use mathlib.Core.Path.{◌≡◌, sym, ◌∙◌, subst}
use Prim.Native.Nat.{ℕ, suc, ◌<◌}
use native.Mathlib.Omega.{arith}
use lib.ListN.{get_or}
use Rattle.integers.proofs.Vector.{eq_v_true, equal_answers}
use Rattle.numbering.specs.Tables.{row}
use Rattle.numbering.proofs.ChainLaws.{hash_low, searched_start, searched_more}
use Rattle.numbering.proofs.chains.Chains.find.Goals as goal
use Rattle.numbering.proofs.chains.Chains.find.Goals.{Start}

-- the hash of the row
short : (d : Start) → d.args.hash < 4096
short d = subst (λ (n : ℕ). n < 4096) (sym d.requires.hashed) (hash_low d.args.v.now)

pub offset_bounds-self-hash : goal.offset_bounds-self-hash
offset_bounds-self-hash c = omega (arith, short (goal.at.offset_bounds-self-hash c).Start)

pub bounds-self-hash : goal.bounds-self-hash
bounds-self-hash c = short (goal.at.bounds-self-hash c).Start

pub loop-number-init : goal.loop-number-init
loop-number-init c = let s = c.args.self.now in searched_start c.args.table.now s.heads s.first s.next s.count c.args.hash c.args.v.now c.requires.chained c.requires.hashed

pub returns-then-eq-clause-found : goal.returns-then-eq-clause-found
returns-then-eq-clause-found c =
    let w = row c.args.table.now (get_or c.args.self.now.heads c.in-Some.number 0) in
    (let m = c.loop-number.invariant.low in omega (arith, m), sym (eq_v_true c.args.v.now w (sym (equal_answers c.args.v.now w) ∙ sym c.eq.ensures ∙ c.if-eq.true)))

pub loop-number-preserved : goal.loop-number-preserved
loop-number-preserved c =
    let s = c.args.self.now in
    let w = row c.args.table.now (get_or s.heads c.in-Some.number 0) in
    let e : c.loop-number.link ≡ suc c.in-Some.number = omega arith in
    searched_more c.args.table.now s.heads s.first s.next s.count c.args.hash c.args.v.now c.requires.chained c.requires.hashed c.loop-number.link c.in-Some.number c.loop-number.invariant e
    (sym (equal_answers c.args.v.now w) ∙ sym c.eq.ensures ∙ c.if-eq.false)
