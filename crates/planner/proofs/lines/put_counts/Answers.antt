-- `put_counts` stores the line of its five numbers.
use borrow.Author.Rules.{rules}
use native.Mathlib.Omega.{arith}
use mathlib.Core.Path.{◌≡◌}
use mathlib.Core.List.{map}
use Prim.Native.Nat.{ℕ, ◌<◌}
use lib.IntN.{pos}
use lib.ListN.{length, get_or}
use Rattle.planner.proofs.LineLaws.{next_taken, made, counts_fit, counts-stored}
use Rattle.planner.proofs.lines.put_counts.Goals as goal
use Rattle.planner.proofs.lines.put_counts.Goals.{Start, After-map-numbers}

-- how many numbers there are
five : (c : Start) → length c.args.counts ≡ 5
five c = search rules

-- each that is cast is one of them
pub map-numbers-requires : goal.map-numbers-requires
map-numbers-requires c = (
  omega arith,
  (
    omega arith,
    (
      omega arith,
      record {
        at = λ xs left q x rest y f s κ p n e r.
            let t = next_taken c.args.counts xs left x rest y s in
            let small = c.requires.1 (length xs) (omega (arith, t.0, five (goal.at.map-numbers-requires c).Start)) in omega (arith, small, t.1);
      },
    ),
  ),
)

-- what is made of them
entry : (c : After-map-numbers) (i : ℕ) → i < 5 → get_or c.map-numbers.result i (pos 0) ≡ pos (get_or c.args.counts i 0)
entry c i h = let called = c.map-numbers.ensures.items.at i 0 (pos 0) h in search rules

numbers-are : (c : After-map-numbers) → c.map-numbers.result ≡ map pos c.args.counts
numbers-are c = made c.args.counts 5 (five (goal.at.After-map-numbers c).Start) c.requires.1 c.map-numbers.ensures.items.long (entry c)

pub put_line-requires : goal.put_line-requires
put_line-requires c =
    let p = (goal.at.put_line-requires c).After-map-numbers in
    let fit = counts_fit c.args.counts 5 (five (goal.at.put_line-requires c).Start) c.requires.1 (numbers-are p) in
    let long = c.map-numbers.ensures.items.long in
    (omega (arith, long), λ i h. fit i (omega (arith, h, long)))

pub returns : goal.returns
returns c = counts-stored c.args.counts 5 (five (goal.at.returns c).Start) c.requires.1 (numbers-are (goal.at.returns c).After-map-numbers) c.put_line.ensures
