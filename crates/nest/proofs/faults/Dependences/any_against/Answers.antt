-- `any_against` meets its contract. Assumes nothing.
use mathlib.Core.Path.{◌≡◌, ◌∙◌, ap}
use mathlib.Core.Bool.{false}
use mathlib.Core.List.{List, []}
use Prim.Native.Nat.{◌≤◌}
use lib.IntN.{ℤ}
use lib.ListN.{length, take}
use borrow.Author.Rules.{rules}
use Rattle.std.proofs.lemmas.Iterator.{YieldsList-from_slice}
use Rattle.std.proofs.lemmas.Iterator.Adapters.{serves_from_places}
use Rattle.nest.specs.Nest.{max_depth}
use Rattle.nest.specs.Refusals.{out_of_span}
use Rattle.std.proofs.lemmas.List.{get_or_default}
use Rattle.nest.proofs.faults.Dependences.any_against.Goals as goal

-- each row is in span
pub any-requires-clause-callable : goal.any-requires-clause-callable
any-requires-clause-callable c =
    let s = c.args.self.now in
    let n = c.requires.lengths in
    serves_from_places (YieldsList-from_slice s.rows.now cc) (λ x q r. search rules)
    (λ x k h e.
    let few : length c.args.time.now ≤ max_depth = rw n s.few in
    let row : out_of_span (take (length c.args.time.now) x.now) ≡ false = rw n (ap (λ (v : List ℤ). out_of_span (take s.n v)) (e ∙ get_or_default s.rows.now k x.now [] h) ∙ c.requires.row_spans k h) in
    search rules)
