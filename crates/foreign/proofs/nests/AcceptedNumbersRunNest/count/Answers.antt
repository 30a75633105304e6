-- `count` meets its contract. Assumes nothing.
use mathlib.Core.Path.{◌≡◌, sym, ap, ◌∙◌}
use lib.IntN.{pos}
use lib.ListN.{get_or}
use Rattle.std.proofs.Common.{rules}
use Rattle.integers.proofs.Machine.{reads}
use Rattle.nest.specs.Nest.{to_ℕ}
use Rattle.foreign.proofs.Lent.{count-lent}
use Rattle.foreign.proofs.nests.AcceptedNumbersRunNest.count.Goals as goal

pub returns : goal.returns
returns c =
    let xs = c.args.self.now.numbers.now in
    let e : reads (get_or xs 1 (pos 0)) ≡ get_or xs 1 (pos 0) = search rules in
    c.to_size.ensures ∙ ap to_ℕ (e ∙ sym (count-lent xs))
