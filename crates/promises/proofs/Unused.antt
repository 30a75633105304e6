-- Number 12 is not used (document 02, U8): an entry's one outcome has the number 0 or that of one of its refusals, and 12 is none of these. That its condition cannot come up
-- is `nest` Twelve.
-- Assumes nothing.
use mathlib.Core.Path.{◌≡◌, refl, sym, ap, ◌∙◌}
use mathlib.Core.Bool.{false}
use mathlib.Core.List.{List, ◌∷◌}
use Prim.Native.Nat.{ℕ}
use borrow.Author.Tests.{eq-eqb}
use lib.Dec.{eqb}
use Rattle.integers.specs.Lists.{any}
use Rattle.integers.proofs.Lists.{clash}
use Rattle.integers.proofs.ListFacts.{any-mem}
use Rattle.execution.specs.Rules.{Move, compute, deliver}
use Rattle.execution.specs.Entry.{move_of}
use Rattle.promises.specs.Demand1.{move_numbers, OneOutcome, EveryEntry, Never, TwelveUnused}
use Rattle.promises.proofs.FirstDemand.{demand_1}

-- a number is none of a list, and not 0
abbrev Unlisted : ℕ → List ℕ → Type 0
Unlisted n listed = any (eqb n) (0 ∷ listed) ≡ false

-- then no outcome has it
never : {A : Type 0} {P : A → Type 0} {number : A → ℕ} {listed : List ℕ} {Untouched : A → Type 0} (n : ℕ) → OneOutcome A P number listed Untouched → Unlisted n listed
    → Never n A P number
never {number = number} {listed = listed} n one free a p e =
    clash (any-mem (eqb n) (0 ∷ listed) (number one.outcome) one.number_listed (eq-eqb n (number one.outcome) (sym e ∙ ap number (one.no_other a p)))) free

-- 12 is none of a move's
move_unlisted : (mv : Move) → Unlisted 12 (move_numbers mv)
unfolding any
move_unlisted (compute p) = refl
move_unlisted (deliver k i) = refl

-- no entry answers it
pub twelve_unused : TwelveUnused
unfolding any
twelve_unused =
    let one : EveryEntry OneOutcome = demand_1.entries in
    record {
      check = λ s. never _ (one.check s) refl;
      inspect = λ s. never _ (one.inspect s) refl;
      most_receivers = λ s. never _ (one.most_receivers s) refl;
      read = λ text. never _ (one.read text) refl;
      write = λ s old. never _ (one.write s old) refl;
      locate = λ s entries i. never _ (one.locate s entries i) refl;
      row = λ s table i. never _ (one.row s table i) refl;
      fill = λ s old. never _ (one.fill s old) refl;
      plan = λ s old. never _ (one.plan s old) refl;
      list = λ text old. never _ (one.list text old) refl;
      move = λ s L st mv. never _ (one.move s L st mv) (move_unlisted mv);
      read_into = λ text. never _ (one.read_into text) refl;
      move_into = λ s L st what. never _ (one.move_into s L st what) (move_unlisted (move_of what));
    }
