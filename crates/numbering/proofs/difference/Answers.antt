-- `difference` answers the difference of two rows.
use mathlib.Core.Path.{◌≡◌, ◌∙◌}
use mathlib.Core.List.{[], ◌∷◌}
use Prim.Native.Nat.{ℕ}
use lib.ListN.{get_or}
use lib.IntN.{pos, ◌-ℤ◌}
use native.Mathlib.Omega.{arith}
use Rattle.integers.proofs.Machine.{reads, read}
use Rattle.integers.proofs.Solver.{var, ◌⊖◌}
use Rattle.integers.proofs.Vector.{get_or-within}
use Rattle.numbering.proofs.TableRows.{row-minus}
use Rattle.numbering.proofs.difference.Goals as goal

pub returns : goal.returns
returns c = cc (at 0, at 1, at 2, at 3) ∙ row-minus c.args.a c.args.b (omega arith) (omega arith)
  where
    at : (i : ℕ) → reads (reads (get_or c.args.a i (pos 0)) -ℤ reads (get_or c.args.b i (pos 0))) ≡ get_or c.args.a i (pos 0) -ℤ get_or c.args.b i (pos 0)
    at i =
        read (get_or c.args.a i (pos 0) ∷ get_or c.args.b i (pos 0) ∷ []) (1000 ∷ 1000 ∷ []) (var 0 ⊖ var 1)
        (get_or-within 1000 c.args.a i c.requires.0, (get_or-within 1000 c.args.b i c.requires.1, tt)) tt
