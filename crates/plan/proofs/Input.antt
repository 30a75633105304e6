-- The program reads no more than 394 bytes of its input, and prints what is printed for all of it. Assumes nothing.
use mathlib.Core.Path.{◌≡◌, ap₂}
use mathlib.Core.Bool.{true, false}
use mathlib.Core.List.{[], ◌∷◌}
use Prim.Native.Nat.{ℕ}
use lib.Dec.{eqb}
use lib.IntN.{pos}
use lib.ListN.{take}
use Rattle.nest.specs.declared.LoopNest.{LoopNest}
use Rattle.nest_text.specs.Fields.{Bytes}
use Rattle.nest_text.specs.Text.{line, read_most}
use Rattle.nest_text.proofs.ReadPrefix.{read_prefix}
use Rattle.planner.specs.Listing.{plan_text, listing}

-- what is printed for a text whose reading gives this number and this nest
printed : ℕ → LoopNest → Bytes
printed k s = elim (eqb k 0) [ true ↦ plan_text s | false ↦ line (pos k ∷ []) ]

pub input_decided : (bs : Bytes) → listing (take read_most bs) ≡ listing bs
unfolding listing printed
input_decided bs = let p = read_prefix bs in ap₂ printed p.0 p.1
