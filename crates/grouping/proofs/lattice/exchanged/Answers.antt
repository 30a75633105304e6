-- `exchanged` meets its contract. Assumes nothing.
use mathlib.Core.Path.{◌∙◌}
use native.Mathlib.Omega.{arith}
use mathlib.Core.List.{List, []}
use Prim.Native.Nat.{◌+◌}
use lib.ListN.{get_or}
use Rattle.integers.specs.Vector.{Vector}
use Rattle.grouping.proofs.Exchange.{Taken, picked, swapped, taken, same-pick}
use Rattle.grouping.proofs.lattice.exchanged.Goals as goal
use Rattle.grouping.proofs.lattice.exchanged.Goals.{Start}

-- the vectors of the new basis
abbrev us : Start → List Vector
us d = swapped d.args.f.vectors d.args.f.count d.args.place d.args.w

there : (d : Start) → Taken d.args.f.p (picked d.args.f.count d.args.f.vectors) d.args.w (d.args.f.count + 1) (get_or (us d) 0 []) (get_or (us d) 1 []) (get_or (us d) 2 [])
there d = taken d.args.f.p d.args.f.count d.args.f.vectors d.args.f.duals d.args.f.d d.args.f.framed (omega arith) d.args.place d.requires.within.1 d.requires.within.2 d.args.w (omega arith) d.requires.within.0 d.requires.along

pub basis_from-requires : goal.basis_from-requires
basis_from-requires c = (there (goal.at.basis_from-requires c).Start).ready

pub returns : goal.returns
returns c =
    let x = c.basis_from.ensures.p_value in
    record { p_value = (x.0, same-pick x.1 x.2 ∙ (there (goal.at.returns c).Start).is) }
