-- `extended` meets its contract. Assumes nothing.
use mathlib.Core.Path.{refl}
use native.Mathlib.Omega.{arith}
use lib.Dec.{lit≤}
use Rattle.integers.proofs.Vector.{all_wider}
use Rattle.grouping.proofs.Located.{dual-within}
use Rattle.grouping.proofs.Exchange.{left_out, nothing_along}
use Rattle.grouping.proofs.lattice.extended.Goals as goal

pub inner-requires : goal.inner-requires
inner-requires c = (dual-within c.args.f.duals c.args.f.framed _ (omega arith), all_wider 16 30000 c.args.w (lit≤ tt) c.requires.all_within)

pub returns : goal.returns
returns c = record { p_value = (refl, left_out c.args.f.framed c.args.w (omega arith) (nothing_along c.args.f.count c.args.f.duals c.args.w (λ k l m. c.loop-place.invariant k (omega arith) m))) }
