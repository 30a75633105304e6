-- `start` meets its contract. Assumes nothing.
use mathlib.Core.Path.{refl}
use native.Mathlib.Omega.{arith}
use lib.ListN.{get_or}
use lib.IntN.{pos}
use Rattle.grouping.proofs.Exchange.{start_0, start_1, start_2, start_3, last_not_zero, not_zero, is_zero}
use Rattle.integers.proofs.Vector.{get_or-within}
use Rattle.integers.proofs.Bounds.{small}
use Rattle.grouping.proofs.time_vector.TimeVector.start.Goals as goal

pub basis_from-requires : goal.basis_from-requires
basis_from-requires c = start_0 c.args.self.now.p (omega arith) c.args.self.now.within c.args.self.now.positive (not_zero (get_or c.args.self.now.p 0 (pos 0)) (get_or c.args.self.now.p 0 (pos 0)) refl c.if-p-ne0.true)

pub basis_from-requires-then-p-ne0-2 : goal.basis_from-requires-then-p-ne0-2
basis_from-requires-then-p-ne0-2 c = start_1 c.args.self.now.p (omega arith) c.args.self.now.within c.args.self.now.positive (not_zero (get_or c.args.self.now.p 1 (pos 0)) (get_or c.args.self.now.p 1 (pos 0)) refl c.if-p-ne0-2.true)

pub basis_from-requires-then-p-ne0-3 : goal.basis_from-requires-then-p-ne0-3
basis_from-requires-then-p-ne0-3 c = start_2 c.args.self.now.p (omega arith) c.args.self.now.within c.args.self.now.positive (not_zero (get_or c.args.self.now.p 2 (pos 0)) (get_or c.args.self.now.p 2 (pos 0)) refl c.if-p-ne0-3.true)

pub basis_from-requires-2 : goal.basis_from-requires-2
basis_from-requires-2 c = start_3 c.args.self.now.p (omega arith) c.args.self.now.within c.args.self.now.positive (last_not_zero c.args.self.now.p (omega arith) c.args.self.now.positive (is_zero (get_or c.args.self.now.p 0 (pos 0)) (get_or c.args.self.now.p 0 (pos 0)) refl (small (get_or c.args.self.now.p 0 (pos 0)) (get_or-within 16 c.args.self.now.p 0 c.args.self.now.within) (omega arith)).sfits c.if-p-ne0.false) (is_zero (get_or c.args.self.now.p 1 (pos 0)) (get_or c.args.self.now.p 1 (pos 0)) refl (small (get_or c.args.self.now.p 1 (pos 0)) (get_or-within 16 c.args.self.now.p 1 c.args.self.now.within) (omega arith)).sfits c.if-p-ne0-2.false) (is_zero (get_or c.args.self.now.p 2 (pos 0)) (get_or c.args.self.now.p 2 (pos 0)) refl (small (get_or c.args.self.now.p 2 (pos 0)) (get_or-within 16 c.args.self.now.p 2 c.args.self.now.within) (omega arith)).sfits c.if-p-ne0-3.false))
