-- `key_of` meets its contract. Assumes nothing.
use Rattle.std.proofs.Common.{sym, w64, to_z}
use Rattle.sources.proofs.Arrays.{key-none}
use Rattle.sources.proofs.Steps.{NextKey, next_key}
use Rattle.sources.proofs.key_of.Goals as goal
use Rattle.sources.proofs.key_of.Goals.{In-loop-component}

turn : (d : In-loop-component) → NextKey d.args.components.now d.loop-component.component-index (to_z w64 d.loop-component.key-bits)
turn d = next_key d.args.components.now d.loop-component.component-index (to_z w64 d.loop-component.key-bits) d.requires.0 d.requires.1 d.loop-component-test.true d.loop-component.invariant

pub loop-component-init : goal.loop-component-init
loop-component-init c = sym key-none

pub overflow_mul-key : goal.overflow_mul-key
overflow_mul-key c = (turn (goal.at.overflow_mul-key c).In-loop-component).product

pub overflow_add-key : goal.overflow_add-key
overflow_add-key c = (turn (goal.at.overflow_add-key c).In-loop-component).sum

pub loop-component-preserved : goal.loop-component-preserved
loop-component-preserved c = (turn (goal.at.loop-component-preserved c).In-loop-component).is
