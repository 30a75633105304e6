-- `key_of` meets its contract. The loop's invariant: the key of the components so far. Assumes nothing.
use Rattle.std.proofs.Common.{◌≡◌, take}
use Rattle.sources.specs.Keys.{key}
use Rattle.sources.proofs.key_of.Given as goal

abbrev pub invariant-loop-component : goal.invariant-loop-component
invariant-loop-component l = l.key ≡ key (take l.component-index l.components)
