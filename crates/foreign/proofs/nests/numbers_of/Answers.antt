-- `numbers_of` answers the numbers of a nest, part by part. Assumes nothing.
use Rattle.std.proofs.Common.{rules}
use mathlib.Core.Path.{◌≡◌}
use Prim.Native.Nat.{◌*◌}
use lib.ListN.{length}
use Rattle.integers.proofs.Machine.{reads}
use Rattle.nest.specs.Nest.{max_depth, max_dependences}
use Rattle.foreign.proofs.Copying.{copied_nest}
use Rattle.foreign.proofs.nests.numbers_of.Goals as goal

pub returns : goal.returns
returns c =
    let s = c.args.s in
    let x : reads s.depth ≡ s.depth = search rules in
    let y : reads s.count ≡ s.count = search rules in
    let z : reads s.cube ≡ s.cube = search rules in
    let lower : length s.lower ≡ max_depth = search rules in
    let upper : length s.upper ≡ max_depth = search rules in
    let time : length s.time ≡ max_depth = search rules in
    let dependences : length s.dependences ≡ max_depth * max_dependences = search rules in
    let boundaries : length s.boundaries ≡ max_dependences = search rules in
    let weights : length s.weights ≡ max_dependences = search rules in
    copied_nest s _ _ _ _ _ _ _ _ _ _ x y z lower upper time dependences boundaries weights
    c.put.ensures c.put-2.ensures c.put-3.ensures c.put-4.ensures c.put-5.ensures c.put-6.ensures c.put-7.ensures
