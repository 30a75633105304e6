-- `put` meets its contract. Assumes nothing.
use mathlib.Core.Path.{sym, ap, ◌∙◌}
use mathlib.Core.List.{◌++◌, append_assoc}
use Prim.Native.Nat.{◌+◌, ◌-◌}
use native.Mathlib.Omega.{arith}
use lib.ListN.{length, take, drop}
use borrow.Rule.Slice.PartMut.{put_mid, Post-is}
use Rattle.std.proofs.lemmas.List.Edits.{sets-eq}
use Rattle.foreign.proofs.nests.put.Goals as goal

pub returns : goal.returns
returns c =
    let a = c.args in
    let xs = a.out.now in
    let ys = a.numbers.now in
    let e = a.at + length ys in
    ap (put_mid a.at (e - a.at) xs) c.copy_from_slice.ensures.after ∙ ap (λ zs. take a.at xs ++ (ys ++ zs)) (Post-is a.at e xs (omega arith))
    ∙ sym (append_assoc (take a.at xs) ys (drop e xs)) ∙ sym (sets-eq ys xs a.at c.requires)
