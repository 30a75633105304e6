-- `read_field` reads what stands behind the spaces.
use mathlib.Core.Path.{ap, ◌∙◌}
use Prim.Native.Nat.{ℕ}
use lib.ListN.{drop}
use Rattle.nest_text.specs.Fields.{signed_of, read_of}
use Rattle.nest_text.proofs.FieldLaws.{rest_part}
use Rattle.nest_text.proofs.fields.read_field.Goals as goal

pub returns : goal.returns
unfolding read_of
returns c =
    let l = c.args.f.now in
    c.signed.ensures ∙ ap signed_of (rest_part l c.blanks.result ∙ ap (λ (a : ℕ). drop a l) c.blanks.ensures.0)
