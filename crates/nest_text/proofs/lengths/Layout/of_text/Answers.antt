-- `of_text` tells the last line by the number of bytes.
use mathlib.Core.Path.{refl, sym, ◌∙◌}
use Rattle.nest_text.proofs.LastLine.{width_short, width-long}
use Rattle.nest_text.proofs.lengths.Layout.of_text.Goals as goal

pub returns-then-bytes-body_length : goal.returns-then-bytes-body_length
returns-then-bytes-body_length c =
    let a = c.args in
    (refl, refl, sym (width_short a.loops a.dependences a.bytes (c.if-bytes-body_length.true ∙ c.body_length.ensures)))

pub returns : goal.returns
returns c =
    let a = c.args in
    (refl, refl, sym (width-long a.loops a.dependences a.bytes (λ e. c.if-bytes-body_length.false (e ∙ sym c.body_length.ensures))))
