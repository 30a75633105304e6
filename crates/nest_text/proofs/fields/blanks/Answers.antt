-- `blanks` counts the spaces that come first.
use Rattle.std.proofs.Common.{rules, ◌∙◌, sym, arith}
use Rattle.std.proofs.lemmas.Iterator.{YieldsList-from_slice}
use Rattle.std.proofs.lemmas.Iterator.Consumers.{count_from_yields_List}
use Rattle.std.proofs.lemmas.Iterator.Search.{YieldsList-from_take_while}
use borrow.Author.Tests.{tests}
use lib.Dec.{eqb}
use Rattle.nest_text.specs.Fields.{space}
use Rattle.nest_text.proofs.FieldLaws.{blanks-taken, blanks_inside}
use Rattle.nest_text.proofs.fields.blanks.Goals as goal

pub returns : goal.returns
returns c =
    let f = c.args.f.now in
    let e = count_from_yields_List c.take_while.result c.count.result c.count.ensures.ran
    (YieldsList-from_take_while _ (λ b. eqb b space) (YieldsList-from_slice f (cc)) (cc) (cc) (λ x b q k. search (rules, tests))) in
    (e ∙ sym (blanks-taken f), omega (arith, e, blanks-taken f, blanks_inside f))
