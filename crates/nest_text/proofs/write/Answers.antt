-- `write` answers as the definitions say, and leaves the text, or a refused call's buffer as it
-- was.
use Rattle.std.proofs.Common.{◌≡◌, ◌∙◌, sym, ap, ap₂, subst, ℕ, ◌+◌, length, arith}
use lib.Seq.{sets}
use Rattle.nest.specs.declared.LoopNest.{LoopNest}
use Rattle.nest.specs.Nest.{depth_of, count_of, boundaries_of}
use Rattle.nest.specs.Refusals.{refusal}
use Rattle.nest.proofs.Spans.{spans}
use Rattle.nest_text.specs.Text.{text_of, text_length}
use Rattle.nest_text.specs.Reader.{value_count}
use Rattle.nest_text.proofs.TextLength.{text-length}
use Rattle.nest_text.proofs.WriteAnswers.{refused_out, refused_short, bytes-written}
use Rattle.nest_text.proofs.write.Goals as goal
use Rattle.nest_text.proofs.write.Goals.{After-text_length-length}

pub returns-in_err-accepted : goal.returns-in_err-accepted
returns-in_err-accepted c =
    refused_out (refusal c.args.s) (text_of c.args.s) c.args.out.now c.from_residual.result c.in_err-accepted.field-0.0 c.from_residual.ensures.1
    c.in_err-accepted.ensures.number

-- the length that is computed is the text's
long : (s : LoopNest) (n m k l : ℕ) → refusal s ≡ 0 → n ≡ depth_of s → m ≡ count_of s → k ≡ value_count (boundaries_of s) + count_of s → l ≡ text_length n m k
    → l ≡ length (text_of s)
long s n m k l r d e v h =
    h ∙ ap₂ (λ n k. text_length n m k) d v ∙ ap (λ m. text_length (depth_of s) m (value_count (boundaries_of s) + count_of s)) e ∙ sym (text-length s (spans s r))

computed : (c : After-text_length-length) → c.text_length-length.result ≡ length (text_of c.in_ok-accepted.accepted.nest)
computed c =
    let s = c.in_ok-accepted.accepted in
    let l = c.of_nest-layout.result in
    let e = c.of_nest-layout.ensures in
    long s.nest l.loops l.dependences l.last c.text_length-length.result s.accepted e.0 e.1 e.2 c.text_length-length.ensures

pub returns-then-out-length : goal.returns-then-out-length
returns-then-out-length c =
    let a = c.in_ok-accepted.ensures in
    let l = computed (goal.at.returns-then-out-length c).After-text_length-length ∙ ap (λ (s : LoopNest). length (text_of s)) a.same_nest in
    refused_short (refusal c.args.s) (text_of c.args.s) c.args.out.now (sym a.number) (omega (arith, l))

pub put_text-requires : goal.put_text-requires
put_text-requires c =
    let e = c.of_nest-layout.ensures in
    (e.0, e.1, e.2, omega (arith, computed (goal.at.put_text-requires c).After-text_length-length))

pub returns : goal.returns
returns c =
    let a = c.in_ok-accepted.ensures in
    let same = ap text_of a.same_nest in
    let l = computed (goal.at.returns c).After-text_length-length ∙ ap length same in
    bytes-written (refusal c.args.s) (text_of c.args.s) c.args.out.now (sym a.number) c.text_length-length.result c.put_text.new.out l (omega (arith, l))
    (subst (λ bs. c.put_text.new.out ≡ sets c.args.out.now 0 bs) same c.put_text.ensures.bytes)
