-- What reading a text answers is what document 01's sentences say of it (specs/Form.antt,
-- ReadSays): they say what is answered, and leave no choice.
-- Assumes nothing.
use mathlib.Core.Path.{◌≡◌, refl, sym, ap, subst, ◌∙◌}
use mathlib.Core.Logic.{◌↔◌}
use Prim.Native.Nat.{ℕ}
use borrow.Author.Tests.{eqb-true, eqb-false}
use lib.Dec.{eqb}
use Rattle.integers.proofs.Lists.{split}
use Rattle.nest.specs.declared.LoopNest.{LoopNest}
use Rattle.nest.specs.Nest.{empty_nest}
use Rattle.nest.proofs.Answers.{answered_unique}
use Rattle.nest_text.specs.Answered.{Reading}
use Rattle.nest_text.specs.Fields.{Bytes}
use Rattle.nest_text.specs.Text.{read_refusal, read_nest}
use Rattle.nest_text.specs.Form.{read_order, ReadSays}
use Rattle.nest_text.proofs.Answers.{read-answered}
use Rattle.nest_text.proofs.ReadLaws.{whole-refused}
use Rattle.nest_text.proofs.RoundTrip.{read_is, whole-body, body_said}

module _ (bs : Bytes) where
  -- that of a refused one is 0 in every place
  refused : (read_refusal bs ≡ 0 → ⊥) → read_nest bs ≡ empty_nest
  refused h = sym (ap (λ (x : Reading). x.nest) (whole-refused bs (read_refusal bs) refl h))

  -- what is answered, they say
  pub read-says : ReadSays bs (read_refusal bs) (read_nest bs)
  read-says = record { number_is = read-answered bs; nest_said = body_said bs; nest_refused = refused }

  -- what they say is answered
  pub says_unique : (k : ℕ) (x : LoopNest) → ReadSays bs k x → (read_refusal bs ≡ k) × (read_nest bs ≡ x)
  says_unique k x w = (e, split (eqb k 0) (λ t. done (eqb-true k 0 t)) (λ f. not_done (eqb-false k 0 f)))
    where
      e : read_refusal bs ≡ k
      e = answered_unique (read_order bs) (read_refusal bs) k (read-answered bs) w.number_is

      done : k ≡ 0 → read_nest bs ≡ x
      done z = read_is bs (e ∙ z) ∙ whole-body bs x (w.nest_said z)

      not_done : (k ≡ 0 → ⊥) → read_nest bs ≡ x
      not_done h = refused (λ z. h (sym e ∙ z)) ∙ sym (w.nest_refused h)

-- a text is answered with a number and a nest exactly if the sentences say so
pub says_iff : (bs : Bytes) (k : ℕ) (x : LoopNest) → ((read_refusal bs ≡ k) × (read_nest bs ≡ x)) ↔ ReadSays bs k x
says_iff bs k x = (λ e. subst (ReadSays bs k) e.1 (subst (λ n. ReadSays bs n (read_nest bs)) e.0 (read-says bs)), says_unique bs k x)
