-- Each move has its kind; a kind that is no move's is refused with 18, behind 2 to 14, and changes nothing. Assumes nothing.
use mathlib.Core.Path.{◌≡◌, refl, ap, ◌∙◌}
use mathlib.Core.Logic.{◌≢◌}
use Prim.Native.Nat.{ℕ}
use borrow.Author.Tests.{eq-eqb, ne_eqb, eqb-true, eqb-false}
use lib.Dec.{eqb}
use lib.Pow.{pow_mono}
use Rattle.integers.proofs.Lists.{split}
use Rattle.nest.specs.declared.LoopNest.{LoopNest}
use Rattle.nest.specs.Refusals.{refusal}
use Rattle.nest.proofs.Accepted.{cube_is}
use Rattle.nest.proofs.Entries.{or_else-zero}
use Rattle.sequential.specs.Sequential.{Rule}
use Rattle.execution.specs.declared.Move.TheVariants.{Compute}
use Rattle.execution.specs.Rules.{compute, deliver, refuse, answer, Layout}
use Rattle.execution.specs.Run.{State, state_view, move_refusal, state_refusal, move_effect, move_answer, after, move_after}
use Rattle.execution.specs.Entry.{move_of}
use Rattle.execution.proofs.RuleLaws.{move-refused}
use Rattle.execution.proofs.RuleLaws.{compute_nowhere}
use Rattle.foreign.specs.Numbers.{compute_kind, deliver_kind, no_processor, move_in}

-- a compute, whatever the second number is
pub compute_asked : (p b : ℕ) → move_of (move_in compute_kind p b) ≡ compute p
unfolding move_in
compute_asked p b = refl

-- a delivery
pub deliver_asked : (k i : ℕ) → move_of (move_in deliver_kind k i) ≡ deliver k i
unfolding move_in
deliver_asked k i = refl

-- no move's kind
module _ (kind a b : ℕ) (no-compute : kind ≢ compute_kind) (no-delivery : kind ≢ deliver_kind) where
  asks_nowhere : move_in kind a b ≡ Compute no_processor
  unfolding move_in
  asks_nowhere = rw (ne_eqb kind compute_kind no-compute, ne_eqb kind deliver_kind no-delivery, move_in) refl

  module _ {Val : Type 0} (R : Rule Val) (s : LoopNest) (L : Layout) (st : State Val) where
    -- what it comes to, where the call is not refused with 2 to 14
    refused-here : state_refusal s L st ≡ 0 → move_effect s L st (move_of (move_in kind a b)) ≡ refuse 18
    unfolding move_effect move_refusal
    refused-here e =
        let ok : refusal s ≡ 0 = (or_else-zero (refusal s) _ e).0 in
        ap (λ what. move_effect s L st (move_of what)) asks_nowhere
        ∙ rw (eq-eqb (state_refusal s L st) 0 e, move_effect) (compute_nowhere s (state_view L st) no_processor (pow_mono (cube_is s ok).1))

    -- 18
    pub kind-refused : state_refusal s L st ≡ 0 → move_answer s L st (move_of (move_in kind a b)) ≡ 18
    kind-refused e = ap answer (refused-here e)

    -- one of 2 to 14 goes before it
    pub kind-last : state_refusal s L st ≢ 0 → move_answer s L st (move_of (move_in kind a b)) ≡ state_refusal s L st
    kind-last h = ap answer (move-refused s L st (move_of (move_in kind a b)) h)

    -- whatever the call, the state stays
    pub kind_stays : move_after R s L st (move_of (move_in kind a b)) ≡ st
    kind_stays =
        split (eqb (state_refusal s L st) 0) (λ t. ap (after R s st) (refused-here (eqb-true (state_refusal s L st) 0 t)))
        (λ f. ap (after R s st) (move-refused s L st (move_of (move_in kind a b)) (eqb-false (state_refusal s L st) 0 f)))
