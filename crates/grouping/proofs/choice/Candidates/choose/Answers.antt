-- `choose` meets its contract. Assumes nothing.
use mathlib.Core.Path.{refl, sym, ◌∙◌, ap, ap₂}
use mathlib.Core.List.{List, [], ◌∷◌}
use native.Mathlib.Omega.{arith}
use lib.IntN.{ℤ}
use lib.ListN.{get_or, take}
use Rattle.std.proofs.lemmas.List.{take_more, take_all}
use Rattle.grouping.specs.Basis.{chosen_in}
use Rattle.grouping.specs.Grouping.{extend, grouping_vector}
use Rattle.grouping.proofs.Listed.{chosen_is, extend-append, extend-none}
use Rattle.grouping.proofs.choice.Candidates.choose.Goals as goal

pub loop-d-init : goal.loop-d-init
loop-d-init c = record { time = refl; chosen = extend-none c.begin-f.result.p (chosen_in c.begin-f.result) }

pub loop-d-preserved : goal.loop-d-preserved
loop-d-preserved c =
    let f₀ = c.begin-f.result in
    let x = c.extended-f.ensures in
    let i = c.loop-d.d-index in
    let ds = c.args.self.now.ds.now in record {
      time = x.p_value.0 ∙ c.loop-d.invariant.time;
      chosen = x.p_value.1 ∙ ap₂ (λ (u : List ℤ) (w : List (List ℤ)). extend u w (get_or ds i [] ∷ [])) c.loop-d.invariant.time c.loop-d.invariant.chosen
          ∙ sym (extend-append f₀.p (chosen_in f₀) (take i ds) (get_or ds i []))
          ∙ ap (extend f₀.p (chosen_in f₀)) (sym (take_more ds i [] (omega arith)));
    }

pub returns : goal.returns
returns c =
    let b = c.begin-f.ensures.p_value in record {
      p_value = (
        c.loop-d.invariant.time ∙ b.0,
        c.loop-d.invariant.chosen ∙ ap₂ (λ (u : List ℤ) (w : List (List ℤ)). extend u w (take c.loop-d.d-index c.args.self.now.ds.now)) b.0 b.1
            ∙ ap (extend c.args.self.now.time.p (grouping_vector c.args.self.now.time.p c.args.self.now.ds.now)) (take_all c.loop-d.d-index c.args.self.now.ds.now (omega arith))
            ∙ chosen_is c.args.self.now.time.p c.args.self.now.ds.now,
      );
    }
