-- `begin` meets its contract. Assumes nothing.
use mathlib.Core.Path.{refl, sym, ◌∙◌, ap₂}
use mathlib.Core.List.{List, [], ◌∷◌}
use lib.IntN.{ℤ}
use lib.ListN.{get_or}
use Rattle.grouping.specs.Grouping.{extend}
use Rattle.grouping.proofs.Exchange.{same-pick}
use Rattle.grouping.proofs.Listed.{grouping_some, grouping_none, found_some, found_none}
use Rattle.grouping.proofs.choice.Candidates.begin.Goals as goal

pub returns-in-Some : goal.returns-in-Some
returns-in-Some c =
    let s = c.start-f in
    let x = c.extended.ensures.p_value in
    let w = get_or c.args.self.now.ds.now c.in-Some.i [] in
    let at = found_some _ c.args.self.now.ds.now c.in-Some.i (sym c.requires.g_value ∙ c.in-Some.is) in record {
      p_value = (
        x.0 ∙ s.ensures.p_value.0,
        x.1 ∙ ap₂ (λ (p : List ℤ) (u : List (List ℤ)). extend p u (w ∷ [])) s.ensures.p_value.0 (same-pick {us = s.result.vectors} s.ensures.p_value.1 refl)
            ∙ grouping_some c.args.self.now.time.p c.args.self.now.ds.now c.in-Some.i at.1 at.0,
      );
    }

pub returns-in-None : goal.returns-in-None
returns-in-None c =
    let s = c.start-f in record {
      p_value = (
        s.ensures.p_value.0,
        same-pick {us = s.result.vectors} s.ensures.p_value.1 refl ∙ grouping_none c.args.self.now.time.p c.args.self.now.ds.now (found_none _ c.args.self.now.ds.now (sym c.requires.g_value ∙ c.in-None.is)),
      );
    }
