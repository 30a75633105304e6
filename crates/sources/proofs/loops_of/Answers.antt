-- `loops_of` meets its contract: the closure gives the limits at each place. Assumes nothing.
use Rattle.std.proofs.Common.{◌≡◌, rules, ℕ, zero, suc, ◌<◌, sym, ◌∙◌, arith, get_or}
use Rattle.integers.proofs.Lists.{tab-list}
use Rattle.nest.specs.Nest.{max_depth}
use Rattle.sources.proofs.Walk.{no_loop, places_of, all-places}
use Rattle.sources.proofs.loops_of.Goals as goal
use Rattle.sources.proofs.loops_of.Goals.{After-from_fn}

at : (c : After-from_fn) (k : ℕ) → k < max_depth → places_of c.args.s.now.nest k ≡ get_or c.from_fn.result k no_loop
at c zero h = let t = c.from_fn.ensures.items.each in let e : t.1 ≡ places_of c.args.s.now.nest 0 = search rules in sym (t.2.1 no_loop ∙ e)
at c (suc zero) h = let t = c.from_fn.ensures.items.each in let e : t.4.1 ≡ places_of c.args.s.now.nest 1 = search rules in sym (t.4.2.1 no_loop ∙ e)
at c (suc (suc zero)) h = let t = c.from_fn.ensures.items.each in let e : t.4.4.1 ≡ places_of c.args.s.now.nest 2 = search rules in sym (t.4.4.2.1 no_loop ∙ e)
at c (suc (suc (suc zero))) h = let t = c.from_fn.ensures.items.each in let e : t.4.4.4.1 ≡ places_of c.args.s.now.nest 3 = search rules in sym (t.4.4.4.2.1 no_loop ∙ e)
at c (suc (suc (suc (suc k)))) h = absurd (omega arith)

pub returns : goal.returns
returns c = all-places c.args.s.now.nest c.from_fn.result (sym (tab-list (places_of c.args.s.now.nest) c.from_fn.result no_loop max_depth c.from_fn.ensures.items.long (at c)))
