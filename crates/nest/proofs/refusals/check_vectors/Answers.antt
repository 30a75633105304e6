-- `check_vectors` meets its contract. Assumes nothing.
use Rattle.nest.specs.declared.LoopNest.{LoopNest}
use Rattle.nest.specs.declared.faults.Dependences.{Dependences}
use mathlib.Core.Path.{◌≡◌, sym, ◌∙◌, ap, ap₂, refl}
use mathlib.Core.Bool.{Bool}
use mathlib.Core.List.{List, [], ◌∷◌, map}
use Prim.Native.Nat.{ℕ, ◌/◌, ◌≤◌}
use native.Mathlib.Omega.{arith}
use lib.ListN.{length, take}
use Rattle.std.specs.List.{list_any}
use Rattle.std.specs.Simd.{first_chunks}
use lib.IntN.{ℤ, pos}
use Rattle.integers.specs.Lists.{any, repeats, tab}
use Rattle.integers.specs.Vector.{Vector, eq_v}
use Rattle.nest.specs.Nest.{part, time_of, dependence_at, dependences_of, nest_from, to_ℕ, max_depth}
use Rattle.nest.specs.Refusals.{Refusal, out_of_span, backward, against, bad_time, bad_dependence, backward_dependence, equal_dependences, against_time, number, holds, first_met, vector_order}
use Rattle.nest.proofs.FirstMet.{met, passed}
use Rattle.nest.proofs.Slices.{part-first, rows-tab, any-rows}
use Rattle.nest.proofs.refusals.check_vectors.Goals as goal
use Rattle.nest.proofs.refusals.check_vectors.Goals.{After-any_against, After-any_backward, After-any_out_of_span, After-any_equal, After-is_out_of_span, Else-any_against, Else-any_backward, Else-any_out_of_span, Else-any_equal, Else-is_out_of_span, Start}

-- the order from each refusal on
abbrev from8 : List Refusal
from8 = bad_dependence ∷ backward_dependence ∷ equal_dependences ∷ against_time ∷ []

abbrev from9 : List Refusal
from9 = backward_dependence ∷ equal_dependences ∷ against_time ∷ []

abbrev from10 : List Refusal
from10 = equal_dependences ∷ against_time ∷ []

abbrev from11 : List Refusal
from11 = against_time ∷ []

-- the function's start, from behind each test
abbrev start1 : Else-is_out_of_span → Start
start1 c = (goal.at.Else-is_out_of_span c).Start

abbrev start2 : Else-any_out_of_span → Start
start2 c = (goal.at.Else-any_out_of_span c).Start

abbrev start3 : Else-any_backward → Start
start3 c = (goal.at.Else-any_backward c).Start

abbrev start4 : Else-any_equal → Start
start4 c = (goal.at.Else-any_equal c).Start

abbrev start5 : Else-any_against → Start
start5 c = (goal.at.Else-any_against c).Start

-- the nest that has these vectors
abbrev nest : Start → LoopNest
nest c = nest_from (pos c.args.n) (pos c.args.m) (pos 0) [] [] c.args.time.now c.args.dependences.now [] []

timed : (c : Start) → part c.args.time.now 0 c.args.n ≡ time_of (nest c)
unfolding time_of to_ℕ
timed c = refl

listed : (c : Start) → tab (dependence_at c.args.dependences.now c.args.n) c.args.m ≡ dependences_of (nest c)
unfolding dependences_of to_ℕ
listed c = refl

-- what each test says, of the slice of the time vector and of the rows
time-inside : (c : After-is_out_of_span) → out_of_span (part c.args.time.now 0 c.args.n) ≡ c.is_out_of_span.result
time-inside c = sym (c.is_out_of_span.ensures ∙ ap out_of_span (part-first c.args.time.now c.args.n c.requires.1))

-- how many rows the array has
abbrev count : Start → ℕ
count c = length c.args.dependences.now / max_depth

enough : (c : Start) → c.args.m ≤ count c
enough c = let h = c.requires.2 in omega arith

-- of the dependences that are listed
abbrev Listed : Start → Dependences → Type 0
Listed c r = record { depth : r.n ≡ c.args.n; rows : r.rows.now ≡ take c.args.m (first_chunks max_depth (count c) c.args.dependences.now) }

tested : (c : Start) (r : Dependences) → Listed c r → (p : List ℤ → Bool)
    → list_any (λ row. p (take r.n row)) r.rows.now ≡ any p (tab (dependence_at c.args.dependences.now c.args.n) c.args.m)
tested c r e p =
    ap₂ (λ (n : ℕ) (rows : List (List ℤ)). list_any (λ row. p (take n row)) rows) e.depth e.rows
    ∙ any-rows (count c) c.args.n c.args.m c.args.dependences.now c.requires.0 (enough c) c.requires.2 p

time_test : (c : After-is_out_of_span) → holds (nest c.before) bad_time ≡ c.is_out_of_span.result
unfolding holds
time_test c = ap out_of_span (sym (timed c.before)) ∙ time-inside c

-- where each of the others has been made
abbrev start8 : After-any_out_of_span → Start
start8 c = (goal.at.After-any_out_of_span c).Start

abbrev start9 : After-any_backward → Start
start9 c = (goal.at.After-any_backward c).Start

abbrev start10 : After-any_equal → Start
start10 c = (goal.at.After-any_equal c).Start

abbrev start11 : After-any_against → Start
start11 c = (goal.at.After-any_against c).Start

rows_inside : (c : After-any_out_of_span) → c.any_out_of_span.result ≡ any out_of_span (tab (dependence_at c.args.dependences.now c.args.n) c.args.m)
rows_inside c = c.any_out_of_span.ensures ∙ tested (start8 c) c.new-listed.result c.new-listed.ensures out_of_span

dependence_test : (c : After-any_out_of_span) → holds (nest (start8 c)) bad_dependence ≡ c.any_out_of_span.result
unfolding holds
dependence_test c = sym (rows_inside c ∙ ap (any out_of_span) (listed (start8 c)))

backward_test : (c : After-any_backward) → holds (nest (start9 c)) backward_dependence ≡ c.any_backward.result
unfolding holds
backward_test c = sym (c.any_backward.ensures ∙ tested (start9 c) c.new-listed.result c.new-listed.ensures backward ∙ ap (any backward) (listed (start9 c)))

equal_test : (c : After-any_equal) → holds (nest (start10 c)) equal_dependences ≡ c.any_equal.result
unfolding holds
equal_test c =
    let s = start10 c in
    let r = c.new-listed.ensures in
    sym
    (c.any_equal.ensures
    ∙ ap (repeats eq_v) (ap₂ (λ (n : ℕ) (rows : List (List ℤ)). map (take n) rows) r.depth r.rows
    ∙ rows-tab (count s) c.args.n c.args.m c.args.dependences.now s.requires.0 (enough s) s.requires.2 ∙ listed s))

against_test : (c : After-any_against) → holds (nest (start11 c)) against_time ≡ c.any_against.result
unfolding holds
against_test c =
    let s = start11 c in
    let r = c.new-listed.result in
    sym
    (c.any_against.ensures
    ∙ ap (λ (P : Vector). list_any (λ row. against P (take r.n row)) r.rows.now) (part-first s.args.time.now s.args.n s.requires.1 ∙ timed s)
    ∙ tested s r c.new-listed.ensures (against (time_of (nest s)))
    ∙ ap (any (against (time_of (nest s)))) (listed s))

-- each refusal in turn is passed
passed7 : (c : Else-is_out_of_span) → first_met (nest (start1 c)) vector_order ≡ first_met (nest (start1 c)) from8
passed7 c = passed (nest (start1 c)) bad_time from8 (time_test c.before ∙ c.if-is_out_of_span.false)

passed8 : (c : Else-any_out_of_span) → first_met (nest (start2 c)) vector_order ≡ first_met (nest (start2 c)) from9
passed8 c = passed7 (goal.at.Else-any_out_of_span c).Else-is_out_of_span ∙ passed (nest (start2 c)) bad_dependence from9 (dependence_test c.before ∙ c.if-any_out_of_span.false)

passed9 : (c : Else-any_backward) → first_met (nest (start3 c)) vector_order ≡ first_met (nest (start3 c)) from10
passed9 c = passed8 (goal.at.Else-any_backward c).Else-any_out_of_span ∙ passed (nest (start3 c)) backward_dependence from10 (backward_test c.before ∙ c.if-any_backward.false)

passed10 : (c : Else-any_equal) → first_met (nest (start4 c)) vector_order ≡ first_met (nest (start4 c)) from11
passed10 c = passed9 (goal.at.Else-any_equal c).Else-any_backward ∙ passed (nest (start4 c)) equal_dependences from11 (equal_test c.before ∙ c.if-any_equal.false)

passed11 : (c : Else-any_against) → first_met (nest (start5 c)) vector_order ≡ first_met (nest (start5 c)) []
passed11 c = passed10 (goal.at.Else-any_against c).Else-any_equal ∙ passed (nest (start5 c)) against_time [] (against_test c.before ∙ c.if-any_against.false)

-- what the products ask for
pub returns-then-is_out_of_span : goal.returns-then-is_out_of_span
unfolding number
returns-then-is_out_of_span c = sym (met (nest c.before.before) bad_time from8 (time_test c.before ∙ c.if-is_out_of_span.true))

pub returns-then-any_out_of_span : goal.returns-then-any_out_of_span
unfolding number
returns-then-any_out_of_span c = sym (passed7 (goal.at.returns-then-any_out_of_span c).Else-is_out_of_span ∙ met (nest (start8 c.before)) bad_dependence from9 (dependence_test c.before ∙ c.if-any_out_of_span.true))

pub returns-then-any_backward : goal.returns-then-any_backward
unfolding number
returns-then-any_backward c = sym (passed8 (goal.at.returns-then-any_backward c).Else-any_out_of_span ∙ met (nest (start9 c.before)) backward_dependence from10 (backward_test c.before ∙ c.if-any_backward.true))

pub returns-then-any_equal : goal.returns-then-any_equal
unfolding number
returns-then-any_equal c = sym (passed9 (goal.at.returns-then-any_equal c).Else-any_backward ∙ met (nest (start10 c.before)) equal_dependences from11 (equal_test c.before ∙ c.if-any_equal.true))

pub returns-then-any_against : goal.returns-then-any_against
unfolding number
returns-then-any_against c = sym (passed10 (goal.at.returns-then-any_against c).Else-any_equal ∙ met (nest (start11 c.before)) against_time [] (against_test c.before ∙ c.if-any_against.true))

pub returns : goal.returns
unfolding first_met
returns c = sym (passed11 c)
