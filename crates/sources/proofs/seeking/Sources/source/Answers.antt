-- `source` meets its contract. Assumes nothing.
use Rattle.std.proofs.Common.{◌≡◌, sym, ap, ◌∙◌, arith, length, get_or, ℤ, pos, ◌<◌, ◌-ℤ◌}
use mir.Facts.{to_z-of_z}
use Rattle.integers.proofs.Machine.{reads}
use Rattle.integers.proofs.Tests.{same, other}
use Rattle.sources.specs.Keys.{not_below, target_in, source_in, Searchable}
use Rattle.sources.proofs.Places.{target-inside, equal_found, equal_missing}
use Rattle.sources.proofs.Steps.{TargetKey, target_key, fits_small}
use Rattle.sources.proofs.seeking.Sources.source.Goals as goal
use Rattle.sources.proofs.seeking.Sources.source.Goals.{Start, After-seek-place}

-- where the dependence's sources are searched for
table : (d : Start) → Searchable d.args.self.now.keys.now (get_or d.args.self.now.distances.now d.args.i (pos 0))
table d = d.args.self.now.searchable d.args.i d.requires.listed

abbrev key : Start → ℤ
key d = get_or d.args.self.now.keys.now d.args.self.now.iteration (pos 0)

abbrev distance : Start → ℤ
distance d = get_or d.args.self.now.distances.now d.args.i (pos 0)

target : (d : Start) → TargetKey (key d) (distance d)
target d = target_key (key d) (distance d) ((table d).keys_small d.args.self.now.iteration) (table d).distance_small

-- the place of the target is in the table
inside : (d : Start) → not_below (key d -ℤ distance d) d.args.self.now.keys.now < length d.args.self.now.keys.now
inside d = target-inside d.args.self.now.keys.now d.args.self.now.iteration (distance d) d.requires.in_table (table d)

pub seek-place-requires : goal.seek-place-requires
seek-place-requires c =
    let d = (goal.at.seek-place-requires c).Start in
    rw (target d).is (d.args.self.now.behind d.requires.in_table d.args.i d.requires.listed, inside d)

-- what the search gives
found : (c : After-seek-place) → c.seek-place.result ≡ not_below (target_in c.args.self.now.keys.now c.args.self.now.iteration (get_or c.args.self.now.distances.now c.args.i (pos 0))) c.args.self.now.keys.now
found c = rw (target (goal.at.After-seek-place c).Start).is at c.seek-place.ensures

pub offset_bounds-self-place : goal.offset_bounds-self-place
offset_bounds-self-place c = omega (arith, found (goal.at.offset_bounds-self-place c).After-seek-place, inside (goal.at.offset_bounds-self-place c).Start)

pub bounds-self-place : goal.bounds-self-place
bounds-self-place c = omega (arith, found (goal.at.bounds-self-place c).After-seek-place, inside (goal.at.bounds-self-place c).Start)

pub returns-then-self-place-clause-value : goal.returns-then-self-place-clause-value
unfolding source_in
returns-then-self-place-clause-value c =
    let d = (goal.at.returns-then-self-place-clause-value c).Start in
    let p = found (goal.at.returns-then-self-place-clause-value c).After-seek-place in
    let k = get_or d.args.self.now.keys.now c.seek-place.result (pos 0) in
    let h : k ≡ reads (key d) -ℤ reads (distance d) = same (fits_small k ((table d).keys_small c.seek-place.result)) (target d).difference c.if-self-place.true in
    let e : k ≡ key d -ℤ distance d = h ∙ sym (to_z-of_z (target d).difference) ∙ (target d).is in (
      omega (arith, p, inside d),
      p ∙ sym (equal_found (key d -ℤ distance d) d.args.self.now.keys.now (inside d) (ap (λ i. get_or d.args.self.now.keys.now i (pos 0)) (sym p) ∙ e)),
    )

pub returns-else-self-place-clause-value : goal.returns-else-self-place-clause-value
unfolding source_in
returns-else-self-place-clause-value c =
    let d = (goal.at.returns-else-self-place-clause-value c).Start in
    let p = found (goal.at.returns-else-self-place-clause-value c).After-seek-place in
    let k = get_or d.args.self.now.keys.now c.seek-place.result (pos 0) in
    let h = other (fits_small k ((table d).keys_small c.seek-place.result)) (target d).difference c.if-self-place.false in
    let e : reads (key d) -ℤ reads (distance d) ≡ key d -ℤ distance d = sym (to_z-of_z (target d).difference) ∙ (target d).is in
    equal_missing (key d -ℤ distance d) d.args.self.now.keys.now (inside d) (table d).increasing (λ g. h (ap (λ i. get_or d.args.self.now.keys.now i (pos 0)) p ∙ g ∙ sym e))
