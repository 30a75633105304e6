-- `compute` meets its contract: a law of `EntryLaws` for each way out. Assumes nothing.
use mathlib.Core.Path.{refl}
use mathlib.Core.Option.{none, some}
use Rattle.execution.proofs.EntryLaws.{no_processor, idle, waiting, computes}
use Rattle.execution.proofs.compute.Goals as goal
use Rattle.execution.proofs.compute.Goals.{In-Some}

pub returns-then-processors_in-p : goal.returns-then-processors_in-p
returns-then-processors_in-p c =
    let a = c.args in
    let s = a.s.now in
    let t = a.tables in
    let st = a.state in
    let both = no_processor s.nest t.steps.now t.processors.now st.values.now st.done.now st.delivered.now s.iterations s.counted a.p c.processors_in.result c.processors_in.ensures.0 c.if-processors_in-p.true in
    record { answers = both.0; leaves = both.1 }

pub returns-in_default : goal.returns-in_default
returns-in_default c =
    let a = c.args in
    let s = a.s.now in
    let t = a.tables in
    let st = a.state in
    let both = idle s.nest t.steps.now t.processors.now st.values.now st.done.now st.delivered.now s.iterations s.counted a.p c.processors_in.result c.processors_in.ensures.0 c.if-processors_in-p.false c.requires.room.1 none c.in_default.ensures.taken refl in
    record { answers = both.0; leaves = both.1 }

pub returns-then-not-all_there : goal.returns-then-not-all_there
returns-then-not-all_there c =
    let a = c.args in
    let s = a.s.now in
    let t = a.tables in
    let st = a.state in
    let k = c.in-Some.k in
    let both = waiting s.nest t.steps.now t.processors.now st.values.now st.done.now st.delivered.now s.iterations s.counted a.p c.processors_in.result c.processors_in.ensures.0 c.if-processors_in-p.false c.requires.room.1 (some k) c.in-Some.ensures.taken k refl c.all_there.result c.all_there.ensures c.if-not-all_there.true in
    record { answers = both.0; leaves = both.1 }

pub returns : goal.returns
returns c =
    let a = c.args in
    let s = a.s.now in
    let t = a.tables in
    let st = a.state in
    let k = c.in-Some.k in
    let both = computes s.nest t.steps.now t.processors.now st.values.now st.done.now st.delivered.now s.iterations s.counted a.p c.processors_in.result c.processors_in.ensures.0 c.if-processors_in-p.false c.requires.room.1 (some k) c.in-Some.ensures.taken k refl c.all_there.result c.all_there.ensures c.value_at-value.result c.if-not-all_there.false c.value_at-value.ensures in
    record { answers = both.0; leaves = both.1 }
