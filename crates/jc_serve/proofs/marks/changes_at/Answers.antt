use Rattle.std.proofs.Common.{Some, None, ap, ◌∙◌}
use Rattle.jc_effects.specs.Parts.{differences_of}
use Rattle.jc_effects.specs.Places.{differs_at}
use Rattle.jc_journal.specs.Parts.{differences_in}
use Rattle.jc_serve.proofs.MarksLemmas.{effects_steps, changes_told, none_changes}
use Rattle.jc_serve.proofs.marks.changes_at.Goals as goal

pub returns-in-Some : goal.returns-in-Some
returns-in-Some c = λ rows made.
    let cursor = c.args.cursor.now in
    let x = differences_of c.in-Some.effects in
    let told = effects_steps c.args.aside.now c.args.here.now c.args.event.now c.in_ok-effects.field-0 (Some x) c.net.result.now c.net-2.result.now c.net.ensures.net c.net-2.ensures.net (ap differences_in c.in-Some.is) c.in_ok-effects.ensures rows made in
    changes_told c.args.event.now made.step.before made.step.after cursor x c.differs_at.result told (c.differs_at.ensures ∙ ap (λ p. differs_at p cursor.last x) c.as_slice.ensures.keys)

pub returns-in-None : goal.returns-in-None
returns-in-None c = λ rows made.
    let told = effects_steps c.args.aside.now c.args.here.now c.args.event.now c.in_ok-effects.field-0 None c.net.result.now c.net-2.result.now c.net.ensures.net c.net-2.ensures.net (ap differences_in c.in-None.is) c.in_ok-effects.ensures rows made in
    none_changes c.args.event.now made.step.before made.step.after c.args.cursor.now told
