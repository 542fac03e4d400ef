use Rattle.std.proofs.Common.{sym, ◌∙◌}
use Rattle.jc_session.proofs.TextFaultsLemmas.{misspelled}
use Rattle.jc_session.proofs.replies.event_of.Goals as goal

pub returns-in-Some-Some : goal.returns-in-Some-Some
returns-in-Some-Some c =
    let w = c.in-Some-Some in
    misspelled c.args.version c.args.names.now c.args.rest.now c.in-Err.fault w.refusal w.place (sym c.refusal.ensures ∙ w.is-0) (sym c.place.ensures ∙ w.is-1) c.in-Err.ensures.fault
