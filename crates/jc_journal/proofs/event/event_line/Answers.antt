use Rattle.std.proofs.Common.{ℕ, List, ap, ◌∙◌}
use Rattle.std.proofs.lemmas.Result.{IfOk-weaker}
use Rattle.jc_journal.specs.EventLine.{members_line}
use Rattle.jc_journal.specs.Parts.{rows_of, differences_at, step_members}
use Rattle.jc_journal.proofs.EventLineLemmas.{line_of_step}
use Rattle.jc_journal.proofs.LastStepPartsLemmas.{parts_of_last}
use Rattle.jc_journal.proofs.event.event_line.Goals as goal

pub returns : goal.returns
returns c =
    let h = c.args.net.now.history in
    let s = c.args.numbered.now in
    let step = c.last_step.result in
    IfOk-weaker c.line_of.result _ _
    (λ line e old rows before made.
    e
    ∙ ap (λ (ns : List (List ℕ)). members_line (step_members ns s.given s.number s.event (rows_of c.args.rules) (differences_at c.args.effects) step)) c.names-names.ensures.names
    ∙ line_of_step c.args.net.now.names s.given s.number s.event (rows_of c.args.rules) (differences_at c.args.effects) step made.step.before made.step.after
    (parts_of_last h old s.event rows step c.last_step.ensures.some c.last_step.ensures.none before made))
    c.line_of.ensures
