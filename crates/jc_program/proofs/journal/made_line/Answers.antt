use Rattle.std.proofs.Common.{Some, None, refl, ◌∙◌}
use Rattle.std.proofs.lemmas.Result.{IfOk-weaker}
use Rattle.jc_program.proofs.JournalResultLemmas.{told_some, line_told}
use Rattle.jc_program.proofs.journal.made_line.Goals.{in-Some+in_ok-effects-in-Some, in-None}
use Rattle.jc_program.proofs.journal.made_line.Goals as goal

pub returns : goal.returns
returns c = elim c.match-networks.branch [
  | in-Some+in_ok-effects-in-Some w ↦
      rw w.in-Some.is (IfOk-weaker c.event_line.result _ _
      (λ line h. line_told c.args.networks.now.net (Some w.in-Some.old) c.args.numbered.now _ w.in_ok-effects-in-Some.effects c.as_ref.result line.items (c.as_ref.ensures.value ∙ w.effects-is)
      (told_some w.in-Some.old c.args.numbered.now.event c.args.networks.now.net.history.now _ w.in_ok-effects-in-Some.ensures) h)
      c.event_line.ensures)
  | in-None w ↦
      rw w.in-None.is (IfOk-weaker c.event_line.result _ _
      (λ line h. line_told c.args.networks.now.net None c.args.numbered.now _ None c.as_ref.result line.items (c.as_ref.ensures.value ∙ w.effects-is) (λ first rows made b. refl) h)
      c.event_line.ensures)
]
