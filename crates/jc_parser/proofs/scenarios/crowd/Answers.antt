use Rattle.std.proofs.Common.{sym, ap, ◌∙◌}
use Rattle.jc_parser.specs.declared.fault.ScenarioFault.TheVariants.{TooManyReplicas}
use Rattle.jc_parser.specs.ScenarioViews.{names_of}
use Rattle.jc_parser.proofs.ScenarioLoopsLemmas.{named_so, taken_so}
use Rattle.jc_parser.proofs.scenarios.crowd.Goals as goal
use Rattle.jc_parser.proofs.scenarios.crowd.Goals.{in-Ok, in-Err}

pub returns : goal.returns
returns c =
    elim c.match-new_name.branch [
      | in-Ok w ↦ λ _. w.result-is ∙ ap (λ at. TooManyReplicas at) c.place-place.ensures ∙ sym (named_so (λ n. (n, c.new_name.new.cursor)) c.new_name.result _ (names_of c.args.replicas.now) c.args.cursor.now c.new_name.ensures (sym w.in-Ok.is))
      | in-Err w ↦ λ kept. w.result-is ∙ sym (taken_so (λ n. (n, c.new_name.new.cursor)) c.new_name.result _ (names_of c.args.replicas.now) c.args.cursor.now c.new_name.ensures (sym w.in-Err.is) (λ is. kept (w.result-is ∙ is)))
    ]
