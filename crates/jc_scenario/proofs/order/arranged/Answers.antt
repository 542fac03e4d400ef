use Rattle.std.proofs.Common.{◌∷◌, [], map, ◌∙◌}
use Rattle.std.proofs.lemmas.List.{map-append, length-map}
use Rattle.std.proofs.lemmas.List.Sorted.{IsPermutation-push_more}
use Rattle.std.proofs.lemmas.Iterator.Adapters.{YieldsList-from_vec}
use Rattle.std.proofs.lemmas.Iterator.Consumers.{YieldsList-so_far, YieldsList-turn}
use Rattle.jc_syntax.specs.Trees.{cmd_of}
use Rattle.jc_parser.specs.ScenarioViews.{part_view}
use Rattle.jc_scenario.specs.WellFormed.{parts_of}
use Rattle.jc_scenario.specs.Views.{scripts_view}
use Rattle.jc_scenario.proofs.NamesDifferLemmas.{later_new}
use Rattle.jc_scenario.proofs.order.arranged.Goals as goal

pub loop-replica-preserved : goal.loop-replica-preserved
loop-replica-preserved c = (
  c.in_ok-enter.ensures.rising,
  c.in_ok-enter.ensures.each,
  rw (map-append part_view c.loop-replica.yielded (c.in-Some.replica ∷ []))
      (IsPermutation-push_more (map part_view c.loop-replica.yielded) (parts_of c.loop-replica.names.items (scripts_view c.loop-replica.scripts.items)) (parts_of c.enter.new.names.items (scripts_view c.enter.new.scripts.items)) (part_view c.in-Some.replica) c.loop-replica.invariant.2 c.in_ok-enter.ensures.same),
)

pub enter-requires-clause-new : goal.enter-requires-clause-new
enter-requires-clause-new c =
    let all = YieldsList-from_vec {s = c.into_iter-replica-iterator.result} c.args.replicas.items (cc) (cc) in
    let turn = YieldsList-turn all c.loop-replica.yielded c.loop-replica.replica-iterator c.loop-replica.yielded_by c.next.result c.next.new.self c.in-Some.replica c.in-Some.is c.next.ensures.steps in
    let before = YieldsList-so_far all c.loop-replica.yielded c.loop-replica.replica-iterator c.loop-replica.yielded_by in
    later_new c.args.replicas.items c.loop-replica.yielded c.in-Some.replica c.loop-replica.names.items (scripts_view c.loop-replica.scripts.items) c.requires.apart turn.0 turn.1 before c.loop-replica.invariant.2 (length-map c.loop-replica.scripts.items (λ script. map cmd_of script.items) ∙ c.loop-replica.invariant.1)
