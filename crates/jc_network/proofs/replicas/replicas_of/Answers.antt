use Rattle.std.proofs.Common.{◌≡◌, ◌≤◌, [], ◌∷◌, ◌++◌, map, option_map, length, length-append, Some, slice_get, sym, ◌∙◌, ap, arith}
use Rattle.std.proofs.lemmas.Iterator.Adapters.{YieldsList-from_vec}
use Rattle.std.proofs.lemmas.Iterator.Consumers.{YieldsList-turn}
use Rattle.std.proofs.lemmas.List.{length-map, map-append}
use Rattle.std.proofs.lemmas.Option.{slice_get-map, slice_get-get_or}
use Rattle.jc_syntax.specs.Trees.{cmd_of}
use Rattle.jc_scenario.specs.Views.{scripts_view}
use Rattle.jc_network.specs.Start.{replicas_from}
use Rattle.jc_network.proofs.StartLemmas.{all_at, next_replica}
use Rattle.jc_network.proofs.replicas.replicas_of.Goals as goal

-- there are few scripts
pub overflow_add-number : goal.overflow_add-number
overflow_add-number c =
    let gives = c.into_iter-script-iterator.ensures.into_iter_gives in
    let all = YieldsList-from_vec {s = c.into_iter-script-iterator.result} c.args.scripts.items gives.0 (gives.1 ∙ c.args.scripts.ok.0) in
    let at = YieldsList-turn all c.loop-script.yielded c.loop-script.script-iterator c.loop-script.yielded_by c.next.result c.next.new.self c.in-Some.script c.in-Some.is c.next.ensures.steps in
    let l = at.0 in
    let m = length-map c.args.scripts.items (λ script. map cmd_of script.items) in
    omega (arith, l, m, c.requires.many, c.loop-script.invariant.counted)

-- and each is short
pub new-requires-in-loop-script-clause-short : goal.new-requires-in-loop-script-clause-short
new-requires-in-loop-script-clause-short c =
    let xs = c.args.scripts.items in
    let script = c.in-Some.script in
    let i = length c.loop-script.yielded in
    let gives = c.into_iter-script-iterator.ensures.into_iter_gives in
    let all = YieldsList-from_vec {s = c.into_iter-script-iterator.result} xs gives.0 (gives.1 ∙ c.args.scripts.ok.0) in
    let at = YieldsList-turn all c.loop-script.yielded c.loop-script.script-iterator c.loop-script.yielded_by c.next.result c.next.new.self script c.in-Some.is c.next.ensures.steps in
    let there : slice_get (scripts_view xs) i ≡ Some (map cmd_of script.items) = slice_get-map _ xs i ∙ ap (option_map (λ v. map cmd_of v.items)) (slice_get-get_or xs i script at.0 ∙ ap (λ v. Some v) (sym at.1)) in
    let l : length (map cmd_of script.items) ≤ 65536 = all_at (λ s. length s ≤ 65536) (scripts_view xs) i (map cmd_of script.items) c.requires.each there in
    let m = length-map script.items cmd_of in
    omega (arith, l, m)

pub loop-script-preserved : goal.loop-script-preserved
loop-script-preserved c =
    let before = c.loop-script.yielded in
    let script = c.in-Some.script in
    let replicas = c.loop-script.replicas.items in
    let counted : c.loop-script.number ≡ length before = c.loop-script.invariant.counted in
    let many : length (scripts_view before) ≡ length before = length-map before (λ s. map cmd_of s.items) in
    let viewed : scripts_view (before ++ script ∷ []) ≡ scripts_view before ++ map cmd_of script.items ∷ [] = map-append (λ s. map cmd_of s.items) before (script ∷ []) in
    record {
      counted = omega (arith, counted, length-append before (script ∷ []));
      made = next_replica (scripts_view before) c.loop-script.number (map cmd_of script.items) replicas c.push.new.self.items (counted ∙ sym many) c.loop-script.invariant.made (c.in_ok-push.ensures.items ∙ ap (λ r. replicas ++ r ∷ []) c.new-in-loop-script.ensures) ∙ ap (replicas_from 0) (sym viewed);
    }
