use Rattle.std.proofs.Common.{◌++◌, ◌∷◌, [], map, length, string_bytes, ap, ◌∙◌}
use Rattle.std.proofs.lemmas.List.{length_push}
use Rattle.std.proofs.lemmas.Slice.Zip.{zip_turn}
use Rattle.jc_syntax.specs.Trees.{cmd_of}
use Rattle.jc_scenario.specs.Canon.{canon_part}
use Rattle.jc_scenario.proofs.ArrangeLemmas.{part}
use Rattle.jc_scenario.proofs.CanonReplicasLemmas.{written}
use Rattle.jc_scenario.proofs.printing.push_parts.Goals as goal

pub loop-name-preserved : goal.loop-name-preserved
loop-name-preserved c =
    let turn = zip_turn c.args.names.now c.args.scripts.now c.loop-name.yielded c.into_iter-name-iterator.result c.loop-name.name-iterator c.next.new.self c.next.result (cc) (cc) c.loop-name.yielded_by (c.in-Some.name, c.in-Some.script) c.in-Some.is c.next.ensures.steps in
    written (λ script. map cmd_of script.items) (length c.loop-name.yielded) (length (c.loop-name.yielded ++ (c.in-Some.name, c.in-Some.script) ∷ [])) c.args.names.now c.args.scripts.now c.in-Some.name.now c.in-Some.script.now
    (string_bytes c.args.out.now) (string_bytes c.loop-name.out) (string_bytes c.push_part.new.out)
    (length_push c.loop-name.yielded (c.in-Some.name, c.in-Some.script)) turn.0 turn.1 (turn.2 c.in-Some.name.now) (turn.3 c.in-Some.script.now) c.loop-name.invariant
    (c.in_ok-push_part.ensures ∙ ap (λ s. string_bytes c.loop-name.out ++ canon_part (part c.in-Some.name.now (map cmd_of s))) c.deref.ensures.value)
