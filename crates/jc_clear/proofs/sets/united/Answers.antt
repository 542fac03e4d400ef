use Rattle.std.proofs.Common.{rules, ◌<◌, ◌∙◌, List, sym, ap, length, take, get_or}
use Rattle.std.proofs.lemmas.List.{take_more}
use Rattle.jc_rules.specs.declared.id.Id.{Id}
use Rattle.jc_rules.specs.Ids.{union, with_id}
use Rattle.jc_rules.proofs.IdsLemmas.{union-nothing}
use Rattle.jc_clear.proofs.UnionLemmas.{union-last}
use Rattle.jc_clear.proofs.sets.united.Goals as goal

pub loop-id-init : goal.loop-id-init
loop-id-init c = record { union = sym (union-nothing _ c.requires); rises = c.requires }

pub loop-id-preserved : goal.loop-id-preserved
loop-id-preserved c =
    let within : c.loop-id.id-index < length c.args.more.now = search rules in
    let d : Id = record { counter = 0; replica = 0 } in
    let i : Id = get_or c.args.more.now c.loop-id.id-index d in
    record {
      union = c.in_ok-insert_id.ensures.ok ∙ ap (with_id i) c.loop-id.invariant.union ∙ union-last i c.args.ids.items (take c.loop-id.id-index c.args.more.now) ∙ ap (λ (js : List Id). union c.args.ids.items js) (sym (take_more c.args.more.now c.loop-id.id-index d within));
      rises = c.insert_id.ensures.rises;
    }
