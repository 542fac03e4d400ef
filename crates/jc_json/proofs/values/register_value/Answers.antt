use Rattle.std.proofs.Common.{rules, ◌≡◌, arith, ap, sym, ◌∙◌}
use Rattle.serde_json.specs.Data.{no_members, put}
use Rattle.serde_json.specs.View.{view, members_view}
use Rattle.jc_json.specs.Json.{value_member, value_data, id_text}
use Rattle.jc_json.proofs.PartsListsLemmas.{put_all_more}
use Rattle.jc_json.proofs.values.register_value.Goals as goal

pub loop-id-preserved : goal.loop-id-preserved
loop-id-preserved c =
    let pair = c.loop-id-item.result in
    let name : c.as_str.result.now ≡ id_text c.args.names.now pair.0 = search rules in
    let value : view c.in_ok-value.value ≡ value_data pair.1 = search rules in
    let put_is : members_view c.put.new.map.entries ≡ put (id_text c.args.names.now pair.0) (value_data pair.1) (members_view c.loop-id.members.entries) = rw (← name, ← value) c.in_ok-put.ensures.ok in
    put_is ∙ ap (λ ms. put (id_text c.args.names.now pair.0) (value_data pair.1) ms) c.loop-id.invariant ∙ sym (put_all_more (value_member c.args.names.now) c.args.pairs.now c.loop-id.id-index pair no_members (omega arith) c.loop-id-item.is)
