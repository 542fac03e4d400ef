use Rattle.std.proofs.Common.{rules, ◌≡◌, ℕ, List, length, map, Some, string_bytes, sym, ◌∙◌, subst}
use Rattle.std.proofs.lemmas.Result.{IfOk-at_ok, on_ok_weaker}
use Rattle.serde.specs.Event.{Logs, map_begins, field_key}
use Rattle.serde.specs.declared.name.Case.TheVariants.{AsIs}
use Rattle.serde_json.specs.Data.{object, no_members}
use Rattle.serde_json.specs.Events.{SendsValue, SendsMembers}
use Rattle.jc_cursor.specs.Bounds.{vars_of}
use Rattle.jc_json.specs.Json.{put_all}
use Rattle.jc_json.specs.Parts.{shown_as}
use Rattle.jc_json.proofs.PartsSendLemmas.{shown-len, next_entry, entries_end}
use Rattle.jc_dump.specs.Dump.{var_member}
use Rattle.jc_dump.specs.DumpParts.{bound_shown}
use Rattle.jc_dump.proofs.vars.send_vars.Goals as goal

pub loop-name-preserved : goal.loop-name-preserved
loop-name-preserved g c =
    let name : c.as_str.result.now ≡ string_bytes c.in-Some.name.now = c.as_str.ensures.value in
    let key : Logs (g.W.Serializer.written c.loop-name.out) (g.W.Serializer.written c.key.new.self) (field_key (string_bytes c.in-Some.name.now) AsIs) =
    subst (λ s. Logs (g.W.Serializer.written c.loop-name.out) (g.W.Serializer.written c.key.new.self) (field_key s AsIs)) name c.in_ok-key.ensures in
    next_entry (bound_shown c.args.names.now) _ _ _ (c.in-Some.name.now, c.in-Some.bound.now) _ _ (g.W.Serializer.written c.key.new.self) _ c.in-Some.ensures.steps key c.in_ok-send_bound.ensures c.loop-name.invariant

pub returns : goal.returns
returns g c =
    let names = c.args.names.now in
    let vars = c.args.vars.now.entries in
    let f = bound_shown names in
    let entries = c.in_ok-found.found.entries in
    let shown : shown_as f entries ≡ put_all (map (var_member names) (vars_of vars)) no_members =
    IfOk-at_ok (λ m. (ns : List (List ℕ)) → shown_as (bound_shown ns) m.entries ≡ put_all (map (var_member ns) (vars_of vars)) no_members) {r = c.by_name.result} c.in_ok-found.ensures c.by_name.ensures names in
    let old = g.W.Serializer.written c.args.out.now in
    let first = g.W.Serializer.written c.begin_map.new.self in
    let end = g.W.Serializer.written c.end_map.new.self in
    let len : c.len.result ≡ length entries = search rules in
    let all : c.into_iter-name-iterator.result ≡ entries = search rules in
    let begun = subst (λ n. Logs old first (map_begins (Some n))) (len ∙ sym (shown-len f entries)) c.in_ok-begin_map.ensures in
    on_ok_weaker c.end_map.result (λ e.
    subst (λ ms. SendsValue (object ms) old end) shown
    (first, begun, subst (λ ps. SendsMembers (shown_as f ps) first end) all (entries_end f _ _ first _ end c.in-None.ensures.steps.0 e c.loop-name.invariant)))
    c.end_map.ensures
