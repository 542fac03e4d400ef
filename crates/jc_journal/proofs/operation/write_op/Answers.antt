use Rattle.std.proofs.Common.{◌∷◌, ◌++◌, [], List, ℕ, codes, subst}
use Rattle.std.proofs.lemmas.Result.{on_ok_weaker}
use Rattle.json.specs.Json.{string}
use Rattle.json.specs.Token as T
use Rattle.jc_json.specs.Json.{id_text}
use Rattle.jc_json.specs.Gains.{Gains}
use Rattle.jc_json.proofs.GainsLemmas.{gains_one}
use Rattle.jc_journal.specs.Operation.{NamedJson, cursor_json, vector_json, mutation_name, mutation_value}
use Rattle.jc_journal.specs.Parts.{member_tokens}
use Rattle.jc_journal.proofs.TokensLemmas.{members_then, object_written}
use Rattle.jc_journal.proofs.operation.write_op.Goals as goal

pub returns : goal.returns
returns c =
    let names = c.args.names.now in
    let o = c.args.op.now in
    let cursor : List NamedJson = (codes "cursor", cursor_json names o.cursor) ∷ [] in
    let deps : List NamedJson = (codes "deps", vector_json names o.deps) ∷ [] in
    let id : List NamedJson = (codes "id", string (id_text names o.id)) ∷ [] in
    let mutation : List NamedJson = (codes "mutation", string (mutation_name o.mutation)) ∷ [] in
    let value : List NamedJson = mutation_value o.mutation in
    let g0 : Gains c.args.out.now c.begin_object.new.self (T.begin_object ∷ []) = gains_one _ _ _ _ _ c.in_ok-begin_object.was c.begin_object.ensures in
    let g4 : Gains c.write_op_id.new.out c.write_text.new.out (member_tokens mutation) =
    subst (λ (s : List ℕ). Gains c.write_op_id.new.out c.write_text.new.out (member_tokens ((codes "mutation", string s) ∷ []))) c.mutation_name.ensures c.in_ok-write_text.ensures in
    let g345 = members_then _ _ _ id (mutation ++ value) c.in_ok-write_op_id.ensures (members_then _ _ _ mutation value g4 c.in_ok-write_mutation_value.ensures) in
    let all = members_then _ _ _ cursor (deps ++ id ++ mutation ++ value) c.in_ok-write_op_cursor.ensures (members_then _ _ _ deps (id ++ mutation ++ value) c.in_ok-write_op_deps.ensures g345) in
    on_ok_weaker c.end_object.result
    (λ x. object_written _ _ _ _ (cursor ++ deps ++ id ++ mutation ++ value) g0 all (record { before = c.end_object.ensures.room.0; tokens = x }))
    c.end_object.ensures.ok
