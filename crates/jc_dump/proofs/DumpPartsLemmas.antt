-- About specs/DumpParts: the members that are sent one by one are the dump of the state.
use Rattle.std.proofs.Common.{◌≡◌, ℕ, ◌+◌, List, [], ◌∷◌, ◌++◌, Option, Some, None, is_some, option_map, option_copied, Bor, codes, ap, subst, ◌∙◌, refl}
use Rattle.std.specs.Int.{from_bool}
use Rattle.serde.specs.Event.{Log, Logs, map_begins, map_ends, field_key}
use Rattle.serde.specs.declared.name.Case.TheVariants.{AsIs}
use Rattle.serde_json.specs.Data.{boolean, number, unsigned, string, Members, no_members, member}
use Rattle.serde_json.specs.Events.{SendsValue, SendsMembers}
use Rattle.serde_json.specs.Written.{compact_text}
use Rattle.jc_rules.specs.Context.{Context}
use Rattle.jc_rules.specs.State.{State}
use Rattle.jc_dump.specs.declared.dump.Shown.{Shown}
use Rattle.jc_cursor.specs.Bounds.{vars_of}
use Rattle.jc_json.specs.Json.{ids_data, context_data, object_of}
use Rattle.jc_dump.specs.Dump.{vars_data, dump_members, dump_of, dump_line, brief_text}
use Rattle.jc_dump.specs.DumpParts.{HasParts, shown_members, SendsMember, SendsBeforeTree}

shown_is : (names : List (List ℕ)) (A : State) (shown : Shown) (tree : Context) → HasParts A shown tree → shown_members names shown (Some tree) ≡ dump_members names shown.name.now A
unfolding shown_members
shown_is names A shown tree h = rw (h.acted, h.left, h.ops, h.queue, h.recv, h.send, h.tree_is, h.vars) refl

-- the dump line of a state, from the text of the members
pub line_is : (names : List (List ℕ)) (A : State) (shown : Shown) (tree : Context) → HasParts A shown tree → (text line : List ℕ) → text ≡ compact_text (object_of (shown_members names shown (Some tree))) → line ≡ text ++ 10 ∷ []
    → line ≡ dump_line names shown.name.now A
unfolding dump_line dump_of
line_is names A shown tree h text line e f = f ∙ ap (λ t. t ++ 10 ∷ []) (e ∙ ap (λ ms. compact_text (object_of ms)) (shown_is names A shown tree h))

-- the text of a state without its tree, from the text of the members
pub brief_is : (names : List (List ℕ)) (A : State) (shown : Shown) (tree : Context) → HasParts A shown tree → (text : List ℕ) → text ≡ compact_text (object_of (shown_members names shown None)) → text ≡ brief_text names shown.name.now A
unfolding brief_text shown_members
brief_is names A shown tree h text e = e ∙ rw (h.acted, h.left, h.ops, h.queue, h.recv, h.send, h.vars) refl

-- the members before the tree are sent, and then the others
before_others : (names : List (List ℕ)) (shown : Shown) (ms : Members) (old mid end : Log) → SendsBeforeTree names shown old mid → SendsMembers ms mid end
    → SendsMembers (member (codes "acted") (boolean shown.acted) (member (codes "left") (number (unsigned shown.left)) (member (codes "name") (string shown.name.now)
    (member (codes "ops") (ids_data names shown.ops.items) (member (codes "queue") (ids_data names shown.queue.items) (member (codes "recv") (ids_data names shown.recv.items)
    (member (codes "send") (ids_data names shown.send.items) ms))))))) old end
before_others names shown ms old mid end sent more =
    let m1 = sent.1 in
    let s2 = sent.2 in
    let m2 = s2.1 in
    let s3 = s2.2 in
    let m3 = s3.1 in
    let s4 = s3.2 in
    let m4 = s4.1 in
    let s5 = s4.2 in
    let m5 = s5.1 in
    let s6 = s5.2 in
    let m6 = s6.1 in
    let m7 = s6.2 in
    (m1.0, sent.0, m1.1, m1.2, (m2.0, s2.0, m2.1, m2.2, (m3.0, s3.0, m3.1, m3.2, (m4.0, s4.0, m4.1, m4.2, (m5.0, s5.0, m5.1, m5.2, (m6.0, s6.0, m6.1, m6.2, (m7.0, mid, m7.1, m7.2, more)))))))

-- the member of the store's tree is sent, if there is a store
abbrev pub SendsTree : {T : Type 0} → List (List ℕ) → (T → Context) → Option (Bor T) → Log → Log → Type 0
SendsTree names tree None old new = new ≡ old
SendsTree names tree (Some s) old new = SendsMember (codes "tree") (context_data names (tree s.now)) old new

-- the members that are sent one by one are one object
pub shown_sent : {T : Type 0} (names : List (List ℕ)) (shown : Shown) (tree : T → Context) (store : Option (Bor T)) (n : ℕ) (old begun before root named vars end : Log) → n ≡ from_bool (is_some store)
    → Logs old begun (map_begins (Some (8 + n)))
    → SendsBeforeTree names shown begun before → SendsTree names tree store before root
    → Logs root named (field_key (codes "vars") AsIs) → SendsValue (vars_data names (vars_of shown.vars.now.entries)) named vars
    → Logs vars end map_ends → SendsValue (object_of (shown_members names shown (option_map tree (option_copied store)))) old end
unfolding shown_members
shown_sent names shown tree None n old begun before root named vars end count b first same k v ended =
    let vars_member = member (codes "vars") (vars_data names (vars_of shown.vars.now.entries)) no_members in
    (begun, subst (λ n. Logs old begun (map_begins (Some (8 + n)))) count b, before_others names shown vars_member begun before end first (named, vars, subst (λ log. Logs log named (field_key (codes "vars") AsIs)) same k, v, ended))
shown_sent names shown tree (Some s) n old begun before root named vars end count b first m k v ended =
    let vars_member = member (codes "vars") (vars_data names (vars_of shown.vars.now.entries)) no_members in
    (begun, subst (λ n. Logs old begun (map_begins (Some (8 + n)))) count b, before_others names shown (member (codes "tree") (context_data names (tree s.now)) vars_member) begun before end first (m.0, root, m.1, m.2, (named, vars, k, v, ended)))
