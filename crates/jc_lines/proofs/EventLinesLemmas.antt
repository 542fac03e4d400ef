-- About Laws: the journal's line of an event that was made has no LF before its end.
use Rattle.std.proofs.Common.{ℕ, suc, Bool, true, false, cond, ◌==◌, List, [], ◌∷◌, ◌++◌, map, Option, Some, None, decimal, codes}
use Rattle.json.specs.Json.{number, string, Items, no_items, item}
use Rattle.json.specs.Print.{print}
use Rattle.json.specs.Tree.{json_tokens}
use Rattle.jc_rules.specs.declared.id.Id.{Id}
use Rattle.jc_rules.specs.declared.key.Key.{Key}
use Rattle.jc_rules.specs.declared.key.Next.{Next}
use Rattle.jc_rules.specs.declared.key.Next.TheVariants.{Tail, Elem as To}
use Rattle.jc_rules.specs.declared.key.Tagged.{Tagged}
use Rattle.jc_rules.specs.declared.key.Tagged.TheVariants.{MapT, ListT, RegT}
use Rattle.jc_rules.specs.declared.operation.Event.{Event}
use Rattle.jc_rules.specs.declared.operation.Event.TheVariants as E
use Rattle.jc_rules.specs.declared.operation.Mutation.{Mutation}
use Rattle.jc_rules.specs.declared.operation.Mutation.TheVariants.{Assign, Insert, Delete}
use Rattle.jc_rules.specs.declared.operation.Op.{Op}
use Rattle.jc_rules.specs.declared.rule.Rule.{Rule}
use Rattle.jc_rules.specs.declared.value.Value.{Value}
use Rattle.jc_rules.specs.declared.value.Value.TheVariants as V
use Rattle.jc_rules.specs.Context.{Register}
use Rattle.jc_rules.specs.State.{State}
use Rattle.jc_rules.specs.VersionVectors.{greatest_of}
use Rattle.jc_json.specs.Json.{id_text, key_text}
use Rattle.jc_json.specs.Values.{dumped_value, pair_items}
use Rattle.jc_json.specs.declared.writing.Numbers.TheVariants.{Named}
use Rattle.jc_effects.specs.Difference.{OwnDifference, Differences, no_difference, difference}
use Rattle.jc_effects.specs.EffectsJson.{Labelled, as_members, as_items, some_items, id_json, some_ids, some_pairs, tag_word, some_tags, link_json, some_links, if_shown, place_members, place_items}
use Rattle.jc_journal.specs.Operation.{json_object, cursor_texts, counter_member, counter_members, mutation_value, op_json}
use Rattle.jc_journal.specs.EventLine.{given_member, event_member, kind_member, number_member, replica_member, command_member, sender_member, new_ids, new_member, event_op, op_member, effects_member, rule_items, rules_member, event_members}
use Rattle.jc_listings.specs.declared.journals.Details.{Details}
use Rattle.jc_listings.specs.Journals.{IsMadeLine, rules_asked}
use Rattle.jc_lines.specs.OneLine.{HasNoLf}
use Rattle.jc_lines.proofs.NoLfLemmas.{decimal_line, ended}
use Rattle.jc_lines.proofs.PrintedLemmas.{HasLineNumbers, ItemsHaveLineNumbers, MembersHaveLineNumbers, printed_line}
use Rattle.jc_lines.proofs.StuckLinesLemmas.{AreLineMembers, both, in_object, strings_lines, given_lines}

-- ---- effects

labelled : (es : List Labelled) → AreLineMembers es → MembersHaveLineNumbers (as_members es)
labelled [] h = tt
labelled (e ∷ es) h = (h.0, labelled es h.1)

listed : (name : List ℕ) (js : Items) → ItemsHaveLineNumbers js → AreLineMembers (some_items name js)
listed name no_items h = tt
listed name (item j js) h = (h, tt)

ids_lines : (names : List (List ℕ)) (ids : List Id) → ItemsHaveLineNumbers (as_items (map (id_json names) ids))
ids_lines names [] = tt
ids_lines names (i ∷ ids) = (tt, ids_lines names ids)

value_line : (v : Value) → HasLineNumbers (dumped_value v)
value_line (V.Number s) = (tt, tt)
value_line _ = tt

pairs_lines : (names : List (List ℕ)) (r : Register) → ItemsHaveLineNumbers (pair_items Named names r)
pairs_lines names [] = tt
pairs_lines names (e ∷ r) = ((tt, (value_line e.1, tt)), pairs_lines names r)

tags_lines : (tags : List Tagged) → ItemsHaveLineNumbers (as_items (map tag_word tags))
tags_lines [] = tt
tags_lines (MapT k ∷ tags) = (tt, tags_lines tags)
tags_lines (ListT k ∷ tags) = (tt, tags_lines tags)
tags_lines (RegT k ∷ tags) = (tt, tags_lines tags)

link_line : (names : List (List ℕ)) (next : Option Next) → HasLineNumbers (link_json names next)
link_line names None = tt
link_line names (Some Tail) = tt
link_line names (Some (To i)) = tt

links_lines : (names : List (List ℕ)) (links : Option (Option Next × Option Next)) → AreLineMembers (some_links names links)
links_lines names None = tt
links_lines names (Some links) = ((link_line names links.0, (link_line names links.1, tt)), tt)

shown_lines : (shown : Option Bool) → AreLineMembers (if_shown shown)
shown_lines None = tt
shown_lines (Some b) = (tt, tt)

-- the members of a place, where those of its map and of its list are lines
place_lines : (names : List (List ℕ)) (k : Key) (o : OwnDifference) (m l : Items) → ItemsHaveLineNumbers m → ItemsHaveLineNumbers l → AreLineMembers (place_members names k o m l)
place_lines names k o m l maps lists =
    let gained = some_ids names (codes "gained") o.gained in
    let key = (codes "key", string (key_text names k)) ∷ [] in
    let list = some_items (codes "list") l in
    let lost = some_ids names (codes "lost") o.lost in
    let made = some_tags o.made in
    let inner = some_items (codes "map") m in
    let next = some_links names o.next in
    let shown = if_shown o.shown in
    let taken = some_pairs names (codes "taken") o.taken in
    let written = some_pairs names (codes "written") o.written in
    both ((((gained ++ key) ++ list) ++ (lost ++ made)) ++ inner) (((next ++ shown) ++ taken) ++ written)
    (both (((gained ++ key) ++ list) ++ (lost ++ made)) inner
    (both ((gained ++ key) ++ list) (lost ++ made)
    (both (gained ++ key) list
    (both gained key (listed (codes "gained") _ (ids_lines names o.gained)) (tt, tt)) (listed (codes "list") l lists))
    (both lost made (listed (codes "lost") _ (ids_lines names o.lost)) (listed (codes "made") _ (tags_lines o.made)))) (listed (codes "map") m maps))
    (both ((next ++ shown) ++ taken) written
    (both (next ++ shown) taken (both next shown (links_lines names o.next) (shown_lines o.shown)) (listed (codes "taken") _ (pairs_lines names o.taken)))
    (listed (codes "written") _ (pairs_lines names o.written)))

places_lines : (names : List (List ℕ)) (x : Differences) → ItemsHaveLineNumbers (place_items names x)
places_lines names no_difference = tt
places_lines names (difference k o m l rest) = (
  labelled (place_members names k o (place_items names m) (place_items names l))
      (place_lines names k o (place_items names m) (place_items names l) (places_lines names m) (places_lines names l)),
  places_lines names rest,
)

-- ---- operations

counter_line : (name : List ℕ) (n : ℕ) → AreLineMembers (counter_member name n)
counter_line name n = go (n == 0)
  where
    go : (zero : Bool) → AreLineMembers (cond zero [] ((name, number (decimal n)) ∷ []))
    go true = tt
    go false = (decimal_line n, tt)

counters_lines : (p : ℕ) (names : List (List ℕ)) (ids : List Id) → AreLineMembers (counter_members p names ids)
counters_lines p [] ids = tt
counters_lines p (name ∷ names) ids =
    both (counter_member name (greatest_of p ids)) (counter_members (suc p) names ids) (counter_line name (greatest_of p ids)) (counters_lines (suc p) names ids)

mutation_lines : (m : Mutation) → AreLineMembers (mutation_value m)
mutation_lines (Assign v) = (value_line v, tt)
mutation_lines (Insert v) = (value_line v, tt)
mutation_lines Delete = tt

op_line : (names : List (List ℕ)) (o : Op) → HasLineNumbers (op_json names o)
op_line names o = (
  strings_lines (cursor_texts names o.cursor.path o.cursor.last),
  (in_object (counter_members 0 names o.deps) (counters_lines 0 names o.deps), (tt, (tt, in_object (mutation_value o.mutation) (mutation_lines o.mutation)))),
)

-- ---- members

command_lines : (event : Event) (A : State) → AreLineMembers (command_member event A)
command_lines (E.Exec p) A = (tt, tt)
command_lines _ A = tt

effects_lines : (names : List (List ℕ)) (effects : Option Differences) → AreLineMembers (effects_member names effects)
effects_lines names None = tt
effects_lines names (Some x) = (places_lines names x, tt)

sender_lines : (names : List (List ℕ)) (event : Event) → AreLineMembers (sender_member names event)
sender_lines names (E.Recv p q) = (tt, tt)
sender_lines names (E.Take p q i) = (tt, tt)
sender_lines names _ = tt

new_lines : (names : List (List ℕ)) (new : Option (List Id)) → AreLineMembers (new_member names new)
new_lines names None = tt
new_lines names (Some ids) = (strings_lines (map (λ i. id_text names i) ids), tt)

made_lines : (names : List (List ℕ)) (o : Option Op) → AreLineMembers (op_member names o)
made_lines names None = tt
made_lines names (Some o) = (op_line names o, tt)

rows_lines : (rows : List (Rule × ℕ)) → ItemsHaveLineNumbers (rule_items rows)
rows_lines [] = tt
rows_lines (row ∷ rows) = ((decimal_line row.1, (tt, tt)), rows_lines rows)

rules_lines : (rules : Option (List (Rule × ℕ))) → AreLineMembers (rules_member rules)
rules_lines None = tt
rules_lines (Some rows) = (rows_lines rows, tt)

-- ---- the line

event_lines : (names : List (List ℕ)) (given : Bool) (n : ℕ) (event : Event) (rules : Option (List (Rule × ℕ))) (effects : Option Differences) (A B : State) → AreLineMembers (event_members names given n event rules effects A B)
event_lines names given n event rules effects A B =
    let command = command_member event A in
    let changed = effects_member names effects in
    let named = event_member names event ∷ [] in
    let sender = sender_member names event in
    let is_given = given_member given in
    let kind = kind_member event ∷ [] in
    let new = new_member names (new_ids event A B) in
    let numbered = number_member n ∷ [] in
    let made = op_member names (event_op event A B) in
    let replica = replica_member names event ∷ [] in
    let first = (((command ++ changed) ++ named) ++ sender) ++ is_given in
    let second = ((first ++ kind) ++ new) ++ numbered in
    both ((second ++ made) ++ replica) (rules_member rules)
    (both (second ++ made) replica
    (both second made
    (both ((first ++ kind) ++ new) numbered
    (both (first ++ kind) new
    (both first kind
    (both (((command ++ changed) ++ named) ++ sender) is_given
    (both ((command ++ changed) ++ named) sender
    (both (command ++ changed) named
    (both command changed (command_lines event A) (effects_lines names effects)) (tt, tt)) (sender_lines names event)) (given_lines given)) (tt, tt))
    (new_lines names (new_ids event A B))) (decimal_line n, tt)) (made_lines names (event_op event A B))) (tt, tt)) (rules_lines rules)

pub made_line : (details : Details) (names : List (List ℕ)) (n : Bool × ℕ) (event : Event) (rows : List (Rule × ℕ)) (A B : State) (text : List ℕ) → IsMadeLine details names n event rows A B text → HasNoLf text
made_line details names n event rows A B text h =
    let es = event_members names n.0 n.1 event (rules_asked details.trace rows) h.effects A B in
    rw h.is (ended (print (json_tokens (json_object es))) (printed_line (json_object es) (in_object es (event_lines names n.0 n.1 event (rules_asked details.trace rows) h.effects A B))))
