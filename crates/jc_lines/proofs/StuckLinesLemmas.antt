-- About Laws: the journal's line of a stuck event has no LF before its end.
use Rattle.std.proofs.Common.{ℕ, Bool, true, false, cond, ◌==◌, List, [], ◌∷◌, ◌++◌, Option, Some, None, codes, decimal, map, slice_get}
use Rattle.std.specs.List.{AllByRecursion}
use Rattle.json.specs.Json.{number, string}
use Rattle.json.specs.Print.{print}
use Rattle.json.specs.Tree.{json_tokens}
use Rattle.jc_rules.specs.declared.id.Id.{Id}
use Rattle.jc_rules.specs.declared.key.Tagged.{Tagged}
use Rattle.jc_rules.specs.declared.operation.Event.{Event}
use Rattle.jc_rules.specs.declared.operation.Event.TheVariants as E
use Rattle.jc_rules.specs.declared.refusal.Refusal.TheVariants as F
use Rattle.jc_rules.specs.Refused.{Cause, refusal_of}
use Rattle.jc_rules.specs.Refusals.{refusal_name, refusal_number}
use Rattle.jc_rules.specs.State.{State}
use Rattle.jc_network.specs.Steps.{key_of_event}
use Rattle.jc_json.specs.Json.{id_text}
use Rattle.jc_json.specs.Values.{string_items, strings_json}
use Rattle.jc_journal.specs.Operation.{NamedJson, json_members, json_object}
use Rattle.jc_journal.specs.EventLine.{given_member, event_member, kind_member, number_member, replica_member}
use Rattle.jc_journal.specs.StuckLine.{key_member, wanted_id, offering_from, offered_member, missing_ids, missing_member, stuck_members, stuck_event_line}
use Rattle.jc_answers.specs.JsonTexts.{unended}
use Rattle.jc_lines.specs.OneLine.{HasNoLf}
use Rattle.jc_lines.proofs.NoLfLemmas.{decimal_line, ended}
use Rattle.jc_lines.proofs.PrintedLemmas.{HasLineNumbers, ItemsHaveLineNumbers, MembersHaveLineNumbers, printed_line}

-- ---- members

abbrev pub AreLineMembers : List NamedJson → Type 0
AreLineMembers es = AllByRecursion (λ e. HasLineNumbers e.1) es

pub both : (es fs : List NamedJson) → AreLineMembers es → AreLineMembers fs → AreLineMembers (es ++ fs)
both [] fs h g = g
both (e ∷ es) fs h g = (h.0, both es fs h.1 g)

pub in_object : (es : List NamedJson) → AreLineMembers es → MembersHaveLineNumbers (json_members es)
in_object [] h = tt
in_object (e ∷ es) h = (h.0, in_object es h.1)

pub strings_lines : (ss : List (List ℕ)) → ItemsHaveLineNumbers (string_items ss)
strings_lines [] = tt
strings_lines (s ∷ ss) = (tt, strings_lines ss)

listed : (b : Bool) (name : List ℕ) (ss : List (List ℕ)) → AreLineMembers (cond b ((name, strings_json ss) ∷ []) [])
listed true name ss = (strings_lines ss, tt)
listed false name ss = tt

-- ---- those of a stuck event

pub given_lines : (given : Bool) → AreLineMembers (given_member given)
given_lines true = (tt, tt)
given_lines false = tt

key_lines : (names : List (List ℕ)) (key : Option Tagged) → AreLineMembers (key_member names key)
key_lines names None = tt
key_lines names (Some k) = (tt, tt)

offered_lines : (names : List (List ℕ)) (refusal : ℕ) (wanted : Option Id) (network : List State) → AreLineMembers (offered_member names refusal wanted network)
offered_lines names refusal None network = tt
offered_lines names refusal (Some i) network = listed (refusal == refusal_number F.NotReceived) (codes "offered") (offering_from 0 names i network)

missing_lines : (names : List (List ℕ)) (refusal : ℕ) (event : Event) (network : List State) → AreLineMembers (missing_member names refusal event network)
missing_lines names refusal (E.Apply p i) network = listed (refusal == refusal_number F.DepsMissing) (codes "missing") (map (λ j. id_text names j) (missing_ids (slice_get network p) i))
missing_lines names refusal _ network = tt

stuck_lines : (names : List (List ℕ)) (given : Bool) (n : ℕ) (network : List State) (why : Cause) (event : Event) → AreLineMembers (stuck_members names given n network why event)
stuck_lines names given n network why event =
    let refusal = refusal_number (refusal_of why) in
    let key = key_member names (key_of_event why) in
    let missing = missing_member names refusal event network in
    let offered = offered_member names refusal (wanted_id event) network in
    let named = ((codes "cause", string (refusal_name (refusal_of why))) ∷ event_member names event ∷ []) ++ given_member given in
    let kind = kind_member event ∷ [] in
    let numbered = number_member n ∷ [] in
    let last = replica_member names event ∷ (codes "stuck", number (decimal refusal)) ∷ [] in
    both (((((named ++ key) ++ kind) ++ missing) ++ numbered) ++ offered) last
    (both ((((named ++ key) ++ kind) ++ missing) ++ numbered) offered
    (both (((named ++ key) ++ kind) ++ missing) numbered
    (both ((named ++ key) ++ kind) missing
    (both (named ++ key) kind (both named key (tt, (tt, given_lines given)) (key_lines names (key_of_event why))) (tt, tt))
    (missing_lines names refusal event network)) (decimal_line n, tt)) (offered_lines names refusal (wanted_id event) network))
    (tt, (decimal_line refusal, tt))

pub stuck_line : (names : List (List ℕ)) (given : Bool) (n : ℕ) (network : List State) (why : Cause) (event : Event) → HasNoLf (unended (stuck_event_line names given n network why event))
stuck_line names given n network why event =
    let es = stuck_members names given n network why event in
    ended (print (json_tokens (json_object es))) (printed_line (json_object es) (in_object es (stuck_lines names given n network why event)))
