use Rattle.std.proofs.Common.{◌∷◌, ◌++◌, [], List, ℕ, codes, decimal, subst}
use Rattle.std.proofs.lemmas.Result.{on_ok_weaker}
use Rattle.json.specs.Json.{number, string}
use Rattle.jc_rules.specs.Refusals.{refusal_name}
use Rattle.jc_json.specs.Gains.{Gains}
use Rattle.jc_journal.specs.Operation.{NamedJson}
use Rattle.jc_journal.specs.EventLine.{event_member, given_member, kind_member, number_member, replica_member}
use Rattle.jc_journal.specs.StuckLine.{wanted_id, key_member, offered_member, missing_member}
use Rattle.jc_journal.specs.Parts.{member_tokens}
use Rattle.jc_journal.proofs.TokensLemmas.{members_then}
use Rattle.jc_journal.proofs.stuck.write_members.Goals as goal

pub returns : goal.returns
returns c =
    let N = c.args.net.now.history.now.states in
    let names = c.args.net.now.names in
    let ns = c.names-names.result.now in
    let s = c.args.stuck.now in
    let m1 : List NamedJson = (codes "cause", string (refusal_name s.refusal)) ∷ [] in
    let m3 : List NamedJson = given_member c.args.given in
    let m5 : List NamedJson = kind_member s.event ∷ [] in
    let m6 : List NamedJson = missing_member names s.number s.event N in
    let m7 : List NamedJson = number_member c.args.number ∷ [] in
    let m8 : List NamedJson = offered_member names s.number (wanted_id s.event) N in
    let m10 : List NamedJson = (codes "stuck", number (decimal s.number)) ∷ [] in
    let m2 : List NamedJson = event_member ns s.event ∷ [] in
    let m4 : List NamedJson = key_member ns s.key in
    let m9 : List NamedJson = replica_member ns s.event ∷ [] in
    let g1 : Gains c.args.out.now c.write_text.new.out (member_tokens m1) =
    subst (λ (t : List ℕ). Gains c.args.out.now c.write_text.new.out (member_tokens ((codes "cause", string t) ∷ []))) c.name.ensures c.in_ok-write_text.ensures in
    let t2 : Gains c.args.out.now c.write_event.new.out (member_tokens (m1 ++ m2)) = members_then c.args.out.now c.write_text.new.out c.write_event.new.out (m1) m2 g1 c.in_ok-write_event.ensures in
    let t3 : Gains c.args.out.now c.write_given.new.out (member_tokens (m1 ++ m2 ++ m3)) = members_then c.args.out.now c.write_event.new.out c.write_given.new.out (m1 ++ m2) m3 t2 c.in_ok-write_given.ensures in
    let t4 : Gains c.args.out.now c.write_key.new.out (member_tokens (m1 ++ m2 ++ m3 ++ m4)) = members_then c.args.out.now c.write_given.new.out c.write_key.new.out (m1 ++ m2 ++ m3) m4 t3 c.in_ok-write_key.ensures in
    let t5 : Gains c.args.out.now c.write_kind.new.out (member_tokens (m1 ++ m2 ++ m3 ++ m4 ++ m5)) = members_then c.args.out.now c.write_key.new.out c.write_kind.new.out (m1 ++ m2 ++ m3 ++ m4) m5 t4 c.in_ok-write_kind.ensures in
    let t6 : Gains c.args.out.now c.write_missing.new.out (member_tokens (m1 ++ m2 ++ m3 ++ m4 ++ m5 ++ m6)) = members_then c.args.out.now c.write_kind.new.out c.write_missing.new.out (m1 ++ m2 ++ m3 ++ m4 ++ m5) m6 t5 c.in_ok-write_missing.ensures in
    let t7 : Gains c.args.out.now c.write_number.new.out (member_tokens (m1 ++ m2 ++ m3 ++ m4 ++ m5 ++ m6 ++ m7)) = members_then c.args.out.now c.write_missing.new.out c.write_number.new.out (m1 ++ m2 ++ m3 ++ m4 ++ m5 ++ m6) m7 t6 c.in_ok-write_number.ensures in
    let t8 : Gains c.args.out.now c.write_offered.new.out (member_tokens (m1 ++ m2 ++ m3 ++ m4 ++ m5 ++ m6 ++ m7 ++ m8)) = members_then c.args.out.now c.write_number.new.out c.write_offered.new.out (m1 ++ m2 ++ m3 ++ m4 ++ m5 ++ m6 ++ m7) m8 t7 c.in_ok-write_offered.ensures in
    on_ok_weaker c.write_count.result
    (λ g.
    let end = c.write_count.new.out in
    let g10 : Gains c.write_replica.new.out end (member_tokens m10) =
    subst (λ (k : ℕ). Gains c.write_replica.new.out end (member_tokens ((codes "stuck", number (decimal k)) ∷ []))) c.from.ensures g in
    let t9 : Gains c.write_offered.new.out end (member_tokens (m9 ++ m10)) = members_then c.write_offered.new.out c.write_replica.new.out end m9 m10 c.in_ok-write_replica.ensures g10 in
    let all : Gains c.args.out.now end (member_tokens (m1 ++ m2 ++ m3 ++ m4 ++ m5 ++ m6 ++ m7 ++ m8 ++ (m9 ++ m10))) = members_then c.args.out.now c.write_offered.new.out end (m1 ++ m2 ++ m3 ++ m4 ++ m5 ++ m6 ++ m7 ++ m8) (m9 ++ m10) t8 t9 in
    subst (λ (xs : List (List ℕ)). Gains c.args.out.now end (member_tokens
    (m1 ++ (event_member xs s.event ∷ []) ++ m3 ++ key_member xs s.key ++ m5 ++ m6 ++ m7 ++ m8 ++ ((replica_member xs s.event ∷ []) ++ m10)))) c.names-names.ensures.names all)
    c.write_count.ensures
