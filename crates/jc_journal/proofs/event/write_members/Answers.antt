use Rattle.std.proofs.Common.{◌∷◌, ◌++◌, [], List, subst}
use Rattle.std.proofs.lemmas.Result.{on_ok_weaker}
use Rattle.jc_json.specs.Gains.{Gains}
use Rattle.jc_journal.specs.Operation.{NamedJson}
use Rattle.jc_journal.specs.EventLine.{event_member, sender_member, given_member, kind_member, new_member, number_member, op_member, effects_member, replica_member, rules_member}
use Rattle.jc_journal.specs.Parts.{member_tokens, rows_of, differences_at, step_command, step_new, step_op}
use Rattle.jc_journal.proofs.TokensLemmas.{members_then}
use Rattle.jc_journal.proofs.event.write_members.Goals as goal

pub returns : goal.returns
returns c =
    let names = c.args.names.now in
    let t = c.args.told.now in
    let s = t.numbered.now in
    let m1 : List NamedJson = step_command t.step in
    let m2 : List NamedJson = effects_member names (differences_at t.effects) in
    let m3 : List NamedJson = event_member names s.event ∷ [] in
    let m4 : List NamedJson = sender_member names s.event in
    let m5 : List NamedJson = given_member s.given in
    let m6 : List NamedJson = kind_member s.event ∷ [] in
    let m7 : List NamedJson = new_member names (step_new t.step) in
    let m8 : List NamedJson = number_member s.number ∷ [] in
    let m9 : List NamedJson = op_member names (step_op t.step) in
    let m10 : List NamedJson = replica_member names s.event ∷ [] in
    let m11 : List NamedJson = rules_member (rows_of t.rules) in
    let g9 : Gains c.write_number.new.out c.write_op_member.new.out (member_tokens m9) =
    subst (λ o. Gains c.write_number.new.out c.write_op_member.new.out (member_tokens (op_member names o))) c.op_of.ensures c.in_ok-write_op_member.ensures in
    let t2 : Gains c.args.out.now c.write_effects_member.new.out (member_tokens (m1 ++ m2)) = members_then c.args.out.now c.write_command.new.out c.write_effects_member.new.out (m1) m2 c.in_ok-write_command.ensures c.in_ok-write_effects_member.ensures in
    let t3 : Gains c.args.out.now c.write_event.new.out (member_tokens (m1 ++ m2 ++ m3)) = members_then c.args.out.now c.write_effects_member.new.out c.write_event.new.out (m1 ++ m2) m3 t2 c.in_ok-write_event.ensures in
    let t4 : Gains c.args.out.now c.write_sender.new.out (member_tokens (m1 ++ m2 ++ m3 ++ m4)) = members_then c.args.out.now c.write_event.new.out c.write_sender.new.out (m1 ++ m2 ++ m3) m4 t3 c.in_ok-write_sender.ensures in
    let t5 : Gains c.args.out.now c.write_given.new.out (member_tokens (m1 ++ m2 ++ m3 ++ m4 ++ m5)) = members_then c.args.out.now c.write_sender.new.out c.write_given.new.out (m1 ++ m2 ++ m3 ++ m4) m5 t4 c.in_ok-write_given.ensures in
    let t6 : Gains c.args.out.now c.write_kind.new.out (member_tokens (m1 ++ m2 ++ m3 ++ m4 ++ m5 ++ m6)) = members_then c.args.out.now c.write_given.new.out c.write_kind.new.out (m1 ++ m2 ++ m3 ++ m4 ++ m5) m6 t5 c.in_ok-write_kind.ensures in
    let t7 : Gains c.args.out.now c.write_new.new.out (member_tokens (m1 ++ m2 ++ m3 ++ m4 ++ m5 ++ m6 ++ m7)) = members_then c.args.out.now c.write_kind.new.out c.write_new.new.out (m1 ++ m2 ++ m3 ++ m4 ++ m5 ++ m6) m7 t6 c.in_ok-write_new.ensures in
    let t8 : Gains c.args.out.now c.write_number.new.out (member_tokens (m1 ++ m2 ++ m3 ++ m4 ++ m5 ++ m6 ++ m7 ++ m8)) = members_then c.args.out.now c.write_new.new.out c.write_number.new.out (m1 ++ m2 ++ m3 ++ m4 ++ m5 ++ m6 ++ m7) m8 t7 c.in_ok-write_number.ensures in
    let t9 : Gains c.args.out.now c.write_op_member.new.out (member_tokens (m1 ++ m2 ++ m3 ++ m4 ++ m5 ++ m6 ++ m7 ++ m8 ++ m9)) = members_then c.args.out.now c.write_number.new.out c.write_op_member.new.out (m1 ++ m2 ++ m3 ++ m4 ++ m5 ++ m6 ++ m7 ++ m8) m9 t8 g9 in
    let t10 : Gains c.args.out.now c.write_replica.new.out (member_tokens (m1 ++ m2 ++ m3 ++ m4 ++ m5 ++ m6 ++ m7 ++ m8 ++ m9 ++ m10)) = members_then c.args.out.now c.write_op_member.new.out c.write_replica.new.out (m1 ++ m2 ++ m3 ++ m4 ++ m5 ++ m6 ++ m7 ++ m8 ++ m9) m10 t9 c.in_ok-write_replica.ensures in
    on_ok_weaker c.write_rules.result
    (λ g11. members_then c.args.out.now c.write_replica.new.out c.write_rules.new.out (m1 ++ m2 ++ m3 ++ m4 ++ m5 ++ m6 ++ m7 ++ m8 ++ m9 ++ m10) m11 t10 g11)
    c.write_rules.ensures
