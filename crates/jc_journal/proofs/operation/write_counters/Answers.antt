use Rattle.std.proofs.Common.{◌≡◌, ℕ, ◌<◌, suc, List, [], ◌++◌, length, drop, sym, ◌∙◌, ap, subst, arith, add-one}
use Rattle.std.proofs.Math.Seq.{drop-length}
use Rattle.json.specs.Token.{Token}
use Rattle.jc_rules.specs.ReplicaNames.{name_at}
use Rattle.jc_rules.specs.VersionVectors.{greatest_of}
use Rattle.jc_json.specs.Gains.{Gains}
use Rattle.jc_json.proofs.GainsLemmas.{Wrote, wrote_begins, wrote_more, wrote_end}
use Rattle.jc_journal.specs.Operation.{counter_member, counter_members}
use Rattle.jc_journal.specs.Parts.{member_tokens}
use Rattle.jc_journal.proofs.OperationLemmas.{counters_next}
use Rattle.jc_journal.proofs.TokensLemmas.{tokens-append}
use Rattle.jc_journal.proofs.operation.write_counters.Goals as goal

pub loop-p-init : goal.loop-p-init
loop-p-init c = wrote_begins _ _

pub loop-p-preserved : goal.loop-p-preserved
loop-p-preserved c =
    let names = c.args.names.now in
    let ids = c.args.ids.now in
    let p = c.loop-p.p in
    let few = c.requires in
    let l : p < length names = omega (arith, few, c.loop-p-test.true) in
    let gains : Gains c.loop-p.out c.write_counter.new.out (member_tokens (counter_member (name_at names p) (greatest_of p ids))) =
    subst (λ x. Gains c.loop-p.out c.write_counter.new.out (member_tokens (counter_member x (greatest_of p ids)))) c.name_at.ensures
    (subst (λ n. Gains c.loop-p.out c.write_counter.new.out (member_tokens (counter_member c.name_at.result.now n))) c.greatest_of.ensures.exact c.in_ok-write_counter.ensures) in
    let next : member_tokens (counter_members p (drop p names) ids) ≡ member_tokens (counter_member (name_at names p) (greatest_of p ids)) ++ member_tokens (counter_members (suc p) (drop (suc p) names) ids) =
    ap member_tokens (counters_next names ids p l) ∙ tokens-append (counter_member (name_at names p) (greatest_of p ids)) (counter_members (suc p) (drop (suc p) names) ids) in
    subst (λ q. Wrote c.args.out.now c.write_counter.new.out (member_tokens (counter_members q (drop q names) ids)) (member_tokens (counter_members 0 names ids))) (sym (add-one p))
    (wrote_more _ _ _ _ _ _ _ next gains c.loop-p.invariant)

pub returns : goal.returns
returns c =
    let names = c.args.names.now in
    let ids = c.args.ids.now in
    let few = c.requires in
    let end : c.loop-p.p ≡ length names = omega (arith, few, c.loop-p-test.false) in
    let none : member_tokens (counter_members c.loop-p.p (drop c.loop-p.p names) ids) ≡ [] =
    ap (λ n. member_tokens (counter_members c.loop-p.p (drop n names) ids)) end ∙ ap (λ (ns : List (List ℕ)). member_tokens (counter_members c.loop-p.p ns ids)) (drop-length names) in
    wrote_end _ _ _ (subst (λ (ts : List Token). Wrote c.args.out.now c.loop-p.out ts (member_tokens (counter_members 0 names ids))) none c.loop-p.invariant)
