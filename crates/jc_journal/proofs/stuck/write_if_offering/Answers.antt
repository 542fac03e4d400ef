use Rattle.std.proofs.Common.{rules, ◌≡◌, List, true, false, [], ◌∷◌, sym, ◌∙◌, subst, ap}
use Rattle.std.proofs.lemmas.Result.{on_ok_weaker}
use Rattle.json.specs.Token.{Token}
use Rattle.json.specs.Token as T
use Rattle.jc_rules.specs.ReplicaNames.{name_at}
use Rattle.jc_json.specs.Gains.{Gains}
use Rattle.jc_json.proofs.GainsLemmas.{gains_nothing}
use Rattle.jc_journal.specs.Parts.{name_tokens}
use Rattle.jc_journal.proofs.StuckLineLemmas.{offers_tell, name_tells}
use Rattle.jc_journal.proofs.stuck.write_if_offering.Goals as goal

pub returns-then-not-has : goal.returns-then-not-has
returns-then-not-has c = λ A there.
    let N = c.args.net.now.history.now.states in
    let replica = c.in-Some.replica.now in
    let b : c.has.result ≡ false = search rules in
    let none : name_tokens c.args.net.now.names c.args.p c.args.id A ≡ [] =
    name_tells c.args.net.now.names c.args.p c.args.id A false (sym b ∙ offers_tell N c.args.p replica A c.args.id c.sent.result.now c.has.result c.in-Some.ensures.some there c.sent.ensures.sent c.has.ensures) in
    subst (λ (ts : List Token). Gains c.args.out.now c.args.out.now ts) (sym none) (gains_nothing c.args.out.now)

pub returns : goal.returns
returns c =
    let N = c.args.net.now.history.now.states in
    let names = c.args.net.now.names in
    let replica = c.in-Some.replica.now in
    let b : c.has.result ≡ true = search rules in
    let name : c.name_at.result.now ≡ name_at names c.args.p = c.name_at.ensures ∙ ap (λ (ns : List (List _)). name_at ns c.args.p) c.names.ensures.names in
    on_ok_weaker c.string.result
    (λ o A there.
    let one : name_tokens names c.args.p c.args.id A ≡ T.string (name_at names c.args.p) ∷ [] =
    name_tells names c.args.p c.args.id A true (sym b ∙ offers_tell N c.args.p replica A c.args.id c.sent.result.now c.has.result c.in-Some.ensures.some there c.sent.ensures.sent c.has.ensures) in
    subst (λ (ts : List Token). Gains c.args.out.now c.string.new.self ts) (ap (λ (s : List _). T.string s ∷ []) name ∙ sym one)
    (record { before = c.string.ensures.room.0; tokens = o }))
    c.string.ensures.ok
