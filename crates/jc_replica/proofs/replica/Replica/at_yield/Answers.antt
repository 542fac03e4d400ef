use Rattle.std.proofs.Common.{rules, ◌≡◌, ◌≢◌, ◌≤◌, ◌<◌, length, get_or, suc, drop, map, ap, sym, ◌∙◌, ◌∷◌, true, false, arith}
use Rattle.std.proofs.lemmas.List.{length-map}
use Rattle.jc_rules.specs.Syntax.{Yield}
use Rattle.jc_rules.specs.Refused.{no_yield, not_at_yield}
use Rattle.jc_syntax.specs.Trees.{cmd_of}
use Rattle.jc_replica.specs.ReplicaHistory.{ReplicaHistory}
use Rattle.jc_replica.proofs.ScriptLemmas.{next_is, none_left}
use Rattle.jc_replica.proofs.RefinesLemmas.{left_seen}
use Rattle.jc_replica.proofs.replica.Replica.at_yield.Goals as goal

pub returns-then-self-len-clause-err : goal.returns-then-self-len-clause-err
returns-then-self-len-clause-err g c = λ event read y. λ set os A stands of.
    let all : length c.self.inside.script.items ≤ c.self.inside.done = search rules in
    no_yield y (left_seen set A _ stands ∙ ap (λ (p : ReplicaHistory). p.history.now.left) (sym c.self.view_is) ∙ none_left c.self.inside.script.items c.self.inside.done all)

pub returns-then-is_yield-clause-ok : goal.returns-then-is_yield-clause-ok
returns-then-is_yield-clause-ok g c =
    let len : c.len.result ≡ length c.self.inside.script.items = search rules in
    let within : c.self.inside.done < length c.self.inside.script.items = omega (arith, c.self.invariant.bounds.done, length-map c.self.inside.script.items cmd_of, len, c.if-self-len.false) in
    let is : c.index-command.result.now ≡ get_or c.self.inside.script.items c.self.inside.done c.index-command.result.now = search rules in (
      drop (suc c.self.inside.done) (map cmd_of c.self.inside.script.items),
      ap (λ (p : ReplicaHistory). p.history.now.left) (sym c.self.view_is)
          ∙ next_is c.self.inside.script.items c.self.inside.done c.index-command.result.now within is
          ∙ ap (λ x. x ∷ drop (suc c.self.inside.done) (map cmd_of c.self.inside.script.items)) (c.is_yield.ensures.0 c.if-is_yield.true),
    )

pub returns-else-is_yield-clause-err : goal.returns-else-is_yield-clause-err
returns-else-is_yield-clause-err g c = λ event read y. λ set os A stands of.
    let len : c.len.result ≡ length c.self.inside.script.items = search rules in
    let within : c.self.inside.done < length c.self.inside.script.items = omega (arith, c.self.invariant.bounds.done, length-map c.self.inside.script.items cmd_of, len, c.if-self-len.false) in
    let is : c.index-command.result.now ≡ get_or c.self.inside.script.items c.self.inside.done c.index-command.result.now = search rules in
    let other : cmd_of c.index-command.result.now ≢ Yield = λ e. (let f : false ≡ true = sym c.if-is_yield.false ∙ c.is_yield.ensures.1 e in cc) in
    not_at_yield y (left_seen set A _ stands ∙ ap (λ (p : ReplicaHistory). p.history.now.left) (sym c.self.view_is) ∙ next_is c.self.inside.script.items c.self.inside.done c.index-command.result.now within is) other
