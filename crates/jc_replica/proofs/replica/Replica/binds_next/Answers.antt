use Rattle.std.proofs.Common.{rules, ◌≡◌, ◌≢◌, ◌≤◌, ◌<◌, length, get_or, suc, drop, map, ap, sym, ◌∙◌, ◌∷◌, true, false, arith}
use Rattle.std.proofs.lemmas.List.{length-map}
use Rattle.jc_rules.specs.Refused.{no_command, at_yield}
use Rattle.jc_rules.specs.Syntax.{Yield}
use Rattle.jc_syntax.specs.Trees.{cmd_of}
use Rattle.jc_replica.specs.NextCommand.{IsLet}
use Rattle.jc_replica.specs.ReplicaHistory.{ReplicaHistory}
use Rattle.jc_replica.proofs.NextCommandSeenLemmas.{binds_next, makes_next}
use Rattle.jc_replica.proofs.ScriptLemmas.{next_is, none_left}
use Rattle.jc_replica.proofs.RefinesLemmas.{left_seen}
use Rattle.jc_replica.proofs.replica.Replica.binds_next.Goals as goal

pub returns-then-self-len-clause-err : goal.returns-then-self-len-clause-err
returns-then-self-len-clause-err g c = λ set os A stands of.
    let all : length c.self.inside.script.items ≤ c.self.inside.done = search rules in
    no_command (left_seen set A _ stands ∙ ap (λ (p : ReplicaHistory). p.history.now.left) (sym c.self.view_is) ∙ none_left c.self.inside.script.items c.self.inside.done all)

pub returns-then-is_yield-clause-err : goal.returns-then-is_yield-clause-err
returns-then-is_yield-clause-err g c = λ set os A stands of.
    let i = c.self.inside in
    let len : c.len.result ≡ length i.script.items = search rules in
    let within : i.done < length i.script.items = omega (arith, c.self.invariant.bounds.done, length-map i.script.items cmd_of, len, c.if-self-len.false) in
    let is : c.index-command.result.now ≡ get_or i.script.items i.done c.index-command.result.now = search rules in
    let rest = drop (suc i.done) (map cmd_of i.script.items) in
    at_yield {rest = rest} (left_seen set A _ stands
    ∙ ap (λ (p : ReplicaHistory). p.history.now.left) (sym c.self.view_is)
    ∙ next_is i.script.items i.done c.index-command.result.now within is
    ∙ ap (λ x. x ∷ rest) (c.is_yield.ensures.0 c.if-is_yield.true))

pub returns-clause-binds : goal.returns-clause-binds
returns-clause-binds g c = λ b.
    let i = c.self.inside in
    let len : c.len.result ≡ length i.script.items = search rules in
    let within : i.done < length i.script.items = omega (arith, c.self.invariant.bounds.done, length-map i.script.items cmd_of, len, c.if-self-len.false) in
    let is : c.index-command.result.now ≡ get_or i.script.items i.done c.index-command.result.now = search rules in
    binds_next _ (drop (suc i.done) (map cmd_of i.script.items)) (cmd_of c.index-command.result.now)
    (ap (λ (p : ReplicaHistory). p.history.now.left) (sym c.self.view_is) ∙ next_is i.script.items i.done c.index-command.result.now within is)
    (c.is_let.ensures.0 b)

pub returns-clause-makes : goal.returns-clause-makes
returns-clause-makes g c = λ b.
    let i = c.self.inside in
    let len : c.len.result ≡ length i.script.items = search rules in
    let within : i.done < length i.script.items = omega (arith, c.self.invariant.bounds.done, length-map i.script.items cmd_of, len, c.if-self-len.false) in
    let is : c.index-command.result.now ≡ get_or i.script.items i.done c.index-command.result.now = search rules in
    let no_yield : cmd_of c.index-command.result.now ≢ Yield = λ e. (let f : false ≡ true = sym c.if-is_yield.false ∙ c.is_yield.ensures.1 e in cc) in
    let no_let : IsLet (cmd_of c.index-command.result.now) → ⊥ = λ e. (let f : false ≡ true = sym b ∙ c.is_let.ensures.1 e in cc) in
    makes_next _ (drop (suc i.done) (map cmd_of i.script.items)) (cmd_of c.index-command.result.now)
    (ap (λ (p : ReplicaHistory). p.history.now.left) (sym c.self.view_is) ∙ next_is i.script.items i.done c.index-command.result.now within is)
    no_yield no_let
