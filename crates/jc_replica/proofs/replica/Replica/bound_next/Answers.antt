use Rattle.std.proofs.Common.{rules, ◌≡◌, get_or, ap, sym, ◌∙◌, []}
use Rattle.jc_rules.specs.declared.operation.Event.TheVariants as E
use Rattle.jc_rules.specs.Syntax.{LetIn}
use Rattle.jc_syntax.specs.Trees.{cmd_of, expr_of}
use Rattle.jc_cursor.specs.Bounds.{vars_of}
use Rattle.jc_cursor.specs.Evaluates.{IsEvalRefused, eval_cause_of}
use Rattle.jc_replica.specs.ReplicaHistory.{ReplicaHistory}
use Rattle.jc_replica.proofs.VariablesSeenLemmas.{only_let, same_let, binds, refused_let}
use Rattle.jc_replica.proofs.AnswersLemmas.{ready_now}
use Rattle.jc_replica.proofs.NextCommandSeenLemmas.{evaluated_in, refused_in}
use Rattle.jc_replica.proofs.RefusedLemmas.{handed_up}
use Rattle.jc_replica.proofs.ScriptLemmas.{is_next}
use Rattle.jc_replica.proofs.replica.Replica.bound_next.Goals as goal

pub unreachable-requires : goal.unreachable-requires
unreachable-requires g c =
    let i = c.self.inside in
    let is : c.index.result.now ≡ get_or i.script.items i.done c.index.result.now = search rules in
    let next = is_next i.script.items i.done c.index.result.now (LetIn c.requires.name c.requires.expr) c.requires.rest (ap (λ (p : ReplicaHistory). p.history.now.left) c.self.view_is ∙ c.requires.next) is in
    only_let c.index.result.now c.requires.name c.requires.expr next c.in_default.not-Let

pub eval_in_map-requires : goal.eval_in_map-requires
eval_in_map-requires g c = (ready_now c.self.invariant).chained

pub returns-in_err-bound-clause-err : goal.returns-in_err-bound-clause-err
returns-in_err-bound-clause-err g c =
    let i = c.self.inside in
    let is : c.index.result.now ≡ get_or i.script.items i.done c.index.result.now = search rules in
    let next = is_next i.script.items i.done c.index.result.now (LetIn c.requires.name c.requires.expr) c.requires.rest (ap (λ (p : ReplicaHistory). p.history.now.left) c.self.view_is ∙ c.requires.next) is in
    let same = same_let c.in-Let.name c.requires.name (expr_of c.in-Let.expr) c.requires.expr (ap cmd_of (sym c.in-Let.is) ∙ next) in
    let vars = ap (λ (p : ReplicaHistory). p.history.now.vars) c.self.view_is in
    let tree = ap (λ (p : ReplicaHistory). p.history.now.tree) c.self.view_is in
    handed_up (E.Exec c.args.self.now.number) [] c.args.self.now c.from_residual-in_err-bound.result (eval_cause_of c.in_err-bound.field-0.0) (λ why. IsEvalRefused (g.S.TreeStore.tree i.store).now (vars_of i.vars.entries) (expr_of c.in-Let.expr) why) c.from_residual-in_err-bound.ensures.1
    (λ why r. λ set os A stands of. refused_let set c.args.self.now.number A c.args.self.now.history.now stands os c.requires why (refused_in tree vars same.1 r))
    c.in_err-bound.ensures.refused

pub returns-clause-ok : goal.returns-clause-ok
returns-clause-ok g c =
    let i = c.self.inside in
    let is : c.index.result.now ≡ get_or i.script.items i.done c.index.result.now = search rules in
    let next = is_next i.script.items i.done c.index.result.now (LetIn c.requires.name c.requires.expr) c.requires.rest (ap (λ (p : ReplicaHistory). p.history.now.left) c.self.view_is ∙ c.requires.next) is in
    let same = same_let c.in-Let.name c.requires.name (expr_of c.in-Let.expr) c.requires.expr (ap cmd_of (sym c.in-Let.is) ∙ next) in
    let vars = ap (λ (p : ReplicaHistory). p.history.now.vars) c.self.view_is in
    let tree = ap (λ (p : ReplicaHistory). p.history.now.tree) c.self.view_is in
    binds c.args.self.now.history.now c.requires _ _ _ _ _ _ (c.in_ok-copy.ensures ∙ same.0) c.in_ok-open.ensures.ok c.in_ok-open-2.ensures.ok (evaluated_in tree vars same.1 c.in_ok-bound.ensures.ok)
