use Rattle.std.proofs.Common.{rules, ◌≡◌, get_or, ap, sym, ◌∙◌, subst, [], arith}
use Rattle.jc_rules.specs.declared.operation.Event.TheVariants as E
use Rattle.jc_rules.specs.Ids.{greatest}
use Rattle.jc_syntax.specs.Trees.{expr_of}
use Rattle.jc_cursor.specs.declared.bound.Bound.TheVariants as B
use Rattle.jc_cursor.specs.Bounds.{vars_of, bound_of}
use Rattle.jc_cursor.specs.Evaluates.{Evaluates, IsEvalRefused, eval_cause_of}
use Rattle.jc_replica.specs.NextCommand.{IsMaking, rule_by, expr_by, mutation_by}
use Rattle.jc_replica.specs.ReplicaHistory.{ReplicaHistory}
use Rattle.jc_replica.proofs.AnswersLemmas.{ready_now}
use Rattle.jc_replica.proofs.NextCommandSeenLemmas.{refused_first, refused_bound, evaluated_in, refused_in, makes}
use Rattle.jc_replica.proofs.RefusedLemmas.{handed_up}
use Rattle.jc_replica.proofs.ScriptLemmas.{is_next}
use Rattle.jc_replica.proofs.replica.Replica.make_op.Goals as goal
use Rattle.jc_cursor.proofs.EvaluatesLemmas.{not_cursor}

pub place_of-place-requires : goal.place_of-place-requires
place_of-place-requires g c =
    let i = c.self.inside in
    let is : c.index-command.result.now ≡ get_or i.script.items i.done c.index-command.result.now = search rules in
    let next = is_next i.script.items i.done c.index-command.result.now c.requires.command c.requires.rest (ap (λ (p : ReplicaHistory). p.history.now.left) c.self.view_is ∙ c.requires.next) is in
    subst IsMaking (sym next) c.requires.makes

pub eval_in_map-requires : goal.eval_in_map-requires
eval_in_map-requires g c = (ready_now c.self.invariant).chained

pub returns-in_err-bound-clause-err : goal.returns-in_err-bound-clause-err
returns-in_err-bound-clause-err g c =
    let i = c.self.inside in
    let is : c.index-command.result.now ≡ get_or i.script.items i.done c.index-command.result.now = search rules in
    let next = is_next i.script.items i.done c.index-command.result.now c.requires.command c.requires.rest (ap (λ (p : ReplicaHistory). p.history.now.left) c.self.view_is ∙ c.requires.next) is in
    let vars = ap (λ (p : ReplicaHistory). p.history.now.vars) c.self.view_is in
    let tree = ap (λ (p : ReplicaHistory). p.history.now.tree) c.self.view_is in
    let expr = c.place_of-place.ensures ∙ ap expr_by next in
    handed_up (E.Exec c.args.self.now.number) [] c.args.self.now c.from_residual-in_err-bound.result (eval_cause_of c.in_err-bound.field-0.0) (λ why. IsEvalRefused (g.S.TreeStore.tree i.store).now (vars_of i.vars.entries) (expr_of c.place_of-place.result.now) why) c.from_residual-in_err-bound.ensures.1
    (λ why r. λ set os A stands of. refused_first set c.args.self.now.number A c.args.self.now.history.now stands c.requires.command c.requires.rest c.requires.next c.requires.makes os why (refused_in tree vars expr r))
    c.in_err-bound.ensures.refused

pub returns-in_default : goal.returns-in_default
returns-in_default g c =
    let i = c.self.inside in
    let is : c.index-command.result.now ≡ get_or i.script.items i.done c.index-command.result.now = search rules in
    let next = is_next i.script.items i.done c.index-command.result.now c.requires.command c.requires.rest (ap (λ (p : ReplicaHistory). p.history.now.left) c.self.view_is ∙ c.requires.next) is in
    let vars = ap (λ (p : ReplicaHistory). p.history.now.vars) c.self.view_is in
    let tree = ap (λ (p : ReplicaHistory). p.history.now.tree) c.self.view_is in
    let expr = c.place_of-place.ensures ∙ ap expr_by next in
    record {
      ok = tt;
      err = λ set os A stands of. refused_bound set c.args.self.now.number A c.args.self.now.history.now stands c.requires.command c.requires.rest c.requires.next c.requires.makes os (bound_of c.in_ok-bound.bound) _ _ (evaluated_in tree vars expr c.in_ok-bound.ensures.ok) (not_cursor c.in_ok-bound.bound c.in_default.not-Cursor);
    }

pub overflow_add-result : goal.overflow_add-result
overflow_add-result g c =
    let ready = ready_now c.self.invariant in
    omega (arith, ready.counted, c.greatest.ensures.exact)

pub returns-clause-ok : goal.returns-clause-ok
returns-clause-ok g c =
    let i = c.self.inside in
    let K = c.args.self.now.history.now in
    let is : c.index-command.result.now ≡ get_or i.script.items i.done c.index-command.result.now = search rules in
    let next = is_next i.script.items i.done c.index-command.result.now c.requires.command c.requires.rest (ap (λ (p : ReplicaHistory). p.history.now.left) c.self.view_is ∙ c.requires.next) is in
    let vars = ap (λ (p : ReplicaHistory). p.history.now.vars) c.self.view_is in
    let tree = ap (λ (p : ReplicaHistory). p.history.now.tree) c.self.view_is in
    let expr = c.place_of-place.ensures ∙ ap expr_by next in
    let ev = evaluated_in tree vars expr c.in_ok-bound.ensures.ok in
    let cursor = subst (λ b. Evaluates K.tree K.vars (expr_by c.requires.command) (bound_of b) c.open-2.new.self c.eval_in_map.new.trace) c.in-Cursor.is ev in
    let shared = subst (λ k. Evaluates K.tree K.vars (expr_by c.requires.command) (bound_of (B.Cursor k)) c.open-2.new.self c.eval_in_map.new.trace) (sym c.in_ok-cursor.ensures) cursor in
    let ops = ap (λ (p : ReplicaHistory). p.history.now.ops) c.self.view_is in
    let number = ap (λ (p : ReplicaHistory). p.number) c.self.view_is in
    makes K c.args.self.now.number i.number c.requires c.in_ok-cursor.cursor c.in_ok-mutation_of.field-0 c.greatest.result c.in_ok-copy.field-0 c.rule_of.result _ _ _ _ _ _
    c.in_ok-open.ensures.ok c.in_ok-open-2.ensures.ok (c.rule_of.ensures ∙ ap rule_by next) shared c.in_ok-open-3.ensures.ok c.in_ok-open-4.ensures.ok
    (c.greatest.ensures.exact ∙ ap greatest ops) (c.in_ok-copy.ensures ∙ ops) (c.in_ok-mutation_of.ensures ∙ ap mutation_by next) number
