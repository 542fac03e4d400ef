use Rattle.std.proofs.Common.{rules, ◌≡◌, [], ◌∷◌, ◌++◌, refl, sym, subst}
use Rattle.jc_rules.specs.Trace.{at_depth}
use Rattle.jc_cursor.specs.Bounds.{bound_of, vars_of}
use Rattle.jc_replica.specs.declared.record.Change.TheVariants as C
use Rattle.jc_replica.specs.declared.record.Record.{Record}
use Rattle.jc_replica.specs.NextCommand.{Binds}
use Rattle.jc_replica.specs.ReplicaHistory.{ReplicaHistory}
use Rattle.jc_replica.proofs.VariablesLemmas.{bound_kept_replica, bound_occurs}
use Rattle.jc_replica.proofs.replica.Replica.bind.Goals as goal

pub invariant_of-self-2 : goal.invariant_of-self-2
invariant_of-self-2 g c =
    let i = c.self.inside in
    let m = subst (λ (p : ReplicaHistory). Binds p.history.now c.in_ok-name.name (bound_of c.in_ok-name.bound) c.new-trace.result c.bound_next.new.trace) (sym c.self.view_is) c.in_ok-name.ensures.ok in
    let r : Record = record { mark = c.mark-mark.result; change = C.Bound c.in_ok-name.name c.in_ok-before.before } in
    let se : c.push.new.self.items ≡ i.steps.items ++ r ∷ [] = search rules in
    bound_kept_replica c.self.invariant i.number c.in_ok-name.name (bound_of c.in_ok-name.bound) _ _ c.new-trace.ensures m (vars_of c.bind_var.new.vars.entries) c.in_ok-before.before c.in_ok-before.ensures.ok c.push.new.self.items _ c.mark-mark.result refl se c.mark-mark.ensures

pub returns : goal.returns
returns g c =
    let i = c.self.inside in
    let m = subst (λ (p : ReplicaHistory). Binds p.history.now c.in_ok-name.name (bound_of c.in_ok-name.bound) c.new-trace.result c.bound_next.new.trace) (sym c.self.view_is) c.in_ok-name.ensures.ok in
    let r : Record = record { mark = c.mark-mark.result; change = C.Bound c.in_ok-name.name c.in_ok-before.before } in
    let se : c.push.new.self.items ≡ i.steps.items ++ r ∷ [] = search rules in
    let rows : c.close.new.self ≡ at_depth 0 c.bound_next.new.trace = search rules in
    bound_occurs c.self.invariant i.number c.in_ok-name.name (bound_of c.in_ok-name.bound) _ _ c.new-trace.ensures m (vars_of c.bind_var.new.vars.entries) c.in_ok-before.before c.in_ok-before.ensures.ok c.push.new.self.items _ c.mark-mark.result refl se c.mark-mark.ensures c.args.self.now c.self.view_is c.close.new.self rows
