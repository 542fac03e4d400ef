use Rattle.std.proofs.Common.{rules, ◌≡◌, ◌||◌, ◌&&◌, true, false, not, take, ◌+◌, refl, sym, ◌∙◌, ap, subst}
use Rattle.jc_rules.specs.declared.id.Id.{Id}
use Rattle.jc_rules.specs.Ids.{AreRising, has_id, with_id}
use Rattle.jc_replica.specs.Operations.{identifiers}
use Rattle.jc_journal.proofs.StuckLineLemmas.{added_one, passed_one, both_tests}
use Rattle.jc_journal.proofs.stuck.add_missing.Goals as goal
use Rattle.jc_journal.proofs.stuck.add_missing.Goals.{then-contains+then-not-contains+in_ok-insert_id, else-contains, else-contains-via-then-contains+else-not-contains, else-contains-via-else-contains}

pub loop-op-preserved : goal.loop-op-preserved
loop-op-preserved c =
    let old = c.args.ids.now.items in
    let ids = c.loop-op.ids.items in
    let deps = c.args.deps.now in
    let applied = c.args.applied.now in
    let made = c.args.made.now in
    let n = c.loop-op.op-index in
    let o = c.op-item.result in
    elim c.if-contains.branch [
      | then-contains+then-not-contains+in_ok-insert_id w ↦
          let a : has_id o.id deps ≡ true = sym c.contains.ensures.exact ∙ w.if-contains.true in
          let f : w.contains-then-contains.result ≡ false = search rules in
          let b : has_id o.id applied ≡ false = sym w.contains-then-contains.ensures.exact ∙ f in
          let new : c.if-contains.ids.items ≡ with_id o.id ids = ap (λ v. v.items) w.ids-is ∙ w.in_ok-insert_id.ensures.ok in
          let rises : AreRising c.if-contains.ids.items = subst (λ v. AreRising v.items) (sym w.ids-is) w.insert_id.ensures.rises in
          (rises, added_one old ids deps applied made n o c.loop-op-test.true c.op-item.is c.loop-op.invariant.1 (both_tests o.id deps applied true false a b) c.if-contains.ids.items new)
      | else-contains w ↦
          let none : has_id o.id deps && not (has_id o.id applied) ≡ false =
          elim w.else-contains.branch [
            | else-contains-via-then-contains+else-not-contains v ↦
                let a : has_id o.id deps ≡ true = sym c.contains.ensures.exact ∙ v.if-contains.true in
                let f : v.contains-then-contains.result ≡ true = search rules in
                let b : has_id o.id applied ≡ true = sym v.contains-then-contains.ensures.exact ∙ f in
                both_tests o.id deps applied true true a b
            | else-contains-via-else-contains v ↦
                let a : has_id o.id deps ≡ false = sym c.contains.ensures.exact ∙ v.if-contains.false in
                both_tests o.id deps applied false (has_id o.id applied) a refl
          ] in
          let same : c.if-contains.ids.items ≡ ids = ap (λ v. v.items) w.ids-is in
          let passed : (k : Id) → has_id k ids ≡ has_id k old || (has_id k (identifiers (take (n + 1) made)) && (has_id k deps && not (has_id k applied))) =
          passed_one old ids deps applied made n o c.loop-op-test.true c.op-item.is c.loop-op.invariant.1 none in
          (subst AreRising (sym same) c.loop-op.invariant.0, λ k. ap (has_id k) same ∙ passed k)
    ]
