use Rattle.std.proofs.Common.{◌∷◌, [], ◌≤◌, ◌<◌, ◌⊎◌, inl, inr, sym, ap, subst, ◌∙◌, List}
use Rattle.jc_rules.specs.declared.id.Id.{Id}
use Rattle.jc_rules.specs.VersionVectors.{covered, greatest_of}
use Rattle.jc_replica.specs.Received.{IsContiguousTo}
use Rattle.jc_replica.specs.Undo.{without_ops}
use Rattle.jc_replica.proofs.ReceivedLemmas.{IsBefore, lowered_filled, lowered_missing, kept_missing}
use Rattle.jc_replica.proofs.received.lower.Goals as goal
use Rattle.jc_replica.proofs.received.lower.Goals.{then-id-last, else-id-last, else-id-last-2-via-then-id-last-2+else-before-last, else-id-last-2-via-else-id-last-2}

pub returns-then-before-last-clause-filled : goal.returns-then-before-last-clause-filled
returns-then-before-last-clause-filled c =
    let is = c.withdraw.ensures.exact in
    is ∙ lowered_filled c.args.op.now.id.replica c.if-id-last.before c.args.contiguous.now c.requires ∙ ap covered (sym is)

pub returns-then-before-last-clause-missing : goal.returns-then-before-last-clause-missing
returns-then-before-last-clause-missing c = λ os found contiguous q.
    let o = c.args.op.now in
    let before : IsBefore o c.greatest_of-last.result c.if-id-last.before = elim c.if-id-last.branch [
      | then-id-last w ↦ record { here = λ e. w.before-is ∙ w.greatest_of-before.ensures.exact; there = λ f. absurd (f w.if-id-last.true) }
      | else-id-last w ↦ record { here = λ e. absurd (w.if-id-last.false e); there = λ f. w.before-is }
    ] in
    subst (λ (s : List Id). IsContiguousTo q (without_ops (o.id ∷ []) os) (greatest_of q s)) (sym c.withdraw.ensures.exact)
    (lowered_missing o c.args.contiguous.now c.greatest_of-last.result c.if-id-last.before c.requires c.greatest_of-last.ensures.exact before os found contiguous c.if-id-last-2.true c.if-before-last.true q)

pub returns-else-id-last-2-clause-missing : goal.returns-else-id-last-2-clause-missing
returns-else-id-last-2-clause-missing c = λ os found contiguous q.
    let o = c.args.op.now in
    let before : IsBefore o c.greatest_of-last.result c.if-id-last.before = elim c.if-id-last.branch [
      | then-id-last w ↦ record { here = λ e. w.before-is ∙ w.greatest_of-before.ensures.exact; there = λ f. absurd (f w.if-id-last.true) }
      | else-id-last w ↦ record { here = λ e. absurd (w.if-id-last.false e); there = λ f. w.before-is }
    ] in
    let why : ((o.id.counter ≤ c.greatest_of-last.result) × (c.greatest_of-last.result ≤ c.if-id-last.before)) ⊎ (c.greatest_of-last.result < o.id.counter) = elim c.else-id-last-2.branch [
      | else-id-last-2-via-then-id-last-2+else-before-last w ↦ inl (w.if-id-last-2.true, w.if-before-last.false)
      | else-id-last-2-via-else-id-last-2 w ↦ inr w.if-id-last-2.false
    ] in
    kept_missing o c.args.contiguous.now c.greatest_of-last.result c.if-id-last.before c.requires c.greatest_of-last.ensures.exact before os found contiguous why q
