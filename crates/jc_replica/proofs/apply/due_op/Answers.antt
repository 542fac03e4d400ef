use Rattle.std.proofs.Common.{◌≡◌, true, false, sym, ap, ◌∙◌, option_copied, List, subst, Bool}
use Rattle.jc_rules.specs.Table.{op_of}
use Rattle.jc_rules.specs.Ids.{has_id, AreIn}
use Rattle.jc_rules.specs.declared.id.Id.{Id}
use Rattle.jc_replica.proofs.MayApplyLemmas.{refused_absent, refused_applied, refused_missing, none_found}
use Rattle.jc_replica.proofs.apply.due_op.Goals as goal

refuted : {b : Bool} → b ≡ true → b ≡ false → ⊥
refuted e f = let no : true ≡ false = sym e ∙ f in cc

pub returns-in_default-clause-err : goal.returns-in_default-clause-err
returns-in_default-clause-err c = λ now rest l recv ops. λ set os A stands read.
    refused_absent set _ A _ stands c.args.id os rest l (ap (op_of c.args.id) recv ∙ sym c.find.ensures ∙ none_found c.find.result (λ x e. c.in_default.not-Some x e))

pub returns-then-contains-clause-err : goal.returns-then-contains-clause-err
returns-then-contains-clause-err c = λ now rest l recv ops. λ set os A stands read.
    refused_applied set _ A _ stands c.args.id c.in-Some.op.now os rest l (ap (op_of c.args.id) recv ∙ sym c.find.ensures ∙ ap option_copied c.in-Some.is) (ap (has_id c.args.id) ops ∙ sym c.contains.ensures.exact ∙ c.if-contains.true)

pub returns-then-not-is_subset-clause-err : goal.returns-then-not-is_subset-clause-err
returns-then-not-is_subset-clause-err c = λ now rest l recv ops. λ set os A stands read.
    let new : has_id c.args.id now.history.now.ops ≡ false = ap (has_id c.args.id) ops ∙ sym c.contains.ensures.exact ∙ c.if-contains.false in
    refused_missing set _ A _ stands c.args.id c.in-Some.op.now os rest l (ap (op_of c.args.id) recv ∙ sym c.find.ensures ∙ ap option_copied c.in-Some.is) new (λ h. refuted (c.is_subset.ensures.exact.1 (subst (λ (s : List Id). AreIn c.in-Some.op.now.deps s) ops h)) c.if-not-is_subset.true)

pub returns-clause-ok : goal.returns-clause-ok
returns-clause-ok c = record {
  found = sym c.find.ensures ∙ ap option_copied c.in-Some.is;
  new = sym c.contains.ensures.exact ∙ c.if-contains.false;
  deps = c.is_subset.ensures.exact.0 c.if-not-is_subset.false;
}
