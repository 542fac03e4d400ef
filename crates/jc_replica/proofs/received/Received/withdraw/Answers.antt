use Rattle.std.proofs.Common.{◌≡◌, ◌∷◌, ◌++◌, [], List, length, length-append, sym, ap, ◌∙◌, arith}
use Rattle.jc_rules.specs.declared.id.Id.{Id}
use Rattle.jc_replica.specs.Undo.{without_ops}
use Rattle.jc_replica.proofs.ReceivedLemmas.{without-last, without_nothing}
use Rattle.jc_replica.proofs.received.Received.withdraw.Goals as goal

pub loop-last-preserved : goal.loop-last-preserved
loop-last-preserved c =
    let rest = c.in-Some.rest.now in
    let last = c.in-Some.last.now in
    let parts : c.loop-last.left.now ≡ rest ++ last ∷ [] = c.in-Some.ensures.cases.0 in
    ap (without_ops rest) c.take_out.ensures ∙ sym (without-last rest last c.loop-last.self) ∙ ap (λ (x : List Id). without_ops x c.loop-last.self) (sym parts) ∙ c.loop-last.invariant

pub loop-last-smaller : goal.loop-last-smaller
loop-last-smaller c =
    let rest = c.in-Some.rest.now in
    let last = c.in-Some.last.now in
    let parts : c.loop-last.left.now ≡ rest ++ last ∷ [] = c.in-Some.ensures.cases.0 in
    omega (arith, ap length parts, length-append rest (last ∷ []))

pub returns : goal.returns
returns c = sym (without_nothing c.loop-last.left.now c.loop-last.self c.in_default.ensures.cases) ∙ c.loop-last.invariant
