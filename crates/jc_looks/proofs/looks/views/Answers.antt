use Rattle.std.proofs.Common.{◌<◌, ◌≤◌, length, take, ap, ◌∙◌, arith}
use Rattle.std.proofs.lemmas.Result.{IfOk-weaker}
use Rattle.jc_looks.specs.Looks.{view_text, texts_from}
use Rattle.jc_looks.proofs.LooksLemmas.{more_texts, all_texts}
use Rattle.jc_looks.proofs.looks.views.Goals as goal

pub view_of-requires : goal.view_of-requires
view_of-requires c =
    let n = ap length c.names.ensures.names in
    let each = c.names.ensures.each in
    let few = c.names.ensures.few in
    omega (arith, n, each, few, c.loop-p-test.true)

pub loop-p-preserved : goal.loop-p-preserved
loop-p-preserved c =
    let names = c.args.net.now.names in
    let states = c.args.net.now.history.now.states in
    let n = ap length c.names.ensures.names in
    let each = c.names.ensures.each in
    let few = c.names.ensures.few in
    let lt : c.loop-p.p < length states = omega (arith, n, each, few, c.loop-p-test.true) in
    more_texts view_text names states c.loop-p.p c.push.new.self c.as_slice.result.now lt (λ A there. c.as_slice.ensures.value ∙ c.in_ok-view.ensures A there)
    (c.in_ok-push.ensures (texts_from view_text 0 names (take c.loop-p.p states)) c.loop-p.invariant)

pub returns : goal.returns
returns c =
    let names = c.args.net.now.names in
    let states = c.args.net.now.history.now.states in
    let n = ap length c.names.ensures.names in
    let each = c.names.ensures.each in
    let few = c.names.ensures.few in
    let enough : length states ≤ c.loop-p.p = omega (arith, n, each, few, c.loop-p-test.false) in
    IfOk-weaker c.end.result _ _ (λ text h. h (texts_from view_text 0 names states) (all_texts view_text names states c.loop-p.p c.loop-p.all enough c.loop-p.invariant)) c.end.ensures
