use Rattle.std.proofs.Common.{◌++◌, ◌<◌, length, ap, sym, ◌∙◌, arith}
use Rattle.jc_session.proofs.TextsListLemmas.{dumps_more}
use Rattle.jc_session.proofs.texts.dump_lines.Goals as goal

pub loop-p-preserved : goal.loop-p-preserved
loop-p-preserved c =
    let n = ap length c.names.ensures.names in
    let lt : c.loop-p.p < length c.args.net.now.history.now.states = omega (arith, n, c.names.ensures.each, c.names.ensures.few, c.loop-p-test.true) in
    c.in_ok-push_str.ensures.bytes ∙ ap (λ t. t ++ c.as_str.result.now) c.loop-p.invariant ∙ sym (dumps_more c.args.net.now.names c.args.net.now.history.now.states c.loop-p.p c.as_str.result.now lt (λ A there. c.as_str.ensures.value ∙ c.in-Ok.ensures.dump A there))
