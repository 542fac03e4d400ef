use Rattle.std.proofs.Common.{◌++◌, ◌+◌, ◌<◌, length, get_or, ap, sym, ◌∙◌, arith}
use Rattle.jc_rules.specs.declared.operation.Event.TheVariants.{Exec}
use Rattle.jc_session.specs.Texts.{numbered_line}
use Rattle.jc_session.proofs.TextsListLemmas.{numbered_more}
use Rattle.jc_session.proofs.texts.numbered_lines.Goals as goal

pub loop-i-preserved : goal.loop-i-preserved
loop-i-preserved c =
    let lt : c.loop-i.i < length c.args.events.now = omega arith in
    c.in_ok-push_numbered.ensures ∙ ap (λ t. t ++ numbered_line c.args.names.now (c.loop-i.i + 1) (get_or c.args.events.now c.loop-i.i (Exec 0))) c.loop-i.invariant
    ∙ sym (numbered_more c.args.names.now c.args.events.now c.loop-i.i (Exec 0) lt)
