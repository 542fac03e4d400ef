use Rattle.std.proofs.Common.{◌+◌, ◌++◌, ◌∷◌, [], sym, ap, ◌∙◌, append_assoc}
use Rattle.jc_rules.specs.Runs.{deeper}
use Rattle.jc_rules.proofs.RunsLemmas.{deeper_more}
use Rattle.jc_rules.proofs.runs.push_rows.Goals as goal

pub loop-i-preserved : goal.loop-i-preserved
loop-i-preserved c =
    let r = c.args.run.now in
    c.in_ok-push.ensures.items
    ∙ (λ j. c.loop-i.invariant j ++ (r.rule, r.depth + c.from.ensures j) ∷ [])
    ∙ append_assoc c.args.rows.now.items (deeper r.rule r.depth c.loop-i.i) ((r.rule, r.depth + c.loop-i.i) ∷ [])
    ∙ ap (λ l. c.args.rows.now.items ++ l) (sym (deeper_more r.rule r.depth c.loop-i.i))
