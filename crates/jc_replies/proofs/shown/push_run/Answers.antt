use Rattle.std.proofs.Common.{◌≡◌, ℕ, [], ◌++◌, map, append-nil, sym, subst, ◌∙◌, arith}
use Rattle.jc_rules.specs.Runs.{deeper}
use Rattle.jc_answers.specs.Parts.{HasItems}
use Rattle.jc_replies.specs.ReplyTexts.{row_text}
use Rattle.jc_replies.proofs.ShownLemmas.{with_items, run_items}
use Rattle.jc_replies.proofs.shown.push_run.Goals as goal

pub loop-i-init : goal.loop-i-init
loop-i-init c = record { rules = λ ts h. with_items c.args.list.now ts (ts ++ []) (sym (append-nil ts)) h }

pub loop-i-preserved : goal.loop-i-preserved
loop-i-preserved c =
    let run = c.args.run.now in
    record {
      rules = λ ts h.
          run_items ts run.rule run.depth c.loop-i.i c.from.result c.push.new.self c.as_slice.result.now c.from.ensures (c.as_slice.ensures.value ∙ c.in_ok-text.ensures)
          (c.in_ok-push.ensures (ts ++ map row_text (deeper run.rule run.depth c.loop-i.i)) (c.loop-i.invariant.rules ts h));
    }

pub returns : goal.returns
returns c = λ ts h.
    let run = c.args.run.now in
    let all : c.loop-i.i ≡ run.count = omega arith in
    subst (λ (n : ℕ). HasItems c.loop-i.list (ts ++ map row_text (deeper run.rule run.depth n))) all (c.loop-i.invariant.rules ts h)
