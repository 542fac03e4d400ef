use Rattle.std.proofs.Common.{◌≡◌, suc, ◌+◌, ◌-◌, ℕ, subst, ap, sym, ◌∙◌, arith}
use Rattle.jc_session.specs.Views.{AreAscii}
use Rattle.jc_requests.specs.Asked.{after_words}
use Rattle.jc_requests.proofs.AskedLemmas.{after_more, ascii_after}
use Rattle.jc_requests.proofs.forms.after_words.Goals as goal

pub loop-word-preserved : goal.loop-word-preserved
loop-word-preserved c =
    let text = c.loop-word.text.now in
    let left = c.args.count - (c.loop-word._word + 1) in
    let one : suc left ≡ c.args.count - c.loop-word._word = omega arith in
    record {
      ascii = subst AreAscii (sym c.after_word-text.ensures) (ascii_after text c.loop-word.invariant.ascii);
      left =
          ap (after_words left) c.after_word-text.ensures ∙ sym (after_more left text)
          ∙ ap (λ (n : ℕ). after_words n text) one
          ∙ c.loop-word.invariant.left;
    }
