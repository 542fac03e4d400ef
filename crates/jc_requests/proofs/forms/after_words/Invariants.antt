use Rattle.std.proofs.Common.{◌≡◌, ◌-◌}
use Rattle.jc_session.specs.Views.{AreAscii}
use Rattle.jc_requests.specs.Asked.{after_words}
use Rattle.jc_requests.proofs.forms.after_words.Given as goal

-- what is behind the words that are left of this text is what is behind all of the line
abbrev pub invariant-loop-word : goal.invariant-loop-word
invariant-loop-word l = record {
  ascii : AreAscii l.text;
  left : after_words (l.count - l._word) l.text ≡ after_words l.count l.line;
}
