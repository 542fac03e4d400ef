use Rattle.std.proofs.Common.{rules, ◌≡◌, false, ap, sym, ◌∙◌, nat_lt}
use Rattle.std.specs.List.{list_all}
use Rattle.jc_session.specs.Views.{line_of_bytes, AreAscii}
use Rattle.jc_requests.specs.Asked.{asked_by}
use Rattle.jc_requests.proofs.AskedLemmas.{asked_none, asked_ascii, asked_other}
use Rattle.jc_requests.proofs.forms.asked.Goals as goal

pub returns-in_default : goal.returns-in_default
returns-in_default c = sym (asked_none (line_of_bytes c.args.line) (ap line_of_bytes c.in_default.is))

pub returns-then-not-all_ascii : goal.returns-then-not-all_ascii
returns-then-not-all_ascii c =
    let some : list_all (λ b. nat_lt b 128) c.in-Some.text.now ≡ false = search rules in
    sym (asked_other (line_of_bytes c.args.line) c.in-Some.text.now (ap line_of_bytes c.in-Some.is) some)

pub returns-in_default-first_word : goal.returns-in_default-first_word
returns-in_default-first_word c =
    let text = c.in-Some.text.now in
    let all : AreAscii text = search rules in
    sym (asked_ascii (line_of_bytes c.args.line) text (ap line_of_bytes c.in-Some.is) all ∙ ap (asked_by text) c.in_default-first_word.ensures.parts)

pub returns : goal.returns
returns c =
    let text = c.in-Some.text.now in
    let all : AreAscii text = search rules in
    c.asked_by.ensures
    ∙ sym (asked_ascii (line_of_bytes c.args.line) text (ap line_of_bytes c.in-Some.is) all ∙ ap (asked_by text) c.in-Some-first_word.ensures.parts.0)
