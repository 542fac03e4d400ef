use Rattle.std.proofs.Common.{rules, ◌≡◌, false, ap, sym, ◌∙◌, nat_lt}
use Rattle.std.specs.List.{list_all}
use Rattle.jc_session.specs.Views.{line_of_bytes, AreAscii}
use Rattle.jc_session.proofs.RequestsLemmas.{meaning_none, meaning_ascii, meaning_other}
use Rattle.jc_session.proofs.request.meaning_of.Goals as goal

pub returns-in_default : goal.returns-in_default
returns-in_default c = sym (meaning_none (line_of_bytes c.args.line) (ap line_of_bytes c.in_default.is))

pub returns-then-all_ascii : goal.returns-then-all_ascii
returns-then-all_ascii c =
    let all : AreAscii c.in-Some.text.now = search rules in
    c.meaning_of_text.ensures ∙ sym (meaning_ascii (line_of_bytes c.args.line) c.in-Some.text.now (ap line_of_bytes c.in-Some.is) all)

pub returns-else-all_ascii : goal.returns-else-all_ascii
returns-else-all_ascii c =
    let some : list_all (λ b. nat_lt b 128) c.in-Some.text.now ≡ false = search rules in
    sym (meaning_other (line_of_bytes c.args.line) c.in-Some.text.now (ap line_of_bytes c.in-Some.is) some)
