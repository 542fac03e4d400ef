use Rattle.std.proofs.Common.{rules, ◌≡◌, true, List, ℕ, Some, ap, subst, refl, ◌∙◌, arith}
use Rattle.std.specs.Str.{all_ascii_digits}
use Rattle.std.specs.Str.Parse.{digits_value, ParsesUnsigned}
use Rattle.std.proofs.lemmas.Str.Parse.{IsNumeralModel, numerals_by_value, tells_all_ascii_digits, digits_value_short, parse_gives}
use Rattle.jc_session.specs.Requests.{is_number_word}
use Rattle.jc_session.specs.Requests.{number_in as number_of}
use Rattle.std.specs.Result.{result_ok}
use Rattle.jc_session.proofs.RequestsLemmas.{number_parts, digits_ascii}
use Rattle.jc_session.proofs.request.number_in.Goals as goal

own : IsNumeralModel (λ ds. all_ascii_digits ds ≡ true) (digits_value 10)
own = numerals_by_value (λ ds. all_ascii_digits ds ≡ true) tells_all_ascii_digits

pub ascii_text-requires : goal.ascii_text-requires
ascii_text-requires c =
    let is : is_number_word c.args.word.now ≡ true = search rules in
    digits_ascii c.args.word.now (number_parts c.args.word.now is).digits

pub returns-then-is_number : goal.returns-then-is_number
returns-then-is_number c =
    let w = c.args.word.now in
    let is : is_number_word w ≡ true = search rules in
    let parts = number_parts w is in
    let some = parts.some in
    let read : ParsesUnsigned 64 10 w c.parse.result = subst (λ (bs : List ℕ). ParsesUnsigned 64 10 bs c.parse.result) c.ascii_text.ensures c.parse.ensures.value.0 in
    let ok = parse_gives own 64 w c.parse.result read parts.digits some (omega (arith, digits_value_short own w 10 parts.digits parts.few)) in
    let number : Some (digits_value 10 w) ≡ number_of w = rw is refl in
    c.ok.ensures.value ∙ ap result_ok ok ∙ number
