use Rattle.std.proofs.Common.{rules, ◌≡◌, true, List, ℕ, subst, refl, ◌∙◌, length}
use Rattle.std.specs.Str.{all_ascii_digits}
use Rattle.std.specs.Str.Parse.{digits_value, ParsesUnsigned}
use Rattle.std.proofs.lemmas.Str.Parse.{IsNumeralModel, numerals_by_value, tells_all_ascii_digits, parse_digits}
use Rattle.jc_session.proofs.RequestsLemmas.{digits_ascii}
use Rattle.jc_requests.specs.Asked.{has_seed_form, seed_of}
use Rattle.jc_requests.specs.Asked.{seed_in as seed_of_word}
use Rattle.jc_requests.proofs.AskedLemmas.{seed_parts, seed_read}
use Rattle.jc_requests.proofs.options.seed_in.Goals as goal

own : IsNumeralModel (λ ds. all_ascii_digits ds ≡ true) (digits_value 10)
own = numerals_by_value (λ ds. all_ascii_digits ds ≡ true) tells_all_ascii_digits

pub ascii_text-requires : goal.ascii_text-requires
ascii_text-requires c =
    let is : has_seed_form c.args.word.now ≡ true = search rules in
    digits_ascii c.args.word.now (seed_parts c.args.word.now is).digits

pub returns-then-has_seed_form : goal.returns-then-has_seed_form
returns-then-has_seed_form c =
    let w = c.args.word.now in
    let is : has_seed_form w ≡ true = search rules in
    let parts = seed_parts w is in
    let read : ParsesUnsigned 64 10 w c.parse.result = subst (λ (bs : List ℕ). ParsesUnsigned 64 10 bs c.parse.result) c.ascii_text.ensures c.parse.ensures.value.0 in
    let digits = parse_digits own 64 w c.parse.result read parts.digits in
    c.ok.ensures.value ∙ seed_read (digits_value 10 w) (length w) c.parse.result digits parts.some ∙ seeded w is
  where
    seeded : (w : List ℕ) → has_seed_form w ≡ true → seed_of (digits_value 10 w) ≡ seed_of_word w
    seeded w e = rw e refl
