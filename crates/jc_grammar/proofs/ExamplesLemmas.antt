-- About `Examples`: they are computed.
use Rattle.std.proofs.Common.{refl}
use Rattle.jc_grammar.specs.Grammar.{listed, chained, repeated}
use Rattle.jc_grammar.specs.Examples.{SentenceExamples, ScenarioExamples}

pub sentences : SentenceExamples
unfolding listed chained repeated
sentences = record {
  small = refl;
  large = refl;
  no_digits = refl;
  full = refl;
  longer = refl;
  dot_last = refl;
  full_command = refl;
  longer_command = refl;
  longer_binding = refl;
  no_value = refl;
  no_name = refl;
  no_place = refl;
  keyword = refl;
  empty = refl;
}

pub scenarios : ScenarioExamples
unfolding listed chained repeated
scenarios = record {
  no_text = refl;
  no_version = refl;
  none_in_one = refl;
  none_in_two = refl;
  one = refl;
  unclosed = refl;
  no_name = refl;
  same = refl;
  most = refl;
  more = refl;
  given = refl;
  given_last = refl;
  given_first = refl;
  taken = refl;
  taken_in_two = refl;
}
