-- About `Laws`: the canonical text of a well-formed scenario is that scenario.
use Rattle.std.proofs.Common.{◌≡◌, ◌≢◌, ℕ, ◌≤◌, List, [], ◌∷◌, ◌++◌, map, length, true, false, inl, inr, refl, sym, ap, subst, ◌∙◌, arith, append_assoc, append-nil}
use Rattle.std.specs.Prelude.{codes, flat_map, All}
use Rattle.std.specs.Char.{is_ascii_digit}
use Rattle.std.specs.List.{AllByRecursion}
use Rattle.std.specs.Str.{bytes_eq}
use Rattle.std.specs.declared.cmp.Ordering.TheVariants.{Less}
use Rattle.std.proofs.lemmas.Bool.{and_from, cases_Bool}
use Rattle.std.proofs.lemmas.List.{length-map}
use Rattle.std.proofs.lemmas.List.Elements.{All-head, All-tail}
use Rattle.std.proofs.lemmas.List.Sorted.{IsPermutation-refl}
use Rattle.std.proofs.lemmas.List.Sums.{AllPass-from_list_all}
use Rattle.std.proofs.lemmas.Slice.Eq.{bytes_eq-Decides}
use Rattle.jc_rules.specs.declared.version.Version.{Version}
use Rattle.jc_rules.specs.declared.version.Version.TheVariants.{One, Two}
use Rattle.jc_rules.specs.Entries.{IsRising}
use Rattle.jc_rules.specs.Order.{name_cmp}
use Rattle.jc_rules.specs.Syntax.{Cmd}
use Rattle.jc_grammar.specs.Symbols.{Symbol, word, number, lexemes}
use Rattle.jc_grammar.specs.SymbolTests.{is_reserved}
use Rattle.jc_grammar.specs.Classes.{is_in}
use Rattle.jc_parser.specs.Scripts.{IsScriptWellFormed}
use Rattle.jc_parser.specs.LegalSymbols.{IsName, IsNumeric, IsLegalCmd}
use Rattle.jc_parser.specs.GrammarTrees.{scenario_of_tree}
use Rattle.jc_parser.specs.Scenarios.{ScenarioTree, name_of_part}
use Rattle.jc_printer.proofs.PrintedSymbolsLemmas.{IsPrinted, put, spaced, printed_text}
use Rattle.jc_printer.proofs.CanonTreesLemmas.{keyword}
use Rattle.jc_printer.proofs.CanonSymbolsLemmas.{Spells}
use Rattle.jc_scenario.specs.WellFormed.{Scenario, parts_of, IsWellFormedScenario, IsOfTree, IsScenario}
use Rattle.jc_scenario.specs.Canon.{header_text, canon_part, canon_given, canon_schedule, canon, canon_one}
use Rattle.jc_scenario.proofs.NamesDifferLemmas.{names-parts, never_less}
use Rattle.jc_scenario.proofs.CanonLemmas.{AreLegalParts, parts_printed, given_printed, schedule_printed}
use Rattle.jc_scenario.proofs.ScenarioSymbolsLemmas.{parts_symbols, given_symbols, schedule_symbols, version_text, header}
use Rattle.jc_scenario.proofs.WrittenScenariosLemmas.{AreNewParts, numbered_tree, scenario_written}
use Rattle.jc_scenario.proofs.CanonUtf8Lemmas.{printed_utf8}

-- ---- names and scripts side by side

legal_parts : (ns : List (List ℕ)) (ss : List (List Cmd)) → All IsName ns → All (λ s. All IsLegalCmd s) ss → All IsScriptWellFormed ss → AreLegalParts (parts_of ns ss)
legal_parts [] ss legal commands formed = tt
legal_parts (n ∷ ns) [] legal commands formed = tt
legal_parts (n ∷ ns) (s ∷ ss) legal commands formed = (
  All-head IsName n ns legal,
  All-head (λ s. All IsLegalCmd s) s ss commands,
  (All-head IsScriptWellFormed s ss formed).each,
  legal_parts ns ss (All-tail IsName n ns legal) (All-tail (λ s. All IsLegalCmd s) s ss commands) (All-tail IsScriptWellFormed s ss formed),
)

-- replicas of a well-formed scenario are new, each behind those before it
others_rise : (n : List ℕ) (names ns : List (List ℕ)) → AllByRecursion (λ m. is_in m names ≡ false) ns → AllByRecursion (λ m. name_cmp n m ≡ Less) ns → AllByRecursion (λ m. is_in m (n ∷ names) ≡ false) ns
others_rise n names [] other rise = tt
others_rise n names (m ∷ ms) (new, other) (less, rise) = (
  elim (cases_Bool (bytes_eq m n)) [
    | inl same ↦ absurd (never_less n (subst (λ (l : List ℕ). name_cmp n l ≡ Less) ((bytes_eq-Decides m n).0 same) less))
    | inr differ ↦ rw (differ, new) refl
  ],
  others_rise n names ms other rise,
)

new_parts : (names ns : List (List ℕ)) (ss : List (List Cmd)) → AllByRecursion (λ m. is_in m names ≡ false) ns → IsRising name_cmp ns → All (λ n. is_reserved n ≡ false) ns → All IsScriptWellFormed ss → AreNewParts names (parts_of ns ss)
new_parts names [] ss other rising free formed = tt
new_parts names (n ∷ ns) [] other rising free formed = tt
new_parts names (n ∷ ns) (s ∷ ss) other rising free formed = (
  All-head (λ n. is_reserved n ≡ false) n ns free,
  other.0,
  All-head IsScriptWellFormed s ss formed,
  new_parts (n ∷ names) ns ss (others_rise n names ns other.1 rising.0) rising.1 (All-tail (λ n. is_reserved n ≡ false) n ns free) (All-tail IsScriptWellFormed s ss formed),
)

none_known : (ns : List (List ℕ)) → AllByRecursion (λ m. is_in m [] ≡ false) ns
none_known [] = tt
none_known (n ∷ ns) = (refl, none_known ns)

parts_count : (s : Scenario) → IsWellFormedScenario s → length (parts_of s.names s.scripts) ≡ length s.names
parts_count s w = sym (length-map (parts_of s.names s.scripts) name_of_part) ∙ ap length (names-parts s.names s.scripts w.each)

some_parts : (s : Scenario) → IsWellFormedScenario s → parts_of s.names s.scripts ≢ []
some_parts s w none = w.some (sym (names-parts s.names s.scripts w.each) ∙ ap (map name_of_part) none)

-- ---- the text

digit_numeric : (d : ℕ) → is_ascii_digit d ≡ true → d ≢ 48 → IsNumeric (d ∷ [])
digit_numeric d digit other = (
  record {
    minus = [];
    whole = d ∷ [];
    fraction = [];
    exponent = [];
    parts = refl;
    is_minus = inl refl;
    is_whole = inr ((omega arith, AllPass-from_list_all is_ascii_digit (d ∷ []) (and_from (is_ascii_digit d) true digit refl)), other);
    is_fraction = inl refl;
    is_exponent = inl refl;
  },
  omega arith,
)

version_number : (v : Version) → IsNumeric (version_text v)
version_number One = digit_numeric 49 refl (λ nought. absurd (omega (arith, nought)))
version_number Two = digit_numeric 50 refl (λ nought. absurd (omega (arith, nought)))

-- symbols of a scenario, and its text
record IsWhole (s : Scenario) : Type 0 where
  text : List Symbol
  spelled : Spells (header s.version ++ (parts_symbols (parts_of s.names s.scripts) ++ (given_symbols s.version s.names s.given ++ schedule_symbols s.names s.schedule))) text
  printed : IsPrinted text (canon s)

header_bytes : (v : Version) (parts given schedule : List ℕ) → ((header_text v ++ parts) ++ given) ++ schedule ≡ codes "jsoncrdt" ++ 32 ∷ (version_text v ++ 10 ∷ (parts ++ (given ++ schedule)))
header_bytes One parts given schedule = simp append_assoc
header_bytes Two parts given schedule = simp append_assoc

header_printed : (v : Version) (ss : List Symbol) (bs : List ℕ) → IsPrinted ss bs → IsPrinted (header v ++ ss) (codes "jsoncrdt" ++ 32 ∷ (version_text v ++ 10 ∷ bs))
header_printed v ss bs p =
    let version = put (number (version_text v)) ss (version_text v) (10 ∷ bs) (refl, version_number v, refl) (spaced ss 10 bs refl p) in
    put (word (codes "jsoncrdt")) (number (version_text v) ∷ ss) (codes "jsoncrdt") (32 ∷ (version_text v ++ 10 ∷ bs)) (refl, keyword (codes "jsoncrdt") refl refl (omega arith), refl) (spaced (number (version_text v) ∷ ss) 32 (version_text v ++ 10 ∷ bs) refl version)

whole : (s : Scenario) → IsWellFormedScenario s → IsWhole s
whole s w =
    let schedule = schedule_printed s.names s.schedule w.legal w.known w.counters in
    let given = given_printed s.version s.names s.given schedule.text (canon_schedule s.names s.schedule) w.legal w.given_known w.given_counters schedule.printed in
    let parts = parts_printed (parts_of s.names s.scripts) (given.text ++ schedule.text) (canon_given s.version s.names s.given ++ canon_schedule s.names s.schedule) (legal_parts s.names s.scripts w.legal w.commands w.formed) given.printed in
    record {
      text = header s.version ++ (parts.text ++ (given.text ++ schedule.text));
      spelled = λ i. header s.version ++ (parts.spelled i ++ (given.spelled i ++ schedule.spelled i));
      printed =
          subst (IsPrinted (header s.version ++ (parts.text ++ (given.text ++ schedule.text)))) (sym (header_bytes s.version (flat_map canon_part (parts_of s.names s.scripts)) (canon_given s.version s.names s.given) (canon_schedule s.names s.schedule)))
          (header_printed s.version (parts.text ++ (given.text ++ schedule.text)) (flat_map canon_part (parts_of s.names s.scripts) ++ (canon_given s.version s.names s.given ++ canon_schedule s.names s.schedule)) parts.printed);
    }

of_tree : (s : Scenario) → IsWellFormedScenario s → IsOfTree (numbered_tree s.version s.names (parts_of s.names s.scripts) s.given s.schedule) s
of_tree s w = record {
  version = refl;
  rising = w.rising;
  each = w.each;
  same = IsPermutation-refl (parts_of s.names s.scripts);
  given_known = w.given_known;
  given_called = refl;
  known = w.known;
  called = refl;
}

pub reads_back : (s : Scenario) → IsWellFormedScenario s → length (canon s) ≤ 8388608 → IsScenario (canon s) s
reads_back s w short =
    let own = whole s w in
    let text = printed_text own.text (canon s) own.printed short in
    let read = scenario_written s.version s.names (parts_of s.names s.scripts) s.given s.schedule (lexemes (canon s) text.tokens) (record {
      some = some_parts s w;
      new = new_parts [] s.names s.scripts (none_known s.names) w.rising w.free w.formed;
      few = omega (arith, parts_count s w, w.few);
      first_given = w.first_given;
      given_short = w.given_short;
      given_counters = w.given_counters;
      short = w.short;
      counters = w.counters;
      allowed = w.allowed;
    }) (text.spell ∙ own.spelled) in
    record {
      valid = printed_utf8 own.text (canon s) own.printed;
      tokens = text.tokens;
      lexed = text.lexed;
      scenario = record { tree = scenario_of_tree read.tree; named = record { tree = read.tree; text = read.text; is = refl }; of_tree = subst (λ (t : ScenarioTree). IsOfTree t s) read.is (of_tree s w) };
    }

-- ---- version 1

pub first_stays : (s : Scenario) → s.version ≡ One → canon s ≡ canon_one s
first_stays s first =
    ap (λ (v : Version). ((header_text v ++ flat_map canon_part (parts_of s.names s.scripts)) ++ canon_given v s.names s.given) ++ canon_schedule s.names s.schedule) first
    ∙ ap (λ (l : List ℕ). l ++ canon_schedule s.names s.schedule) (append-nil (codes "jsoncrdt 1\n" ++ flat_map canon_part (parts_of s.names s.scripts)))
