-- About `WellFormed`: the scenario of a legal tree is well formed.
use Rattle.std.proofs.Common.{◌≡◌, ℕ, List, [], ◌∷◌, map, length, false, refl, sym, ap, subst, ◌∙◌, arith}
use Rattle.std.specs.Prelude.{All}
use Rattle.std.proofs.lemmas.List.{length-map}
use Rattle.std.proofs.lemmas.List.Elements.{All-nil, All-cons, All-head, All-tail, All-map}
use Rattle.std.proofs.lemmas.List.Sorted.{All-permutation, length_permutation}
use Rattle.jc_rules.specs.declared.operation.Event.{Event}
use Rattle.jc_rules.specs.declared.operation.Event.TheVariants.{Take, Apply}
use Rattle.jc_rules.specs.declared.version.Version.{Version}
use Rattle.jc_rules.specs.declared.version.Version.TheVariants.{One, Two}
use Rattle.jc_rules.specs.Syntax.{Cmd}
use Rattle.jc_rules.specs.Version.{Allows}
use Rattle.jc_grammar.specs.SymbolTests.{is_reserved}
use Rattle.jc_parser.specs.Scripts.{IsScriptWellFormed}
use Rattle.jc_parser.specs.Events.{IsCallWellFormed, HasCall}
use Rattle.jc_parser.specs.LegalSymbols.{IsName, IsLegalCmd, call_by, IsCounterBelow}
use Rattle.jc_parser.specs.Scenarios.{Part, ScenarioTree, name_of_part, IsTreeWithin}
use Rattle.jc_scenario.specs.WellFormed.{Scenario, parts_of, IsOfTree, IsWellFormedScenario}
use Rattle.jc_scenario.proofs.NamesDifferLemmas.{names-parts}
use Rattle.jc_scenario.proofs.UniqueLemmas.{script_of, scripts-parts}

module _ (t : ScenarioTree) (s : Scenario) (is : IsOfTree t s) where
  names_are : map name_of_part (parts_of s.names s.scripts) ≡ s.names
  names_are = names-parts s.names s.scripts is.each

  each_name : (P : List ℕ → Type 0) → All (λ p. P p.name) t.parts → All P s.names
  each_name P all = subst (All P) names_are (All-map P name_of_part (parts_of s.names s.scripts) (All-permutation (λ p. P p.name) t.parts (parts_of s.names s.scripts) is.same all))

  each_script : (P : List Cmd → Type 0) → All (λ p. P p.script) t.parts → All P s.scripts
  each_script P all = subst (All P) (scripts-parts s.names s.scripts is.each) (All-map P script_of (parts_of s.names s.scripts) (All-permutation (λ p. P p.script) t.parts (parts_of s.names s.scripts) is.same all))

  count : length s.names ≡ length t.parts
  count = sym (ap length names_are) ∙ length-map (parts_of s.names s.scripts) name_of_part ∙ length_permutation t.parts (parts_of s.names s.scripts) is.same

counter_below : (names : List (List ℕ)) (e : Event) → IsCallWellFormed (call_by names e) → IsCounterBelow e
counter_below names (Take p q i) small = small
counter_below names (Apply p i) small = small
counter_below names _ small = tt

each_counter : (names : List (List ℕ)) (es : List Event) → All IsCallWellFormed (map (call_by names) es) → All IsCounterBelow es
each_counter names [] all = All-nil IsCounterBelow
each_counter names (e ∷ es) all =
    All-cons IsCounterBelow e es (counter_below names e (All-head IsCallWellFormed (call_by names e) (map (call_by names) es) all)) (each_counter names es (All-tail IsCallWellFormed (call_by names e) (map (call_by names) es) all))

-- an event that a version has by names, it has by numbers
event_allowed : (v : Version) (names : List (List ℕ)) (e : Event) → HasCall v (call_by names e) → Allows e v
event_allowed One names (Take p q i) has = absurd has
event_allowed Two names (Take p q i) has = tt
event_allowed v names _ has = tt

each_allowed : (v : Version) (names : List (List ℕ)) (es : List Event) → All (HasCall v) (map (call_by names) es) → All (λ e. Allows e v) es
each_allowed v names [] all = All-nil (λ e. Allows e v)
each_allowed v names (e ∷ es) all =
    All-cons (λ e. Allows e v) e es (event_allowed v names e (All-head (HasCall v) (call_by names e) (map (call_by names) es) all)) (each_allowed v names es (All-tail (HasCall v) (call_by names e) (map (call_by names) es) all))

none_called : (names : List (List ℕ)) (es : List Event) → map (call_by names) es ≡ [] → es ≡ []
none_called names [] none = refl
none_called names (e ∷ es) none = cc

none_there : (ps : List Part) → length ps ≡ 0 → ps ≡ []
none_there [] e = refl
none_there (p ∷ ps) e = absurd (omega arith)

pub well_formed : (t : ScenarioTree) (s : Scenario) → IsOfTree t s → IsTreeWithin t → All (λ p. IsName p.name) t.parts → All (λ p. All IsLegalCmd p.script) t.parts → IsWellFormedScenario s
well_formed t s is within names commands = record {
  some = λ none. within.parts.some (none_there t.parts (sym (count t s is) ∙ ap length none));
  few = omega (arith, count t s is, within.parts.few);
  legal = each_name t s is IsName names;
  free = each_name t s is (λ n. is_reserved n ≡ false) within.parts.free;
  rising = is.rising;
  each = is.each;
  formed = each_script t s is IsScriptWellFormed within.parts.scripts;
  commands = each_script t s is (λ script. All IsLegalCmd script) commands;
  first_given = λ first. none_called s.names s.given (is.given_called ∙ within.first_given (sym is.version ∙ first));
  given_short = omega (arith, length-map s.given (call_by s.names), ap length is.given_called, within.few_given);
  given_known = is.given_known;
  given_counters = each_counter s.names s.given (subst (All IsCallWellFormed) (sym is.given_called) within.given);
  short = omega (arith, length-map s.schedule (call_by s.names), ap length is.called, within.few);
  known = is.known;
  counters = each_counter s.names s.schedule (subst (All IsCallWellFormed) (sym is.called) within.calls);
  allowed =
      subst (λ (v : Version). All (λ e. Allows e v) s.schedule) (sym is.version)
      (each_allowed t.version s.names s.schedule (subst (All (HasCall t.version)) (sym is.called) within.allowed));
}
