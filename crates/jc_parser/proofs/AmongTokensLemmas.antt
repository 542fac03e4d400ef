-- About `Laws` and `EventLaws`: at most one script or event begins at a token, or there is one fault.
use Rattle.std.proofs.Common.{◌≡◌, ℕ, ◌+◌, ◌-◌, ◌≤◌, ◌<◌, inl, inr, List, [], ◌∷◌, length, drop, sym, ap, subst, ◌∙◌, arith}
use Rattle.std.specs.Prelude.{slice_range}
use Rattle.std.proofs.lemmas.List.{length-append, length-drop, length-map}
use Rattle.jc_rules.specs.Syntax.{Cmd}
use Rattle.jc_rules.specs.declared.version.Version.{Version}
use Rattle.jc_syntax.specs.declared.token.Token.{Token}
use Rattle.jc_syntax.specs.declared.tree.NamedEvent.{NamedEvent}
use Rattle.jc_grammar.specs.Symbols.{Lexeme, lexeme, lexemes}
use Rattle.jc_grammar.specs.Grammar.{leaves}
use Rattle.jc_grammar.specs.ScenarioGrammar.{script, closed_script, event}
use Rattle.jc_parser.specs.Sentences.{IsAhead}
use Rattle.jc_parser.specs.GrammarTrees.{closed_script_of_tree, event_of_tree}
use Rattle.jc_parser.specs.Scripts.{IsClosedScript, IsScriptAt}
use Rattle.jc_parser.specs.Events.{IsEvent, IsEventAt}
use Rattle.jc_parser.specs.Laws.{OneScriptAt, ScriptOrFaultAt, ScriptElseFaultAt, OneScriptFaultAt}
use Rattle.jc_parser.specs.EventLaws.{OneEventAt, EventOrFaultAt, EventElseFaultAt, OneEventFaultAt}
use Rattle.jc_parser.proofs.PrefixLemmas.{IsFrom, at_front, one_from, none_beside_from, some_from, one_fault_from}
use Rattle.jc_parser.proofs.GrammarScriptsLemmas as scripts
use Rattle.jc_parser.proofs.GrammarEventsLemmas as events

-- no more are left than there were
pub left_within : {A : Type 0} {Is : List Lexeme → A → Type 0} (text : List ℕ) (tokens : List Token) (a : A) (left : ℕ) → IsAhead Is (lexemes text tokens) a left → left ≤ length tokens
left_within text tokens a left s =
    let all : length (lexemes text tokens) ≡ length s.before + length s.after = ap length s.parts ∙ length-append s.before s.after in
    let same : length (lexemes text tokens) ≡ length tokens = length-map tokens (lexeme text) in
    let count = s.count in
    omega (arith, all, same, count)

-- ---- events

from_event : (v : Version) (text : List ℕ) (tokens : List Token) (from : ℕ) (e : NamedEvent) (next : ℕ) → IsEventAt v text tokens from e next → IsFrom (event v) (event_of_tree v) text tokens from e next
from_event v text tokens from e next is = record { ordered = is.ordered; ends = is.ends; sentence = is.event }

pub event_at_front : (v : Version) (text : List ℕ) (tokens : List Token) (from : ℕ) (e : NamedEvent) (left : ℕ) → from ≤ length tokens → IsAhead (IsEvent v) (lexemes text (drop from tokens)) e left → IsEventAt v text tokens from e (length tokens - left)
event_at_front v text tokens from e left within a =
    let is = at_front (events.ahead v) text tokens from e left within a in
    record { ordered = is.ordered; ends = is.ends; event = is.sentence }

pub one_event_at : OneEventAt
one_event_at v text tokens from next other_next e other one two = one_from (events.ahead v) text tokens from e other next other_next (from_event v text tokens from e next one) (from_event v text tokens from other other_next two)

pub event_or_fault_at : EventOrFaultAt
event_or_fault_at v text tokens from next e fault is h = none_beside_from (events.ahead v) text tokens from e next fault (from_event v text tokens from e next is) h

pub event_else_fault_at : EventElseFaultAt
event_else_fault_at v text tokens from within =
    elim (some_from (events.ahead v) text tokens from within) [
      | inl (e, left, is) ↦ inl (e, length tokens - left, event_at_front v text tokens from e left within is)
      | inr fault ↦ inr fault
    ]

pub one_event_fault_at : OneEventFaultAt
one_event_fault_at v text tokens from fault other one two = one_fault_from (events.ahead v) text tokens from fault other one two

-- ---- scripts

from_script : (text : List ℕ) (tokens : List Token) (from : ℕ) (commands : List Cmd) (brace : ℕ) → IsScriptAt text tokens from commands brace → IsFrom closed_script closed_script_of_tree text tokens from commands (brace + 1)
from_script text tokens from commands brace is = record { ordered = omega (arith, is.ordered); ends = omega (arith, is.inside); sentence = is.closed }

-- a closing brace is there, so that fewer are left
fewer : (ls : List Lexeme) (commands : List Cmd) (left : ℕ) → IsAhead IsClosedScript ls commands left → left < length ls
fewer ls commands left a =
    let (fits, none, text) = a.sentence.text in
    let all : length ls ≡ length a.before + length a.after = ap length a.parts ∙ length-append a.before a.after in
    let size : length (leaves script a.sentence.tree.0) + 1 ≡ length a.before = sym (length-append (leaves script a.sentence.tree.0) (leaves_of_brace)) ∙ ap length text in
    let count : left ≡ length a.after = a.count in
    omega arith
  where
    leaves_of_brace : List Lexeme
    leaves_of_brace = a.sentence.tree.1 ∷ []

pub fewer_tokens : (text : List ℕ) (tokens : List Token) (commands : List Cmd) (left : ℕ) → IsAhead IsClosedScript (lexemes text tokens) commands left → left < length tokens
fewer_tokens text tokens commands left a = let less = fewer (lexemes text tokens) commands left a in let same : length (lexemes text tokens) ≡ length tokens = length-map tokens (lexeme text) in omega arith

pub script_at_front : (text : List ℕ) (tokens : List Token) (from : ℕ) (commands : List Cmd) (left : ℕ) → from ≤ length tokens → IsAhead IsClosedScript (lexemes text (drop from tokens)) commands left → IsScriptAt text tokens from commands (length tokens - left - 1)
script_at_front text tokens from commands left within a =
    let is = at_front scripts.ahead text tokens from commands left within a in
    let less = fewer_tokens text (drop from tokens) commands left a in
    let rest : length (drop from tokens) ≡ length tokens - from = length-drop from tokens in
    let next : length tokens - left - 1 + 1 ≡ length tokens - left = omega arith in
    record {
      ordered = omega arith;
      inside = omega arith;
      closed = subst (λ n. IsClosedScript (lexemes text (slice_range tokens from n)) commands) (sym next) is.sentence;
    }

pub one_script_at : OneScriptAt
one_script_at text tokens from brace other_brace commands other one two =
    let (tree, next) = one_from scripts.ahead text tokens from commands other (brace + 1) (other_brace + 1) (from_script text tokens from commands brace one) (from_script text tokens from other other_brace two) in
    (tree, omega (arith, next))

pub script_or_fault_at : ScriptOrFaultAt
script_or_fault_at text tokens from brace commands fault is h = none_beside_from scripts.ahead text tokens from commands (brace + 1) fault (from_script text tokens from commands brace is) h

pub script_else_fault_at : ScriptElseFaultAt
script_else_fault_at text tokens from within =
    elim (some_from scripts.ahead text tokens from within) [
      | inl (commands, left, is) ↦ inl (commands, length tokens - left - 1, script_at_front text tokens from commands left within is)
      | inr fault ↦ inr fault
    ]

pub one_script_fault_at : OneScriptFaultAt
one_script_fault_at text tokens from fault other one two = one_fault_from scripts.ahead text tokens from fault other one two
