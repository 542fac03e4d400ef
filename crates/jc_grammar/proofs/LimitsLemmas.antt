-- About `Limits`: where a guard refuses whatever comes, a list without a refusal ends before it.
use Rattle.std.proofs.Common.{◌≡◌, ℕ, zero, suc, ◌≤◌, inl, inr, false, List, ◌++◌, Option, Some, None, refl, arith}
use Rattle.jc_rules.specs.declared.limits.TheConstants.{MAX_COMMANDS, MAX_EVENTS}
use Rattle.jc_rules.specs.declared.version.Version.{Version}
use Rattle.jc_rules.specs.declared.version.Version.TheVariants.{One, Two}
use Rattle.jc_syntax.specs.declared.token.TokenKind.TheVariants.{Semi}
use Rattle.jc_grammar.specs.Symbols.{Lexeme}
use Rattle.jc_grammar.specs.Guards.{TextFault, GuardState, refuses, Guard, verdict_of, no_command, no_event}
use Rattle.jc_grammar.specs.Grammar.{Grammar, ParseTree, leaves, NoticedFault, first_of, verdict_at, refusal_by, first_refusal, state_after, listed, ◌then◌, guarded}
use Rattle.jc_grammar.specs.LookAhead.{may_be_empty}
use Rattle.jc_grammar.specs.ScenarioGrammar.{token, command, event}
use Rattle.jc_grammar.specs.Limits.{items_in, LimitsKept}
use Rattle.jc_grammar.proofs.LookAheadLemmas.{has_first}

abbrev pub RefusesEach : Guard → Type 0
RefusesEach c = (s : GuardState) (x : Lexeme) → (e : TextFault) × (verdict_of c s x ≡ refuses e)

pub both_none : (a b : Option NoticedFault) → first_of a b ≡ None → (a ≡ None) × (b ≡ None)
both_none None b e = (refl, e)
both_none (Some d) b e = absurd cc

-- a part with such a guard is refused
pub is_refused : (c : Guard) (x : Grammar) → RefusesEach c → may_be_empty x ≡ false → (s : GuardState) (t : ParseTree x) (u : List Lexeme) → first_refusal (guarded c x) s t u ≡ None → ⊥
is_refused c x each full s t u none =
    let (z, zs, text) = has_first x t full in
    let (e, verdict) = each s z in
    let here : verdict_at c s (leaves x t ++ u) ≡ refuses e = rw text verdict in
    let bad : refusal_by (refuses e) (leaves x t ++ u) (λ own. first_refusal x own t u) ≡ None = rw here at none in
    absurd cc

list_ends : (n : ℕ) (c : Guard) (x y : Grammar) → RefusesEach c → may_be_empty x ≡ false → (s : GuardState) (t : ParseTree (listed n c x y)) (u : List Lexeme) → first_refusal (listed n c x y) s t u ≡ None → items_in n c x y t ≤ n
unfolding listed items_in
list_ends zero c x y each full s (inl t) u none = absurd (is_refused c x each full s t u none)
list_ends zero c x y each full s (inr t) u none = omega arith
list_ends (suc n) c x y each full s (inr t) u none = omega arith
list_ends (suc n) c x y each full s (inl (a, inr end)) u none = omega arith
list_ends (suc n) c x y each full s (inl (a, inl (b, more))) u none =
    let (one, rest) = both_none (first_refusal x s a ((leaves y b ++ leaves (listed n c x y) more) ++ u)) (first_refusal (y then listed n c x y) (state_after x s a) (b, more) u) none in
    let (two, last) = both_none (first_refusal y (state_after x s a) b (leaves (listed n c x y) more ++ u)) (first_refusal (listed n c x y) (state_after y (state_after x s a) b) more u) rest in
    let less : items_in n c x y more ≤ n = list_ends n c x y each full (state_after y (state_after x s a) b) more u last in
    omega arith

pub limits_kept : LimitsKept
limits_kept = record {
  commands = λ s t after none. list_ends MAX_COMMANDS no_command command (token Semi) (λ own x. (_, refl)) refl s t after none;
  events = λ v s t after none. by_version v s t after none;
}
  where
    by_version : (v : Version) (s : GuardState) (t : ParseTree (listed MAX_EVENTS no_event (event v) (token Semi))) (after : List Lexeme) → first_refusal (listed MAX_EVENTS no_event (event v) (token Semi)) s t after ≡ None → items_in MAX_EVENTS no_event (event v) (token Semi) t ≤ MAX_EVENTS
    by_version One s t after none = list_ends MAX_EVENTS no_event (event One) (token Semi) (λ own x. (_, refl)) refl s t after none
    by_version Two s t after none = list_ends MAX_EVENTS no_event (event Two) (token Semi) (λ own x. (_, refl)) refl s t after none
