-- The limits of lists that are too long for an example: a tree without a refusal has at most so many items.
use Rattle.std.specs.Prelude.{◌≡◌, ℕ, zero, suc, ◌≤◌, ◌⊎◌, List, None}
use Rattle.std.proofs.Common.{inl, inr}
use Rattle.jc_rules.specs.declared.limits.TheConstants.{MAX_COMMANDS, MAX_EVENTS}
use Rattle.jc_rules.specs.declared.version.Version.{Version}
use Rattle.jc_syntax.specs.declared.token.TokenKind.TheVariants.{Semi}
use Rattle.jc_grammar.specs.Symbols.{Lexeme}
use Rattle.jc_grammar.specs.Guards.{GuardState, Guard, no_command, no_event}
use Rattle.jc_grammar.specs.Grammar.{Grammar, ParseTree, first_refusal, listed}
use Rattle.jc_grammar.specs.ScenarioGrammar.{token, command, script, event, events}

abbrev pub either : {A B C : Type 0} → (A → C) → (B → C) → A ⊎ B → C
either f g (inl a) = f a
either f g (inr b) = g b

-- the items of a list's tree, one past the limit too
unfoldable pub items_in : (n : ℕ) (c : Guard) (x y : Grammar) → ParseTree (listed n c x y) → ℕ
unfolding listed
items_in zero c x y = either (λ t. 1) (λ t. 0)
items_in (suc n) c x y = either (λ t. suc (either (λ more. items_in n c x y more.1) (λ end. 0) t.1)) (λ t. 0)

pub record LimitsKept : Type 0 where
  pub commands :
      (s : GuardState) (t : ParseTree script) (after : List Lexeme)
      → first_refusal script s t after ≡ None
      → items_in MAX_COMMANDS no_command command (token Semi) t ≤ MAX_COMMANDS
  pub events :
      (v : Version) (s : GuardState) (t : ParseTree (events v)) (after : List Lexeme)
      → first_refusal (events v) s t after ≡ None
      → items_in MAX_EVENTS no_event (event v) (token Semi) t ≤ MAX_EVENTS
