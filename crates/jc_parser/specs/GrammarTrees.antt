-- What a tree of the language as one value says: its expression, its commands, its events, its scenario.
use Rattle.std.specs.Prelude.{ℕ, zero, suc, ◌-◌, List, [], ◌∷◌, codes}
use Rattle.std.proofs.Common.{inl, inr}
use Rattle.jc_rules.specs.declared.limits.TheConstants.{MAX_SELECTORS, MAX_COMMANDS, MAX_REPLICAS, MAX_EVENTS}
use Rattle.jc_rules.specs.declared.value.Value.{Value}
use Rattle.jc_rules.specs.declared.value.Value.TheVariants as values
use Rattle.jc_rules.specs.declared.version.Version.{Version}
use Rattle.jc_rules.specs.declared.version.Version.TheVariants.{One, Two}
use Rattle.jc_rules.specs.Syntax.{Expr, TheDoc, Variable, GetKey, Index, KeysOf, ValuesOf, Cmd, LetIn, SetTo, InsertAfter, DeleteAt, Yield}
use Rattle.jc_syntax.specs.declared.token.TokenKind.TheVariants.{Name, Str, Comma, Semi}
use Rattle.jc_syntax.specs.declared.tree.Named.{Named}
use Rattle.jc_syntax.specs.declared.tree.NamedEvent.{NamedEvent}
use Rattle.jc_syntax.specs.declared.tree.NamedEvent.TheVariants.{Exec, Send, Recv, Take, Apply, Done}
use Rattle.jc_grammar.specs.Symbols.{Lexeme}
use Rattle.jc_grammar.specs.SymbolTests.{value_of_symbol, numeral_value}
use Rattle.jc_grammar.specs.Guards.{Guard, new_replica, no_selector, no_command, no_event}
use Rattle.jc_grammar.specs.Grammar.{Grammar, nothing, ◌then◌, ◌or◌, ParseTree, listed, chained, repeated}
use Rattle.jc_grammar.specs.ScenarioGrammar.{token, keyword, in_parens, index, selector, root_but, selector_dot, expression, literal, assignment, ending, change, binding, command, script, closed_script, identifier, common_action, action, event, events, block, blocks, replica, body, scenario}
use Rattle.jc_grammar.specs.Limits.{either}
use Rattle.jc_parser.specs.NamedTrees.{Part, NamedTree, tree, with_replica_part}

-- ---- parts

-- the bytes of a word or a number, or what a string spells
abbrev pub value_of : Lexeme → List ℕ
value_of x = value_of_symbol x.symbol

abbrev pub number_of : Lexeme → ℕ
number_of x = numeral_value (value_of x)

-- a name, and its offset
abbrev pub named : Lexeme → Named
named x = record { name = value_of x; place = x.place }

-- what stands between the parentheses
abbrev pub inside : (g : Grammar) → ParseTree (in_parens g) → ParseTree g
inside g t = let (left, (part, right)) = t in part

-- the items of a list, one past its limit too
unfoldable pub items_of :
    {A : Type 0} (n : ℕ) (c : Guard) (x y : Grammar) → (ParseTree x → A) → ParseTree (listed n c x y) → List A
unfolding listed
items_of zero c x y item = either (λ t. item t ∷ []) (λ end. [])
items_of (suc n) c x y item =
    either (λ (first, rest). item first ∷ either (λ (sign, more). items_of n c x y item more) (λ end. []) rest)
    (λ end. [])

-- ---- expressions

-- an expression, and the selector behind it
abbrev pub selected : Expr → ParseTree selector → Expr
selected e (inl t) = let (word, key) = t in GetKey e (value_of (inside (token Str) key))
selected e (inr (inl t)) = let (word, number) = t in Index e (number_of (inside index number))
selected e (inr (inr (inl word))) = KeysOf e
selected e (inr (inr (inr word))) = ValuesOf e

abbrev pub root_of_tree : (words : List (List ℕ)) → ParseTree (root_but words) → Expr
root_of_tree words (inl x) = TheDoc
root_of_tree words (inr x) = Variable (value_of x)

-- an expression, and the selectors behind it, one past the limit too
unfoldable pub path_of_tree : (n : ℕ) → Expr → ParseTree (repeated n no_selector selector_dot selector nothing) → Expr
unfolding repeated
path_of_tree zero e = either (λ (dot, past). selected e past) (λ end. e)
path_of_tree (suc n) e = either (λ (dot, (own, more)). path_of_tree n (selected e own) more) (λ end. e)

abbrev pub expression_of_tree : ParseTree expression → Expr
expression_of_tree t = let (root, path) = t in path_of_tree MAX_SELECTORS (root_of_tree (codes "doc" ∷ []) root) path

-- ---- commands

abbrev pub value_of_tree : ParseTree literal → Value
value_of_tree (inl x) = values.Number (value_of x)
value_of_tree (inr (inl x)) = values.Str (value_of x)
value_of_tree (inr (inr (inl x))) = values.True
value_of_tree (inr (inr (inr (inl x)))) = values.False
value_of_tree (inr (inr (inr (inr (inl x))))) = values.Null
value_of_tree (inr (inr (inr (inr (inr (inl t)))))) = values.EmptyMap
value_of_tree (inr (inr (inr (inr (inr (inr t)))))) = values.EmptyList

-- behind the dot
abbrev pub ending_of_tree : Expr → ParseTree ending → Cmd
ending_of_tree e (inl t) = let (word, value) = t in InsertAfter e (value_of_tree (inside literal value))
ending_of_tree e (inr word) = DeleteAt e

abbrev pub assignment_of_tree : Expr → ParseTree assignment → Cmd
assignment_of_tree e t = let (sign, value) = t in SetTo e (value_of_tree value)

-- An expression, and what is behind it. A selector past the limit is refused: such a tree is that of no text, and any
-- command would do.
unfoldable pub change_of_tree :
    (n : ℕ) → Expr → ParseTree (chained n no_selector selector_dot selector assignment ending) → Cmd
unfolding chained
change_of_tree zero e = either (λ (dot, t). either (λ past. Yield) (ending_of_tree e) t) (assignment_of_tree e)
change_of_tree (suc n) e =
    either (λ (dot, t). either (λ (own, more). change_of_tree n (selected e own) more) (ending_of_tree e) t)
    (assignment_of_tree e)

abbrev pub binding_of_tree : ParseTree binding → Cmd
binding_of_tree t = let (word, (name, (sign, right))) = t in LetIn (value_of name) (expression_of_tree right)

-- a command that begins with an expression
abbrev pub update_of_tree : ParseTree change → Cmd
update_of_tree t =
    let (root, rest) = t in
    change_of_tree MAX_SELECTORS (root_of_tree (codes "let" ∷ codes "yield" ∷ codes "doc" ∷ []) root) rest

abbrev pub command_of_tree : ParseTree command → Cmd
command_of_tree (inl word) = Yield
command_of_tree (inr (inl t)) = binding_of_tree t
command_of_tree (inr (inr t)) = update_of_tree t

abbrev pub script_of_tree : ParseTree script → List Cmd
script_of_tree t = items_of MAX_COMMANDS no_command command (token Semi) command_of_tree t

abbrev pub closed_script_of_tree : ParseTree closed_script → List Cmd
closed_script_of_tree t = let (commands, brace) = t in script_of_tree commands

-- ---- events

abbrev pub counter_of : ParseTree identifier → ℕ
counter_of t = let (counter, (comma, author)) = t in number_of counter

abbrev pub author_of : ParseTree identifier → Named
author_of t = let (counter, (comma, author)) = t in named author

-- behind the dot, of a replica
abbrev pub common_of_tree : Named → ParseTree common_action → NamedEvent
common_of_tree p (inl x) = Exec p
common_of_tree p (inr (inl x)) = Send p
common_of_tree p (inr (inr (inl t))) = let (word, sender) = t in Recv p (named (inside (token Name) sender))
common_of_tree p (inr (inr (inr (inl t)))) =
    let (word, own) = t in Apply p (counter_of (inside identifier own)) (author_of (inside identifier own))
common_of_tree p (inr (inr (inr (inr x)))) = Done p

-- the sender, the counter and the author
abbrev pub taken : Grammar
taken = token Name then token Comma then identifier

abbrev pub take_of_tree : Named → ParseTree taken → NamedEvent
take_of_tree p t = let (sender, (comma, own)) = t in Take p (named sender) (counter_of own) (author_of own)

abbrev pub action_of_tree : (v : Version) → Named → ParseTree (action v) → NamedEvent
action_of_tree One p t = common_of_tree p t
action_of_tree Two p (inl t) = let (word, parts) = t in take_of_tree p (inside taken parts)
action_of_tree Two p (inr t) = common_of_tree p t

abbrev pub event_of_tree : (v : Version) → ParseTree (event v) → NamedEvent
event_of_tree v t = let (replica, (dot, own)) = t in action_of_tree v (named replica) own

abbrev pub events_of_tree : (v : Version) → ParseTree (events v) → List NamedEvent
events_of_tree v t = items_of MAX_EVENTS no_event (event v) (token Semi) (event_of_tree v) t

-- ---- scenarios

abbrev pub block_of_tree : (word : List ℕ) (v : Version) → ParseTree (block word v) → List NamedEvent
block_of_tree word v t = let (lead, (left, (own, right))) = t in events_of_tree v own

-- a block that may be left out
abbrev pub any_block_of_tree : (word : List ℕ) (v : Version) → ParseTree (block word v or nothing) → List NamedEvent
any_block_of_tree word v (inl t) = block_of_tree word v t
any_block_of_tree word v (inr end) = []

-- the given events and the schedule, without replicas
abbrev pub blocks_of_tree : (v : Version) → ParseTree (blocks v) → NamedTree
blocks_of_tree One t = tree One [] [] (any_block_of_tree (codes "schedule") One t)
blocks_of_tree Two t =
    let (given, schedule) = t in
    tree Two [] (any_block_of_tree (codes "given") Two given) (any_block_of_tree (codes "schedule") Two schedule)

abbrev pub replica_of_tree : ParseTree replica → Part
replica_of_tree t = let (name, (left, own)) = t in record { name = value_of name; script = closed_script_of_tree own }

-- the replicas behind the first, one past the limit too, and the blocks
unfoldable pub tail_of_tree :
    (v : Version) (n : ℕ)
    → ParseTree (repeated n (new_replica MAX_REPLICAS) (keyword (codes "replica")) replica (blocks v))
    → NamedTree
unfolding repeated
tail_of_tree v zero = either (λ (word, past). tree v (replica_of_tree past ∷ []) [] []) (blocks_of_tree v)
tail_of_tree v (suc n) =
    either (λ (word, (own, more)). with_replica_part (replica_of_tree own) (tail_of_tree v n more)) (blocks_of_tree v)

abbrev pub body_of_tree : (v : Version) → ParseTree (body v) → NamedTree
body_of_tree v t =
    let (word, (first, more)) = t in
    with_replica_part (replica_of_tree first) (tail_of_tree v (MAX_REPLICAS - 1) more)

abbrev pub scenario_of_tree : ParseTree scenario → NamedTree
scenario_of_tree (mark, inl t) = let (version, own) = t in body_of_tree One own
scenario_of_tree (mark, inr t) = let (version, own) = t in body_of_tree Two own
