-- About `Scripts`: the readers of scripts read what the grammar's reader reads, and so what is read is the script.
use Rattle.std.proofs.Common.{◌≡◌, ℕ, zero, suc, inl, inr, Bool, true, false, ◌||◌, cond, List, [], ◌∷◌, Result, Ok, Err, refl, subst, ◌∙◌}
use Rattle.std.specs.Prelude.{codes, not, IfErr}
use Rattle.std.specs.Str.{bytes_eq}
use Rattle.std.proofs.lemmas.Bool.{cases_Bool}
use Rattle.std.proofs.lemmas.Slice.Eq.{bytes_eq-Decides}
use Rattle.jc_rules.specs.Syntax.{Expr, Cmd, LetIn, SetTo, InsertAfter, DeleteAt, Yield}
use Rattle.jc_rules.specs.declared.limits.TheConstants.{MAX_SELECTORS, MAX_COMMANDS}
use Rattle.jc_syntax.specs.declared.token.TokenKind.TheVariants.{Name, Dot, ParenL, ParenR, BraceR, BracketR, Assign, Equals}
use Rattle.jc_grammar.specs.Symbols.{Symbol, word, open_brace, open_bracket, Lexeme}
use Rattle.jc_grammar.specs.SymbolTests.{has_kind, is_word, is_reserved, is_misused}
use Rattle.jc_grammar.specs.Guards.{GuardState, free_binding, no_selector, no_command}
use Rattle.jc_grammar.specs.Grammar.{Grammar, ◌then◌, ◌or◌, guarded, ParseTree, chained}
use Rattle.jc_grammar.specs.TreeReader.{◌⟫◌, with_tree, pair_of, read_tree}
use Rattle.jc_grammar.specs.ScenarioGrammar.{token, keyword, in_parens, selector, root_but, selector_dot, literal, assignment, ending, change, binding, command, script, closed_script, misfit_at}
use Rattle.jc_grammar.specs.Limits.{either}
use Rattle.jc_grammar.proofs.ScenarioGrammarLemmas.{scenarios_decided, closed_decided}
use Rattle.jc_parser.specs.declared.fault.ScenarioFault.{ScenarioFault}
use Rattle.jc_parser.specs.declared.fault.ScenarioFault.TheVariants.{TooLongExpression}
use Rattle.jc_parser.specs.ReaderState.{Reading, ReadOutcome, MapsResult, ◌>>=◌, stuck, begins_with, one, skip, named_at}
use Rattle.jc_parser.specs.PartReaders.{number_at, string_at, read_value_at, read_name_at}
use Rattle.jc_parser.specs.ExpressionReader.{is_selector, extended, step_at, Chain, chain_at, doc_at, variable_at, root_at, expression_at}
use Rattle.jc_parser.specs.ScriptReader.{any_value_at, binding_at, assignment_at, insertion_at, deletion_at, finish_at, update_at, yield_at, command_at, too_many_commands_at, script_at, only_script_at, closed_script_at}
use Rattle.jc_parser.specs.GrammarTrees.{value_of, inside, selected, root_of_tree, expression_of_tree, value_of_tree, ending_of_tree, assignment_of_tree, change_of_tree, binding_of_tree, update_of_tree, command_of_tree, script_of_tree, closed_script_of_tree}
use Rattle.jc_parser.proofs.GrammarAgreesLemmas.{reading, at_place, given, given_with, Agrees, agrees_map, agrees_then, agrees_or, agrees_mark, agrees_word, agrees_as, agrees_so, or_false}
use Rattle.jc_parser.proofs.GrammarExpressionsLemmas.{selector_of_tree, selected_is, agrees_selector, selector_first, agrees_dot, agrees_expression}
use Rattle.jc_parser.proofs.GrammarListsLemmas.{RefusesWith, AlwaysBeginsBy, agrees_listed}
use Rattle.jc_parser.specs.Faults.{IsOfSentence}
use Rattle.jc_parser.specs.Scripts.{IsScript, IsNoScript}
use Rattle.jc_parser.proofs.GuardsLemmas.{script_sentences, closed_sentences}
use Rattle.jc_parser.proofs.SentencesLemmas.{IsExactly, agrees_exactly, kind_so}
use Rattle.jc_parser.proofs.PrefixLemmas.{IsAheadReader}

-- ---- values

literal_first : (stop place : ℕ) (s : GuardState) (t : Symbol) (xs : List Lexeme) → any_value_at (reading stop (at_place place t ∷ xs)) ≡ given value_of_tree stop (read_tree literal (misfit_at stop) s (at_place place t ∷ xs))
unfolding any_value_at read_value_at number_at string_at one
literal_first stop place s (word w) xs =
    elim (cases_Bool (bytes_eq w (codes "true"))) [
      | inl is ↦ rw is refl
      | inr no_true ↦
          elim (cases_Bool (bytes_eq w (codes "false"))) [
            | inl is ↦ rw (no_true, is) refl
            | inr no_false ↦
                elim (cases_Bool (bytes_eq w (codes "null"))) [
                  | inl is ↦ rw (no_true, no_false, is) refl
                  | inr no_null ↦ rw (no_true, no_false, no_null) refl
                ]
          ]
    ]
literal_first stop place s open_brace [] = refl
literal_first stop place s open_brace (y ∷ ys) =
    elim (cases_Bool (has_kind BraceR y.symbol)) [
      | inl fits ↦ rw fits refl
      | inr other ↦ rw other refl
    ]
literal_first stop place s open_bracket [] = refl
literal_first stop place s open_bracket (y ∷ ys) =
    elim (cases_Bool (has_kind BracketR y.symbol)) [
      | inl fits ↦ rw fits refl
      | inr other ↦ rw other refl
    ]
literal_first stop place s t xs = refl

pub agrees_literal : Agrees literal value_of_tree any_value_at
unfolding any_value_at read_value_at number_at string_at one
agrees_literal = record { same = by_first }
  where
    by_first : (stop : ℕ) (s : GuardState) (ls : List Lexeme) → any_value_at (reading stop ls) ≡ given value_of_tree stop (read_tree literal (misfit_at stop) s ls)
    by_first stop s [] = refl
    by_first stop s (x ∷ xs) = literal_first stop x.place s x.symbol xs

-- ---- ends of commands

agrees_insertion : (e : Expr) → Agrees (keyword (codes "insertAfter") then in_parens literal) (λ t. InsertAfter e (value_of_tree (inside literal t.1))) (insertion_at e)
unfolding insertion_at
agrees_insertion e =
    agrees_then (λ t u. InsertAfter e (value_of_tree (inside literal u))) (λ _ r. skip (has_kind ParenL) r >>= λ b. any_value_at b.1 >>= λ v. skip (has_kind ParenR) v.1 >>= λ c. Ok (InsertAfter e v.0, c.1)) (agrees_word (codes "insertAfter"))
    (λ t. agrees_then (λ u w. InsertAfter e (value_of_tree w.0)) (λ _ r. any_value_at r >>= λ v. skip (has_kind ParenR) v.1 >>= λ c. Ok (InsertAfter e v.0, c.1)) (agrees_mark ParenL)
    (λ u. agrees_then (λ w x. InsertAfter e (value_of_tree w)) (λ v r. skip (has_kind ParenR) r >>= λ c. Ok (InsertAfter e v, c.1)) agrees_literal (λ w. agrees_map (λ x. InsertAfter e (value_of_tree w)) (agrees_mark ParenR))))

same_ending : (e : Expr) (t : ParseTree ending) → either (λ (x : ParseTree (keyword (codes "insertAfter") then in_parens literal)). InsertAfter e (value_of_tree (inside literal x.1))) (λ x. DeleteAt e) t ≡ ending_of_tree e t
same_ending e (inl t) = refl
same_ending e (inr t) = refl

agrees_ending : (e : Expr) → Agrees ending (ending_of_tree e) (finish_at e true)
unfolding finish_at deletion_at
agrees_ending e = agrees_as (ending_of_tree e) (same_ending e) (agrees_or (is_word (codes "insertAfter")) (λ s. or_false (is_word (codes "insertAfter") s)) (agrees_insertion e) (agrees_map (λ _. DeleteAt e) (agrees_word (codes "delete"))))

agrees_assignment : (e : Expr) → Agrees assignment (assignment_of_tree e) (finish_at e false)
unfolding finish_at assignment_at
agrees_assignment e = agrees_then (λ t u. SetTo e (value_of_tree u)) (λ _ r. any_value_at r >>= λ v. Ok (SetTo e v.0, v.1)) (agrees_mark Assign) (λ t. agrees_map (λ v. SetTo e v) agrees_literal)

-- ---- selectors, and what is behind them

abbrev finished : Chain × Reading → ReadOutcome Cmd
finished c = finish_at c.0.expression c.0.dotted c.1

bind_again : {A B C : Type 0} (r : Result A ScenarioFault) (f : A → Result B ScenarioFault) (g : B → Result C ScenarioFault) → ((r >>= f) >>= g) ≡ (r >>= λ x. f x >>= g)
bind_again (Ok x) f g = refl
bind_again (Err e) f g = refl

-- the chain's reader with its end, a step at a time
chain_step : (n : ℕ) (e : Expr) (r : Reading) → (chain_at (suc n) e r >>= finished)
    ≡ cond (begins_with (has_kind Dot) r.left)
    (skip (has_kind Dot) r >>= λ a. cond (begins_with is_selector a.1.left) (step_at a.1 >>= λ s. chain_at n (extended e s.0) s.1 >>= finished) (finish_at e true a.1))
    (finish_at e false r)
unfolding chain_at
chain_step n e r = by_dot (begins_with (has_kind Dot) r.left)
  where
    by_selector : (a : Unit {0} × Reading) (b : Bool) → (cond b (step_at a.1 >>= λ s. chain_at n (extended e s.0) s.1) (Ok (record { expression = e; dotted = true }, a.1)) >>= finished) ≡ cond b (step_at a.1 >>= λ s. chain_at n (extended e s.0) s.1 >>= finished) (finish_at e true a.1)
    by_selector a true = bind_again (step_at a.1) (λ s. chain_at n (extended e s.0) s.1) finished
    by_selector a false = refl

    by_skip : (o : ReadOutcome (Unit {0})) → ((o >>= λ a. cond (begins_with is_selector a.1.left) (step_at a.1 >>= λ s. chain_at n (extended e s.0) s.1) (Ok (record { expression = e; dotted = true }, a.1))) >>= finished) ≡ (o >>= λ a. cond (begins_with is_selector a.1.left) (step_at a.1 >>= λ s. chain_at n (extended e s.0) s.1 >>= finished) (finish_at e true a.1))
    by_skip (Ok a) = by_selector a (begins_with is_selector a.1.left)
    by_skip (Err d) = refl

    by_dot : (b : Bool) → (cond b (skip (has_kind Dot) r >>= λ a. cond (begins_with is_selector a.1.left) (step_at a.1 >>= λ s. chain_at n (extended e s.0) s.1) (Ok (record { expression = e; dotted = true }, a.1))) (Ok (record { expression = e; dotted = false }, r)) >>= finished)
        ≡ cond b (skip (has_kind Dot) r >>= λ a. cond (begins_with is_selector a.1.left) (step_at a.1 >>= λ s. chain_at n (extended e s.0) s.1 >>= finished) (finish_at e true a.1)) (finish_at e false r)
    by_dot true = by_skip (skip (has_kind Dot) r)
    by_dot false = refl

abbrev past : Grammar
past = guarded no_selector selector

-- what a tree says after the last selector that may be, and a dot
abbrev last_ending : Expr → ParseTree (past or ending) → Cmd
last_ending e = either (λ (_ : ParseTree selector). Yield) (ending_of_tree e)

after_last : (e : Expr) (stop : ℕ) (s : GuardState) (d : Lexeme) (ds : List Lexeme) → (cond (begins_with is_selector ds) (Err (TooLongExpression d.place)) (Ok (record { expression = e; dotted = true }, reading stop ds)) >>= finished)
    ≡ given (last_ending e) stop (read_tree (past or ending) (misfit_at stop) (record s { dot = d.place }) ds)
after_last e stop s d [] = (agrees_ending e).same stop (record s { dot = d.place }) [] ∙ given_with (λ b. inr b) (last_ending e) stop (read_tree ending (misfit_at stop) (record s { dot = d.place }) [])
after_last e stop s d (w ∷ ws) =
    elim (cases_Bool (is_selector w.symbol)) [
      | inl fits ↦ rw (fits, selector_first w.symbol, fits) refl
      | inr other ↦
          rw (other, selector_first w.symbol, other)
          ((agrees_ending e).same stop (record s { dot = d.place }) (w ∷ ws) ∙ given_with (λ b. inr b) (last_ending e) stop (read_tree ending (misfit_at stop) (record s { dot = d.place }) (w ∷ ws)))
    ]

abbrev last_change : Expr → ParseTree (selector_dot then (past or ending) or assignment) → Cmd
last_change e = either (λ (t : ParseTree (selector_dot then (past or ending))). last_ending e t.1) (assignment_of_tree e)

last_same : (e : Expr) (stop : ℕ) (s : GuardState) (ls : List Lexeme) → (chain_at zero e (reading stop ls) >>= finished) ≡ given (last_change e) stop (read_tree (selector_dot then (past or ending) or assignment) (misfit_at stop) s ls)
unfolding chain_at one
last_same e stop s [] = (agrees_assignment e).same stop s [] ∙ given_with (λ b. inr b) (last_change e) stop (read_tree assignment (misfit_at stop) s [])
last_same e stop s (d ∷ ds) =
    elim (cases_Bool (has_kind Dot d.symbol)) [
      | inl fits ↦
          rw fits
          (after_last e stop s d ds
          ∙ given_with (pair_of d) (λ (t : ParseTree (selector_dot then (past or ending))). last_ending e t.1) stop (read_tree (past or ending) (misfit_at stop) (record s { dot = d.place }) ds)
          ∙ given_with (λ a. inl a) (last_change e) stop (read_tree (past or ending) (misfit_at stop) (record s { dot = d.place }) ds ⟫ with_tree (pair_of d)))
      | inr other ↦ rw other ((agrees_assignment e).same stop s (d ∷ ds) ∙ given_with (λ b. inr b) (last_change e) stop (read_tree assignment (misfit_at stop) s (d ∷ ds)))
    ]

agrees_chained : (n : ℕ) (e : Expr) → Agrees (chained n no_selector selector_dot selector assignment ending) (change_of_tree n e) (λ r. chain_at n e r >>= finished)
unfolding chained change_of_tree
agrees_chained zero e = record { same = λ stop s ls. last_same e stop s ls }
agrees_chained (suc n) e =
    agrees_so (λ r. chain_at (suc n) e r >>= finished) (λ r. chain_step n e r)
    (agrees_or (has_kind Dot) (λ s. or_false (has_kind Dot s))
    (agrees_then (λ t u. either (λ more. change_of_tree n (selected e more.0) more.1) (ending_of_tree e) u)
    (λ _ r. cond (begins_with is_selector r.left) (step_at r >>= λ s. chain_at n (extended e s.0) s.1 >>= finished) (finish_at e true r)) agrees_dot
    (λ t. agrees_or is_selector (λ s. selector_first s)
    (agrees_then (λ u w. change_of_tree n (selected e u) w) (λ s r. chain_at n (extended e s) r >>= finished) agrees_selector
    (λ u. subst (λ (x : Expr). Agrees (chained n no_selector selector_dot selector assignment ending) (change_of_tree n x) (λ r. chain_at n (extended e (selector_of_tree u)) r >>= finished)) (selected_is e u) (agrees_chained n (extended e (selector_of_tree u)))))
    (agrees_ending e)))
    (agrees_assignment e))

-- ---- commands

abbrev keywords : List (List ℕ)
keywords = codes "let" ∷ codes "yield" ∷ codes "doc" ∷ []

abbrev is_keyword : Symbol → Bool
is_keyword s = is_word (codes "let") s || is_word (codes "yield") s

-- at a command's start, behind the commands of one keyword
abbrev lead_at : Reading → ReadOutcome Expr
lead_at r = cond (begins_with is_keyword r.left) (Err (stuck r)) (root_at r)

lead_first : (stop place : ℕ) (s : GuardState) (t : Symbol) (xs : List Lexeme) → lead_at (reading stop (at_place place t ∷ xs)) ≡ given (root_of_tree keywords) stop (read_tree (root_but keywords) (misfit_at stop) s (at_place place t ∷ xs))
unfolding root_at doc_at variable_at read_name_at named_at one
lead_first stop place s (word w) xs =
    elim (cases_Bool (bytes_eq w (codes "let"))) [
      | inl is_let ↦ rw ((bytes_eq-Decides w (codes "let")).0 is_let) refl
      | inr no_let ↦
          elim (cases_Bool (bytes_eq w (codes "yield"))) [
            | inl is_yield ↦ rw ((bytes_eq-Decides w (codes "yield")).0 is_yield) refl
            | inr no_yield ↦
                elim (cases_Bool (bytes_eq w (codes "doc"))) [
                  | inl doc ↦ rw (no_let, no_yield, doc) refl
                  | inr other ↦
                      elim (cases_Bool (is_reserved w)) [
                        | inl taken ↦ rw (taken, no_let, no_yield, other) refl
                        | inr free ↦ rw (free, no_let, no_yield, other) refl
                      ]
                ]
          ]
    ]
lead_first stop place s t xs = refl

agrees_lead : Agrees (root_but keywords) (root_of_tree keywords) lead_at
unfolding root_at doc_at variable_at read_name_at named_at one
agrees_lead = record { same = by_first }
  where
    by_first : (stop : ℕ) (s : GuardState) (ls : List Lexeme) → lead_at (reading stop ls) ≡ given (root_of_tree keywords) stop (read_tree (root_but keywords) (misfit_at stop) s ls)
    by_first stop s [] = refl
    by_first stop s (x ∷ xs) = lead_first stop x.place s x.symbol xs

abbrev change_at : Reading → ReadOutcome Cmd
change_at r = lead_at r >>= λ e. chain_at MAX_SELECTORS e.0 e.1 >>= finished

agrees_change : Agrees change update_of_tree change_at
agrees_change =
    agrees_then (λ t u. change_of_tree MAX_SELECTORS (root_of_tree keywords t) u) (λ e r. chain_at MAX_SELECTORS e r >>= finished) agrees_lead
    (λ t. agrees_chained MAX_SELECTORS (root_of_tree keywords t))

binding_name_first : (stop place : ℕ) (s : GuardState) (t : Symbol) (xs : List Lexeme) → read_name_at (reading stop (at_place place t ∷ xs)) ≡ given value_of stop (read_tree (guarded free_binding (token Name)) (misfit_at stop) s (at_place place t ∷ xs))
unfolding read_name_at named_at one
binding_name_first stop place s (word w) xs =
    elim (cases_Bool (is_reserved w)) [
      | inl taken ↦ rw taken refl
      | inr free ↦ rw free refl
    ]
binding_name_first stop place s t xs = refl

agrees_binding_name : Agrees (guarded free_binding (token Name)) value_of read_name_at
unfolding read_name_at named_at one
agrees_binding_name = record { same = by_first }
  where
    by_first : (stop : ℕ) (s : GuardState) (ls : List Lexeme) → read_name_at (reading stop ls) ≡ given value_of stop (read_tree (guarded free_binding (token Name)) (misfit_at stop) s ls)
    by_first stop s [] = refl
    by_first stop s (x ∷ xs) = binding_name_first stop x.place s x.symbol xs

agrees_binding : Agrees binding binding_of_tree binding_at
unfolding binding_at
agrees_binding =
    agrees_then (λ t u. LetIn (value_of u.0) (expression_of_tree u.1.1)) (λ _ r. read_name_at r >>= λ n. skip (has_kind Equals) n.1 >>= λ b. expression_at b.1 >>= λ e. Ok (LetIn n.0 e.0, e.1)) (agrees_word (codes "let"))
    (λ t. agrees_then (λ u w. LetIn (value_of u) (expression_of_tree w.1)) (λ n r. skip (has_kind Equals) r >>= λ b. expression_at b.1 >>= λ e. Ok (LetIn n e.0, e.1)) agrees_binding_name
    (λ u. agrees_then (λ w x. LetIn (value_of u) (expression_of_tree x)) (λ _ r. expression_at r >>= λ e. Ok (LetIn (value_of u) e.0, e.1)) (agrees_mark Equals)
    (λ w. agrees_map (λ e. LetIn (value_of u) e) agrees_expression)))

no_keyword : (ls : List Lexeme) → begins_with (is_word (codes "let")) ls ≡ false → begins_with (is_word (codes "yield")) ls ≡ false → begins_with is_keyword ls ≡ false
no_keyword [] no_let no_yield = refl
no_keyword (x ∷ xs) no_let no_yield = rw (no_let, no_yield) refl

command_told : (r : Reading) → command_at r ≡ cond (begins_with (is_word (codes "yield")) r.left) (yield_at r) (cond (begins_with (is_word (codes "let")) r.left) (binding_at r) (change_at r))
unfolding command_at update_at
command_told r =
    elim (cases_Bool (begins_with (is_word (codes "yield")) r.left)) [
      | inl is_yield ↦ rw is_yield refl
      | inr no_yield ↦
          elim (cases_Bool (begins_with (is_word (codes "let")) r.left)) [
            | inl is_let ↦ rw (no_yield, is_let) refl
            | inr no_let ↦ rw (no_keyword r.left no_let no_yield, no_yield, no_let) refl
          ]
    ]

same_command : (t : ParseTree command)
    → either (λ x. Yield) (either binding_of_tree update_of_tree) t
    ≡ command_of_tree t
same_command (inl t) = refl
same_command (inr (inl t)) = refl
same_command (inr (inr t)) = refl

agrees_command : Agrees command command_of_tree command_at
unfolding yield_at
agrees_command =
    agrees_as command_of_tree same_command (agrees_so command_at command_told
    (agrees_or (is_word (codes "yield")) (λ s. or_false (is_word (codes "yield") s)) (agrees_map (λ _. Yield) (agrees_word (codes "yield")))
    (agrees_or (is_word (codes "let")) (λ s. or_false (is_word (codes "let") s)) agrees_binding agrees_change)))

-- ---- scripts

any_word : (y l d : Bool) → (y || (l || (d || (not (l || (y || (d || false))) || false)))) ≡ true
any_word true l d = refl
any_word false true d = refl
any_word false false true = refl
any_word false false false = refl

command_first : AlwaysBeginsBy command (has_kind Name)
command_first cs (word w) = any_word (bytes_eq w (codes "yield")) (bytes_eq w (codes "let")) (bytes_eq w (codes "doc"))
command_first cs s = refl

crowd : RefusesWith no_command too_many_commands_at
crowd stop s x xs =
    elim (cases_Bool (is_misused x.symbol)) [
      | inl misused ↦ (_, refl, rw misused refl)
      | inr other ↦ (_, refl, rw other refl)
    ]

pub agrees_script : Agrees script script_of_tree script_at
unfolding script_at
agrees_script = agrees_listed MAX_COMMANDS no_command (has_kind Name) too_many_commands_at command_first crowd agrees_command

pub agrees_closed_script : Agrees closed_script closed_script_of_tree closed_script_at
unfolding closed_script_at
agrees_closed_script = agrees_then (λ t u. script_of_tree t) (λ s r. skip (has_kind BraceR) r >>= λ a. Ok (s, a.1)) agrees_script (λ t. agrees_map (λ u. script_of_tree t) (agrees_mark BraceR))

-- ---- what is read

pub exactly : (r : Reading) → IsExactly (IsScript r.left) (IsNoScript r) (only_script_at r)
unfolding only_script_at
exactly r = agrees_exactly agrees_script scenarios_decided.1 r

pub script_kind : {X : Type 0} (r : Reading) (view : X → List Cmd) (result : Result X ScenarioFault) → MapsResult view result (only_script_at r) → IfErr result IsOfSentence
unfolding only_script_at
script_kind r view result h = kind_so agrees_script script_sentences r view result h

-- a script and its closing brace begin the lexemes
pub ahead : IsAheadReader closed_script closed_script_of_tree closed_script_at
ahead = record { agrees = agrees_closed_script; decided = rw closed_decided refl; sentences = closed_sentences }
