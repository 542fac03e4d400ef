-- About `Expressions`: the readers of expressions read what the grammar's reader reads, and so what is read is the
-- expression.
use Rattle.std.proofs.Common.{◌≡◌, ℕ, zero, suc, inl, inr, Bool, true, false, ◌||◌, cond, List, [], ◌∷◌, Result, Ok, Err, refl, sym, ap, subst, ◌∙◌}
use Rattle.std.specs.Prelude.{codes, IfErr}
use Rattle.std.specs.Str.{bytes_eq}
use Rattle.std.proofs.lemmas.Bool.{cases_Bool}
use Rattle.jc_rules.specs.Syntax.{Expr}
use Rattle.jc_rules.specs.declared.limits.TheConstants.{MAX_SELECTORS}
use Rattle.jc_syntax.specs.declared.token.TokenKind.TheVariants.{Str, Dot, ParenL, ParenR}
use Rattle.jc_grammar.specs.Symbols.{Symbol, word, Lexeme}
use Rattle.jc_grammar.specs.SymbolTests.{has_kind, is_word, is_reserved}
use Rattle.jc_grammar.specs.Classes.{any}
use Rattle.jc_grammar.specs.Guards.{GuardState, no_selector}
use Rattle.jc_grammar.specs.Grammar.{nothing, ◌then◌, ◌or◌, guarded, ParseTree, repeated}
use Rattle.jc_grammar.specs.LookAhead.{is_of_any, first_classes}
use Rattle.jc_grammar.specs.TreeReader.{TreeOutcome, ◌⟫◌, with_tree, pair_of, read_tree}
use Rattle.jc_grammar.specs.ScenarioGrammar.{token, keyword, in_parens, index, selector, root_but, selector_dot, expression, misfit_at}
use Rattle.jc_grammar.proofs.ScenarioGrammarLemmas.{scenarios_decided}
use Rattle.jc_grammar.specs.Limits.{either}
use Rattle.jc_parser.specs.declared.fault.ScenarioFault.{ScenarioFault}
use Rattle.jc_parser.specs.declared.fault.ScenarioFault.TheVariants.{TooLongExpression}
use Rattle.jc_parser.specs.ReaderState.{Reading, ReadOutcome, MapsResult, ◌>>=◌, place_at, stuck_at, begins_with, one, skip, take, named_at}
use Rattle.jc_parser.specs.PartReaders.{get_at, read_name_at}
use Rattle.jc_parser.specs.ExpressionReader.{Selector, by_key, by_index, by_keys, by_values, is_selector, extended, index_at, key_selector_at, index_selector_at, step_at, chain_at, undotted, doc_at, variable_at, root_at, expression_at, only_expression_at}
use Rattle.jc_parser.specs.GrammarTrees.{value_of, number_of, inside, selected, root_of_tree, path_of_tree, expression_of_tree}
use Rattle.jc_parser.proofs.GrammarAgreesLemmas.{reading, at_place, fault_as, given, given_with, Agrees, agrees_map, agrees_then, agrees_or, agrees_one, agrees_mark, agrees_word, agrees_nothing, agrees_as, agrees_so, or_false}
use Rattle.jc_parser.proofs.GrammarEventsLemmas.{agrees_index}
use Rattle.jc_rules.proofs.BoolLemmas.{neither}
use Rattle.jc_parser.specs.Faults.{IsOfSentence}
use Rattle.jc_parser.specs.Expressions.{IsExpression, IsNoExpression}
use Rattle.jc_parser.proofs.GuardsLemmas.{expression_sentences}
use Rattle.jc_parser.proofs.SentencesLemmas.{IsExactly, agrees_exactly, kind_so}

-- ---- selectors

-- the selector that a tree says
abbrev pub selector_of_tree : ParseTree selector → Selector
selector_of_tree (inl t) = by_key (value_of (inside (token Str) t.1))
selector_of_tree (inr (inl t)) = by_index (number_of (inside index t.1))
selector_of_tree (inr (inr (inl t))) = by_keys
selector_of_tree (inr (inr (inr t))) = by_values

pub selected_is : (e : Expr) (t : ParseTree selector) → extended e (selector_of_tree t) ≡ selected e t
selected_is e (inl t) = refl
selected_is e (inr (inl t)) = refl
selected_is e (inr (inr (inl t))) = refl
selected_is e (inr (inr (inr t))) = refl

agrees_string : Agrees (token Str) value_of (take (has_kind Str))
agrees_string = agrees_map value_of (agrees_one (has_kind Str) (any Str) (λ s. refl))

agrees_key : Agrees (keyword (codes "get") then in_parens (token Str)) (λ t. by_key (value_of (inside (token Str) t.1))) key_selector_at
unfolding key_selector_at get_at
agrees_key =
    agrees_map (λ k. by_key k)
    (agrees_then (λ t u. value_of (inside (token Str) u)) (λ _ r. skip (has_kind ParenL) r >>= λ b. take (has_kind Str) b.1 >>= λ k. skip (has_kind ParenR) k.1 >>= λ c. Ok (k.0, c.1)) (agrees_word (codes "get"))
    (λ t. agrees_then (λ u w. value_of w.0) (λ _ r. take (has_kind Str) r >>= λ k. skip (has_kind ParenR) k.1 >>= λ c. Ok (k.0, c.1)) (agrees_mark ParenL)
    (λ u. agrees_then (λ w x. value_of w) (λ k r. skip (has_kind ParenR) r >>= λ c. Ok (k, c.1)) agrees_string (λ w. agrees_map (λ x. value_of w) (agrees_mark ParenR)))))

agrees_index_selector : Agrees (keyword (codes "idx") then in_parens index) (λ t. by_index (number_of (inside index t.1))) index_selector_at
unfolding index_selector_at
agrees_index_selector =
    agrees_then (λ t u. by_index (number_of (inside index u))) (λ _ r. skip (has_kind ParenL) r >>= λ b. index_at b.1 >>= λ i. skip (has_kind ParenR) i.1 >>= λ c. Ok (by_index i.0, c.1)) (agrees_word (codes "idx"))
    (λ t. agrees_then (λ u w. by_index (number_of w.0)) (λ _ r. index_at r >>= λ i. skip (has_kind ParenR) i.1 >>= λ c. Ok (by_index i.0, c.1)) (agrees_mark ParenL)
    (λ u. agrees_then (λ w x. by_index (number_of w)) (λ i r. skip (has_kind ParenR) r >>= λ c. Ok (by_index i, c.1)) agrees_index (λ w. agrees_map (λ x. by_index (number_of w)) (agrees_mark ParenR))))

agrees_plain : (w : List ℕ) (s : Selector) → Agrees (keyword w) (λ t. s) (λ r. skip (is_word w) r >>= λ a. Ok (s, a.1))
agrees_plain w s = agrees_map (λ _. s) (agrees_word w)

same_selector : (t : ParseTree selector)
    → either (λ (x : ParseTree (keyword (codes "get") then in_parens (token Str))). by_key (value_of (inside (token Str) x.1)))
    (either (λ (x : ParseTree (keyword (codes "idx") then in_parens index)). by_index (number_of (inside index x.1))) (either (λ x. by_keys) (λ x. by_values))) t
    ≡ selector_of_tree t
same_selector (inl t) = refl
same_selector (inr (inl t)) = refl
same_selector (inr (inr (inl t))) = refl
same_selector (inr (inr (inr t))) = refl

pub agrees_selector : Agrees selector selector_of_tree step_at
unfolding step_at
agrees_selector =
    agrees_as selector_of_tree same_selector
    (agrees_or (is_word (codes "get")) (λ s. or_false (is_word (codes "get") s)) agrees_key
    (agrees_or (is_word (codes "idx")) (λ s. or_false (is_word (codes "idx") s)) agrees_index_selector
    (agrees_or (is_word (codes "keys")) (λ s. or_false (is_word (codes "keys") s)) (agrees_plain (codes "keys") by_keys)
    (agrees_plain (codes "values") by_values))))

-- a selector begins with one of its words
or_last : (a b c d : Bool) → (a || (b || (c || (d || false)))) ≡ (a || (b || (c || d)))
or_last true b c d = refl
or_last false true c d = refl
or_last false false true d = refl
or_last false false false d = or_false d

pub selector_first : (s : Symbol) → is_of_any (first_classes selector []) s ≡ is_selector s
selector_first s = or_last (is_word (codes "get") s) (is_word (codes "idx") s) (is_word (codes "keys") s) (is_word (codes "values") s)

-- ---- the root

root_first : (stop place : ℕ) (s : GuardState) (t : Symbol) (xs : List Lexeme) → root_at (reading stop (at_place place t ∷ xs)) ≡ given (root_of_tree (codes "doc" ∷ [])) stop (read_tree (root_but (codes "doc" ∷ [])) (misfit_at stop) s (at_place place t ∷ xs))
unfolding root_at doc_at variable_at read_name_at named_at one
root_first stop place s (word w) xs =
    elim (cases_Bool (bytes_eq w (codes "doc"))) [
      | inl doc ↦ rw doc refl
      | inr other ↦
          elim (cases_Bool (is_reserved w)) [
            | inl taken ↦ rw (taken, other) refl
            | inr free ↦ rw (free, other) refl
          ]
    ]
root_first stop place s t xs = refl

pub agrees_root : Agrees (root_but (codes "doc" ∷ [])) (root_of_tree (codes "doc" ∷ [])) root_at
unfolding root_at doc_at variable_at read_name_at named_at one
agrees_root = record { same = by_first }
  where
    by_first : (stop : ℕ) (s : GuardState) (ls : List Lexeme) → root_at (reading stop ls) ≡ given (root_of_tree (codes "doc" ∷ [])) stop (read_tree (root_but (codes "doc" ∷ [])) (misfit_at stop) s ls)
    by_first stop s [] = refl
    by_first stop s (x ∷ xs) = root_first stop x.place s x.symbol xs

-- ---- selectors in a row

-- at most n selectors, and no dot at the end
unfoldable pub steps_at : ℕ → Expr → Reading → ReadOutcome Expr
steps_at zero e r =
    cond (begins_with (has_kind Dot) r.left)
    (skip (has_kind Dot) r >>= λ a. cond (begins_with is_selector a.1.left) (Err (TooLongExpression (place_at r.stop r.left))) (Err (stuck_at a.1.stop a.1.left)))
    (Ok (e, r))
steps_at (suc n) e r =
    cond (begins_with (has_kind Dot) r.left)
    (skip (has_kind Dot) r >>= λ a. step_at a.1 >>= λ s. steps_at n (extended e s.0) s.1)
    (Ok (e, r))

step_none : (stop : ℕ) (ls : List Lexeme) → begins_with is_selector ls ≡ false → step_at (reading stop ls) ≡ Err (stuck_at stop ls)
unfolding step_at one
step_none stop [] other = refl
step_none stop (x ∷ xs) other =
    let (no_get, rest) = neither (is_word (codes "get") x.symbol) _ other in
    let (no_idx, more) = neither (is_word (codes "idx") x.symbol) _ rest in
    let (no_keys, no_values) = neither (is_word (codes "keys") x.symbol) _ more in
    rw (no_get, no_idx, no_keys, no_values) refl

after_step : (n : ℕ) (e : Expr) (read : ReadOutcome Selector) → ((s : Selector) (t : Reading) → (chain_at n (extended e s) t >>= undotted) ≡ steps_at n (extended e s) t) → ((read >>= λ s. chain_at n (extended e s.0) s.1) >>= undotted) ≡ (read >>= λ s. steps_at n (extended e s.0) s.1)
after_step n e (Ok x) same = same x.0 x.1
after_step n e (Err d) same = refl

undotted_is : (n : ℕ) (e : Expr) (stop : ℕ) (ls : List Lexeme) → (chain_at n e (reading stop ls) >>= undotted) ≡ steps_at n e (reading stop ls)
unfolding chain_at steps_at one
undotted_is zero e stop [] = refl
undotted_is (suc n) e stop [] = refl
undotted_is zero e stop (x ∷ xs) =
    elim (cases_Bool (has_kind Dot x.symbol)) [
      | inl fits ↦
          elim (cases_Bool (begins_with is_selector xs)) [
            | inl selector ↦ rw (fits, selector) refl
            | inr other ↦ rw (fits, other) refl
          ]
      | inr none ↦ rw none refl
    ]
undotted_is (suc n) e stop (x ∷ xs) =
    elim (cases_Bool (has_kind Dot x.symbol)) [
      | inl fits ↦
          elim (cases_Bool (begins_with is_selector xs)) [
            | inl selector ↦ rw (fits, selector) (after_step n e (step_at (reading stop xs)) (λ s t. undotted_is n (extended e s) t.stop t.left))
            | inr other ↦ rw (fits, other, step_none stop xs other) refl
          ]
      | inr none ↦ rw none refl
    ]

-- the guard of the dot only remembers
pub agrees_dot : Agrees selector_dot (λ x. tt) (skip (has_kind Dot))
unfolding one
agrees_dot = record { same = by_first }
  where
    by_first : (stop : ℕ) (s : GuardState) (ls : List Lexeme) → skip (has_kind Dot) (reading stop ls) ≡ given (λ (_ : Lexeme). tt) stop (read_tree selector_dot (misfit_at stop) s ls)
    by_first stop s [] = refl
    by_first stop s (x ∷ xs) =
        elim (cases_Bool (has_kind Dot x.symbol)) [
          | inl fits ↦ rw fits refl
          | inr other ↦ rw other refl
        ]

-- a fault is the same by any function
err_given : {T A B : Type 0} (view : T → A) (other : T → B) (stop : ℕ) (o : TreeOutcome T) (d : ScenarioFault) → given view stop o ≡ Err d → given other stop o ≡ Err d
err_given view other stop (Ok a) d h = absurd cc
err_given view other stop (Err e) d h = let same : fault_as e.fault ≡ d = cc in ap (λ (f : ScenarioFault). Err f) same

-- where no selector comes, the grammar's reader is stuck too
no_selector_read : {A : Type 0} (view : ParseTree selector → A) (stop : ℕ) (s : GuardState) (ls : List Lexeme) → begins_with is_selector ls ≡ false → given view stop (read_tree selector (misfit_at stop) s ls) ≡ Err (stuck_at stop ls)
no_selector_read view stop s ls none = err_given selector_of_tree view stop (read_tree selector (misfit_at stop) s ls) (stuck_at stop ls) (sym (agrees_selector.same stop s ls) ∙ step_none stop ls none)

-- after the last selector that may be, and a dot
after_last : (e : Expr) (stop : ℕ) (s : GuardState) (d : Lexeme) (ds : List Lexeme) → cond (begins_with is_selector ds) (Err (TooLongExpression d.place)) (Err (stuck_at stop ds))
    ≡ given (selected e) stop (read_tree (guarded no_selector selector) (misfit_at stop) (record s { dot = d.place }) ds)
after_last e stop s d [] = sym (no_selector_read (selected e) stop (record s { dot = d.place }) [] refl)
after_last e stop s d (w ∷ ws) =
    elim (cases_Bool (is_selector w.symbol)) [
      | inl fits ↦ rw (fits, selector_first w.symbol, fits) refl
      | inr other ↦ rw (other, selector_first w.symbol, other) (sym (no_selector_read (selected e) stop (record s { dot = d.place }) (w ∷ ws) other))
    ]

-- what a tree of the last round says
abbrev last_path : Expr → ParseTree (selector_dot then guarded no_selector selector or nothing) → Expr
last_path e = either (λ t. selected e t.1) (λ end. e)

last_same : (e : Expr) (stop : ℕ) (s : GuardState) (ls : List Lexeme) → steps_at zero e (reading stop ls) ≡ given (last_path e) stop (read_tree (selector_dot then guarded no_selector selector or nothing) (misfit_at stop) s ls)
unfolding steps_at one
last_same e stop s [] = refl
last_same e stop s (d ∷ ds) =
    elim (cases_Bool (has_kind Dot d.symbol)) [
      | inl fits ↦
          rw fits
          (after_last e stop s d ds
          ∙ given_with (pair_of d) (λ (t : ParseTree (selector_dot then guarded no_selector selector)). selected e t.1) stop (read_tree (guarded no_selector selector) (misfit_at stop) (record s { dot = d.place }) ds)
          ∙ given_with (λ a. inl a) (last_path e) stop (read_tree (guarded no_selector selector) (misfit_at stop) (record s { dot = d.place }) ds ⟫ with_tree (pair_of d)))
      | inr other ↦ rw other refl
    ]

pub agrees_path : (n : ℕ) (e : Expr) → Agrees (repeated n no_selector selector_dot selector nothing) (path_of_tree n e) (steps_at n e)
unfolding repeated path_of_tree steps_at
agrees_path zero e = record { same = λ stop s ls. last_same e stop s ls }
agrees_path (suc n) e =
    agrees_or (has_kind Dot) (λ s. or_false (has_kind Dot s))
    (agrees_then (λ t u. path_of_tree n (selected e u.0) u.1) (λ _ r. step_at r >>= λ s. steps_at n (extended e s.0) s.1) agrees_dot
    (λ t. agrees_then (λ u w. path_of_tree n (selected e u) w) (λ s r. steps_at n (extended e s) r) agrees_selector
    (λ u. subst (λ (x : Expr). Agrees (repeated n no_selector selector_dot selector nothing) (path_of_tree n x) (steps_at n (extended e (selector_of_tree u)))) (selected_is e u) (agrees_path n (extended e (selector_of_tree u))))))
    (agrees_nothing e)

pub agrees_expression : Agrees expression expression_of_tree expression_at
unfolding expression_at
agrees_expression =
    agrees_then (λ t u. path_of_tree MAX_SELECTORS (root_of_tree (codes "doc" ∷ []) t) u) (λ e r. chain_at MAX_SELECTORS e r >>= λ c. undotted c) agrees_root
    (λ t. agrees_so (λ r. chain_at MAX_SELECTORS (root_of_tree (codes "doc" ∷ []) t) r >>= λ c. undotted c) (λ r. undotted_is MAX_SELECTORS (root_of_tree (codes "doc" ∷ []) t) r.stop r.left)
    (agrees_path MAX_SELECTORS (root_of_tree (codes "doc" ∷ []) t)))

-- ---- what is read

pub exactly : (r : Reading) → IsExactly (IsExpression r.left) (IsNoExpression r) (only_expression_at r)
unfolding only_expression_at
exactly r = agrees_exactly agrees_expression scenarios_decided.0 r

pub expression_kind : {X : Type 0} (r : Reading) (view : X → Expr) (result : Result X ScenarioFault) → MapsResult view result (only_expression_at r) → IfErr result IsOfSentence
unfolding only_expression_at
expression_kind r view result h = kind_so agrees_expression expression_sentences r view result h
