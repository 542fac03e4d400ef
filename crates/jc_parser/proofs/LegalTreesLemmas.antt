-- About `LegalSymbolLaws`: what a tree says that has legal symbols, and in which no guard refuses, is legal.
use Rattle.std.proofs.Common.{◌≡◌, ℕ, zero, suc, ◌+◌, ◌≤◌, ◌<◌, inl, inr, true, false, List, [], ◌∷◌, ◌++◌, None, refl, ap, subst, length, arith}
use Rattle.std.specs.Prelude.{codes, nat_lt, not}
use Rattle.std.specs.List.{All, AllByRecursion}
use Rattle.std.specs.Str.{bytes_eq}
use Rattle.std.proofs.lemmas.Bool.{cases_Bool, ltb-true}
use Rattle.std.proofs.lemmas.List.{map-append}
use Rattle.std.proofs.lemmas.List.Elements.{All-nil, All-cons}
use Rattle.jc_rules.specs.declared.limits.TheConstants.{MAX_SELECTORS, MAX_COMMANDS}
use Rattle.jc_rules.specs.declared.version.Version.{Version}
use Rattle.jc_rules.specs.declared.version.Version.TheVariants.{One, Two}
use Rattle.jc_rules.specs.Syntax.{Expr, Variable, Cmd}
use Rattle.jc_syntax.specs.declared.token.TokenKind.TheVariants.{Name, Number, Str, Semi}
use Rattle.jc_syntax.specs.declared.tree.Named.{Named}
use Rattle.jc_syntax.specs.declared.tree.NamedEvent.{NamedEvent}
use Rattle.jc_grammar.specs.Symbols.{Symbol, word, number, string, Lexeme, symbols}
use Rattle.jc_grammar.specs.SymbolTests.{has_kind, value_of_symbol, numeral_value, is_reserved}
use Rattle.jc_grammar.specs.Classes.{is_of, other_word, is_in}
use Rattle.jc_grammar.specs.Guards.{GuardState, Verdict, refuses, passes, Guard, verdict_of, no_selector, no_command, free_binding, free_root, small_index}
use Rattle.jc_grammar.specs.Grammar.{Grammar, nothing, ◌then◌, ◌or◌, guarded, listed, chained, repeated, ParseTree, leaves, FitsClasses, verdict_at, state_after, refusal_by, first_refusal}
use Rattle.jc_grammar.specs.ScenarioGrammar.{token, in_parens, index, selector, root_but, selector_dot, expression, literal, assignment, ending, change, binding, command, script, identifier, common_action, action, event}
use Rattle.jc_grammar.specs.Limits.{items_in}
use Rattle.jc_grammar.proofs.LimitsLemmas.{both_none, is_refused, limits_kept}
use Rattle.jc_parser.specs.NamedTrees.{call_of}
use Rattle.jc_parser.specs.GrammarTrees.{value_of, number_of, named, inside, items_of, selected, root_of_tree, path_of_tree, expression_of_tree, value_of_tree, ending_of_tree, assignment_of_tree, change_of_tree, binding_of_tree, update_of_tree, command_of_tree, script_of_tree, counter_of, author_of, taken, common_of_tree, action_of_tree, event_of_tree}
use Rattle.jc_parser.specs.Expressions.{selector_count, HasLegalParts, IsWellFormedExpression}
use Rattle.jc_parser.specs.Scripts.{IsCommandWellFormed, IsScriptWellFormed}
use Rattle.jc_parser.specs.Events.{IsCallWellFormed, HasCall}
use Rattle.jc_parser.specs.LegalSymbols.{IsName, IsNumeric, IsContent, IsLegalExpr, IsLegalValue, IsLegalCmd, IsLegalCall}
use Rattle.jc_parser.proofs.GrammarAgreesLemmas.{at_place}
use Rattle.jc_parser.proofs.LegalTokensLemmas.{IsLegalSymbol}

abbrev pub AreLegal : List Symbol → Type 0
AreLegal w = AllByRecursion IsLegalSymbol w

both : (u v : List Symbol) → AreLegal (u ++ v) → AreLegal u × AreLegal v
both [] v h = (tt, h)
both (s ∷ u) v h = let rest = both u v h.1 in ((h.0, rest.0), rest.1)

-- ---- sound trees

-- a tree with legal symbols, in which no guard refuses with these lexemes behind it
pub record Sound (g : Grammar) (s : GuardState) (t : ParseTree g) (u : List Lexeme) : Type 0 where
  pub fits : FitsClasses g t
  pub clear : first_refusal g s t u ≡ None
  pub legal : AreLegal (symbols (leaves g t))

pub first : {g h : Grammar} {s : GuardState} {t : ParseTree (g then h)} {u : List Lexeme} → Sound (g then h) s t u → Sound g s t.0 (leaves h t.1 ++ u)
first {g} {h} {s} {t} {u} k =
    let (none, rest) = both_none (first_refusal g s t.0 (leaves h t.1 ++ u)) (first_refusal h (state_after g s t.0) t.1 u) k.clear in
    let (own, more) = both (symbols (leaves g t.0)) (symbols (leaves h t.1)) (subst AreLegal (map-append (λ (l : Lexeme). l.symbol) (leaves g t.0) (leaves h t.1)) k.legal) in
    record { fits = k.fits.0; clear = none; legal = own }

pub second : {g h : Grammar} {s : GuardState} {t : ParseTree (g then h)} {u : List Lexeme} → Sound (g then h) s t u → Sound h (state_after g s t.0) t.1 u
second {g} {h} {s} {t} {u} k =
    let (none, rest) = both_none (first_refusal g s t.0 (leaves h t.1 ++ u)) (first_refusal h (state_after g s t.0) t.1 u) k.clear in
    let (own, more) = both (symbols (leaves g t.0)) (symbols (leaves h t.1)) (subst AreLegal (map-append (λ (l : Lexeme). l.symbol) (leaves g t.0) (leaves h t.1)) k.legal) in
    record { fits = k.fits.1; clear = rest; legal = more }

pub left : {g h : Grammar} {s : GuardState} {t : ParseTree g} {u : List Lexeme} → Sound (g or h) s (inl t) u → Sound g s t u
left k = record { fits = k.fits; clear = k.clear; legal = k.legal }

pub right : {g h : Grammar} {s : GuardState} {t : ParseTree h} {u : List Lexeme} → Sound (g or h) s (inr t) u → Sound h s t u
right k = record { fits = k.fits; clear = k.clear; legal = k.legal }

-- a guard passes, and what it guards is sound
pub record Passed (c : Guard) (g : Grammar) (s : GuardState) (t : ParseTree g) (u : List Lexeme) : Type 0 where
  pub own : GuardState
  pub passed : verdict_at c s (leaves g t ++ u) ≡ passes own
  pub sound : Sound g own t u

pub guard_passed : {c : Guard} {g : Grammar} {s : GuardState} {t : ParseTree g} {u : List Lexeme} → Sound (guarded c g) s t u → Passed c g s t u
guard_passed {c} {g} {s} {t} {u} k = by_verdict (verdict_at c s (leaves g t ++ u)) refl k.clear
  where
    by_verdict : (v : Verdict) → verdict_at c s (leaves g t ++ u) ≡ v → refusal_by v (leaves g t ++ u) (λ own. first_refusal g own t u) ≡ None → Passed c g s t u
    by_verdict (refuses e) is none = absurd cc
    by_verdict (passes own) is none = record { own = own; passed = is; sound = record { fits = k.fits; clear = none; legal = k.legal } }

-- ---- leaves

name_legal : (x : Symbol) → has_kind Name x ≡ true → IsLegalSymbol x → IsName (value_of_symbol x)
name_legal (word b) fits legal = legal
name_legal x fits legal = absurd cc

number_legal : (x : Symbol) → has_kind Number x ≡ true → IsLegalSymbol x → IsNumeric (value_of_symbol x)
number_legal (number b) fits legal = legal
number_legal x fits legal = absurd cc

string_legal : (x : Symbol) → has_kind Str x ≡ true → IsLegalSymbol x → IsContent (value_of_symbol x)
string_legal (string b) fits legal = legal
string_legal x fits legal = absurd cc

pub name_sound : {s : GuardState} {x : Lexeme} {u : List Lexeme} → Sound (token Name) s x u → IsName (value_of x)
name_sound {x = x} k = name_legal x.symbol k.fits k.legal.0

-- ---- expressions

abbrev IsGood : Expr → Type 0
IsGood e = HasLegalParts e × IsLegalExpr e

-- the words that are no variable have `doc` among them
abbrev HasDoc : List (List ℕ) → Type 0
HasDoc words = (w : List ℕ) → not (is_in w words) ≡ true → bytes_eq w (codes "doc") ≡ false

variable_good : (words : List (List ℕ)) → HasDoc words → (place : ℕ) (x : Symbol) (s own : GuardState) → is_of (other_word words) x ≡ true → verdict_of free_root s (at_place place x) ≡ passes own → IsLegalSymbol x → IsGood (Variable (value_of_symbol x))
variable_good words doc place (word w) s own fits passed legal =
    let no_doc : bytes_eq w (codes "doc") ≡ false = doc w fits in
    elim (cases_Bool (is_reserved w)) [
      | inl reserved ↦ let bad = rw (reserved, no_doc) at passed in absurd cc
      | inr free ↦ (free, legal)
    ]
variable_good words doc place x s own fits passed legal = absurd cc

root_good : (words : List (List ℕ)) → HasDoc words → {s : GuardState} (t : ParseTree (root_but words)) {u : List Lexeme} → Sound (root_but words) s t u → IsGood (root_of_tree words t)
root_good words doc (inl x) k = (tt, tt)
root_good words doc {s} (inr x) k = let p = guard_passed k in variable_good words doc x.place x.symbol s p.own k.fits p.passed k.legal.0

index_small : {s : GuardState} (x : Lexeme) {u : List Lexeme} → Sound index s x u → number_of x < 4294967296
index_small {s} x k = by_passed (guard_passed k).passed
  where
    by_passed : {own : GuardState} → verdict_of small_index s x ≡ passes own → number_of x < 4294967296
    by_passed h =
        elim (cases_Bool (nat_lt (numeral_value (value_of_symbol x.symbol)) 4294967296)) [
          | inl less ↦ ltb-true (numeral_value (value_of_symbol x.symbol)) 4294967296 less
          | inr more ↦ let bad = rw more at h in absurd cc
        ]

-- what stands between parentheses
within : (g : Grammar) {s : GuardState} (t : ParseTree (in_parens g)) {u : List Lexeme} → Sound (in_parens g) s t u → (own : GuardState) × (after : List Lexeme) × Sound g own (inside g t) after
within g t k = (_, _, first (second k))

selected_good : (e : Expr) {s : GuardState} (t : ParseTree selector) {u : List Lexeme} → IsGood e → Sound selector s t u → IsGood (selected e t)
selected_good e (inl t) good k =
    let (own, after, key) = within (token Str) t.1 (second (left k)) in
    (good.0, (string_legal (inside (token Str) t.1).symbol key.fits key.legal.0, good.1))
selected_good e (inr (inl t)) good k =
    let (own, after, counted) = within index t.1 (second (left (right k))) in
    ((index_small (inside index t.1) counted, good.0), good.1)
selected_good e (inr (inr (inl t))) good k = good
selected_good e (inr (inr (inr t))) good k = good

selected_count : (e : Expr) (t : ParseTree selector) → selector_count (selected e t) ≡ suc (selector_count e)
selected_count e (inl t) = refl
selected_count e (inr (inl t)) = refl
selected_count e (inr (inr (inl t))) = refl
selected_count e (inr (inr (inr t))) = refl

-- a selector past the limit is refused
none_past : {s : GuardState} {t : ParseTree selector} {u : List Lexeme} → Sound (guarded no_selector selector) s t u → ⊥
none_past {s} {t} {u} k = is_refused no_selector selector (λ own x. (_, refl)) refl s t u k.clear

path_good : (n : ℕ) (e : Expr) {s : GuardState} (t : ParseTree (repeated n no_selector selector_dot selector nothing)) {u : List Lexeme} → IsGood e → Sound (repeated n no_selector selector_dot selector nothing) s t u
    → IsGood (path_of_tree n e t) × (selector_count (path_of_tree n e t) ≤ selector_count e + n)
unfolding repeated path_of_tree
path_good zero e (inl t) good k = absurd (none_past (second (left k)))
path_good zero e (inr t) good k = (good, omega arith)
path_good (suc n) e (inl t) good k =
    let more = second (left k) in
    let (own, few) = path_good n (selected e t.1.0) t.1.1 (selected_good e t.1.0 good (first more)) (second more) in
    let count = selected_count e t.1.0 in
    (own, omega (arith, few, count))
path_good (suc n) e (inr t) good k = (good, omega arith)

root_count : (words : List (List ℕ)) (t : ParseTree (root_but words)) → selector_count (root_of_tree words t) ≡ 0
root_count words (inl x) = refl
root_count words (inr x) = refl

doc_alone : HasDoc (codes "doc" ∷ [])
doc_alone w h =
    elim (cases_Bool (bytes_eq w (codes "doc"))) [
      | inl is ↦ let bad = rw is at h in absurd cc
      | inr other ↦ other
    ]

doc_last : HasDoc (codes "let" ∷ codes "yield" ∷ codes "doc" ∷ [])
doc_last w h =
    elim (cases_Bool (bytes_eq w (codes "let"))) [
      | inl is ↦ let bad = rw is at h in absurd cc
      | inr no_let ↦
          elim (cases_Bool (bytes_eq w (codes "yield"))) [
            | inl is ↦ let bad = rw (no_let, is) at h in absurd cc
            | inr no_yield ↦ doc_alone w (rw (no_let, no_yield) at h)
          ]
    ]

pub expression_good : {s : GuardState} (t : ParseTree expression) {u : List Lexeme} → Sound expression s t u → IsWellFormedExpression (expression_of_tree t) × IsLegalExpr (expression_of_tree t)
expression_good t k =
    let root = root_good (codes "doc" ∷ []) doc_alone t.0 (first k) in
    let (good, few) = path_good MAX_SELECTORS (root_of_tree (codes "doc" ∷ []) t.0) t.1 root (second k) in
    let count = root_count (codes "doc" ∷ []) t.0 in
    (record { parts = good.0; selectors = omega (arith, few, count) }, good.1)

-- ---- commands

value_good : {s : GuardState} (t : ParseTree literal) {u : List Lexeme} → Sound literal s t u → IsLegalValue (value_of_tree t)
value_good (inl x) k = number_legal x.symbol k.fits k.legal.0
value_good (inr (inl x)) k = string_legal x.symbol k.fits k.legal.0
value_good (inr (inr (inl x))) k = tt
value_good (inr (inr (inr (inl x)))) k = tt
value_good (inr (inr (inr (inr (inl x))))) k = tt
value_good (inr (inr (inr (inr (inr (inl t)))))) k = tt
value_good (inr (inr (inr (inr (inr (inr t)))))) k = tt

abbrev pub IsGoodCommand : Cmd → Type 0
IsGoodCommand c = IsCommandWellFormed c × IsLegalCmd c

formed : (e : Expr) → IsGood e → selector_count e ≤ MAX_SELECTORS → IsWellFormedExpression e
formed e good few = record { parts = good.0; selectors = few }

ending_good : (e : Expr) → IsGood e → selector_count e ≤ MAX_SELECTORS → {s : GuardState} (t : ParseTree ending) {u : List Lexeme} → Sound ending s t u → IsGoodCommand (ending_of_tree e t)
ending_good e good few (inl t) k =
    let (own, after, value) = within literal t.1 (second (left k)) in
    (formed e good few, (good.1, value_good (inside literal t.1) value))
ending_good e good few (inr t) k = (formed e good few, good.1)

assignment_good : (e : Expr) → IsGood e → selector_count e ≤ MAX_SELECTORS → {s : GuardState} (t : ParseTree assignment) {u : List Lexeme} → Sound assignment s t u → IsGoodCommand (assignment_of_tree e t)
assignment_good e good few t k = (formed e good few, (good.1, value_good t.1 (second k)))

change_good : (n : ℕ) (e : Expr) → IsGood e → selector_count e + n ≤ MAX_SELECTORS → {s : GuardState} (t : ParseTree (chained n no_selector selector_dot selector assignment ending)) {u : List Lexeme} → Sound (chained n no_selector selector_dot selector assignment ending) s t u → IsGoodCommand (change_of_tree n e t)
unfolding chained change_of_tree
change_good zero e good few (inl (dot, inl past)) k = absurd (none_past (left (second (left k))))
change_good zero e good few (inl (dot, inr t)) k = ending_good e good (omega (arith, few)) t (right (second (left k)))
change_good zero e good few (inr t) k = assignment_good e good (omega (arith, few)) t (right k)
change_good (suc n) e good few (inl (dot, inl (own, more))) k =
    let rest = left (second (left k)) in
    let count = selected_count e own in
    change_good n (selected e own) (selected_good e own good (first rest)) (omega (arith, few, count)) more (second rest)
change_good (suc n) e good few (inl (dot, inr t)) k = ending_good e good (omega (arith, few)) t (right (second (left k)))
change_good (suc n) e good few (inr t) k = assignment_good e good (omega (arith, few)) t (right k)

binding_name_free : {s : GuardState} (x : Lexeme) {u : List Lexeme} → Sound (guarded free_binding (token Name)) s x u → is_reserved (value_of x) ≡ false
binding_name_free {s} x k = by_passed (guard_passed k).passed
  where
    by_passed : {own : GuardState} → verdict_of free_binding s x ≡ passes own → is_reserved (value_of x) ≡ false
    by_passed h =
        elim (cases_Bool (is_reserved (value_of x))) [
          | inl reserved ↦ let bad = rw reserved at h in absurd cc
          | inr free ↦ free
        ]

binding_good : {s : GuardState} (t : ParseTree binding) {u : List Lexeme} → Sound binding s t u → IsGoodCommand (binding_of_tree t)
binding_good (lead, (name, (sign, expr))) k =
    let bound = first (second k) in
    let (right_formed, right_legal) = expression_good expr (second (second (second k))) in
    ((binding_name_free name bound, right_formed), (name_sound (guard_passed bound).sound, right_legal))

update_good : {s : GuardState} (t : ParseTree change) {u : List Lexeme} → Sound change s t u → IsGoodCommand (update_of_tree t)
update_good t k =
    let words : List (List ℕ) = codes "let" ∷ codes "yield" ∷ codes "doc" ∷ [] in
    let count = root_count words t.0 in
    change_good MAX_SELECTORS (root_of_tree words t.0) (root_good words doc_last t.0 (first k)) (omega (arith, count)) t.1 (second k)

command_good : {s : GuardState} (t : ParseTree command) {u : List Lexeme} → Sound command s t u → IsGoodCommand (command_of_tree t)
command_good (inl x) k = (tt, tt)
command_good (inr (inl t)) k = binding_good t (left (right k))
command_good (inr (inr t)) k = update_good t (right (right k))

-- ---- lists

-- what is so of each item's tree is so of each item
pub items_all : {A : Type 0} (P : A → Type 0) (n : ℕ) (c : Guard) (x y : Grammar) (item : ParseTree x → A) → ((s : GuardState) (t : ParseTree x) (u : List Lexeme) → Sound x s t u → P (item t))
    → {s : GuardState} (t : ParseTree (listed n c x y)) {u : List Lexeme} → Sound (listed n c x y) s t u → All P (items_of n c x y item t)
unfolding listed items_of
items_all P zero c x y item each (inl t) k = All-cons P (item t) [] (each _ t _ (guard_passed (left k)).sound) (All-nil P)
items_all P zero c x y item each (inr t) k = All-nil P
items_all P (suc n) c x y item each (inr t) k = All-nil P
items_all P (suc n) c x y item each (inl (a, inr end)) k = All-cons P (item a) [] (each _ a _ (first (left k))) (All-nil P)
items_all P (suc n) c x y item each (inl (a, inl (b, more))) k = All-cons P (item a) (items_of n c x y item more) (each _ a _ (first (left k))) (items_all P n c x y item each more (second (left (second (left k)))))

pub items_counted : {A : Type 0} (n : ℕ) (c : Guard) (x y : Grammar) (item : ParseTree x → A) (t : ParseTree (listed n c x y)) → length (items_of n c x y item t) ≡ items_in n c x y t
unfolding listed items_of items_in
items_counted zero c x y item (inl t) = refl
items_counted zero c x y item (inr t) = refl
items_counted (suc n) c x y item (inr t) = refl
items_counted (suc n) c x y item (inl (a, inr end)) = refl
items_counted (suc n) c x y item (inl (a, inl (b, more))) = ap suc (items_counted n c x y item more)

pub script_good : {s : GuardState} (t : ParseTree script) {u : List Lexeme} → Sound script s t u → IsScriptWellFormed (script_of_tree t) × All IsLegalCmd (script_of_tree t)
script_good {s} t {u} k =
    let count = items_counted MAX_COMMANDS no_command command (token Semi) command_of_tree t in
    let few = limits_kept.commands s t u k.clear in (
      record { commands = omega (arith, count, few); each = items_all IsCommandWellFormed MAX_COMMANDS no_command command (token Semi) command_of_tree (λ s a u own. (command_good a own).0) t k },
      items_all IsLegalCmd MAX_COMMANDS no_command command (token Semi) command_of_tree (λ s a u own. (command_good a own).1) t k,
    )

-- ---- events

abbrev pub IsGoodEvent : Version → NamedEvent → Type 0
IsGoodEvent v e = IsCallWellFormed (call_of e) × IsLegalCall (call_of e) × HasCall v (call_of e)

identifier_good : {s : GuardState} (t : ParseTree identifier) {u : List Lexeme} → Sound identifier s t u → (counter_of t < 4294967296) × IsName (author_of t).name
identifier_good t k = (index_small t.0 (first k), name_sound (second (second k)))

common_good : (v : Version) (p : Named) → IsName p.name → {s : GuardState} (t : ParseTree common_action) {u : List Lexeme} → Sound common_action s t u → IsGoodEvent v (common_of_tree p t)
common_good v p own (inl x) k = (tt, own, tt)
common_good v p own (inr (inl x)) k = (tt, own, tt)
common_good v p own (inr (inr (inl t))) k =
    let (state, after, sender) = within (token Name) t.1 (second (left (right (right k)))) in
    (tt, (own, name_sound sender), tt)
common_good v p own (inr (inr (inr (inl t)))) k =
    let (state, after, ids) = within identifier t.1 (second (left (right (right (right k))))) in
    let (small, author) = identifier_good (inside identifier t.1) ids in
    (small, (own, author), tt)
common_good v p own (inr (inr (inr (inr x)))) k = (tt, own, tt)

action_good : (v : Version) (p : Named) → IsName p.name → {s : GuardState} (t : ParseTree (action v)) {u : List Lexeme} → Sound (action v) s t u → IsGoodEvent v (action_of_tree v p t)
action_good One p own t k = common_good One p own t k
action_good Two p own (inl t) k =
    let (state, after, parts) = within taken t.1 (second (left k)) in
    let (small, author) = identifier_good (inside taken t.1).1.1 (second (second parts)) in
    (small, (own, name_sound (first parts), author), tt)
action_good Two p own (inr t) k = common_good Two p own t (right k)

pub event_good : (v : Version) {s : GuardState} (t : ParseTree (event v)) {u : List Lexeme} → Sound (event v) s t u → IsGoodEvent v (event_of_tree v t)
event_good v t k = action_good v (named t.0) (name_sound (first k)) t.1.1 (second (second k))
