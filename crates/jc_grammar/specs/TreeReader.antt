-- How a tree is read from left to right: the next symbol chooses, and a guard is asked before its part is read.
use Rattle.std.specs.Prelude.{List, [], ◌∷◌, if◌then◌else◌, Result, Ok, Err}
use Rattle.std.proofs.Common.{inl, inr}
use Rattle.jc_grammar.specs.Symbols.{Lexeme}
use Rattle.jc_grammar.specs.Classes.{Class, is_of}
use Rattle.jc_grammar.specs.Guards.{TextFault, Misfit, GuardState, Verdict, refuses, passes}
use Rattle.jc_grammar.specs.Grammar.{Grammar, symbol, nothing, ◌then◌, ◌or◌, guarded, ParseTree, NoticedFault, verdict_at}
use Rattle.jc_grammar.specs.LookAhead.{begins_with_any, first_classes}

-- what is read, what the guards remember, and what is left
abbrev pub TreeOutcome : Type 0 → Type 0
TreeOutcome A = Result (A × GuardState × List Lexeme) NoticedFault

infixl 10 ◌⟫◌
abbrev pub ◌⟫◌ : {A B : Type 0} → Result A NoticedFault → (A → Result B NoticedFault) → Result B NoticedFault
(Ok x) ⟫ f = f x
(Err e) ⟫ f = Err e

-- the outcome of a part as that of the whole
abbrev pub with_tree : {A B : Type 0} → (A → B) → A × GuardState × List Lexeme → TreeOutcome B
with_tree f a = Ok (f a.0, a.1, a.2)

abbrev pub pair_of : {A B : Type 0} → A → B → A × B
pair_of a b = (a, b)

abbrev pub refused_at : {A : Type 0} → TextFault → List Lexeme → Result A NoticedFault
refused_at e ls = Err (record { fault = e; rest = ls })

abbrev pub read_symbol : Class → Misfit → GuardState → List Lexeme → TreeOutcome Lexeme
read_symbol c misfit s [] = refused_at (misfit []) []
read_symbol c misfit s (x ∷ xs) = if is_of c x.symbol then Ok (x, s, xs) else refused_at (misfit (x ∷ xs)) (x ∷ xs)

abbrev pub read_by : {A : Type 0} → Verdict → List Lexeme → (GuardState → Result A NoticedFault) → Result A NoticedFault
read_by (refuses e) ls k = refused_at e ls
read_by (passes s) ls k = k s

abbrev pub read_tree : (g : Grammar) → Misfit → GuardState → List Lexeme → TreeOutcome (ParseTree g)
read_tree (symbol c) misfit s ls = read_symbol c misfit s ls
read_tree nothing misfit s ls = Ok (tt, s, ls)
read_tree (g then h) misfit s ls =
    read_tree g misfit s ls ⟫ λ a. read_tree h misfit a.1 a.2 ⟫ with_tree (pair_of a.0)
read_tree (g or h) misfit s ls =
    if begins_with_any (first_classes g []) ls
    then (read_tree g misfit s ls ⟫ with_tree (λ a. inl a))
    else (read_tree h misfit s ls ⟫ with_tree (λ b. inr b))
read_tree (guarded c g) misfit s ls =
    if begins_with_any (first_classes g []) ls
    then read_by (verdict_at c s ls) ls (λ own. read_tree g misfit own ls)
    else read_tree g misfit s ls

-- nothing may be left
abbrev pub whole_of : {A : Type 0} → Misfit → A → List Lexeme → Result A NoticedFault
whole_of misfit a [] = Ok a
whole_of misfit a (x ∷ xs) = refused_at (misfit (x ∷ xs)) (x ∷ xs)

-- all of the lexemes
abbrev pub read_whole : (g : Grammar) → Misfit → GuardState → List Lexeme → Result (ParseTree g) NoticedFault
read_whole g misfit s ls = read_tree g misfit s ls ⟫ λ a. whole_of misfit a.0 a.2
