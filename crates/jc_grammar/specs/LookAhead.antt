-- Which symbol may come first, and the test that the next symbol decides each choice: LL(1).
use Rattle.std.specs.Prelude.{List, [], ◌∷◌, ◌++◌, Bool, true, false, ◌&&◌, ◌||◌, not}
use Rattle.jc_grammar.specs.Symbols.{Symbol, Lexeme}
use Rattle.jc_grammar.specs.Classes.{Class, is_of, example_of, are_apart}
use Rattle.jc_grammar.specs.Grammar.{Grammar, symbol, nothing, ◌then◌, ◌or◌, guarded}

abbrev pub is_of_any : List Class → Symbol → Bool
is_of_any [] s = false
is_of_any (c ∷ cs) s = is_of c s || is_of_any cs s

-- a lexeme comes, and is of one of these classes
abbrev pub begins_with_any : List Class → List Lexeme → Bool
begins_with_any cs [] = false
begins_with_any cs (x ∷ xs) = is_of_any cs x.symbol

abbrev pub may_be_empty : Grammar → Bool
may_be_empty (symbol c) = false
may_be_empty nothing = true
may_be_empty (g then h) = may_be_empty g && may_be_empty h
may_be_empty (g or h) = may_be_empty g || may_be_empty h
may_be_empty (guarded c g) = may_be_empty g

-- the classes of a first symbol, where these may come behind the grammar: FIRST, with FOLLOW handed in
abbrev pub first_classes : Grammar → List Class → List Class
first_classes (symbol c) after = c ∷ []
first_classes nothing after = after
first_classes (g then h) after = first_classes g (first_classes h after)
first_classes (g or h) after = first_classes g after ++ first_classes h after
first_classes (guarded c g) after = first_classes g after

abbrev pub is_apart_from : Class → List Class → Bool
is_apart_from c [] = true
is_apart_from c (d ∷ ds) = are_apart c d && is_apart_from c ds

abbrev pub all_are_apart : List Class → List Class → Bool
all_are_apart [] ds = true
all_are_apart (c ∷ cs) ds = is_apart_from c ds && all_are_apart cs ds

-- The next symbol decides each choice, where these classes may come behind the grammar. The first of two parts is never
-- empty, nor is a part with a guard. Each class has a symbol.
abbrev pub is_decided : Grammar → List Class → Bool
is_decided (symbol c) after = is_of c (example_of c)
is_decided nothing after = true
is_decided (g then h) after = is_decided g (first_classes h after) && is_decided h after
is_decided (g or h) after =
    not (may_be_empty g)
    && (all_are_apart (first_classes g []) (first_classes h after) && (is_decided g after && is_decided h after))
is_decided (guarded c g) after = not (may_be_empty g) && is_decided g after

-- ---- lists of any length: what has to be tested of their parts

abbrev pub is_list_decided : Grammar → Grammar → List Class → Bool
is_list_decided x y after =
    not (may_be_empty x) && (not (may_be_empty y)
    && (all_are_apart (first_classes x []) after && (all_are_apart (first_classes y []) after
    && (is_decided x (first_classes y [] ++ after) && (is_decided x after
    && is_decided y (first_classes x [] ++ after))))))

abbrev pub is_chain_decided : Grammar → Grammar → Grammar → Grammar → List Class → Bool
is_chain_decided x y e f after =
    not (may_be_empty x) && (not (may_be_empty y)
    && (all_are_apart (first_classes x []) (first_classes e after)
    && (all_are_apart (first_classes y []) (first_classes f after)
    && (is_decided x (first_classes y [] ++ first_classes f after) && (is_decided y after
    && (is_decided y (first_classes x [] ++ first_classes e after) && (is_decided e after && is_decided f after)))))))

abbrev pub is_repetition_decided : Grammar → Grammar → Grammar → List Class → Bool
is_repetition_decided x y e after =
    not (may_be_empty x) && (not (may_be_empty y)
    && (all_are_apart (first_classes x []) (first_classes e after)
    && (is_decided x (first_classes y []) && (is_decided y after
    && (is_decided y (first_classes x [] ++ first_classes e after) && is_decided e after)))))
