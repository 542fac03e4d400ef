-- About `GrammarTrees`: the reader of lists with `;` reads a list of the grammar.
use Rattle.std.proofs.Common.{◌≡◌, ℕ, zero, suc, ◌⊎◌, inl, inr, Bool, true, false, cond, List, [], ◌∷◌, Ok, Err, refl, sym, ap}
use Rattle.jc_syntax.specs.declared.token.TokenKind.TheVariants.{Semi}
use Rattle.jc_grammar.specs.Symbols.{Symbol, Lexeme}
use Rattle.jc_grammar.specs.SymbolTests.{has_kind}
use Rattle.jc_grammar.specs.Classes.{Class}
use Rattle.jc_grammar.specs.Guards.{TextFault, GuardState, Guard, refuses, verdict_of}
use Rattle.jc_grammar.specs.Grammar.{Grammar, nothing, ◌then◌, ◌or◌, guarded, ParseTree, listed}
use Rattle.jc_grammar.specs.LookAhead.{is_of_any, first_classes}
use Rattle.jc_grammar.specs.TreeReader.{◌⟫◌, with_tree, read_by, read_tree}
use Rattle.jc_grammar.specs.ScenarioGrammar.{token, misfit_at}
use Rattle.jc_grammar.specs.Limits.{either}
use Rattle.jc_parser.specs.declared.fault.ScenarioFault.{ScenarioFault}
use Rattle.jc_parser.specs.ReaderState.{Reading, ReadOutcome, ◌>>=◌, begins_with, skip}
use Rattle.jc_parser.specs.PartReaders.{items_at}
use Rattle.jc_parser.specs.GrammarTrees.{items_of}
use Rattle.jc_parser.proofs.GrammarAgreesLemmas.{reading, fault_as, given, Agrees, agrees_map, agrees_then, agrees_or, agrees_mark, agrees_nothing, agrees_as, or_false}

-- the guard refuses each lexeme, with this fault
abbrev pub RefusesWith : Guard → (Reading → ScenarioFault) → Type 0
RefusesWith c beyond = (stop : ℕ) (s : GuardState) (x : Lexeme) (xs : List Lexeme) → (e : TextFault) × (verdict_of c s x ≡ refuses e) × (fault_as e ≡ beyond (reading stop (x ∷ xs)))

-- whatever comes behind it, it begins where the test says so
abbrev pub AlwaysBeginsBy : Grammar → (Symbol → Bool) → Type 0
AlwaysBeginsBy g p = (cs : List Class) (s : Symbol) → is_of_any (first_classes g cs) s ≡ p s

-- one item more is refused so
agrees_over : {g : Grammar} {A : Type 0} (c : Guard) (p : Symbol → Bool) (view : ParseTree g → List A) (beyond : Reading → ScenarioFault) → AlwaysBeginsBy g p → RefusesWith c beyond
    → Agrees (guarded c g or nothing) (either view (λ _. [])) (λ r. cond (begins_with p r.left) (Err (beyond r)) (Ok ([], r)))
agrees_over {g} {A} c p view beyond same over = record { same = λ stop s ls. by_first stop s ls }
  where
    by_test : (stop : ℕ) (s : GuardState) (x : Lexeme) (xs : List Lexeme) (b d : Bool) → d ≡ b
        → cond b (Err (beyond (reading stop (x ∷ xs)))) (Ok ([], reading stop (x ∷ xs)))
        ≡ given (either view (λ (_ : Unit {0}). [])) stop
        (cond d (cond d (read_by (verdict_of c s x) (x ∷ xs) (λ own. read_tree g (misfit_at stop) own (x ∷ xs))) (read_tree g (misfit_at stop) s (x ∷ xs)) ⟫ with_tree (λ a. inl a)) (Ok (inr tt, s, x ∷ xs)))
    by_test stop s x xs true true h = let (e, verdict, is) = over stop s x xs in rw verdict (ap (λ (f : ScenarioFault). Err f) (sym is))
    by_test stop s x xs false false h = refl
    by_test stop s x xs true false h = absurd cc
    by_test stop s x xs false true h = absurd cc

    by_first : (stop : ℕ) (s : GuardState) (ls : List Lexeme) → cond (begins_with p ls) (Err (beyond (reading stop ls))) (Ok ([], reading stop ls)) ≡ given (either view (λ (_ : Unit {0}). [])) stop (read_tree (guarded c g or nothing) (misfit_at stop) s ls)
    by_first stop s [] = refl
    by_first stop s (x ∷ xs) = by_test stop s x xs (p x.symbol) (is_of_any (first_classes g []) x.symbol) (same [] x.symbol)

cons_either : {A B C : Type 0} (a : C) (f : A → List C) (g : B → List C) (u : A ⊎ B) → either (λ x. a ∷ f x) (λ y. a ∷ g y) u ≡ a ∷ either f g u
cons_either a f g (inl x) = refl
cons_either a f g (inr y) = refl

pub agrees_listed : {x : Grammar} {A : Type 0} {view : ParseTree x → A} {item : Reading → ReadOutcome A} (n : ℕ) (c : Guard) (p : Symbol → Bool) (beyond : Reading → ScenarioFault) → AlwaysBeginsBy x p → RefusesWith c beyond
    → Agrees x view item → Agrees (listed n c x (token Semi)) (items_of n c x (token Semi) view) (items_at p item beyond n)
unfolding listed items_of items_at
agrees_listed {x} {view} zero c p beyond same over X = agrees_over c p (λ t. view t ∷ []) beyond same over
agrees_listed {x} {A} {view} {item} (suc n) c p beyond same over X =
    agrees_or p (λ s. same _ s)
    (agrees_then (λ t u. view t ∷ either (λ more. items_of n c x (token Semi) view more.1) (λ end. []) u)
    (λ a r. cond (begins_with (has_kind Semi) r.left) (skip (has_kind Semi) r >>= λ b. items_at p item beyond n b.1 >>= λ rest. Ok (a ∷ rest.0, rest.1)) (Ok (a ∷ [], r))) X
    (λ t. agrees_as (λ u. view t ∷ either (λ more. items_of n c x (token Semi) view more.1) (λ end. []) u)
    (λ u. cons_either (view t) (λ (more : ParseTree (token Semi then listed n c x (token Semi))). items_of n c x (token Semi) view more.1) (λ (end : Unit {0}). []) u)
    (agrees_or (has_kind Semi) (λ s. or_false (has_kind Semi s))
    (agrees_then (λ u w. view t ∷ items_of n c x (token Semi) view w) (λ _ r. items_at p item beyond n r >>= λ rest. Ok (view t ∷ rest.0, rest.1)) (agrees_mark Semi)
    (λ u. agrees_map (λ rest. view t ∷ rest) (agrees_listed n c p beyond same over X)))
    (agrees_nothing (view t ∷ [])))))
    (agrees_nothing [])
