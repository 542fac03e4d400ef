-- A grammar as a value: its trees, the lexemes that each is spelled with, and what its guards refuse in it.
use Rattle.std.specs.Prelude.{◌≡◌, ℕ, zero, suc, ◌⊎◌, List, [], ◌∷◌, ◌++◌, true, Option, Some, None}
use Rattle.std.proofs.Common.{inl, inr}
use Rattle.jc_grammar.specs.Symbols.{Lexeme}
use Rattle.jc_grammar.specs.Classes.{Class, is_of}
use Rattle.jc_grammar.specs.Guards.{TextFault, GuardState, Verdict, refuses, passes, Guard, verdict_of}

-- One symbol of a class; nothing; one part after another; one of two parts; a part with a guard at its first symbol.
pub data Grammar : Type 0 where
  symbol : Class → Grammar
  nothing : Grammar
  ◌then◌ : Grammar → Grammar → Grammar
  ◌or◌ : Grammar → Grammar → Grammar
  guarded : Guard → Grammar → Grammar

infixr 20 ◌then◌
infixr 10 ◌or◌
-- ---- lists, with limits

-- x, and behind each y one more, with or without y behind the last. At most n, and the guard is at one more.
unfoldable pub listed : ℕ → Guard → Grammar → Grammar → Grammar
listed zero c x y = guarded c x or nothing
listed (suc n) c x y = x then (y then listed n c x y or nothing) or nothing

-- x and y again and again, then e; or x and f at their end. At most n times y, and the guard is at one more.
unfoldable pub chained : ℕ → Guard → Grammar → Grammar → Grammar → Grammar → Grammar
chained zero c x y e f = x then (guarded c y or f) or e
chained (suc n) c x y e f = x then (y then chained n c x y e f or f) or e

-- x and y again and again, then e. At most n times, and the guard is at one more y.
unfoldable pub repeated : ℕ → Guard → Grammar → Grammar → Grammar → Grammar
repeated zero c x y e = x then guarded c y or e
repeated (suc n) c x y e = x then y then repeated n c x y e or e

-- ---- trees

-- a tree of a grammar has each lexeme at its leaf
abbrev pub ParseTree : Grammar → Type 0
ParseTree (symbol c) = Lexeme
ParseTree nothing = Unit {0}
ParseTree (g then h) = ParseTree g × ParseTree h
ParseTree (g or h) = ParseTree g ⊎ ParseTree h
ParseTree (guarded c g) = ParseTree g

-- its lexemes, from left to right
abbrev pub leaves : (g : Grammar) → ParseTree g → List Lexeme
leaves (symbol c) x = x ∷ []
leaves nothing t = []
leaves (g then h) t = leaves g t.0 ++ leaves h t.1
leaves (g or h) (inl t) = leaves g t
leaves (g or h) (inr t) = leaves h t
leaves (guarded c g) t = leaves g t

-- each symbol is of its class
abbrev pub FitsClasses : (g : Grammar) → ParseTree g → Type 0
FitsClasses (symbol c) x = is_of c x.symbol ≡ true
FitsClasses nothing t = Unit {0}
FitsClasses (g then h) t = FitsClasses g t.0 × FitsClasses h t.1
FitsClasses (g or h) (inl t) = FitsClasses g t
FitsClasses (g or h) (inr t) = FitsClasses h t
FitsClasses (guarded c g) t = FitsClasses g t

-- ---- what guards refuse

-- a fault, and the lexemes from the one on at which it is noticed
pub record NoticedFault : Type 0 where
  pub fault : TextFault
  pub rest : List Lexeme

abbrev pub first_of : Option NoticedFault → Option NoticedFault → Option NoticedFault
first_of None e = e
first_of (Some d) e = Some d

abbrev pub verdict_at : Guard → GuardState → List Lexeme → Verdict
verdict_at c s [] = passes s
verdict_at c s (x ∷ xs) = verdict_of c s x

abbrev pub state_by : Verdict → GuardState → (GuardState → GuardState) → GuardState
state_by (refuses e) s k = s
state_by (passes own) s k = k own

-- what the guards remember behind a tree
abbrev pub state_after : (g : Grammar) → GuardState → ParseTree g → GuardState
state_after (symbol c) s x = s
state_after nothing s t = s
state_after (g then h) s t = state_after h (state_after g s t.0) t.1
state_after (g or h) s (inl t) = state_after g s t
state_after (g or h) s (inr t) = state_after h s t
state_after (guarded c g) s t = state_by (verdict_at c s (leaves g t)) s (λ own. state_after g own t)

abbrev pub refusal_by : Verdict → List Lexeme → (GuardState → Option NoticedFault) → Option NoticedFault
refusal_by (refuses e) ls k = Some (record { fault = e; rest = ls })
refusal_by (passes s) ls k = k s

-- what a guard first refuses in a tree with these lexemes behind it, if one does
abbrev pub first_refusal : (g : Grammar) → GuardState → ParseTree g → List Lexeme → Option NoticedFault
first_refusal (symbol c) s x u = None
first_refusal nothing s t u = None
first_refusal (g then h) s t u =
    first_of (first_refusal g s t.0 (leaves h t.1 ++ u)) (first_refusal h (state_after g s t.0) t.1 u)
first_refusal (g or h) s (inl t) u = first_refusal g s t u
first_refusal (g or h) s (inr t) u = first_refusal h s t u
first_refusal (guarded c g) s t u =
    refusal_by (verdict_at c s (leaves g t ++ u)) (leaves g t ++ u) (λ own. first_refusal g own t u)
