-- What a language is, and the fault of lexemes that are no sentence of it. Nothing here knows how a grammar is read.
use Rattle.std.specs.Prelude.{◌≡◌, ◌≤◌, length, ◌⊎◌, List, [], ◌∷◌, ◌++◌, Option, Some, None, Result, Err}
use Rattle.jc_grammar.specs.Symbols.{Lexeme}
use Rattle.jc_grammar.specs.Guards.{TextFault, Misfit, GuardState}
use Rattle.jc_grammar.specs.Grammar.{Grammar, ParseTree, leaves, FitsClasses, NoticedFault, first_refusal}

-- which lexemes each tree is spelled with, and what the guards first refuse in it
abbrev pub Language : Type 0 → Type 1
Language T = T → Option NoticedFault → List Lexeme → Type 0

-- the language of a grammar, from what the guards remember
abbrev pub IsTreeText : (g : Grammar) → GuardState → Language (ParseTree g)
IsTreeText g s t e ls = FitsClasses g t × (first_refusal g s t [] ≡ e) × (leaves g t ≡ ls)

-- the same, with lexemes behind a tree that are none of its own
abbrev pub IsTreeBefore : (g : Grammar) → GuardState → Language (ParseTree g × List Lexeme)
IsTreeBefore g s t e ls = FitsClasses g t.0 × (first_refusal g s t.0 t.1 ≡ e) × (leaves g t.0 ++ t.1 ≡ ls)

-- some sentence begins so, whatever the guards refuse
abbrev pub BeginsSentence : {T : Type 0} → Language T → List Lexeme → Type 0
BeginsSentence {T} L w = (t : T) × (e : Option NoticedFault) × (more : List Lexeme) × L t e (w ++ more)

-- nothing is refused before these last lexemes
abbrev pub IsRefusedLater : Option NoticedFault → List Lexeme → Type 0
IsRefusedLater None more = Unit {0}
IsRefusedLater (Some e) more = length e.rest ≤ length more

-- some sentence begins so, and nothing is refused in this
pub record BeginsUnrefused {T : Type 0} (L : Language T) (w : List Lexeme) : Type 0 where
  pub tree : T
  pub refused : Option NoticedFault
  pub more : List Lexeme
  pub spelled : L tree refused (w ++ more)
  pub clear : IsRefusedLater refused more

-- with what comes next this begins no sentence; or it is no sentence, and nothing comes next
abbrev pub FitsNoSentence : {T : Type 0} → Language T → List Lexeme → List Lexeme → Type 0
FitsNoSentence {T} L before [] = (t : T) (e : Option NoticedFault) → L t e before → ⊥
FitsNoSentence L before (x ∷ after) = BeginsSentence L (before ++ x ∷ []) → ⊥

-- behind these lexemes, in which nothing is refused, comes what fits nothing
pub record IsMisfit {T : Type 0} (L : Language T) (misfit : Misfit) (ls : List Lexeme) (e : TextFault) : Type 0 where
  pub before : List Lexeme
  pub after : List Lexeme
  pub parts : ls ≡ before ++ after
  pub within : BeginsUnrefused L before
  pub unfit : FitsNoSentence L before after
  pub is : e ≡ misfit after

-- behind these lexemes, in which nothing is refused, comes one that fits, and that a guard refuses
pub record IsGuardFault {T : Type 0} (L : Language T) (ls : List Lexeme) (e : TextFault) : Type 0 where
  pub before : List Lexeme
  pub next : Lexeme
  pub after : List Lexeme
  pub parts : ls ≡ before ++ next ∷ after
  pub within : BeginsUnrefused L before
  pub without : BeginsUnrefused L (before ++ next ∷ []) → ⊥
  pub tree : T
  pub more : List Lexeme
  pub spelled : L tree (Some (record { fault = e; rest = next ∷ more })) (before ++ next ∷ more)

abbrev pub IsFaultIn : {T : Type 0} → Language T → Misfit → List Lexeme → TextFault → Type 0
IsFaultIn L misfit ls e = IsMisfit L misfit ls e ⊎ IsGuardFault L ls e

-- this fault is read, at some lexeme
abbrev pub ReadsFault : {T : Type 0} → Result T NoticedFault → TextFault → Type 0
ReadsFault r e = (rest : List Lexeme) × (r ≡ Err (record { fault = e; rest = rest }))
