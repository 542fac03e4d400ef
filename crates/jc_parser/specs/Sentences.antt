-- Lexemes and texts by a grammar: what they are, or the fault that they have. The four languages are instances.
use Rattle.std.specs.Prelude.{◌≡◌, ◌⊎◌, ℕ, List, ◌++◌, length, Some, None}
use Rattle.jc_syntax.specs.declared.token.Token.{Token}
use Rattle.jc_syntax.specs.declared.fault.LexFault.{LexFault}
use Rattle.jc_syntax.specs.Lexemes.{AreTokensOf, IsFaultOf}
use Rattle.jc_grammar.specs.Symbols.{Lexeme, lexemes}
use Rattle.jc_grammar.specs.Guards.{TextFault, Misfit, nothing_seen}
use Rattle.jc_grammar.specs.Grammar.{Grammar, ParseTree}
use Rattle.jc_grammar.specs.Faults.{Language, IsTreeText, IsTreeBefore, IsFaultIn}
use Rattle.jc_grammar.specs.ScenarioGrammar.{misfit_at}
use Rattle.jc_parser.specs.declared.fault.ScenarioFault.{ScenarioFault}
use Rattle.jc_parser.specs.Faults.{fault_refusal, fault_offset, from_lexer}
use Rattle.jc_parser.specs.ReaderState.{Reading, reading_of}

-- These lexemes are what a tree of the grammar is spelled with, and no guard refuses. This is what the tree says.
pub record IsSentence (g : Grammar) {A : Type 0} (view : ParseTree g → A) (ls : List Lexeme) (a : A) : Type 0 where
  pub tree : ParseTree g
  pub text : IsTreeText g nothing_seen tree None ls
  pub is : a ≡ view tree

-- the fault has this refusal and this offset
abbrev pub IsTextFault : ScenarioFault → TextFault → Type 0
IsTextFault fault own = (fault_refusal fault ≡ Some own.refusal) × (fault_offset fault ≡ Some own.offset)

-- the fault of lexemes that are in no language
abbrev pub IsLanguageFault : {T : Type 0} → Language T → Misfit → List Lexeme → ScenarioFault → Type 0
IsLanguageFault L misfit ls fault = (own : TextFault) × IsFaultIn L misfit ls own × IsTextFault fault own

-- the fault of lexemes that are no text of the grammar
abbrev pub IsSentenceFault : Grammar → Misfit → List Lexeme → ScenarioFault → Type 0
IsSentenceFault g misfit ls fault = IsLanguageFault (IsTreeText g nothing_seen) misfit ls fault

-- the fault of lexemes that begin with no text of the grammar
abbrev pub IsPrefixFault : Grammar → Reading → ScenarioFault → Type 0
IsPrefixFault g r fault = IsLanguageFault (IsTreeBefore g nothing_seen) (misfit_at r.stop) r.left fault

-- a prefix of these lexemes is this, and this many are left
pub record IsAhead {A : Type 0} (Is : List Lexeme → A → Type 0) (ls : List Lexeme) (a : A) (left : ℕ) : Type 0 where
  pub before : List Lexeme
  pub after : List Lexeme
  pub parts : ls ≡ before ++ after
  pub sentence : Is before a
  pub count : left ≡ length after

-- ---- texts

-- the tokens of a text are this
pub record IsOfText {A : Type 0} (Is : List Lexeme → A → Type 0) (text : List ℕ) (a : A) : Type 0 where
  pub tokens : List Token
  pub lexed : AreTokensOf text tokens
  pub sentence : Is (lexemes text tokens) a

-- the fault of a text: that of its tokens, else that of its lexemes
abbrev pub IsFaultOfText : (Reading → ScenarioFault → Type 0) → List ℕ → ScenarioFault → Type 0
IsFaultOfText IsFault text fault =
    ((lexical : LexFault) × IsFaultOf text lexical × (fault ≡ from_lexer lexical))
    ⊎ ((tokens : List Token) × AreTokensOf text tokens × IsFault (reading_of text tokens) fault)
