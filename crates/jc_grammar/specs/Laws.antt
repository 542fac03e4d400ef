-- The laws' statements of each grammar in which the next symbol decides each choice.
use Rattle.std.specs.Prelude.{◌≡◌, List, [], true, None, Ok}
use Rattle.jc_grammar.specs.Symbols.{Lexeme}
use Rattle.jc_grammar.specs.Guards.{TextFault, Misfit, GuardState}
use Rattle.jc_grammar.specs.Grammar.{Grammar, ParseTree}
use Rattle.jc_grammar.specs.LookAhead.{is_decided}
use Rattle.jc_grammar.specs.TreeReader.{read_whole}
use Rattle.jc_grammar.specs.Faults.{IsTreeText, IsFaultIn, ReadsFault}

-- What is read is what is spelled, with nothing refused.
abbrev pub AcceptsSentences : Type 0
AcceptsSentences =
    (g : Grammar) → is_decided g [] ≡ true → (misfit : Misfit) (s : GuardState) (ls : List Lexeme) (t : ParseTree g)
    → (read_whole g misfit s ls ≡ Ok t → IsTreeText g s t None ls)
    × (IsTreeText g s t None ls → read_whole g misfit s ls ≡ Ok t)

-- What is refused has this fault, and no other.
abbrev pub RefusesOthers : Type 0
RefusesOthers =
    (g : Grammar) → is_decided g [] ≡ true → (misfit : Misfit) (s : GuardState) (ls : List Lexeme) (e : TextFault)
    → (ReadsFault (read_whole g misfit s ls) e → IsFaultIn (IsTreeText g s) misfit ls e)
    × (IsFaultIn (IsTreeText g s) misfit ls e → ReadsFault (read_whole g misfit s ls) e)
