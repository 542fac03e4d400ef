-- About `Canon`: the canonical text of an event is written with symbols of the event.
use Rattle.std.proofs.Common.{◌≡◌, ℕ, ◌<◌, ◌^◌, List, [], ◌∷◌, ◌++◌, length, refl, sym, subst, arith, append_assoc, decimal}
use Rattle.std.specs.Prelude.{codes}
use Rattle.std.specs.List.{All}
use Rattle.std.proofs.lemmas.List.Elements.{All-get_or}
use Rattle.std.proofs.lemmas.Option.{unwrap_or-slice_get}
use Rattle.jc_rules.specs.declared.operation.Event.{Event}
use Rattle.jc_rules.specs.declared.operation.Event.TheVariants.{Exec, Send, Recv, Take, Apply, Done}
use Rattle.jc_grammar.specs.Symbols.{Symbol, word, number, dot, open_paren, close_paren, comma}
use Rattle.jc_rules.specs.ReplicaNames.{name_at}
use Rattle.jc_printer.specs.Canon.{canon_event, AreNamed}
use Rattle.jc_parser.specs.LegalSymbols.{IsName, IsNumeric, IsCounterBelow}
use Rattle.jc_printer.proofs.NumeralsLemmas.{numeric_of}
use Rattle.jc_printer.proofs.CanonSymbolsLemmas.{Spells, identifier_symbols, event_symbols}
use Rattle.jc_printer.proofs.PrintedSymbolsLemmas.{IsPrinted, put, spaced}
use Rattle.jc_printer.proofs.CanonTreesLemmas.{dotted, enclosed, keyword, regroup}

-- symbols of the event are written so
pub record IsEventPrinted (names : List (List ℕ)) (e : Event) : Type 0 where
  pub text : List Symbol
  pub spelled : Spells (event_symbols names e) text
  pub printed : IsPrinted text (canon_event names e)

named_legal : (names : List (List ℕ)) (p : ℕ) → All IsName names → p < length names → IsName (name_at names p)
named_legal names p all within = rw (unwrap_or-slice_get names p []) (All-get_or IsName names p [] within all)

regroup_five : (a b c d e f : List ℕ) → ((((a ++ b) ++ c) ++ d) ++ e) ++ f ≡ a ++ (b ++ (c ++ (d ++ (e ++ f))))
regroup_five a b c d e f = simp append_assoc

regroup_seven : (a b c d e f g h : List ℕ) → ((((((a ++ b) ++ c) ++ d) ++ e) ++ f) ++ g) ++ h ≡ a ++ (b ++ (c ++ (d ++ (e ++ (f ++ (g ++ h))))))
regroup_seven a b c d e f g h = simp append_assoc

-- a name, and a dotted word after it
plain_printed : (name what : List ℕ) → IsName name → IsName what → IsPrinted (word name ∷ dot ∷ word what ∷ []) (name ++ (46 ∷ (what ++ [])))
plain_printed name what is what_is = put (word name) (dot ∷ word what ∷ []) name (46 ∷ (what ++ [])) (refl, is, refl) (dotted what [] [] what_is refl refl)

recv_printed : (name other : List ℕ) → IsName name → IsName other → IsPrinted (word name ∷ dot ∷ word (codes "recv") ∷ open_paren ∷ word other ∷ close_paren ∷ []) (name ++ (codes ".recv(" ++ (other ++ codes ")")))
recv_printed name other is other_is =
    let inner = enclosed (word other) [] other [] (refl, other_is, refl) refl in
    put (word name) (dot ∷ word (codes "recv") ∷ open_paren ∷ word other ∷ close_paren ∷ []) name (codes ".recv(" ++ (other ++ codes ")")) (refl, is, refl)
    (dotted (codes "recv") (open_paren ∷ word other ∷ close_paren ∷ []) (40 ∷ (other ++ 41 ∷ [])) (keyword (codes "recv") refl refl (omega arith)) refl inner)

abbrev identifier_text : List ℕ → List ℕ → List ℕ
identifier_text digits author = digits ++ (codes ", " ++ (author ++ codes ")"))

identifier_printed : (digits author : List ℕ) → IsNumeric digits → IsName author → IsPrinted (identifier_symbols digits author) (identifier_text digits author)
identifier_printed digits author is author_is =
    let close = put close_paren [] (codes ")") [] refl refl in
    let second = put (word author) (close_paren ∷ []) author (codes ")") (refl, author_is, refl) close in
    let parted = put comma (word author ∷ close_paren ∷ []) (codes ",") (32 ∷ (author ++ codes ")")) refl (spaced (word author ∷ close_paren ∷ []) 32 (author ++ codes ")") refl second) in
    put (number digits) (comma ∷ word author ∷ close_paren ∷ []) digits (codes ", " ++ (author ++ codes ")")) (refl, is, refl) parted

apply_printed : (name digits author : List ℕ) → IsName name → IsNumeric digits → IsName author → IsPrinted (word name ∷ dot ∷ word (codes "apply") ∷ open_paren ∷ identifier_symbols digits author) (name ++ (codes ".apply(" ++ identifier_text digits author))
apply_printed name digits author is digits_is author_is =
    let inner = put open_paren (identifier_symbols digits author) (codes "(") (identifier_text digits author) refl (identifier_printed digits author digits_is author_is) in
    put (word name) (dot ∷ word (codes "apply") ∷ open_paren ∷ identifier_symbols digits author) name (codes ".apply(" ++ identifier_text digits author) (refl, is, refl)
    (dotted (codes "apply") (open_paren ∷ identifier_symbols digits author) (40 ∷ identifier_text digits author) (keyword (codes "apply") refl refl (omega arith)) refl inner)

-- the sender and the identifier of a take, with the parentheses
sent_printed : (sender digits author : List ℕ) → IsName sender → IsNumeric digits → IsName author → IsPrinted (open_paren ∷ word sender ∷ comma ∷ identifier_symbols digits author) (40 ∷ (sender ++ (codes ", " ++ identifier_text digits author)))
sent_printed sender digits author sender_is digits_is author_is =
    let last = spaced (identifier_symbols digits author) 32 (identifier_text digits author) refl (identifier_printed digits author digits_is author_is) in
    let parted = put comma (identifier_symbols digits author) (codes ",") (32 ∷ identifier_text digits author) refl last in
    let first = put (word sender) (comma ∷ identifier_symbols digits author) sender (codes ", " ++ identifier_text digits author) (refl, sender_is, refl) parted in
    put open_paren (word sender ∷ comma ∷ identifier_symbols digits author) (codes "(") (sender ++ (codes ", " ++ identifier_text digits author)) refl first

take_printed : (name sender digits author : List ℕ) → IsName name → IsName sender → IsNumeric digits → IsName author → IsPrinted (word name ∷ dot ∷ word (codes "take") ∷ open_paren ∷ word sender ∷ comma ∷ identifier_symbols digits author) (name ++ (codes ".take(" ++ (sender ++ (codes ", " ++ identifier_text digits author))))
take_printed name sender digits author is sender_is digits_is author_is =
    put (word name) (dot ∷ word (codes "take") ∷ open_paren ∷ word sender ∷ comma ∷ identifier_symbols digits author) name (codes ".take(" ++ (sender ++ (codes ", " ++ identifier_text digits author))) (refl, is, refl)
    (dotted (codes "take") (open_paren ∷ word sender ∷ comma ∷ identifier_symbols digits author) (40 ∷ (sender ++ (codes ", " ++ identifier_text digits author))) (keyword (codes "take") refl refl (omega arith)) refl (sent_printed sender digits author sender_is digits_is author_is))

pub event_printed : (names : List (List ℕ)) (e : Event) → All IsName names → AreNamed e (length names) → IsCounterBelow e → IsEventPrinted names e
event_printed names (Exec p) all within small = record {
  text = word (name_at names p) ∷ dot ∷ word (codes "exec") ∷ [];
  spelled = refl;
  printed = plain_printed (name_at names p) (codes "exec") (named_legal names p all within) (keyword (codes "exec") refl refl (omega arith));
}
event_printed names (Send p) all within small = record {
  text = word (name_at names p) ∷ dot ∷ word (codes "send") ∷ [];
  spelled = refl;
  printed = plain_printed (name_at names p) (codes "send") (named_legal names p all within) (keyword (codes "send") refl refl (omega arith));
}
event_printed names (Done p) all within small = record {
  text = word (name_at names p) ∷ dot ∷ word (codes "done") ∷ [];
  spelled = refl;
  printed = plain_printed (name_at names p) (codes "done") (named_legal names p all within) (keyword (codes "done") refl refl (omega arith));
}
event_printed names (Recv p q) all within small = record {
  text = word (name_at names p) ∷ dot ∷ word (codes "recv") ∷ open_paren ∷ word (name_at names q) ∷ close_paren ∷ [];
  spelled = refl;
  printed = subst (IsPrinted (word (name_at names p) ∷ dot ∷ word (codes "recv") ∷ open_paren ∷ word (name_at names q) ∷ close_paren ∷ [])) (sym (regroup (name_at names p) (codes ".recv(") (name_at names q) (codes ")"))) (recv_printed (name_at names p) (name_at names q) (named_legal names p all within.0) (named_legal names q all within.1));
}
event_printed names (Take p q i) all within small =
    let fits : i.counter < 2 ^ 64 = omega (arith, small) in
    let name : List ℕ = name_at names p in
    let sender : List ℕ = name_at names q in
    let digits : List ℕ = decimal i.counter in
    let author : List ℕ = name_at names i.replica in
    let text : List Symbol = word name ∷ dot ∷ word (codes "take") ∷ open_paren ∷ word sender ∷ comma ∷ identifier_symbols digits author in
    record {
      text = text;
      spelled = refl;
      printed = subst (IsPrinted text) (sym (regroup_seven name (codes ".take(") sender (codes ", ") digits (codes ", ") author (codes ")"))) (take_printed name sender digits author (named_legal names p all within.0) (named_legal names q all within.1) (numeric_of i.counter fits) (named_legal names i.replica all within.2));
    }
event_printed names (Apply p i) all within small =
    let fits : i.counter < 2 ^ 64 = omega (arith, small) in
    record {
      text = word (name_at names p) ∷ dot ∷ word (codes "apply") ∷ open_paren ∷ number (decimal i.counter) ∷ comma ∷ word (name_at names i.replica) ∷ close_paren ∷ [];
      spelled = refl;
      printed = subst (IsPrinted (word (name_at names p) ∷ dot ∷ word (codes "apply") ∷ open_paren ∷ number (decimal i.counter) ∷ comma ∷ word (name_at names i.replica) ∷ close_paren ∷ [])) (sym (regroup_five (name_at names p) (codes ".apply(") (decimal i.counter) (codes ", ") (name_at names i.replica) (codes ")"))) (apply_printed (name_at names p) (decimal i.counter) (name_at names i.replica) (named_legal names p all within.0) (numeric_of i.counter fits) (named_legal names i.replica all within.1));
    }
