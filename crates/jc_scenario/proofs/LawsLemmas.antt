-- About `Laws`: bytes are one scenario, or have one fault, and not both.
use Rattle.std.proofs.Common.{◌≡◌, ℕ, ◌≤◌, inl, inr, List, ◌++◌, length, map, sym, ap, subst, ◌∙◌, arith}
use Rattle.std.specs.Prelude.{All}
use Rattle.std.proofs.lemmas.List.Elements.{All-weaker}
use Rattle.jc_syntax.specs.declared.fault.LexFault.{LexFault}
use Rattle.jc_syntax.specs.declared.token.Token.{Token}
use Rattle.jc_syntax.specs.Lexemes.{AreTokensOf, IsTokenOf, IsFaultOf}
use Rattle.jc_parser.specs.declared.fault.ScenarioFault.{ScenarioFault}
use Rattle.jc_parser.specs.declared.fault.ScenarioFault.TheVariants.{UnknownReplica}
use Rattle.jc_parser.specs.Faults.{from_lexer}
use Rattle.jc_parser.specs.ReaderState.{Reading, reading_of}
use Rattle.jc_parser.specs.Scenarios.{NamedTree, tree_of_named, name_of_part, IsNamedTree}
use Rattle.jc_parser.specs.LegalSymbols.{IsName, IsLegalCmd, IsLegalPart}
use Rattle.jc_parser.specs.LegalSymbolLaws.{LegalScenarios}
use Rattle.jc_parser.specs.ScenarioLaws.{OneNamedTree, NamedTreeOrFault, OneTreeFault}
use Rattle.jc_scenario.specs.Resolved.{all_names_in, IsFirstStranger}
use Rattle.jc_scenario.specs.WellFormed.{Scenario, IsOfTree, AreScenario}
use Rattle.jc_scenario.specs.Faults.{IsFaultAmong, IsFaultWithin}
use Rattle.jc_scenario.specs.Laws.{OneScenario, ScenarioOrFault, OneFault, ScenariosAreWellFormed}
use Rattle.jc_scenario.proofs.WellFormedLemmas.{well_formed}
use Rattle.jc_scenario.proofs.UnknownNamesLemmas.{one_stranger, no_stranger}
use Rattle.jc_scenario.proofs.UniqueLemmas.{one_of_tree}
use Rattle.jc_syntax.proofs.LexemesLemmas.{each_token}

abbrev pub OneList : Type 0
OneList = (text : List ℕ) (ts us : List Token) → AreTokensOf text ts → AreTokensOf text us → ts ≡ us

abbrev pub OneLexical : Type 0
OneLexical = (text : List ℕ) (e f : LexFault) → IsFaultOf text e → IsFaultOf text f → e ≡ f

abbrev pub NoLexical : Type 0
NoLexical = (text : List ℕ) (ts : List Token) (e : LexFault) → AreTokensOf text ts → IsFaultOf text e → ⊥

-- ---- one scenario

pub one_scenario : OneList → OneNamedTree → OneScenario
one_scenario one_list one_tree bytes s u a b =
    let tokens : a.tokens ≡ b.tokens = one_list bytes a.tokens b.tokens a.lexed b.lexed in
    let named : IsNamedTree (reading_of bytes b.tokens) a.scenario.tree = subst (λ (ts : List Token). IsNamedTree (reading_of bytes ts) a.scenario.tree) tokens a.scenario.named in
    let tree : a.scenario.tree ≡ b.scenario.tree = one_tree (reading_of bytes b.tokens) a.scenario.tree b.scenario.tree named b.scenario.named in
    one_of_tree (tree_of_named b.scenario.tree) s u (subst (λ (t : NamedTree). IsOfTree (tree_of_named t) s) tree a.scenario.of_tree) b.scenario.of_tree

-- ---- no scenario has a fault

no_fault_among : OneNamedTree → NamedTreeOrFault → (r : Reading) (s : Scenario) (e : ScenarioFault) → AreScenario r s → IsFaultAmong r e → ⊥
no_fault_among one_tree no_fault r s e a (inl f) = no_fault r a.tree e a.named f
no_fault_among one_tree no_fault r s e a (inr f) =
    let tree : f.tree ≡ a.tree = one_tree r f.tree a.tree f.named a.named in
    no_stranger a.tree s f.place a.of_tree (subst (λ (t : NamedTree). IsFirstStranger (map name_of_part t.parts) (all_names_in (t.given ++ t.events)) f.place) tree f.first)

pub scenario_or_fault : OneList → NoLexical → OneNamedTree → NamedTreeOrFault → ScenarioOrFault
scenario_or_fault one_list no_lexical one_tree no_fault bytes s e a (inl (long, is)) = let short : length bytes ≤ 8388608 = a.lexed.0 in absurd (omega arith)
scenario_or_fault one_list no_lexical one_tree no_fault bytes s e a (inr (short, inl (other, is))) = other a.valid
scenario_or_fault one_list no_lexical one_tree no_fault bytes s e a (inr (short, inr (valid, inl (lexical, h, is)))) = no_lexical bytes a.tokens lexical a.lexed h
scenario_or_fault one_list no_lexical one_tree no_fault bytes s e a (inr (short, inr (valid, inr (tokens, lexed, f)))) =
    let same : a.tokens ≡ tokens = one_list bytes a.tokens tokens a.lexed lexed in
    no_fault_among one_tree no_fault (reading_of bytes tokens) s e (subst (λ (ts : List Token). AreScenario (reading_of bytes ts) s) same a.scenario) f

-- ---- one fault

one_among : OneNamedTree → NamedTreeOrFault → OneTreeFault → (r : Reading) (e f : ScenarioFault) → IsFaultAmong r e → IsFaultAmong r f → e ≡ f
one_among one_tree no_fault one r e f (inl a) (inl b) = one r e f a b
one_among one_tree no_fault one r e f (inl a) (inr b) = absurd (no_fault r b.tree e b.named a)
one_among one_tree no_fault one r e f (inr a) (inl b) = absurd (no_fault r a.tree f a.named b)
one_among one_tree no_fault one r e f (inr a) (inr b) =
    let tree : a.tree ≡ b.tree = one_tree r a.tree b.tree a.named b.named in
    let place : a.place ≡ b.place = one_stranger (map name_of_part b.tree.parts) (all_names_in (b.tree.given ++ b.tree.events)) a.place b.place (subst (λ (t : NamedTree). IsFirstStranger (map name_of_part t.parts) (all_names_in (t.given ++ t.events)) a.place) tree a.first) b.first in
    a.is ∙ ap UnknownReplica place ∙ sym b.is

one_within : OneList → OneLexical → NoLexical → OneNamedTree → NamedTreeOrFault → OneTreeFault → (bytes : List ℕ) (e f : ScenarioFault) → IsFaultWithin bytes e → IsFaultWithin bytes f → e ≡ f
one_within one_list one_lexical no_lexical one_tree no_fault one bytes e f (inl (other, is)) (inl (other2, is2)) = is ∙ sym is2
one_within one_list one_lexical no_lexical one_tree no_fault one bytes e f (inl (other, is)) (inr (valid, h)) = absurd (other valid)
one_within one_list one_lexical no_lexical one_tree no_fault one bytes e f (inr (valid, h)) (inl (other, is)) = absurd (other valid)
one_within one_list one_lexical no_lexical one_tree no_fault one bytes e f (inr (valid, inl (x, h, is))) (inr (valid2, inl (y, g, is2))) = is ∙ ap from_lexer (one_lexical bytes x y h g) ∙ sym is2
one_within one_list one_lexical no_lexical one_tree no_fault one bytes e f (inr (valid, inl (x, h, is))) (inr (valid2, inr (ts, lexed, g))) = absurd (no_lexical bytes ts x lexed h)
one_within one_list one_lexical no_lexical one_tree no_fault one bytes e f (inr (valid, inr (ts, lexed, h))) (inr (valid2, inl (y, g, is))) = absurd (no_lexical bytes ts y lexed g)
one_within one_list one_lexical no_lexical one_tree no_fault one bytes e f (inr (valid, inr (ts, lexed, h))) (inr (valid2, inr (us, lexed2, g))) =
    let same : ts ≡ us = one_list bytes ts us lexed lexed2 in
    one_among one_tree no_fault one (reading_of bytes us) e f (subst (λ (l : List Token). IsFaultAmong (reading_of bytes l) e) same h) g

pub one_fault : OneList → OneLexical → NoLexical → OneNamedTree → NamedTreeOrFault → OneTreeFault → OneFault
one_fault one_list one_lexical no_lexical one_tree no_fault one bytes e f (inl (long, is)) (inl (long2, is2)) = is ∙ sym is2
one_fault one_list one_lexical no_lexical one_tree no_fault one bytes e f (inl (long, is)) (inr (short, h)) = absurd (omega (arith, long, short))
one_fault one_list one_lexical no_lexical one_tree no_fault one bytes e f (inr (short, h)) (inl (long, is)) = absurd (omega (arith, long, short))
one_fault one_list one_lexical no_lexical one_tree no_fault one bytes e f (inr (short, h)) (inr (short2, g)) = one_within one_list one_lexical no_lexical one_tree no_fault one bytes e f h g

-- ---- well-formed scenarios

pub well_formed_scenarios : LegalScenarios → ScenariosAreWellFormed
well_formed_scenarios legal bytes s a =
    let each : All (IsTokenOf bytes) a.tokens = each_token bytes 0 a.lexed.1 a.tokens a.lexed.0 a.lexed.2 in
    let own = legal bytes a.tokens a.scenario.tree a.valid each a.scenario.named in
    well_formed (tree_of_named a.scenario.tree) s a.scenario.of_tree own.0
    (All-weaker IsLegalPart (λ p. IsName p.name) (λ p l. l.0) a.scenario.tree.parts own.1.0)
    (All-weaker IsLegalPart (λ p. All IsLegalCmd p.script) (λ p l. l.1) a.scenario.tree.parts own.1.0)
