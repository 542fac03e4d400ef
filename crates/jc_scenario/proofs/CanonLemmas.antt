-- About `Canon`: the canonical text of a scenario is written with symbols of its tree.
use Rattle.std.proofs.Common.{◌≡◌, ℕ, List, [], ◌∷◌, ◌++◌, length, refl, sym, ap, subst, arith, append_assoc}
use Rattle.std.specs.Prelude.{codes, flat_map, All}
use Rattle.std.proofs.lemmas.List.Elements.{All-head, All-tail}
use Rattle.jc_rules.specs.declared.operation.Event.{Event}
use Rattle.jc_rules.specs.declared.version.Version.{Version}
use Rattle.jc_rules.specs.declared.version.Version.TheVariants.{One, Two}
use Rattle.jc_rules.specs.Syntax.{Cmd}
use Rattle.jc_grammar.specs.Symbols.{Symbol, word, open_brace, close_brace, semicolon}
use Rattle.jc_parser.specs.Scripts.{IsCommandWellFormed}
use Rattle.jc_parser.specs.LegalSymbols.{IsName, IsLegalCmd, IsCounterBelow}
use Rattle.jc_parser.specs.Scenarios.{Part}
use Rattle.jc_printer.specs.Canon.{canon_cmd, canon_event, AreNamed}
use Rattle.jc_printer.proofs.PrintedSymbolsLemmas.{IsPrinted, put, spaced}
use Rattle.jc_printer.proofs.CanonTreesLemmas.{PrintsAs, alone, keyword, command_printed}
use Rattle.jc_printer.proofs.CanonEventsLemmas.{event_printed}
use Rattle.jc_scenario.specs.Canon.{line_of, canon_commands, canon_part, canon_events, canon_given, canon_schedule}
use Rattle.jc_printer.proofs.CanonSymbolsLemmas.{Spells, cmd_symbols, event_symbols}
use Rattle.jc_scenario.proofs.CanonJoinLemmas.{joined}
use Rattle.jc_scenario.proofs.ScenarioSymbolsLemmas.{ended, part_symbols, parts_symbols, block_symbols, given_symbols, schedule_symbols}

-- ---- lines

-- a line and what follows it, however the bytes are put together
line_before : (text rest more : List ℕ) → (line_of text ++ rest) ++ more ≡ 32 ∷ 32 ∷ (text ++ (59 ∷ 10 ∷ (rest ++ more)))
line_before text rest more = simp append_assoc

-- a `;` and a new line
line_ended : (after : List Symbol) (rest : List ℕ) → IsPrinted after rest → IsPrinted (semicolon ∷ after) (59 ∷ 10 ∷ rest)
line_ended after rest p = put semicolon after (59 ∷ []) (10 ∷ rest) refl (spaced after 10 rest refl p)

-- two blanks
indented : (ss : List Symbol) (bs : List ℕ) → IsPrinted ss bs → IsPrinted ss (32 ∷ 32 ∷ bs)
indented ss bs p = spaced ss 32 (32 ∷ bs) refl (spaced ss 32 bs refl p)

pub commands_printed : (cs : List Cmd) (after : List Symbol) (rest : List ℕ) → All IsLegalCmd cs → All IsCommandWellFormed cs → IsPrinted after rest → PrintsAs (Spells (ended cmd_symbols cs)) (canon_commands cs) after rest
commands_printed [] after rest legal formed p = record { text = []; spelled = refl; printed = p }
commands_printed (c ∷ cs) after rest legal formed p =
    let more = commands_printed cs after rest (All-tail IsLegalCmd c cs legal) (All-tail IsCommandWellFormed c cs formed) p in
    let one = command_printed c (semicolon ∷ (more.text ++ after)) (59 ∷ 10 ∷ (canon_commands cs ++ rest)) (All-head IsLegalCmd c cs legal) (All-head IsCommandWellFormed c cs formed) refl (line_ended (more.text ++ after) (canon_commands cs ++ rest) more.printed) in
    record {
      text = one.text ++ semicolon ∷ more.text;
      spelled = λ i. one.spelled i ++ semicolon ∷ more.spelled i;
      printed =
          subst (λ (ss : List Symbol). IsPrinted ss (canon_commands (c ∷ cs) ++ rest)) (sym (append_assoc one.text (semicolon ∷ more.text) after))
          (subst (IsPrinted (one.text ++ semicolon ∷ (more.text ++ after))) (sym (line_before (canon_cmd c) (canon_commands cs) rest)) (indented (one.text ++ semicolon ∷ (more.text ++ after)) _ one.printed));
    }

pub events_printed : (names : List (List ℕ)) (es : List Event) (after : List Symbol) (rest : List ℕ) → All IsName names → All (λ e. AreNamed e (length names)) es → All IsCounterBelow es → IsPrinted after rest → PrintsAs (Spells (ended (event_symbols names) es)) (canon_events names es) after rest
events_printed names [] after rest legal known small p = record { text = []; spelled = refl; printed = p }
events_printed names (e ∷ es) after rest legal known small p =
    let more = events_printed names es after rest legal (All-tail (λ e. AreNamed e (length names)) e es known) (All-tail IsCounterBelow e es small) p in
    let one = event_printed names e legal (All-head (λ e. AreNamed e (length names)) e es known) (All-head IsCounterBelow e es small) in
    let line = joined one.text (semicolon ∷ (more.text ++ after)) (canon_event names e) (59 ∷ 10 ∷ (canon_events names es ++ rest)) refl one.printed (line_ended (more.text ++ after) (canon_events names es ++ rest) more.printed) in
    record {
      text = one.text ++ semicolon ∷ more.text;
      spelled = λ i. one.spelled i ++ semicolon ∷ more.spelled i;
      printed =
          subst (λ (ss : List Symbol). IsPrinted ss (canon_events names (e ∷ es) ++ rest)) (sym (append_assoc one.text (semicolon ∷ more.text) after))
          (subst (IsPrinted (one.text ++ semicolon ∷ (more.text ++ after))) (sym (line_before (canon_event names e) (canon_events names es) rest)) (indented (one.text ++ semicolon ∷ (more.text ++ after)) _ line));
    }

-- ---- blocks

-- a closing brace on a line of its own
closed : (after : List Symbol) (rest : List ℕ) → IsPrinted after rest → IsPrinted (close_brace ∷ after) (125 ∷ 10 ∷ rest)
closed after rest p = put close_brace after (125 ∷ []) (10 ∷ rest) refl (spaced after 10 rest refl p)

opened : (after : List Symbol) (rest : List ℕ) → IsPrinted after rest → IsPrinted (open_brace ∷ after) (123 ∷ 10 ∷ rest)
opened after rest p = put open_brace after (123 ∷ []) (10 ∷ rest) refl (spaced after 10 rest refl p)

block_bytes : (name lines rest : List ℕ) → ((((codes "replica " ++ name) ++ codes " {\n") ++ lines) ++ codes "}\n") ++ rest ≡ codes "replica" ++ 32 ∷ (name ++ 32 ∷ 123 ∷ 10 ∷ (lines ++ 125 ∷ 10 ∷ rest))
block_bytes name lines rest = simp append_assoc

part_printed : (p : Part) (after : List Symbol) (rest : List ℕ) → IsName p.name → All IsLegalCmd p.script → All IsCommandWellFormed p.script → IsPrinted after rest → PrintsAs (Spells (part_symbols p)) (canon_part p) after rest
part_printed p after rest name legal formed q =
    let body = commands_printed p.script (close_brace ∷ after) (125 ∷ 10 ∷ rest) legal formed (closed after rest q) in
    let block : List Symbol = body.text ++ close_brace ∷ after in
    let lines : List ℕ = canon_commands p.script ++ 125 ∷ 10 ∷ rest in
    let begun = opened (body.text ++ close_brace ∷ after) (canon_commands p.script ++ 125 ∷ 10 ∷ rest) body.printed in
    let called = put (word p.name) (open_brace ∷ (body.text ++ close_brace ∷ after)) p.name (32 ∷ 123 ∷ 10 ∷ (canon_commands p.script ++ 125 ∷ 10 ∷ rest)) (refl, name, refl) (spaced (open_brace ∷ (body.text ++ close_brace ∷ after)) 32 (123 ∷ 10 ∷ (canon_commands p.script ++ 125 ∷ 10 ∷ rest)) refl begun) in
    let whole = put (word (codes "replica")) (word p.name ∷ open_brace ∷ (body.text ++ close_brace ∷ after)) (codes "replica") (32 ∷ (p.name ++ 32 ∷ 123 ∷ 10 ∷ (canon_commands p.script ++ 125 ∷ 10 ∷ rest))) (refl, keyword (codes "replica") refl refl (omega arith), refl) (spaced (word p.name ∷ open_brace ∷ (body.text ++ close_brace ∷ after)) 32 (p.name ++ 32 ∷ 123 ∷ 10 ∷ (canon_commands p.script ++ 125 ∷ 10 ∷ rest)) refl called) in
    record {
      text = word (codes "replica") ∷ word p.name ∷ open_brace ∷ (body.text ++ close_brace ∷ []);
      spelled = ap (λ (w : List Symbol). word (codes "replica") ∷ word p.name ∷ open_brace ∷ (w ++ close_brace ∷ [])) body.spelled;
      printed =
          subst (λ (ss : List Symbol). IsPrinted (word (codes "replica") ∷ word p.name ∷ open_brace ∷ ss) (canon_part p ++ rest)) (sym (append_assoc body.text (close_brace ∷ []) after))
          (subst (IsPrinted (word (codes "replica") ∷ word p.name ∷ open_brace ∷ (body.text ++ close_brace ∷ after))) (sym (block_bytes p.name (canon_commands p.script) rest)) whole);
    }

-- the parts' scripts and names are such as tokens have
abbrev pub AreLegalParts : List Part → Type 0
AreLegalParts [] = Unit {0}
AreLegalParts (p ∷ ps) = IsName p.name × All IsLegalCmd p.script × All IsCommandWellFormed p.script × AreLegalParts ps

pub parts_printed : (ps : List Part) (after : List Symbol) (rest : List ℕ) → AreLegalParts ps → IsPrinted after rest → PrintsAs (Spells (parts_symbols ps)) (flat_map canon_part ps) after rest
parts_printed [] after rest legal p = record { text = []; spelled = refl; printed = p }
parts_printed (q ∷ qs) after rest legal p =
    let more = parts_printed qs after rest legal.3 p in
    let one = part_printed q (more.text ++ after) (flat_map canon_part qs ++ rest) legal.0 legal.1 legal.2 more.printed in
    record {
      text = one.text ++ more.text;
      spelled = λ i. one.spelled i ++ more.spelled i;
      printed =
          subst (λ (ss : List Symbol). IsPrinted ss (flat_map canon_part (q ∷ qs) ++ rest)) (sym (append_assoc one.text more.text after))
          (subst (IsPrinted (one.text ++ (more.text ++ after))) (sym (append_assoc (canon_part q) (flat_map canon_part qs) rest)) one.printed);
    }

-- ---- blocks of events

events_bytes : (lead lines rest : List ℕ) → (((lead ++ codes " {\n") ++ lines) ++ codes "}\n") ++ rest ≡ lead ++ 32 ∷ 123 ∷ 10 ∷ (lines ++ 125 ∷ 10 ∷ rest)
events_bytes lead lines rest = simp append_assoc

-- a word and events in braces
events_block : (lead : List ℕ) (names : List (List ℕ)) (es : List Event) (after : List Symbol) (rest : List ℕ) → IsName lead → All IsName names → All (λ e. AreNamed e (length names)) es → All IsCounterBelow es → IsPrinted after rest → PrintsAs (Spells (block_symbols lead names es)) (((lead ++ codes " {\n") ++ canon_events names es) ++ codes "}\n") after rest
events_block lead names es after rest leads legal known small p =
    let body = events_printed names es (close_brace ∷ after) (125 ∷ 10 ∷ rest) legal known small (closed after rest p) in
    let begun = opened (body.text ++ close_brace ∷ after) (canon_events names es ++ 125 ∷ 10 ∷ rest) body.printed in
    let whole = put (word lead) (open_brace ∷ (body.text ++ close_brace ∷ after)) lead (32 ∷ 123 ∷ 10 ∷ (canon_events names es ++ 125 ∷ 10 ∷ rest)) (refl, leads, refl) (spaced (open_brace ∷ (body.text ++ close_brace ∷ after)) 32 (123 ∷ 10 ∷ (canon_events names es ++ 125 ∷ 10 ∷ rest)) refl begun) in
    record {
      text = word lead ∷ open_brace ∷ (body.text ++ close_brace ∷ []);
      spelled = ap (λ (w : List Symbol). word lead ∷ open_brace ∷ (w ++ close_brace ∷ [])) body.spelled;
      printed =
          subst (λ (ss : List Symbol). IsPrinted (word lead ∷ open_brace ∷ ss) ((((lead ++ codes " {\n") ++ canon_events names es) ++ codes "}\n") ++ rest)) (sym (append_assoc body.text (close_brace ∷ []) after))
          (subst (IsPrinted (word lead ∷ open_brace ∷ (body.text ++ close_brace ∷ after))) (sym (events_bytes lead (canon_events names es) rest)) whole);
    }

-- symbols of the given events, before those of the schedule
pub given_printed : (v : Version) (names : List (List ℕ)) (es : List Event) (after : List Symbol) (rest : List ℕ) → All IsName names → All (λ e. AreNamed e (length names)) es → All IsCounterBelow es → IsPrinted after rest → PrintsAs (Spells (given_symbols v names es)) (canon_given v names es) after rest
given_printed One names es after rest legal known small p = record { text = []; spelled = refl; printed = p }
given_printed Two names es after rest legal known small p = events_block (codes "given") names es after rest (keyword (codes "given") refl refl (omega arith)) legal known small p

-- symbols of the schedule, to the end of the text
pub record IsSchedulePrinted (names : List (List ℕ)) (es : List Event) : Type 0 where
  pub text : List Symbol
  pub spelled : Spells (schedule_symbols names es) text
  pub printed : IsPrinted text (canon_schedule names es)

pub schedule_printed : (names : List (List ℕ)) (es : List Event) → All IsName names → All (λ e. AreNamed e (length names)) es → All IsCounterBelow es → IsSchedulePrinted names es
schedule_printed names es legal known small =
    let block = events_block (codes "schedule") names es [] [] (keyword (codes "schedule") refl refl (omega arith)) legal known small refl in
    record { text = block.text; spelled = block.spelled; printed = alone block.text (canon_schedule names es) block.printed }
