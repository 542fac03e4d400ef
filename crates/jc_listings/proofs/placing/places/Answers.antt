use Rattle.std.proofs.Common.{◌≤◌, ℕ, List, length, sym, subst, ◌∙◌, arith}
use Rattle.std.proofs.lemmas.Result.{IfOk-weaker}
use Rattle.std.proofs.lemmas.List.{take_rest}
use Rattle.std.proofs.lemmas.List.Elements.{All-drop}
use Rattle.std.specs.List.{All}
use Rattle.jc_syntax.specs.Lexemes.{AreTokensOf, IsTokenOf}
use Rattle.jc_scenario.specs.WellFormed.{Scenario, IsScenario}
use Rattle.jc_listings.specs.Places.{IsPlaces}
use Rattle.jc_listings.proofs.PlacesTreesLemmas.{AreHeaded}
use Rattle.jc_listings.proofs.PlacesLemmas.{not_refused, tokens_headed, headed_room, blocks_there, places_told}
use Rattle.jc_listings.proofs.placing.places.Goals as goal

pub unreachable-requires-in-Some : goal.unreachable-requires-in-Some
unreachable-requires-in-Some c =
    let s : (s : Scenario) × IsScenario c.in-Ok.text.now s = subst (λ (t : List ℕ). (s : Scenario) × IsScenario t s) (sym c.in-Ok.ensures.cases.0) c.requires in
    not_refused c.in-Ok.text.now c.in-Err.fault c.in-Some.field-0 s (sym c.refusal.ensures ∙ c.in-Some.is) c.in-Err.ensures.fault

pub slice_bounds-blocks-count : goal.slice_bounds-blocks-count
slice_bounds-blocks-count c =
    let text = c.in-Ok.text.now in
    let ts = c.deref.result.now in
    let same = c.in-Ok.ensures.cases.0 in
    let lexed : AreTokensOf text ts = subst (AreTokensOf text) (sym c.deref.ensures.value) c.in-Ok-lex.ensures.tokens in
    let headed : AreHeaded text ts = tokens_headed text ts (subst (λ (t : List ℕ). (s : Scenario) × IsScenario t s) (sym same) c.requires) lexed in
    headed_room text ts headed

pub slice_bounds-blocks-start : goal.slice_bounds-blocks-start
slice_bounds-blocks-start c =
    let text = c.in-Ok.text.now in
    let ts = c.deref.result.now in
    let same = c.in-Ok.ensures.cases.0 in
    let lexed : AreTokensOf text ts = subst (AreTokensOf text) (sym c.deref.ensures.value) c.in-Ok-lex.ensures.tokens in
    let headed : AreHeaded text ts = tokens_headed text ts (subst (λ (t : List ℕ). (s : Scenario) × IsScenario t s) (sym same) c.requires) lexed in
    let room : 2 ≤ length ts = headed_room text ts headed in
    omega arith

pub blocks-requires-clause-each : goal.blocks-requires-clause-each
blocks-requires-clause-each c =
    let text = c.in-Ok.text.now in
    let ts = c.deref.result.now in
    subst (All (IsTokenOf text)) (sym (take_rest ts 2)) (All-drop (IsTokenOf text) 2 ts (subst (All (IsTokenOf text)) (sym c.deref.ensures.value) c.in-Ok-lex.ensures.each))

pub blocks-requires-clause-are : goal.blocks-requires-clause-are
blocks-requires-clause-are c =
    let text = c.in-Ok.text.now in
    let ts = c.deref.result.now in
    let same = c.in-Ok.ensures.cases.0 in
    let lexed : AreTokensOf text ts = subst (AreTokensOf text) (sym c.deref.ensures.value) c.in-Ok-lex.ensures.tokens in
    let headed : AreHeaded text ts = tokens_headed text ts (subst (λ (t : List ℕ). (s : Scenario) × IsScenario t s) (sym same) c.requires) lexed in
    blocks_there text ts headed

pub returns : goal.returns
returns c =
    let text = c.in-Ok.text.now in
    let ts = c.deref.result.now in
    let same = c.in-Ok.ensures.cases.0 in
    let lexed : AreTokensOf text ts = subst (AreTokensOf text) (sym c.deref.ensures.value) c.in-Ok-lex.ensures.tokens in
    let headed : AreHeaded text ts = tokens_headed text ts (subst (λ (t : List ℕ). (s : Scenario) × IsScenario t s) (sym same) c.requires) lexed in
    IfOk-weaker c.blocks-2.result _ _ (λ answer told. subst (λ (t : List ℕ). IsPlaces t answer.items) same (places_told text answer.items ts headed lexed told)) c.blocks-2.ensures
