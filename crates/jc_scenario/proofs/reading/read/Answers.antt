use Rattle.std.proofs.Common.{rules, ◌≡◌, ◌≢◌, ℕ, IfErr, List, inr, subst}
use Rattle.std.specs.Str.{IsUtf8}
use Rattle.std.proofs.lemmas.Result.{IfOk-weaker, IfErr-weaker}
use Rattle.jc_parser.specs.declared.fault.ScenarioFault.TheVariants.{Memory}
use Rattle.jc_parser.specs.ReaderState.{reading_of}
use Rattle.jc_scenario.specs.WellFormed.{AreScenario, IsWellFormedScenario}
use Rattle.jc_scenario.specs.Faults.{IsFaultAmong, IsFault}
use Rattle.jc_scenario.specs.Views.{scenario_view}
use Rattle.jc_scenario.proofs.reading.read.Goals as goal

pub returns-clause-well_formed : goal.returns-clause-well_formed
returns-clause-well_formed c =
    let valid : IsUtf8 c.in-Ok.text.now = search rules in
    let law = c.scenarios_are_well_formed.ensures in
    let scenario = rw c.deref.ensures.value at c.scenario.ensures.scenario in
    IfOk-weaker c.scenario.result (λ s. AreScenario (reading_of c.in-Ok.text.now c.in_ok-tokens.tokens.items) (scenario_view s)) (λ s. IsWellFormedScenario (scenario_view s))
    (λ s a. law c.in-Ok.text.now (scenario_view s) (record { valid = valid; tokens = c.in_ok-tokens.tokens.items; lexed = c.in_ok-tokens.ensures.tokens; scenario = a }))
    scenario

pub returns-clause-fault : goal.returns-clause-fault
returns-clause-fault c =
    let valid : IsUtf8 c.in-Ok.text.now = search rules in
    let same : c.in-Ok.text.now ≡ c.args.bytes.now = search rules in
    let lexed = c.in_ok-tokens.ensures.tokens in
    let fault = rw c.deref.ensures.value at c.scenario.ensures.fault in
    subst (λ (bytes : List ℕ). IfErr c.scenario.result (λ e. e ≢ Memory → IsFault bytes e)) same
    (IfErr-weaker c.scenario.result (λ e. e ≢ Memory → IsFaultAmong (reading_of c.in-Ok.text.now c.in_ok-tokens.tokens.items) e) (λ e. e ≢ Memory → IsFault c.in-Ok.text.now e)
    (λ e own kept. inr (lexed.0, inr (valid, inr (c.in_ok-tokens.tokens.items, lexed, own kept))))
    fault)

pub returns-in-Err-clause-fault : goal.returns-in-Err-clause-fault
returns-in-Err-clause-fault c = search rules

pub returns-then-bytes-gt-MAX_TEXT-clause-fault : goal.returns-then-bytes-gt-MAX_TEXT-clause-fault
returns-then-bytes-gt-MAX_TEXT-clause-fault c = search rules
