use Rattle.std.proofs.Common.{rules, map, inr}
use Rattle.std.specs.Str.{IsUtf8}
use Rattle.std.proofs.lemmas.Result.{err_from_is_err_and}
use Rattle.jc_syntax.specs.Trees.{cmd_of}
use Rattle.jc_parser.specs.ReaderState.{reading_of}
use Rattle.jc_parser.specs.ScenarioViews.{tree_view}
use Rattle.jc_scenario.specs.Views.{scripts_view}
use Rattle.jc_scenario.proofs.ResolvedLemmas.{in_order, few_names, scenario_read, stranger_read}
use Rattle.jc_scenario.proofs.UnknownNamesLemmas.{first_given, first_scheduled}
use Rattle.jc_scenario.proofs.reading.scenario.Goals as goal

pub arranged-requires : goal.arranged-requires
arranged-requires c =
    let t = tree_view c.in_ok-version.field-0 in
    let valid : IsUtf8 c.args.text.now = search rules in
    let within = (c.legal_scenarios.ensures c.args.text.now c.args.tokens.now t valid c.requires c.in_ok-version.ensures.tree).0 in
    record { apart = within.parts.apart }

pub resolved-requires : goal.resolved-requires
resolved-requires c =
    let d = c.in_ok-names.ensures in
    let t = tree_view c.in_ok-version.field-0 in
    let valid : IsUtf8 c.args.text.now = search rules in
    let within = (c.legal_scenarios.ensures c.args.text.now c.args.tokens.now t valid c.requires c.in_ok-version.ensures.tree).0 in
    let a = in_order (λ script. map cmd_of script.items) t.parts c.in_ok-names.names.items c.in_ok-names.scripts.items d.rising d.each d.same in
    record { few = rw c.deref.ensures.value (few_names t.parts c.in_ok-names.names.items (scripts_view c.in_ok-names.scripts.items) a within.parts.few) }

pub returns-in_err-given-clause-fault : goal.returns-in_err-given-clause-fault
returns-in_err-given-clause-fault c =
    let p = err_from_is_err_and c.from_residual-in_err-given.result c.from_residual-in_err-given.ensures.1 in
    let d = c.in_ok-names.ensures in
    let t = tree_view c.in_ok-version.field-0 in
    let a = in_order (λ script. map cmd_of script.items) t.parts c.in_ok-names.names.items c.in_ok-names.scripts.items d.rising d.each d.same in
    rw (p.1, p.2) (λ kept. (
    let f = c.in_err-given.ensures.fault kept in
    let own = rw (c.deref.ensures.value, c.deref-2.ensures.value) at f.1 in
    let first = first_given c.in_ok-names.names.items t.given t.events f.0 own in
    rw f.2 (inr (stranger_read (reading_of c.args.text.now c.args.tokens.now) t c.in_ok-names.names.items (scripts_view c.in_ok-names.scripts.items) f.0 c.in_ok-version.ensures.tree a first))))

pub resolved-requires-2 : goal.resolved-requires-2
resolved-requires-2 c =
    let d = c.in_ok-names.ensures in
    let t = tree_view c.in_ok-version.field-0 in
    let valid : IsUtf8 c.args.text.now = search rules in
    let within = (c.legal_scenarios.ensures c.args.text.now c.args.tokens.now t valid c.requires c.in_ok-version.ensures.tree).0 in
    let a = in_order (λ script. map cmd_of script.items) t.parts c.in_ok-names.names.items c.in_ok-names.scripts.items d.rising d.each d.same in
    record { few = rw c.deref-3.ensures.value (few_names t.parts c.in_ok-names.names.items (scripts_view c.in_ok-names.scripts.items) a within.parts.few) }

pub returns-in_err-schedule-clause-fault : goal.returns-in_err-schedule-clause-fault
returns-in_err-schedule-clause-fault c =
    let p = err_from_is_err_and c.from_residual-in_err-schedule.result c.from_residual-in_err-schedule.ensures.1 in
    let d = c.in_ok-names.ensures in
    let t = tree_view c.in_ok-version.field-0 in
    let a = in_order (λ script. map cmd_of script.items) t.parts c.in_ok-names.names.items c.in_ok-names.scripts.items d.rising d.each d.same in
    rw (p.1, p.2) (λ kept. (
    let f = c.in_err-schedule.ensures.fault kept in
    let given = rw (c.deref.ensures.value, c.deref-2.ensures.value) at c.in_ok-given.ensures.events in
    let own = rw (c.deref-3.ensures.value, c.deref-4.ensures.value) at f.1 in
    let first = first_scheduled c.in_ok-names.names.items t.given t.events c.in_ok-given.given.items f.0 given own in
    rw f.2 (inr (stranger_read (reading_of c.args.text.now c.args.tokens.now) t c.in_ok-names.names.items (scripts_view c.in_ok-names.scripts.items) f.0 c.in_ok-version.ensures.tree a first))))

pub returns-clause-scenario : goal.returns-clause-scenario
returns-clause-scenario c =
    let d = c.in_ok-names.ensures in
    let t = tree_view c.in_ok-version.field-0 in
    let a = in_order (λ script. map cmd_of script.items) t.parts c.in_ok-names.names.items c.in_ok-names.scripts.items d.rising d.each d.same in
    let given = rw (c.deref.ensures.value, c.deref-2.ensures.value) at c.in_ok-given.ensures.events in
    let events = rw (c.deref-3.ensures.value, c.deref-4.ensures.value) at c.in_ok-schedule.ensures.events in
    scenario_read (reading_of c.args.text.now c.args.tokens.now) t c.in_ok-names.names.items (scripts_view c.in_ok-names.scripts.items) c.in_ok-given.given.items c.in_ok-schedule.schedule.items c.in_ok-version.ensures.tree a given events
