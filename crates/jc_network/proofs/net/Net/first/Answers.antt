use Rattle.std.proofs.Common.{◌≡◌, ◌∙◌, ℕ, List, sym, ap, subst}
use Rattle.std.proofs.lemmas.Result.{IfOk-weaker}
use Rattle.jc_rules.specs.declared.version.Version.{Version}
use Rattle.jc_rules.specs.Syntax.{Cmd}
use Rattle.jc_scenario.specs.Views.{scenario_view, scripts_view}
use Rattle.jc_network.specs.NetworkHistory.{NetworkHistory, of_version}
use Rattle.jc_network.specs.Laws.{starts}
use Rattle.jc_network.specs.Given.{AreParts, IsBeforeGiven}
use Rattle.jc_network.proofs.GivenHistoryLemmas.{has_parts}
use Rattle.jc_network.proofs.net.Net.first.Goals as goal

-- what begins with copies begins with what they are copies of
of_copies : (version : Version) (names copies : List (List ℕ)) (scripts copied : List (List Cmd)) (c : NetworkHistory) → copies ≡ names → copied ≡ scripts → IsBeforeGiven version copies copied c → IsBeforeGiven version names scripts c
of_copies version names copies scripts copied c same alike h = record {
  called = h.called ∙ same;
  network = h.network ∙ ap (λ ss. of_version version (starts ss)) alike;
  earlier = h.earlier;
}

pub before_given-requires : goal.before_given-requires
before_given-requires c =
    let s = c.args.scenario.now in
    let same : c.in_ok-names.names.items ≡ s.names.items = c.in_ok-names.ensures ∙ c.deref.ensures.value in
    let alike : scripts_view c.in_ok-scripts.scripts.items ≡ scripts_view s.scripts.items = c.in_ok-scripts.ensures ∙ ap scripts_view c.deref-2.ensures.value in
    subst (λ names. AreParts names (scripts_view c.in_ok-scripts.scripts.items)) (sym same)
    (subst (AreParts s.names.items) (sym alike) (has_parts (scenario_view s) c.requires))

pub returns : goal.returns
returns c =
    let s = c.args.scenario.now in
    let same : c.in_ok-names.names.items ≡ s.names.items = c.in_ok-names.ensures ∙ c.deref.ensures.value in
    let alike : scripts_view c.in_ok-scripts.scripts.items ≡ scripts_view s.scripts.items = c.in_ok-scripts.ensures ∙ ap scripts_view c.deref-2.ensures.value in
    IfOk-weaker c.before_given.result _ _ (λ net. of_copies s.version s.names.items c.in_ok-names.names.items (scripts_view s.scripts.items) (scripts_view c.in_ok-scripts.scripts.items) net same alike) c.before_given.ensures
