-- For `reading`: the scenario of tokens, or its fault, from what is read, arranged and resolved.
use Rattle.std.proofs.Common.{◌≡◌, ℕ, ◌≤◌, List, ◌++◌, map, length, refl, ap, ◌∙◌, arith}
use Rattle.std.specs.List.Sorted.{IsPermutation}
use Rattle.std.proofs.lemmas.List.{length-map}
use Rattle.std.proofs.lemmas.List.Sorted.{length_permutation}
use Rattle.jc_rules.specs.declared.operation.Event.{Event}
use Rattle.jc_rules.specs.Entries.{IsRising}
use Rattle.jc_rules.specs.Order.{name_cmp}
use Rattle.jc_rules.specs.Syntax.{Cmd}
use Rattle.jc_parser.specs.declared.fault.ScenarioFault.TheVariants.{UnknownReplica}
use Rattle.jc_parser.specs.ReaderState.{Reading}
use Rattle.jc_parser.specs.Scenarios.{Part, NamedTree, name_of_part, IsNamedTree}
use Rattle.jc_scenario.specs.Resolved.{IsFirstStranger, AreResolved, all_names_in}
use Rattle.jc_scenario.specs.WellFormed.{parts_of, AreScenario}
use Rattle.jc_scenario.specs.Faults.{IsStranger}
use Rattle.jc_scenario.proofs.NamesDifferLemmas.{names-parts}
use Rattle.jc_scenario.proofs.UnknownNamesLemmas.{strange_too, same_names}

-- names and scripts are those of the tree's replicas, in the order of the names
pub record AreArranged (ps : List Part) (ns : List (List ℕ)) (ss : List (List Cmd)) : Type 0 where
  pub rising : IsRising name_cmp ns
  pub each : length ss ≡ length ns
  pub same : IsPermutation ps (parts_of ns ss)

pub in_order : {X : Type 0} (f : X → List Cmd) (ps : List Part) (ns : List (List ℕ)) (xs : List X) → IsRising name_cmp ns → length xs ≡ length ns → IsPermutation ps (parts_of ns (map f xs)) → AreArranged ps ns (map f xs)
in_order f ps ns xs rising each same = record { rising = rising; each = length-map xs f ∙ each; same = same }

pub few_names : (ps : List Part) (ns : List (List ℕ)) (ss : List (List Cmd)) → AreArranged ps ns ss → length ps ≤ 64 → length ns ≤ 65536
few_names ps ns ss a few =
    omega (arith, ap length (names-parts ns ss a.each), length-map (parts_of ns ss) name_of_part, length_permutation ps (parts_of ns ss) a.same, few)

pub scenario_read : (r : Reading) (t : NamedTree) (ns : List (List ℕ)) (ss : List (List Cmd)) (gs es : List Event) → IsNamedTree r t → AreArranged t.parts ns ss → AreResolved ns t.given gs → AreResolved ns t.events es → AreScenario r (record { version = t.version; names = ns; scripts = ss; given = gs; schedule = es })
scenario_read r t ns ss gs es named a given so = record {
  tree = t;
  named = named;
  of_tree = record {
    version = refl;
    rising = a.rising;
    each = a.each;
    same = a.same;
    given_known = given.known;
    given_called = given.called;
    known = so.known;
    called = so.called;
  };
}

pub stranger_read : (r : Reading) (t : NamedTree) (ns : List (List ℕ)) (ss : List (List Cmd)) (at : ℕ) → IsNamedTree r t → AreArranged t.parts ns ss → IsFirstStranger ns (all_names_in (t.given ++ t.events)) at → IsStranger r (UnknownReplica at)
stranger_read r t ns ss at named a first = record {
  tree = t;
  named = named;
  place = at;
  first = strange_too ns (map name_of_part t.parts) (all_names_in (t.given ++ t.events)) at (same_names t.parts ns ss a.each a.same) first;
  is = refl;
}
