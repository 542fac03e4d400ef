use Rattle.std.proofs.Common.{◌≡◌, ◌∙◌, [], map, length, reverse, refl, sym, ap, subst}
use Rattle.jc_scenario.specs.Views.{scripts_view}
use Rattle.jc_network.specs.NetworkHistory.{network_of, earlier_of, of_version}
use Rattle.jc_network.specs.Invariant.{IsNet}
use Rattle.jc_network.specs.Start.{replicas_from}
use Rattle.jc_network.proofs.StartLemmas.{starts_in_run, real_start}
use Rattle.jc_network.proofs.net.Net.before_given.Goals as goal

pub replicas_of-requires : goal.replicas_of-requires
replicas_of-requires c = c.requires.short

pub invariant_of-result : goal.invariant_of-result
invariant_of-result c =
    let version = c.args.version in
    let scripts = scripts_view c.args.scripts.items in
    let names = c.args.names.items in
    let made : c.in_ok-replicas.replicas.items ≡ replicas_from 0 scripts = c.in_ok-replicas.ensures in
    let none : reverse c.new.result.items ≡ [] = ap reverse c.new.ensures.items in
    subst (λ ps. IsNet version (length names) (reverse c.new.result.items) ps) (sym made)
    (subst (λ w. IsNet version (length names) w (replicas_from 0 scripts)) (sym none)
    (subst (λ n. IsNet version n [] (replicas_from 0 scripts)) c.requires.each (starts_in_run version scripts c.requires.short)))

pub returns : goal.returns
returns c =
    let version = c.args.version in
    let replicas = c.in_ok-replicas.replicas.items in
    record {
      called = refl;
      network = ap (λ ps. of_version version (network_of ps)) c.in_ok-replicas.ensures ∙ ap (of_version version) (real_start (scripts_view c.args.scripts.items));
      earlier = ap (λ w. map (of_version version) (earlier_of (reverse w) replicas)) c.new.ensures.items;
    }
