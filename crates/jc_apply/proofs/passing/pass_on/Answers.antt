use Rattle.std.proofs.Common.{refl, ◌∙◌, ap, Some}
use Rattle.jc_rules.specs.declared.key.Key.TheVariants.{Elem}
use Rattle.jc_tree.specs.Tree.{here}
use Rattle.jc_apply.proofs.InsertLemmas.{passes_one, longer_over}
use Rattle.jc_apply.proofs.passing.pass_on.Goals as goal

pub returns-in_ok-open_times-in-Some-stretch_above-clause-longer : goal.returns-in_ok-open_times-in-Some-stretch_above-clause-longer
returns-in_ok-open_times-in-Some-stretch_above-clause-longer g c =
    longer_over c.in-Some-stretch_above.stretch.count c.args.trace.now c.open_times.new.self c.in_ok-open_times-in-Some-stretch_above.ensures.ok

pub returns-in_ok-open-in-None-clause-some : goal.returns-in_ok-open-in-None-clause-some
returns-in_ok-open-in-None-clause-some g c at named =
    let greater = c.greater_element.ensures.some c.in-Some.element c.in-Some.is in
    passes_one (here at (g.S.TreeStore.tree c.args.store.now)) c.args.id c.args.search.now.key (Elem c.in-Some.element) c.in-Some.element c.args.trace.now c.open.new.self (c.requires.follows at named ∙ ap (λ n. Some n) greater.0) greater.1 refl c.in_ok-open-in-None.ensures.ok
