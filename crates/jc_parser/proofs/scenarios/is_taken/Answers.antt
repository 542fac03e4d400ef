use Rattle.std.proofs.Common.{◌∙◌, rules, tests}
use Rattle.std.specs.Str.{bytes_eq}
use Rattle.std.proofs.lemmas.Iterator.{YieldsList-from_slice}
use Rattle.std.proofs.lemmas.Iterator.Search.{any_from_yields_List}
use Rattle.jc_parser.proofs.ScenarioLoopsLemmas.{among_any}
use Rattle.jc_parser.proofs.scenarios.is_taken.Goals as goal

pub returns : goal.returns
returns c =
    any_from_yields_List (λ p. bytes_eq c.args.name.now p.name) _ _ c.any.result c.any.ensures.ran (YieldsList-from_slice c.args.replicas.now cc) (λ x b q k. search (rules, tests))
    ∙ among_any c.args.replicas.now c.args.name.now
