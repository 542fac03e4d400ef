use Rattle.std.proofs.lemmas.Result.{on_ok_weaker}
use Rattle.jc_json.specs.Values.{pair_items}
use Rattle.jc_json.specs.declared.writing.Numbers.TheVariants.{Named}
use Rattle.jc_json.proofs.GainsLemmas.{gains_one}
use Rattle.jc_effects.proofs.PartsTokensLemmas.{some_written, pairs_there}
use Rattle.jc_effects.proofs.writing.write_some_pairs.Goals as goal

pub returns : goal.returns
returns c =
    let items = pair_items Named c.args.names.now c.args.pairs.now in
    on_ok_weaker c.write_pairs.result
    (λ x. some_written _ _ _ c.args.name.now items (pairs_there c.args.names.now c.args.pairs.now c.is_empty.result c.is_empty.ensures c.if-is_empty.false) (gains_one _ _ _ _ _ c.in_ok-key.was c.key.ensures) x)
    c.write_pairs.ensures
