use Rattle.std.proofs.Common.{◌∷◌, []}
use Rattle.std.proofs.lemmas.Result.{on_ok_weaker}
use Rattle.json.specs.Token as T
use Rattle.jc_json.specs.Gains.{Gains}
use Rattle.jc_json.proofs.GainsLemmas.{gains_one}
use Rattle.jc_journal.specs.Operation.{counter_members}
use Rattle.jc_journal.proofs.TokensLemmas.{object_written}
use Rattle.jc_journal.proofs.operation.write_vector.Goals as goal

pub returns : goal.returns
returns c =
    let g1 : Gains c.args.out.now c.begin_object.new.self (T.begin_object ∷ []) = gains_one _ _ _ _ _ c.in_ok-begin_object.was c.begin_object.ensures in
    on_ok_weaker c.end_object.result
    (λ o. object_written _ _ _ _ (counter_members 0 c.args.names.now c.args.ids.now) g1 c.in_ok-write_counters.ensures (record { before = c.end_object.ensures.room.0; tokens = o }))
    c.end_object.ensures.ok
