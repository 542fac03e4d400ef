use Rattle.std.proofs.lemmas.Result.{on_ok_weaker}
use Rattle.jc_json.specs.Json.{register_data}
use Rattle.jc_json.proofs.send.send_register.Goals as goal

pub returns-in_default : goal.returns-in_default
returns-in_default g c = on_ok_weaker c.send_value.result (λ sent. sent (register_data c.args.names.now c.args.pairs.now) c.register_value.ensures) c.send_value.ensures
