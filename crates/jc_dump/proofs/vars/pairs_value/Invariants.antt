use Rattle.std.proofs.Common.{◌≡◌, map, take}
use Rattle.serde_json.specs.View.{view}
use Rattle.jc_dump.specs.Dump.{pair_data}
use Rattle.jc_dump.proofs.vars.pairs_value.Given as goal

abbrev pub invariant-loop-id : goal.invariant-loop-id
invariant-loop-id l = map view l.values.items ≡ map (λ e. pair_data l.names e) (take l.id-index l.pairs)
