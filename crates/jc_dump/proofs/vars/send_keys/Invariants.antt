use Rattle.std.proofs.Common.{map}
use Rattle.serde_json.specs.Data.{string}
use Rattle.serde_json.specs.View.{items_of}
use Rattle.jc_json.proofs.PartsSendLemmas.{ItemsFrom}
use Rattle.jc_dump.proofs.vars.send_keys.Given as goal

abbrev pub invariant-loop-key : goal.invariant-loop-key
invariant-loop-key g l = ItemsFrom (λ keys. items_of (map string keys)) l.keys l.key-index (g.W.Serializer.written l.initial.out) (g.W.Serializer.written l.out)
