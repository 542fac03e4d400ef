use Rattle.std.proofs.Common.{map}
use Rattle.serde_json.specs.Data.{string}
use Rattle.serde_json.specs.View.{items_of}
use Rattle.jc_json.specs.Json.{id_text}
use Rattle.jc_json.proofs.PartsSendLemmas.{ItemsFrom}
use Rattle.jc_json.proofs.send.send_ids.Given as goal

abbrev pub invariant-loop-id : goal.invariant-loop-id
invariant-loop-id g l = ItemsFrom (λ ids. items_of (map string (map (λ i. id_text l.names i) ids))) l.ids l.id-index (g.W.Serializer.written l.initial.out) (g.W.Serializer.written l.out)
