use Rattle.std.proofs.Common.{string_bytes}
use Rattle.std.specs.Prelude.{codes}
use Rattle.jc_scenario.specs.Canon.{canon_events}
use Rattle.jc_scenario.proofs.CanonReplicasLemmas.{three}
use Rattle.jc_scenario.proofs.printing.push_block.Goals as goal

pub returns : goal.returns
returns c =
    three (string_bytes c.args.out.now) (string_bytes c.push_str.new.self) (string_bytes c.push_events.new.out) (string_bytes c.push_str-2.new.self) c.args.head.now (canon_events c.args.names.now c.args.events.now) (codes "}\n")
    c.in_ok-push_str-2.ensures.bytes c.in_ok-push_events.ensures c.in_ok-push_str.ensures.bytes
