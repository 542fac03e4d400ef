use Rattle.std.proofs.Common.{◌∙◌}
use Rattle.jc_dump.specs.Dump.{dump_line}
use Rattle.jc_dump.proofs.DumpPartsLemmas.{line_is}
use Rattle.jc_dump.proofs.replica.dump_replica.Goals as goal

pub returns-clause-dump : goal.returns-clause-dump
returns-clause-dump c = λ A there.
    line_is _ A _ _ (c.in_ok-shown.ensures.parts A there) _ _ c.in_ok-line.ensures c.in_ok-push_str.ensures.bytes
    ∙ (λ i. dump_line (c.names.ensures.names i) (c.in_ok-shown.ensures.name i) A)
