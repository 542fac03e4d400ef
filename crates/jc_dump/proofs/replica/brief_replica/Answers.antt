use Rattle.std.proofs.Common.{◌∙◌}
use Rattle.jc_dump.specs.Dump.{brief_text}
use Rattle.jc_dump.proofs.DumpPartsLemmas.{brief_is}
use Rattle.jc_dump.proofs.replica.brief_replica.Goals as goal

pub returns-clause-brief : goal.returns-clause-brief
returns-clause-brief c = λ A there.
    brief_is _ A _ _ (c.in_ok-shown.ensures.parts A there) _ c.in_ok-dump_text.ensures
    ∙ (λ i. brief_text (c.names.ensures.names i) (c.in_ok-shown.ensures.name i) A)
