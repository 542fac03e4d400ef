use Rattle.jc_printer.proofs.EscapesLemmas.{run_boundary}
use Rattle.jc_printer.proofs.quote.split_plain.Goals as goal

pub split_at-requires : goal.split_at-requires
split_at-requires c = rw (c.plain_run.ensures.run, c.as_bytes.ensures.value) (run_boundary c.args.text.now)
