use Rattle.std.proofs.Common.{◌∙◌}
use Rattle.jc_journal.proofs.StuckLineLemmas.{found_tells}
use Rattle.jc_journal.proofs.stuck.has.Goals as goal

pub returns : goal.returns
returns c = c.is_some.ensures ∙ found_tells c.args.id c.args.ops.now c.find.result c.find.ensures
