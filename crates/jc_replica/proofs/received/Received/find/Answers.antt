use Rattle.std.proofs.Common.{ap, ◌∙◌}
use Rattle.jc_rules.specs.Table.{op_of}
use Rattle.jc_replica.proofs.received.Received.find.Goals as goal

pub returns : goal.returns
returns c = c.find.ensures ∙ ap (op_of c.args.id) (c.as_slice.ensures ∙ c.self.view_is)
