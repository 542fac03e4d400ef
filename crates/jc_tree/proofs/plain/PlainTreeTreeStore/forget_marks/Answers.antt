use Rattle.std.proofs.Common.{rules}
use Rattle.jc_tree.proofs.plain.PlainTreeTreeStore.forget_marks.Goals as goal

pub returns : goal.returns
returns c = search rules
