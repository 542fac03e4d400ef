use Rattle.std.proofs.Common.{take, string_bytes}
use Rattle.jc_tree.specs.Tree.{keys_lent}
use Rattle.jc_json.specs.Parts.{AreJoined}
use Rattle.jc_json.proofs.tree.write_texts.Given as goal

abbrev pub invariant-loop-lent : goal.invariant-loop-lent
invariant-loop-lent l = AreJoined l.names (keys_lent (take l.lent-index l.keys)) (string_bytes l.all) l.lens.items
