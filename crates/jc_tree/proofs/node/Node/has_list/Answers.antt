use Rattle.std.proofs.Common.{ap, ◌∙◌}
use Rattle.jc_rules.specs.Order.{key_cmp}
use Rattle.jc_rules.specs.Entries.{find}
use Rattle.jc_tree.proofs.NodeLemmas.{has_child, list_content}
use Rattle.jc_tree.proofs.node.Node.has_list.Goals as goal

pub returns : goal.returns
returns c =
    has_child _ _ _ _ c.is_some.ensures (c.value_of.ensures ∙ ap (find key_cmp c.args.key.now) c.as_slice.ensures.value) (list_content _ _ _ _ _ _ c.self.view_is _)
