use Rattle.std.proofs.Common.{ap, ◌∙◌}
use Rattle.jc_rules.specs.Order.{key_cmp}
use Rattle.jc_rules.specs.Entries.{find}
use Rattle.jc_rules.specs.Context.{content}
use Rattle.jc_tree.proofs.NodeLemmas.{lent_child, map_content, list_content}
use Rattle.jc_tree.proofs.node.Node.child.Goals as goal

pub returns-in-MapT : goal.returns-in-MapT
returns-in-MapT c =
    lent_child _ _ _ (c.value_of.ensures ∙ ap (find key_cmp c.in-MapT.key) c.as_slice.ensures.value) (ap (λ t. content t c.args.self.now) c.in-MapT.is ∙ map_content _ _ _ _ _ _ c.self.view_is _)

pub returns-in-ListT : goal.returns-in-ListT
returns-in-ListT c =
    lent_child _ _ _ (c.value_of-in-ListT.ensures ∙ ap (find key_cmp c.in-ListT.key) c.as_slice-in-ListT.ensures.value) (ap (λ t. content t c.args.self.now) c.in-ListT.is ∙ list_content _ _ _ _ _ _ c.self.view_is _)
