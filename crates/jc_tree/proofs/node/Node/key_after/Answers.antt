use Rattle.std.proofs.Common.{◌∙◌, refl}
use Rattle.jc_tree.proofs.NodeLemmas.{key_after}
use Rattle.jc_tree.proofs.node.Node.key_after.Goals as goal

pub returns : goal.returns
returns c =
    rw (key_after _ _ _ _ _ _ c.self.view_is) (c.lesser-2.ensures ∙ rw (c.lesser.ensures, c.key_above-of_maps.ensures, c.key_above-of_lists.ensures, c.key_above-of_registers.ensures, c.as_slice.ensures.value, c.as_slice-2.ensures.value, c.as_slice-3.ensures.value) refl)
