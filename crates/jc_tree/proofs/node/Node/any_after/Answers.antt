use Rattle.std.proofs.Common.{option_copied, sym, ◌∙◌}
use Rattle.jc_tree.proofs.WalksLeastLemmas.{least_of}
use Rattle.jc_tree.proofs.LentLemmas.{least_of_all}
use Rattle.jc_tree.proofs.node.Node.any_after.Goals as goal

pub returns : goal.returns
returns c =
    c.lesser-2.ensures
    ∙ (λ a. least_of ((c.lesser.ensures ∙ (λ b. least_of (c.key_after-of_tags.ensures b) (c.presence_after-of_presences.ensures b))) a) (c.link_after-of_links.ensures a))
    ∙ sym (least_of_all (option_copied c.args.after) c.args.self.now)
