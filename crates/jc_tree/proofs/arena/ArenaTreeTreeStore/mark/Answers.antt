use Rattle.std.proofs.Common.{sym, ◌∙◌}
use Rattle.jc_tree.proofs.ArenaHistoryLemmas.{length_contents}
use Rattle.jc_tree.proofs.arena.ArenaTreeTreeStore.mark.Goals as goal

pub returns : goal.returns
returns c = c.len.ensures ∙ c.args.self.now.undos.ok.0 ∙ sym (length_contents c.args.self.now.undos.items c.args.self.now.nodes.items)
