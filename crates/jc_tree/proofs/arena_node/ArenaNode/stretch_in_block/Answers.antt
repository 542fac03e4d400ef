use Rattle.std.proofs.Common.{sym, ◌∙◌, ap}
use Rattle.jc_tree.specs.Arena.{Flat}
use Rattle.jc_tree.specs.Numbered.{column_entries}
use Rattle.jc_tree.proofs.NumberedLemmas.{key_at}
use Rattle.jc_tree.proofs.StretchesLemmas.{over_entries}
use Rattle.jc_tree.proofs.arena_node.ArenaNode.stretch_in_block.Goals as goal

pub returns-clause-over : goal.returns-clause-over
returns-clause-over c =
    over_entries _ _ _ _ _ _ _ _ _ (ap (λ (f : Flat). f.links) c.self.view_is) (ap (λ (f : Flat). f.presences) c.self.view_is)
    (c.in_ok-told.ensures.told c.self.inside.keys.keys (column_entries c.self.inside.links.items c.self.inside.keys) (column_entries c.self.inside.presences c.self.inside.keys) c.args.key.now c.in_ok-last.last
    (key_at c.self.inside.keys c.number_near.ensures.numbered c.args.key.now c.in_ok-number.number (sym c.number_near.ensures.found ∙ c.in_ok-number.was)) c.in_ok-last.ensures c.self.invariant.fit)
