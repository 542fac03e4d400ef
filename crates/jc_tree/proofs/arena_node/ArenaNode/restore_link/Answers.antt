use Rattle.std.proofs.Common.{List, Option, refl, ◌∙◌, ap, subst}
use Rattle.jc_rules.specs.declared.key.Next.{Next}
use Rattle.jc_tree.specs.Numbered.{column_entries}
use Rattle.jc_tree.specs.Blocks.{AreFit, DifferAt}
use Rattle.jc_tree.specs.Tables.MayNumber.{same}
use Rattle.jc_tree.proofs.ArenaNodeLemmas.{within_links}
use Rattle.jc_tree.proofs.FitNodesLemmas.{fit_linked, differ_as_restored, number_apart, number_there}
use Rattle.jc_tree.proofs.arena_node.ArenaNode.restore_link.Goals as goal

pub invariant_of-self : goal.invariant_of-self
invariant_of-self c =
    let keys = c.self.inside.keys in
    let es = column_entries c.self.inside.presences keys in
    let links = column_entries c.self.inside.links.items keys in
    let v = c.as_slice.ensures.value in
    let differ : DifferAt c.args.key.now links (column_entries c.as_slice.result.now keys) = differ_as_restored c.args.key.now _ links _ (ap (λ (d : List (Option Next)). column_entries d keys) v ∙ c.restore_in.ensures.ok) in
    record {
      within = within_links c.args.key.now keys keys c.self.inside.maps.items c.self.inside.lists.items c.self.inside.registers.items c.self.inside.presences c.self.inside.links.items c.self.invariant.within (same refl) c.restore_in.new.column.items c.restore_in.ensures.within;
      count = c.self.invariant.count;
      fit = subst (λ (d : List (Option Next)). AreFit keys.keys (column_entries d keys) es c.relink.new.blocks) v
          (fit_linked c.args.key.now keys keys (same refl) c.number_in-number.result links _ es _ c.self.inside.blocks c.relink.new.blocks c.number_in-number.ensures.distinct differ refl (number_apart _ c.args.key.now keys.keys _ c.number_in-number.ensures.number) (number_there _ c.args.key.now keys.keys _ c.number_in-number.ensures.number) c.relink.ensures.some c.relink.ensures.none c.self.invariant.fit);
    }
