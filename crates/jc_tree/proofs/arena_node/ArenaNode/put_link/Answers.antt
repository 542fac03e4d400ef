use Rattle.std.proofs.Common.{◌≡◌, List, Option, None, sym, ◌∙◌, ap, subst}
use Rattle.jc_rules.specs.declared.key.Next.{Next}
use Rattle.jc_rules.specs.Order.{key_cmp}
use Rattle.jc_rules.specs.Entries.{put}
use Rattle.jc_tree.specs.Arena.{Flat}
use Rattle.jc_tree.specs.Numbered.{column_entries}
use Rattle.jc_tree.specs.Blocks.{AreFit, IsApart, DifferAt}
use Rattle.jc_tree.proofs.TablesLemmas.{may_same}
use Rattle.jc_tree.proofs.FitNodesLemmas.{fit_seen, fit_linked, differ_as_put, number_apart, number_there, keys_numbered, may_numbered}
use Rattle.jc_tree.proofs.SortedMapLemmas.{as_err}
use Rattle.jc_tree.proofs.ArenaNodeLemmas.{within_links, count_stays, seen_links}
use Rattle.jc_tree.proofs.arena_node.ArenaNode.put_link.Goals as goal

pub invariant_of-self : goal.invariant_of-self
invariant_of-self c =
    let keys = c.self.inside.keys in
    record {
      within = c.self.invariant.within;
      count = c.self.invariant.count;
      fit = c.make_room.ensures.fit keys.keys (column_entries c.self.inside.links.items keys) (column_entries c.self.inside.presences keys) c.self.invariant.fit;
    }

pub invariant_of-self-in_err-former : goal.invariant_of-self-in_err-former
invariant_of-self-in_err-former c =
    let keys = c.self.inside.keys in
    let es = column_entries c.self.inside.presences keys in
    let links = column_entries c.self.inside.links.items keys in
    let v = c.as_slice.ensures.value in
    let room = c.make_room.ensures.fit keys.keys links es c.self.invariant.fit in
    let split = subst (λ (d : List (Option Next)). AreFit keys.keys (column_entries d keys) es c.split.new.blocks) v (c.split.ensures.fit (subst (λ (d : List (Option Next)). AreFit keys.keys (column_entries d keys) es c.make_room.new.self) (sym v) room)) in
    let same = may_same c.args.key c.self.inside.presences keys c.put_in.new.keys c.put_in.ensures.numbers c.self.invariant.within.presences in
    record {
      within = within_links c.args.key c.self.inside.keys c.put_in.new.keys c.self.inside.maps.items c.self.inside.lists.items c.self.inside.registers.items c.self.inside.presences c.self.inside.links.items c.self.invariant.within c.put_in.ensures.numbers c.put_in.new.column.items c.put_in.ensures.within;
      count = count_stays c.args.key c.self.inside.keys c.put_in.new.keys c.self.inside.maps.items c.self.inside.lists.items c.self.inside.registers.items c.self.inside.presences c.self.inside.links.items c.self.invariant.within c.put_in.ensures.numbers c.self.inside.present c.self.invariant.count;
      fit = fit_seen c.args.key keys c.put_in.new.keys c.put_in.ensures.numbers links _ es _ c.split.new.blocks c.in_err-former.ensures.err same split;
    }

pub returns-in_err-former-clause-err : goal.returns-in_err-former-clause-err
returns-in_err-former-clause-err c = as_err _ (seen_links c.args.key c.self.inside.keys c.put_in.new.keys c.self.inside.maps.items c.self.inside.lists.items c.self.inside.registers.items c.self.inside.presences c.self.inside.links.items c.self.invariant.within c.put_in.ensures.numbers c.args.self.now c.self.view_is c.put_in.new.column.items _ (c.in_err-former.ensures.err ∙ (ap (λ (d : Flat). d.links) c.self.view_is)))

pub invariant_of-self-2 : goal.invariant_of-self-2
invariant_of-self-2 c =
    let keys = c.self.inside.keys in
    let es = column_entries c.self.inside.presences keys in
    let links = column_entries c.self.inside.links.items keys in
    let v = c.as_slice.ensures.value in
    let room = c.make_room.ensures.fit keys.keys links es c.self.invariant.fit in
    let split = subst (λ (d : List (Option Next)). AreFit keys.keys (column_entries d keys) es c.split.new.blocks) v (c.split.ensures.fit (subst (λ (d : List (Option Next)). AreFit keys.keys (column_entries d keys) es c.make_room.new.self) (sym v) room)) in
    let same = may_same c.args.key c.self.inside.presences keys c.put_in.new.keys c.put_in.ensures.numbers c.self.invariant.within.presences in
    let new = c.as_slice-2.ensures.value in
    let apart : c.number_in-number.result ≡ None → IsApart c.args.key keys.keys c.split.new.blocks = λ e. subst (IsApart c.args.key keys.keys) (sym (c.split.ensures.none e)) (number_apart _ c.args.key keys.keys _ c.number_in-number.ensures.number e) in
    let differ : DifferAt c.args.key links (column_entries c.as_slice-2.result.now c.put_in.new.keys) = differ_as_put c.args.key _ links _ (ap (λ (d : List (Option Next)). column_entries d c.put_in.new.keys) new ∙ c.in_ok-former.ensures.ok) in
    record {
      within = within_links c.args.key c.self.inside.keys c.put_in.new.keys c.self.inside.maps.items c.self.inside.lists.items c.self.inside.registers.items c.self.inside.presences c.self.inside.links.items c.self.invariant.within c.put_in.ensures.numbers c.put_in.new.column.items c.put_in.ensures.within;
      count = count_stays c.args.key c.self.inside.keys c.put_in.new.keys c.self.inside.maps.items c.self.inside.lists.items c.self.inside.registers.items c.self.inside.presences c.self.inside.links.items c.self.invariant.within c.put_in.ensures.numbers c.self.inside.present c.self.invariant.count;
      fit = subst (λ (d : List (Option Next)). AreFit c.put_in.new.keys.keys (column_entries d c.put_in.new.keys) (column_entries c.self.inside.presences c.put_in.new.keys) c.relink.new.blocks) new
          (fit_linked c.args.key keys c.put_in.new.keys c.put_in.ensures.numbers c.number_in-number.result links _ es _ c.split.new.blocks c.relink.new.blocks (keys_numbered c.put_in.new.keys (may_numbered c.args.key keys c.put_in.new.keys c.put_in.ensures.numbers c.number_in-number.ensures.numbered)) differ same apart (number_there _ c.args.key keys.keys _ c.number_in-number.ensures.number) c.relink.ensures.some c.relink.ensures.none split);
    }

pub returns-clause-ok : goal.returns-clause-ok
returns-clause-ok c = seen_links c.args.key c.self.inside.keys c.put_in.new.keys c.self.inside.maps.items c.self.inside.lists.items c.self.inside.registers.items c.self.inside.presences c.self.inside.links.items c.self.invariant.within c.put_in.ensures.numbers c.args.self.now c.self.view_is c.put_in.new.column.items _ (c.in_ok-former.ensures.ok ∙ ap (λ n. put key_cmp c.args.key n (column_entries c.self.inside.links.items c.self.inside.keys)) c.new.ensures ∙ ap (λ es. put key_cmp c.args.key c.args.next es) (ap (λ (d : Flat). d.links) c.self.view_is))
