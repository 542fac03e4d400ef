use Rattle.std.proofs.Common.{◌≡◌, ◌∙◌, sym, is_ok, false, ap, get_or}
use Rattle.jc_rules.specs.Ids.{AreRising, has_id}
use Rattle.jc_rules.proofs.OrderLemmas.{exact_ids}
use Rattle.jc_rules.proofs.IdsLemmas.{searched}
use Rattle.jc_tree.specs.Undo.{taken_out}
use Rattle.jc_tree.proofs.PresencesLemmas.{taken-rises, taken-absent, taken-at}
use Rattle.jc_tree.proofs.ids.Ids.take_out.Goals as goal

pub invariant_of-self : goal.invariant_of-self
invariant_of-self c =
    let rises : AreRising c.deref.result.now = rw c.deref.ensures.value c.self.invariant in
    let same : get_or c.deref.result.now c.in-Ok.place c.args.id ≡ c.args.id = exact_ids _ _ (c.in-Ok.ensures.position c.args.id) in
    let taken : c.remove.new.self.items ≡ taken_out c.args.id c.self.inside.ids.items = c.remove.ensures.items ∙ sym (rw c.deref.ensures.value at (taken-at c.args.id c.deref.result.now c.in-Ok.place rises c.in-Ok.ensures.bound same)) in
    rw taken (taken-rises c.args.id c.self.inside.ids.items c.self.invariant)

pub returns-in-Ok : goal.returns-in-Ok
returns-in-Ok c =
    let rises : AreRising c.deref.result.now = rw c.deref.ensures.value c.self.invariant in
    let same : get_or c.deref.result.now c.in-Ok.place c.args.id ≡ c.args.id = exact_ids _ _ (c.in-Ok.ensures.position c.args.id) in
    let taken : c.remove.new.self.items ≡ taken_out c.args.id c.self.inside.ids.items = c.remove.ensures.items ∙ sym (rw c.deref.ensures.value at (taken-at c.args.id c.deref.result.now c.in-Ok.place rises c.in-Ok.ensures.bound same)) in
    taken ∙ ap (λ s. taken_out c.args.id s) c.self.view_is

pub returns-in_default : goal.returns-in_default
returns-in_default c =
    let rises : AreRising c.deref.result.now = rw c.deref.ensures.value c.self.invariant in
    let found = searched c.args.id c.deref.result.now c.binary_search.result rises c.binary_search.ensures.bound c.binary_search.ensures.position in
    let none : has_id c.args.id c.deref.result.now ≡ false = sym found ∙ ap is_ok c.in_default.is in
    sym (rw c.self.view_is at (rw c.deref.ensures.value at (taken-absent c.args.id c.deref.result.now none)))
