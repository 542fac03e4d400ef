use Rattle.std.proofs.Common.{◌≡◌, ◌∙◌, sym, is_ok, true, ap}
use Rattle.jc_rules.specs.Ids.{AreRising, has_id, with_id}
use Rattle.jc_rules.proofs.IdsLemmas.{with-rises, with-present, searched, searched_place}
use Rattle.jc_rules.proofs.id_set.insert_id.Goals as goal

-- the identifier came to its place
inserted : (c : goal.In_ok-insert) → c.insert.new.self.items ≡ with_id c.args.id c.args.ids.now.items
inserted c =
    let rises : AreRising c.deref.result.now = rw c.deref.ensures.value c.requires in
    let placed = searched_place c.args.id c.deref.result.now c.in-Err.place rises c.in-Err.ensures.bound c.in-Err.ensures.position in
    c.in_ok-insert.ensures.items ∙ sym (rw c.deref.ensures.value at placed)

pub returns-in_ok-insert-clause-ok : goal.returns-in_ok-insert-clause-ok
returns-in_ok-insert-clause-ok c = inserted c

pub returns-in_ok-insert-clause-rises : goal.returns-in_ok-insert-clause-rises
returns-in_ok-insert-clause-rises c = rw (inserted c) (with-rises c.args.id c.args.ids.now.items c.requires)

-- it was there already
pub returns-in_default-clause-ok : goal.returns-in_default-clause-ok
returns-in_default-clause-ok c =
    let rises : AreRising c.deref.result.now = rw c.deref.ensures.value c.requires in
    let found = searched c.args.id c.deref.result.now c.binary_search.result rises c.binary_search.ensures.bound c.binary_search.ensures.position in
    let here : has_id c.args.id c.deref.result.now ≡ true = sym found ∙ ap is_ok c.in_default.is in
    sym (rw c.deref.ensures.value at (with-present c.args.id c.deref.result.now rises here))
