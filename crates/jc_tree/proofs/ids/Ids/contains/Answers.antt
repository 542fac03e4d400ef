use Rattle.std.proofs.Common.{sym, ◌∙◌, refl}
use Rattle.jc_rules.specs.Ids.{AreRising}
use Rattle.jc_rules.proofs.IdsLemmas.{searched}
use Rattle.jc_tree.proofs.PresencesLemmas.{above_absent}
use Rattle.jc_tree.proofs.ids.Ids.contains.Goals as goal

-- the search answers whether the identifier is there
pub returns-in-Less : goal.returns-in-Less
returns-in-Less c =
    let found = c.binary_search.ensures in
    let rises : AreRising c.deref.result.now = rw c.deref.ensures.value c.self.invariant in
    c.is_ok.ensures.value ∙ (searched c.args.id c.deref.result.now c.binary_search.result rises found.bound found.position ∙ rw (c.deref.ensures.value, c.self.view_is) refl)

pub returns-in-Greater : goal.returns-in-Greater
returns-in-Greater c = sym (above_absent c.args.id c.args.self.now (c.against_last.ensures.above c.in-Greater.is))
