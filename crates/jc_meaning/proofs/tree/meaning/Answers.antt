use Rattle.std.proofs.Common.{sym, ap, subst}
use Rattle.jc_tree.specs.Tree.{Tree}
use Rattle.jc_meaning.specs.Meaning.{IsMeaning}
use Rattle.jc_meaning.proofs.GrowthAllLemmas.{tags_made, new_links, meant}
use Rattle.jc_meaning.proofs.StoredMeaningLemmas.{meant_kept}
use Rattle.jc_meaning.proofs.ReplicasLemmas.{meaning_is_tree}
use Rattle.jc_meaning.proofs.tree.meaning.Goals as goal

pub link_all-requires-clause-made : goal.link_all-requires-clause-made
link_all-requires-clause-made c = tags_made c.args.ops.now c.new-tree.result.root c.fill.new.store.root (ap (λ (t : Tree). t.now) c.new-tree.ensures) c.in_ok-fill.ensures

pub link_all-requires-clause-new : goal.link_all-requires-clause-new
link_all-requires-clause-new c = new_links c.args.ops.now c.new-tree.result.root c.fill.new.store.root (ap (λ (t : Tree). t.now) c.new-tree.ensures) c.in_ok-fill.ensures

pub returns-clause-meaning : goal.returns-clause-meaning
returns-clause-meaning c =
    let made = meant c.args.ops.now c.new-tree.result.root c.fill.new.store.root (ap (λ (t : Tree). t.now) c.new-tree.ensures) c.in_ok-fill.ensures c.link_all.new.store.root c.in_ok-link_all.ensures.same c.in_ok-link_all.ensures.links in
    subst (IsMeaning c.args.ops.now) (sym (ap (λ (t : Tree). t.now) c.forget_marks.ensures)) made

pub returns-clause-stands : goal.returns-clause-stands
returns-clause-stands c = λ set own sound of kept. meant_kept set sound own of c.forget_marks.new.self.root (subst (λ os. IsMeaning os c.forget_marks.new.self.root) kept (returns-clause-meaning c))

pub returns-clause-replicas : goal.returns-clause-replicas
returns-clause-replicas c = meaning_is_tree c.args.ops.now c.forget_marks.new.self.root c.forget_marks.new.self.root_kept (returns-clause-meaning c)

pub returns-clause-unmarked : goal.returns-clause-unmarked
returns-clause-unmarked c = ap (λ (t : Tree). t.earlier) c.forget_marks.ensures
