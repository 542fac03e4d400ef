use Rattle.std.proofs.lemmas.Result.{IfOk-weaker}
use Rattle.jc_rules.specs.Derivation.{ClearElem}
use Rattle.jc_vectors.proofs.LawsLemmas.{clear_elem_stands}
use Rattle.jc_clear.proofs.ClearsStandsLemmas.{stands_at}
use Rattle.jc_clear.proofs.clearing.clear_elem.Goals as goal

pub returns-clause-stands : goal.returns-clause-stands
returns-clause-stands g c =
    IfOk-weaker c.clear_elem_at.result _ _ (λ ids h. stands_at (λ deps x. ClearElem x deps c.args.key.now) (λ set deps vector x d s t u. clear_elem_stands set deps vector x d c.args.key.now s t u) c.args.deps.now c.args.at.now (g.S.TreeStore.tree c.args.store.now) (g.S.TreeStore.tree c.clear_elem_at.new.store) ids.items c.args.trace.now c.clear_elem_at.new.trace c.requires.there h) (c.clear_elem_at.ensures.ok c.args.at.now c.place_of-place.ensures)
