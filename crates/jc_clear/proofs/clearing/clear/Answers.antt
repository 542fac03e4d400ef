use Rattle.std.proofs.lemmas.Result.{IfOk-weaker}
use Rattle.jc_rules.specs.Derivation.{Clear}
use Rattle.jc_vectors.proofs.LawsLemmas.{clear_stands}
use Rattle.jc_clear.proofs.ClearsStandsLemmas.{stands_at}
use Rattle.jc_clear.proofs.clearing.clear.Goals as goal

pub returns-clause-stands : goal.returns-clause-stands
returns-clause-stands g c =
    IfOk-weaker c.clear_at.result _ _ (λ ids h. stands_at (λ deps x. Clear x deps c.args.key.now) (λ set deps vector x d s t u. clear_stands set deps vector x d c.args.key.now s t u) c.args.deps.now c.args.at.now (g.S.TreeStore.tree c.args.store.now) (g.S.TreeStore.tree c.clear_at.new.store) ids.items c.args.trace.now c.clear_at.new.trace c.requires.there h) (c.clear_at.ensures.ok c.args.at.now c.place_of-place.ensures)
