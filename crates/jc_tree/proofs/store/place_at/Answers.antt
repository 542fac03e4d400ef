use Rattle.std.proofs.Common.{◌≡◌, ◌∙◌, take, true, false}
use Rattle.jc_tree.proofs.PathLemmas.{leads_on}
use Rattle.jc_tree.proofs.store.place_at.Goals as goal

pub returns-in_err-place-clause-is : goal.returns-in_err-place-clause-is
returns-in_err-place-clause-is g c =
    let at = c.args.at.now in
    let i = c.loop-key.key-index in
    let none : false ≡ true → ⊥ = λ e. cc in
    rw c.from_residual.ensures (λ is. absurd (none is), λ place. absurd (none (c.in_err-place.ensures.some (take i at) c.loop-key.invariant ∙ leads_on at i c.key-item.result (g.S.TreeStore.tree c.args.store.now).now c.loop-key-test.true c.key-item.is place)))
