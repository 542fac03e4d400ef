use Rattle.std.proofs.Common.{ℕ, ◌+◌, take, sym, ap, ◌∙◌}
use Rattle.jc_rules.specs.History.{timeline}
use Rattle.jc_rules.proofs.HistoryLemmas.{undone}
use Rattle.jc_tree.proofs.CanGoBackLemmas.{gone_back}
use Rattle.jc_clear.proofs.ClearsBelowLemmas.{chained_here, still_chained}
use Rattle.jc_clear.proofs.clearing.clear_at.Goals as goal

pub tagged_in-requires : goal.tagged_in-requires
tagged_in-requires g c =
    let n = c.requires.named in
    (n.0, n.1, chained_here n.0 (g.S.TreeStore.tree c.args.store.now) (g.met.S.TreeStore.there _ _ _ n.1) c.requires.chained)

pub returns-in-Ok-clause-chained : goal.returns-in-Ok-clause-chained
returns-in-Ok-clause-chained g c =
    let n = c.requires.named in
    let x = c.in-Ok.ensures.ok n.0 n.1 in
    still_chained n.0 x.after (g.S.TreeStore.tree c.args.store.now) (g.S.TreeStore.tree c.tagged_in.new.store) (g.met.S.TreeStore.there _ _ _ n.1) x.now x.same c.requires.chained

pub returns-in-Err-clause-kept : goal.returns-in-Err-clause-kept
returns-in-Err-clause-kept g c =
    gone_back _ _ _ _ _ _ _ _ _ c.in-Err.ensures.kept c.mark-start.ensures c.undo_to.ensures.content c.mark-first.ensures.rows c.mark-first.ensures.depth c.cut.ensures

pub returns-in-Err-clause-names_stay : goal.returns-in-Err-clause-names_stay
returns-in-Err-clause-names_stay g c = λ p q h. c.undo_to.ensures.names_stay c.args.store.now (sym (undone _ _ _ c.in-Err.ensures.kept.store (c.undo_to.ensures.content ∙ ap (λ (x : ℕ). take (x + 1) (timeline (g.S.TreeStore.tree c.tagged_in.new.store))) c.mark-start.ensures))) p q h (c.in-Err.ensures.names_stay p q h)
