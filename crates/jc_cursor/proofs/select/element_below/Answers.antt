use Rattle.jc_cursor.proofs.SelectLemmas.{index_down, index_on_way, index_at_end, handed_up, given_on, given_on_ok}
use Rattle.jc_cursor.proofs.select.element_below.Goals as goal

pub returns-in_err-place-clause-refused : goal.returns-in_err-place-clause-refused
returns-in_err-place-clause-refused g c =
    handed_up _ _ _ _ c.from_residual.ensures.1 (λ why r. index_on_way _ c.args.path.now c.args.index why r) c.in_err-place.ensures.refused

pub returns-clause-ok : goal.returns-clause-ok
returns-clause-ok g c =
    given_on_ok _ _ c.element_at.result (λ k x. index_down _ c.args.path.now c.args.index k c.args.trace.now c.go_down.new.trace c.element_at.new.trace c.in_ok-place.ensures.leads x) (c.element_at.ensures.ok c.args.path.now c.in_ok-place.ensures.named)

pub returns-clause-refused : goal.returns-clause-refused
returns-clause-refused g c =
    given_on _ _ c.element_at.result (λ why r. index_at_end _ c.args.path.now c.args.index why c.in_ok-place.ensures.refuses r) (c.element_at.ensures.refused c.args.path.now c.in_ok-place.ensures.named)
