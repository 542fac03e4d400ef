use Rattle.std.proofs.Common.{refl}
use Rattle.jc_cursor.proofs.SelectLemmas.{got, head_get, deep_get, handed_up}
use Rattle.jc_cursor.proofs.select.get_in.Goals as goal

pub returns-in_err-last-clause-refused : goal.returns-in_err-last-clause-refused
returns-in_err-last-clause-refused c =
    handed_up _ _ _ _ c.from_residual.ensures.1 (λ why r. head_get c.args.cursor c.args.name.now why r) c.in_err-last.ensures.refused

pub returns-in_err-path-clause-refused : goal.returns-in_err-path-clause-refused
returns-in_err-path-clause-refused c =
    handed_up _ _ _ _ c.from_residual-in_err-path.ensures.1 (λ why r. deep_get c.args.cursor c.args.name.now why c.in_ok-last.ensures.no_head r) c.in_err-path.ensures.refused

pub returns-clause-ok : goal.returns-clause-ok
returns-clause-ok c =
    got c.args.cursor _ c.args.name.now _ _ c.in_ok-last.ensures.no_head c.in_ok-path.ensures.short c.in_ok-path.ensures.ok c.in_ok-last.ensures.ok refl
