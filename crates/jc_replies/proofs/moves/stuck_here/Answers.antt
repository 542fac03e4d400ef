use Rattle.std.proofs.Common.{sym, subst, ◌∙◌}
use Rattle.std.proofs.lemmas.Result.{IfOk-weaker}
use Rattle.jc_network.specs.NetworkHistory.{NetworkHistory}
use Rattle.jc_dump.specs.Lines.{IsNamedStuck}
use Rattle.jc_replies.proofs.MovesLemmas.{stuck_told}
use Rattle.jc_replies.proofs.moves.stuck_here.Goals as goal

pub stuck_line-requires : goal.stuck_line-requires
stuck_line-requires c =
    subst (λ (x : NetworkHistory). IsNamedStuck x.names c.args.stuck.now) (sym c.net.ensures.net) c.requires.stuck

pub returns : goal.returns
returns c =
    IfOk-weaker c.position_with.result _ _ (λ answer h.
    stuck_told c.args.given.now c.args.debugger.now c.net.result.now c.args.stuck.now c.position.result c.in_ok-line.line.items c.as_slice.result.now c.absent.result c.text-line.result answer.items c.net.ensures.net c.position.ensures.position (c.as_slice.ensures.value ∙ c.unended-text.ensures) c.in_ok-line.ensures c.absent.ensures c.text-line.ensures h) c.position_with.ensures
