use Rattle.std.proofs.Common.{◌+◌, length, refl, ap, ◌∙◌}
use Rattle.jc_network.specs.NetworkHistory.{NetworkHistory}
use Rattle.jc_serve.proofs.FindsLemmas.{answers_weaker}
use Rattle.jc_serve.proofs.LooksLemmas.{here_at, within_at, shows_at}
use Rattle.jc_serve.proofs.served.Served.look_here.Goals as goal

pub shown-requires : goal.shown-requires
shown-requires c =
    let x = c.args.self.now in
    let (s, start, v) = c.requires.held in
    within_at s start x v (length s.given + length x.here.traces) c.net.result.now.history.now c.args.look.now (here_at s start x v c.net.result.now c.net.ensures.net c.net.ensures.is_at) c.requires.within

pub returns : goal.returns
returns c =
    let x = c.args.self.now in
    answers_weaker c.shown.result (λ answer h s start v.
    (shows_at s x.here.schedule (length s.given + length x.here.traces) c.net.result.now c.args.look.now answer (here_at s start x v c.net.result.now c.net.ensures.net c.net.ensures.is_at) (ap (λ (n : NetworkHistory). n.names) c.net.ensures.net ∙ v.here.names) h, refl, v)) c.shown.ensures
