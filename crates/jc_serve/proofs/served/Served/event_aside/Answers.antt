use Rattle.jc_serve.proofs.MoveFaultsLemmas.{still_there}
use Rattle.jc_serve.proofs.served.Served.event_aside.Goals as goal

pub bring_here-requires : goal.bring_here-requires
bring_here-requires c =
    still_there c.args.self.now c.line_at.new.self c.position-was.result c.requires.held c.position-was.ensures.trail c.position-was.ensures.position
    (λ s start v. let (shown, moved, w) = c.in_ok-line.ensures s start v in (moved, w))
