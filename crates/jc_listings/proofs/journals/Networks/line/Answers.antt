use Rattle.std.proofs.Common.{Err, [], ◌∷◌, ◌++◌, ap, sym, ◌∙◌}
use Rattle.jc_rules.specs.Step.{Network}
use Rattle.jc_network.specs.NetworkHistory.{NetworkHistory}
use Rattle.jc_listings.proofs.JournalPartsLemmas.{not_full, twin_can, twins_after, line_moved}
use Rattle.jc_listings.proofs.journals.Networks.line.Goals as goal

pub unreachable-requires : goal.unreachable-requires
unreachable-requires c = not_full c.args.self.now.first c.requires.twins.first_new (c.step.ensures.full.0 (c.in-Err-Full.is ∙ ap Err c.in-Err-Full.field-0-is))

pub made_line-requires-clause-last : goal.made_line-requires-clause-last
made_line-requires-clause-last c =
    let n = c.args.self.now in
    record { before = n.first.history.earlier; earlier = c.in-Ok.ensures.made.earlier ∙ ap (λ (N : Network). n.first.history.earlier ++ N ∷ []) (sym c.requires.twins.same) }

pub follow-requires-clause-can : goal.follow-requires-clause-can
follow-requires-clause-can c =
    let n = c.args.self.now in
    twin_can n.first n.second c.step.new.self.history.now c.args.next.now.event c.in-Ok.rules.rows c.requires.twins c.in-Ok.ensures.made.step

pub returns-in_ok-follow-in-Ok-clause-line : goal.returns-in_ok-follow-in-Ok-clause-line
returns-in_ok-follow-in-Ok-clause-line c =
    let n = c.args.self.now in
    line_moved c.args.details c.step.new.self.names n.first.names c.args.next.now n.second.history.now n.first.history.now c.step.new.self.history.now c.begin.new.self.history.now c.in_ok-text-in-Ok.text.items
    c.in-Ok.ensures.made.names c.requires.twins.same (ap (λ (k : NetworkHistory). k.history.now) c.begin.ensures) c.in_ok-text-in-Ok.ensures

pub returns-in_ok-follow-in-Ok-clause-twins : goal.returns-in_ok-follow-in-Ok-clause-twins
returns-in_ok-follow-in-Ok-clause-twins c =
    let n = c.args.self.now in
    twins_after n.first n.second c.step.new.self c.follow.new.net c.begin.new.self c.args.next.now.event c.in-Ok.rules.rows c.requires.twins c.in-Ok.ensures.made.step c.begin.ensures c.in_ok-follow-in-Ok.ensures.made c.in_ok-follow-in-Ok.ensures.new
