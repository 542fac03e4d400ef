use Rattle.std.proofs.lemmas.Result.{IfOk-weaker}
use Rattle.jc_journal.specs.Parts.{differences_in}
use Rattle.jc_listings.proofs.JournalPartsLemmas.{is_asked, effects_where}
use Rattle.jc_listings.proofs.journals.effects_asked.Goals as goal

pub returns : goal.returns
returns c =
    let n = c.args.networks.now in
    IfOk-weaker c.event_effects.result _ _ (λ effects h. effects_where c.args.details.effects c.args.event.now n.second.history.now n.first.history.now (differences_in effects) (is_asked c.args.details.effects c.if-not-details.false) h) c.event_effects.ensures
