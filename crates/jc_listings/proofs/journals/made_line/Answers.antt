use Rattle.jc_journal.specs.Parts.{rows_of}
use Rattle.jc_listings.proofs.JournalPartsLemmas.{made_told}
use Rattle.jc_listings.proofs.journals.made_line.Goals as goal

pub returns : goal.returns
returns c =
    let n = c.args.networks.now in
    let rows = c.args.rules.now.rows in
    made_told c.args.details n.first.names c.args.next.now n.second.history.now n.first.history.now rows c.requires.made c.in_ok-effects.effects c.as_ref.result (rows_of c.rules_asked-rules.result) c.in_ok-line.line.items c.unended.result.items c.as_ref.ensures.value c.rules_asked-rules.ensures
    (c.in_ok-effects.ensures rows c.requires.made)
    (c.in_ok-line.ensures n.second.history.now rows c.requires.last c.requires.made)
    c.unended.ensures
