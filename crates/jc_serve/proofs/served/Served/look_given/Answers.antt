use Rattle.jc_serve.proofs.LooksLemmas.{some_given}
use Rattle.jc_serve.proofs.served.Served.look_given.Goals as goal

pub given_network-requires-clause-leads : goal.given_network-requires-clause-leads
given_network-requires-clause-leads c =
    let (s, start, v) = c.requires.held in
    some_given s start c.args.self.now v c.args.count
