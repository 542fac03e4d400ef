use Rattle.jc_requests.proofs.InputLemmas.{line_given}
use Rattle.jc_requests.proofs.input.Input.line.Goals as goal

pub returns : goal.returns
returns c = line_given c.args.self.now.ended c.args.self.now.line c.content.result c.content.ensures
