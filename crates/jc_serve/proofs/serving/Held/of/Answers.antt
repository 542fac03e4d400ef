use Rattle.jc_serve.proofs.ServingLemmas.{held_new}
use Rattle.jc_serve.proofs.serving.Held.of.Goals as goal

pub returns : goal.returns
returns c = held_new c.args.text c.as_slice.result.now c.in_ok-subject.subject c.as_slice.ensures.value c.in_ok-subject.ensures
