use Rattle.std.proofs.Common.{[]}
use Rattle.std.proofs.lemmas.Result.{IfOk-weaker}
use Rattle.jc_listings.proofs.journals.no_lines.Goals as goal

pub returns : goal.returns
returns c = IfOk-weaker c.end.result _ _ (λ answer h. h [] c.in_ok-new.ensures) c.end.ensures
