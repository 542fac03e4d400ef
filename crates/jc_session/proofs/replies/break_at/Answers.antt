use Rattle.jc_debug.specs.declared.breaks.Break.TheVariants as Kind
use Rattle.jc_session.specs.Answers as A
use Rattle.jc_session.specs.Requests as Q
use Rattle.jc_session.proofs.AnswerOfLemmas.{gives_set}
use Rattle.jc_session.proofs.replies.break_at.Goals as goal

pub returns : goal.returns
returns c = gives_set c.args.debugger.now c.break_at.new.self (Kind.Position c.args.n) (Q.break_at c.args.n) c.break_at.result c.set.result c.set.ensures c.break_at.ensures (λ B reply sets. A.breaks_at sets)
