use Rattle.std.proofs.Common.{Err, refl, ap}
use Rattle.jc_program.proofs.SessionRunsLemmas.{unstarted_or}
use Rattle.jc_program.proofs.serving.serve_input.Goals as goal

pub returns-in-Ok-clause-served : goal.returns-in-Ok-clause-served
returns-in-Ok-clause-served g c = (refl, c.in-Ok.ensures.finished)

pub returns-in-Err-ReadFailed-clause-stopped : goal.returns-in-Err-ReadFailed-clause-stopped
returns-in-Err-ReadFailed-clause-stopped g c = c.in-Err-ReadFailed.ensures.read (ap Err c.in-Err-ReadFailed.field-0-is)

pub returns-in-Err-CutShort-clause-stopped : goal.returns-in-Err-CutShort-clause-stopped
returns-in-Err-CutShort-clause-stopped g c = c.in-Err-CutShort.ensures.cut_short (ap Err c.in-Err-CutShort.field-0-is)

pub returns-in-Err-WriteFailed-clause-stopped : goal.returns-in-Err-WriteFailed-clause-stopped
returns-in-Err-WriteFailed-clause-stopped g c = c.in-Err-WriteFailed.ensures.write (ap Err c.in-Err-WriteFailed.field-0-is)

pub returns-in-Err-TooMany-clause-stopped : goal.returns-in-Err-TooMany-clause-stopped
returns-in-Err-TooMany-clause-stopped g c = c.in-Err-TooMany.ensures.too_many (ap Err c.in-Err-TooMany.field-0-is)

pub returns-in-Err-Memory-clause-stopped : goal.returns-in-Err-Memory-clause-stopped
returns-in-Err-Memory-clause-stopped g c =
    unstarted_or g.I.Source.left g.K.Sink c.args.input.now c.serve.new.source c.args.out.now c.serve.new.out (c.in-Err-Memory.ensures.memory (ap Err c.in-Err-Memory.field-0-is))
