use Rattle.std.proofs.Common.{refl}
use Rattle.std.proofs.lemmas.Result.{on_ok_weaker}
use Rattle.jc_out.proofs.OutLemmas.{put_adds}
use Rattle.jc_program.proofs.run.put_block.Goals as goal

pub returns-clause-ok : goal.returns-clause-ok
returns-clause-ok g c = on_ok_weaker c.push_block.result (put_adds _ _ refl refl refl _) c.push_block.ensures.ok
