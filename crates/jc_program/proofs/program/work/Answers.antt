use Rattle.jc_program.proofs.PromiseLemmas.{more_tasks}
use Rattle.jc_program.proofs.program.work.Goals as goal

-- what is promised of the tasks that wait for nobody
pub returns-in-Some : goal.returns-in-Some
returns-in-Some g c = more_tasks _ _ _ _ c.in-Some.ensures

-- what is promised of threads, before which nothing was done
pub returns-in-None : goal.returns-in-None
returns-in-None g c = rw c.in-None.ensures.1 at c.work_threads.ensures
