use Rattle.jc_program.proofs.program.exit.Goals as goal

-- the process ends with the program's status
pub returns-in-Ok : goal.returns-in-Ok
returns-in-Ok g c = rw (c.in-Ok.is, c.from.ensures, ← c.deref.ensures.value) c.work.ensures
