use Rattle.jc_runner.proofs.bench.Bench.step.Goals as goal

pub returns-in-Err-clause-begun : goal.returns-in-Err-clause-begun
returns-in-Err-clause-begun g c = λ waited. absurd (waited tt)
