use Rattle.jc_app.proofs.process.run.Goals as goal

-- what `exit` promises
pub returns : goal.returns
returns g c = c.exit.ensures
