use Rattle.std.proofs.Common.{Ok, Err, refl}
use Rattle.jc_program.specs.ViewOutput.{told_by}
use Rattle.jc_program.proofs.FoundLemmas.{refused_as, found_on_front}
use Rattle.jc_program.proofs.reading.scenario_in.Goals as goal

-- what was read is a prefix of the file
pub returns-in-Ok-clause-found : goal.returns-in-Ok-clause-found
returns-in-Ok-clause-found g c =
    found_on_front 8388609 (told_by (g.I.Source.left c.args.input.now) (g.R.Files.texts c.args.rt.now) c.args.file.now) c.in_ok-text.text.items c.deref.result.now (Ok c.in-Ok.scenario) refl c.in_ok-text.ensures.front c.deref.ensures.value c.in-Ok.ensures.scenario

pub returns-in_ok-line-in-Err-clause-found : goal.returns-in_ok-line-in-Err-clause-found
returns-in_ok-line-in-Err-clause-found g c =
    let read = refused_as c.deref.result.now c.in-Err.fault c.in_ok-line-in-Err.line c.in-Err.ensures.fault c.in_ok-line-in-Err.ensures in
    found_on_front 8388609 (told_by (g.I.Source.left c.args.input.now) (g.R.Files.texts c.args.rt.now) c.args.file.now) c.in_ok-text.text.items c.deref.result.now (Err c.in_ok-line-in-Err.line) refl c.in_ok-text.ensures.front c.deref.ensures.value read
