use Rattle.std.proofs.Common.{rules}
use Rattle.std.proofs.lemmas.Slice.Eq.{slice_eq-Decides}
use Rattle.jc_meaning.proofs.EffectsTestsLemmas.{path_told}
use Rattle.jc_meaning.proofs.touching.is_path.Goals as goal

pub returns : goal.returns
returns c = path_told c.eq.result c.args.path.now c.args.at.now (slice_eq-Decides (λ a b. search rules) c.args.path.now c.args.at.now c.eq.result c.eq.ensures)
