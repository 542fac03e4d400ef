use Rattle.std.proofs.Common.{rules}
use Rattle.jc_parser.specs.ScenarioReader.{other_name_at}
use Rattle.jc_parser.proofs.scenarios.other_name.Goals as goal

pub returns : goal.returns
unfolding other_name_at
returns c = search rules
