use Rattle.std.proofs.Common.{rules}
use Rattle.jc_parser.specs.PartReaders.{read_name_at}
use Rattle.jc_parser.proofs.parts.name.Goals as goal

pub returns : goal.returns
unfolding read_name_at
returns c = search rules

pub returns-in_err-named : goal.returns-in_err-named
unfolding read_name_at
returns-in_err-named c = search rules
