use Rattle.std.proofs.Common.{rules}
use Rattle.jc_parser.specs.PartReaders.{read_value_at}
use Rattle.jc_parser.proofs.parts.value.Goals as goal

pub returns-then-begins_word-2 : goal.returns-then-begins_word-2
unfolding read_value_at
returns-then-begins_word-2 c = search rules
