use Rattle.std.proofs.Common.{rules}
use Rattle.jc_parser.specs.EventReader.{common_action_at}
use Rattle.jc_parser.proofs.events.common_action.Goals as goal

pub returns-then-begins_word-3 : goal.returns-then-begins_word-3
unfolding common_action_at
returns-then-begins_word-3 c = search rules
