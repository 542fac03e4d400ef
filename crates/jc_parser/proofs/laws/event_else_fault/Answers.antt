use Rattle.jc_parser.specs.Events.{IsEvent, IsNoEvent}
use Rattle.jc_parser.specs.EventReader.{only_event_at}
use Rattle.jc_parser.proofs.GrammarEventsLemmas.{exactly}
use Rattle.jc_parser.proofs.TextLawsLemmas.{some_of_text}
use Rattle.jc_parser.proofs.laws.event_else_fault.Goals as goal

pub returns : goal.returns
returns c = λ v. some_of_text (IsEvent v) (IsNoEvent v) (only_event_at v) (exactly v) c.tokens_else_fault.ensures
