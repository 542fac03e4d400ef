use Rattle.jc_parser.specs.Events.{IsEvent, IsNoEvent}
use Rattle.jc_parser.specs.EventReader.{only_event_at}
use Rattle.jc_parser.proofs.GrammarEventsLemmas.{exactly}
use Rattle.jc_parser.proofs.TextLawsLemmas.{one_fault_of_text}
use Rattle.jc_parser.proofs.laws.one_event_fault.Goals as goal

pub returns : goal.returns
returns c = λ v. one_fault_of_text (IsEvent v) (IsNoEvent v) (only_event_at v) (exactly v) c.one_list_of_tokens.ensures c.one_fault.ensures c.tokens_or_fault.ensures
