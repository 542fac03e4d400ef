use Rattle.std.proofs.Common.{subst}
use Rattle.jc_parser.specs.ReaderState.{Reading, reading_of, MapsResult}
use Rattle.jc_parser.specs.EventReader.{only_event_at}
use Rattle.jc_parser.proofs.SentencesLemmas.{tree_so, fault_so}
use Rattle.jc_parser.proofs.GrammarEventsLemmas.{exactly, event_kind}
use Rattle.jc_parser.proofs.events.event_of.Goals as goal

pub returns-clause-tree : goal.returns-clause-tree
returns-clause-tree c = tree_so (exactly c.args.version (reading_of c.args.text.now c.args.tokens.now)) (λ e. e) c.only_event.result (subst (λ (r : Reading). MapsResult (λ e. e) c.only_event.result (only_event_at c.args.version r)) c.new-cursor.ensures c.only_event.ensures)

pub returns-clause-fault : goal.returns-clause-fault
returns-clause-fault c = fault_so (exactly c.args.version (reading_of c.args.text.now c.args.tokens.now)) (λ e. e) c.only_event.result (subst (λ (r : Reading). MapsResult (λ e. e) c.only_event.result (only_event_at c.args.version r)) c.new-cursor.ensures c.only_event.ensures)

pub returns-clause-kind : goal.returns-clause-kind
returns-clause-kind c = event_kind c.args.version (reading_of c.args.text.now c.args.tokens.now) (λ e. e) c.only_event.result (subst (λ (r : Reading). MapsResult (λ e. e) c.only_event.result (only_event_at c.args.version r)) c.new-cursor.ensures c.only_event.ensures)
