use Rattle.std.proofs.Common.{length, sym, subst}
use Rattle.std.proofs.lemmas.Result.{err_from_is_err_and}
use Rattle.jc_grammar.specs.Symbols.{lexemes}
use Rattle.jc_parser.specs.ReaderState.{Reading}
use Rattle.jc_parser.specs.Sentences.{IsAhead}
use Rattle.jc_parser.specs.Events.{IsEvent, IsNoEventAhead}
use Rattle.jc_parser.proofs.PrefixLemmas.{ahead_ok, ahead_err, ahead_kind}
use Rattle.jc_parser.proofs.GrammarEventsLemmas.{ahead}
use Rattle.jc_parser.proofs.events.event_before.Goals as goal

pub returns-in_err-event-clause-fault : goal.returns-in_err-event-clause-fault
returns-in_err-event-clause-fault c =
    let p = err_from_is_err_and c.from_residual.result c.from_residual.ensures.1 in
    rw (p.1, p.2) (λ kept. subst (λ (r : Reading). IsNoEventAhead c.args.version r c.in_err-event.field-0.0) c.new-cursor.ensures (ahead_err (ahead c.args.version) c.new-cursor.result c.in_err-event.field-0.0 (c.in_err-event.ensures kept)))

pub returns-in_err-event-clause-kind : goal.returns-in_err-event-clause-kind
returns-in_err-event-clause-kind c =
    let p = err_from_is_err_and c.from_residual.result c.from_residual.ensures.1 in
    rw (p.1, p.2) (ahead_kind (ahead c.args.version) c.new-cursor.result c.in_err-event.field-0.0 c.in_err-event.ensures)

pub returns-clause-tree : goal.returns-clause-tree
returns-clause-tree c =
    subst (IsAhead (IsEvent c.args.version) (lexemes c.args.text.now c.args.tokens.now) c.in_ok-event.event) (sym c.left.ensures)
    (subst (λ (r : Reading). IsAhead (IsEvent c.args.version) r.left c.in_ok-event.event (length c.event.new.cursor.left)) c.new-cursor.ensures (ahead_ok (ahead c.args.version) c.new-cursor.result c.event.new.cursor c.in_ok-event.event c.in_ok-event.ensures))
