use Rattle.std.proofs.Common.{◌≡◌, [], is_some}
use Rattle.jc_out.specs.Out.{output}
use Rattle.jc_program.specs.JournalResult.{asked_by, IsBehind}
use Rattle.jc_program.proofs.JournalResultLemmas.{LinesGoOn}
use Rattle.jc_program.proofs.journal.journal_events.Given as goal

-- the events before the index were made, and their lines were added; the network behind is there too
abbrev pub invariant-loop-event : goal.invariant-loop-event
invariant-loop-event g l = record {
  counted : l.number ≡ l.event-index;
  names : l.networks.net.names ≡ l.initial.networks.net.names;
  steps : l.networks.net.history.earlier ≡ [];
  behind : IsBehind l.networks.behind l.networks.net.history.now;
  asked : is_some l.networks.behind ≡ is_some l.initial.networks.behind;
  goes : LinesGoOn (asked_by l.fn.trace l.initial.networks.behind) l.fn.given l.initial.networks.net.names l.initial.networks.net.history.now l.networks.net.history.now l.events l.event-index (output g.K.Sink l.initial.out) (output g.K.Sink l.out);
}
