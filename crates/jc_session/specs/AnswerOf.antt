-- What a request, its reply and its answer mean for a debugger in memory: the clauses of replies and answers cite it.
use Rattle.std.specs.Prelude.{◌≡◌, ℕ, List, length, slice_get, All, Some, None, Result, Ok, Err}
use Rattle.jc_rules.specs.declared.operation.Event.{Event}
use Rattle.jc_rules.specs.declared.refusal.Refusal.TheVariants as F
use Rattle.jc_rules.specs.declared.rule.Rule.{Rule}
use Rattle.jc_rules.specs.declared.version.Version.{Version}
use Rattle.jc_rules.specs.Refused.{Cause}
use Rattle.jc_rules.specs.State.{State}
use Rattle.jc_printer.specs.Canon.{AreNamed}
use Rattle.jc_network.specs.Enabled.{AreEnabled, candidates}
use Rattle.jc_network.specs.Steps.{stuck_for}
use Rattle.jc_dump.specs.Lines.{IsNamedStuck}
use Rattle.jc_debug.specs.declared.fault.DebugFault.{DebugFault}
use Rattle.jc_debug.specs.declared.fault.RunEnd.{RunEnd}
use Rattle.jc_debug.specs.declared.fault.RunEnd.TheVariants as E
use Rattle.jc_debug.specs.DebuggerState.{RunOutcome}
use Rattle.jc_debug.specs.Invariant.{Seen, start_of, session_of}
use Rattle.jc_debug.specs.Moves.{IsTraceOf, IsEnd}
use Rattle.jc_session.specs.declared.replies.Reply.{Reply as AnyReply}
use Rattle.jc_session.specs.declared.replies.Reply.TheVariants as R
use Rattle.jc_session.specs.declared.replies.Spelling.{Spelling}
use Rattle.jc_session.specs.declared.replies.Spelling.TheVariants as S
use Rattle.jc_session.specs.Lines.{Line}
use Rattle.jc_session.specs.Reply as Y
use Rattle.jc_session.specs.Reply.{Reply}
use Rattle.jc_session.specs.Requests.{Request}
use Rattle.jc_session.specs.Answers.{Origin, IsNamed, IsMisspelled, IsEventText, Replies, LineAnswer}
use Rattle.jc_session.specs.Texts.{reply_text}

-- the names of a debugger's replicas, and its network at position 0
abbrev pub origin_in : Seen → Origin
origin_in d = record { names = d.net.names; start = start_of d }

-- each replica that the schedule names has a name
abbrev pub AllNamed : Seen → Type 0
AllNamed d = All (λ e. AreNamed e (length d.net.names)) d.schedule

-- ---- replies in memory

-- the trace of the event that led to the debugger's position, or that none did
pub data IsTraceReply (d : Seen) : Reply → Type 0 where
  traced : {rows : List (Rule × ℕ)} (of : IsTraceOf d rows)
      → IsTraceReply d (Y.traced (length d.traces) of.event rows)
  at_start : length d.traces ≡ 0 → IsTraceReply d Y.at_start

-- The reply for which one in memory stands: what that shows of a network is the debugger's.
abbrev pub IsReply : Seen → AnyReply → Reply → Type 0
IsReply d (R.Refused refusal) reply = reply ≡ Y.refused refusal
IsReply d (R.Misspelled refusal place) reply = reply ≡ Y.misspelled refusal place
IsReply d (R.Went n) reply = reply ≡ Y.went n None
IsReply d (R.Stuck n s) reply =
    (why : Cause) × (event : Event) × (s ≡ stuck_for why event) × (reply ≡ Y.went n (Some (event, why)))
IsReply d (R.Ran n end) reply = (outcome : RunOutcome) × IsEnd end outcome × (reply ≡ Y.ran n outcome)
IsReply d (R.Set k) reply = reply ≡ Y.set k
IsReply d (R.Cleared k) reply = reply ≡ Y.cleared k
IsReply d R.States reply = reply ≡ Y.states d.net.history.now.states
IsReply d (R.StateOf p) reply =
    (name : List ℕ) × (C : State)
    × IsNamed d.net.names name p
    × (slice_get d.net.history.now.states p ≡ Some C)
    × (reply ≡ Y.state_of name C)
IsReply d R.Trace reply = IsTraceReply d reply
IsReply d R.Enabled reply =
    (events : List Event)
    × AreEnabled d.net.history.now (candidates d.net.history.now) events
    × (reply ≡ Y.enabled events)
IsReply d R.Schedule reply = reply ≡ Y.scheduled d.schedule
IsReply d R.Position reply = reply ≡ Y.stands (length d.traces) (length d.schedule)
IsReply d (R.Compared found) reply = reply ≡ Y.compared found

-- where a run ended at an event that is stuck, the replicas that it names have names
abbrev pub IsNamedEnd : List (List ℕ) → RunEnd → Type 0
IsNamedEnd names (E.Stuck s) = IsNamedStuck names s
IsNamedEnd names _ = Unit {0}

-- the same of any reply
abbrev pub IsNamedReply : List (List ℕ) → AnyReply → Type 0
IsNamedReply names (R.Stuck n s) = IsNamedStuck names s
IsNamedReply names (R.Ran n end) = IsNamedEnd names end
IsNamedReply names _ = Unit {0}

-- The request leads from the one to the other, and this stands there for its reply.
pub record GivesReply (old : Seen) (request : Request) (new : Seen) (answer : AnyReply) : Type 0 where
  pub reply : Reply
  pub is_reply : IsReply new answer reply
  pub replies : Replies (origin_in old) (session_of old) request (session_of new) reply
  pub origin : origin_in new ≡ origin_in old

-- ---- answers

-- The request leads from the one to the other, and is answered by the text.
pub record GivesAnswer (old : Seen) (request : Request) (new : Seen) (text : List ℕ) : Type 0 where
  pub reply : Reply
  pub replies : Replies (origin_in old) (session_of old) request (session_of new) reply
  pub written : text ≡ reply_text old.net.names reply
  pub origin : origin_in new ≡ origin_in old

-- The line leads from the one to the other, and is answered by the text.
pub record GivesLine (old : Seen) (line : Line) (new : Seen) (text : List ℕ) : Type 0 where
  pub answer : LineAnswer (origin_in old) (session_of old) line (session_of new) text
  pub origin : origin_in new ≡ origin_in old

-- ---- parts of replies

-- what the rest of an `act` line spells
abbrev pub Spells : Version → List (List ℕ) → List ℕ → Spelling → Type 0
Spells version names rest (S.Event event) = IsEventText version names rest event
Spells version names rest (S.Refused refusal place) = IsMisspelled version names rest refusal place

-- the reply to a request for a breakpoint that was set, or could not be
abbrev pub set_reply : Result ℕ DebugFault → AnyReply
set_reply (Ok k) = R.Set k
set_reply (Err fault) = R.Refused F.TooManyBreaks
