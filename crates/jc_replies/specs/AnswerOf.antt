-- What the replies and answers of a debugger in memory mean, for the clauses of replies.rt.
use Rattle.std.specs.Prelude.{◌≡◌, ◌<◌, ℕ, List, [], length}
use Rattle.jc_rules.specs.declared.operation.Event.{Event}
use Rattle.jc_debug.specs.Invariant.{Seen, session_of}
use Rattle.jc_session.specs.declared.replies.Reply.{Reply as AnyReply}
use Rattle.jc_session.specs.declared.replies.Reply.TheVariants as R
use Rattle.jc_session.specs.AnswerOf.{origin_in, AllNamed}
use Rattle.jc_session.specs.Answers.{Replies}
use Rattle.jc_session.specs.Reply.{Reply}
use Rattle.jc_session.specs.Requests as Q
use Rattle.jc_session.specs.Requests.{Request}
use Rattle.jc_replies.specs.ReplyTexts.{Background, IsAnswer}

-- what a debugger shows beside its replies
abbrev pub background_of : List Event → Seen → Background
background_of given d =
    record { names = d.net.names; given = given; schedule = d.schedule; states = d.net.history.now.states }

-- a position in the reply is the debugger's, and a replica in it is one of the network's
abbrev pub IsHere : Seen → AnyReply → Type 0
IsHere d (R.Went n) = n ≡ length d.traces
IsHere d (R.Stuck n s) = n ≡ length d.traces
IsHere d (R.Ran n end) = n ≡ length d.traces
IsHere d (R.StateOf p) = p < length d.net.history.now.states
IsHere d _ = Unit {0}

-- the text of a request's event
abbrev pub event_text : Request → List ℕ
event_text (Q.act rest) = rest
event_text request = []

-- The request leads from the one debugger to the other, and is answered by the text.
pub record GivesServed (given : List Event) (old : Seen) (request : Request) (new : Seen) (text : List ℕ) : Type 0 where
  pub reply : Reply
  pub replies : Replies (origin_in old) (session_of old) request (session_of new) reply
  pub answer : IsAnswer (background_of given new) (event_text request) reply text
  pub origin : origin_in new ≡ origin_in old
  pub all : AllNamed new
