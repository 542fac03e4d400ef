-- Of `AnswerOf`: what a request leads to tells its own position and replicas, and has an answer.
use Rattle.std.proofs.Common.{◌≡◌, ℕ, List, length, Option, Some, Result, Ok, Err, IfOk, refl, sym, subst}
use Rattle.std.specs.List.{All}
use Rattle.std.specs.Result.{MatchResult, IsOkAnd}
use Rattle.std.proofs.lemmas.Option.{slice_get_within}
use Rattle.jc_rules.specs.declared.operation.Event.{Event}
use Rattle.jc_printer.specs.Canon.{AreNamed}
use Rattle.jc_debug.specs.Invariant.{Seen, session_of}
use Rattle.jc_debug.specs.DebuggerState.{Session}
use Rattle.jc_session.specs.declared.replies.Reply.{Reply as AnyReply}
use Rattle.jc_session.specs.declared.replies.Reply.TheVariants as R
use Rattle.jc_session.specs.Answers as N
use Rattle.jc_session.specs.Answers.{Origin, ActsOn, Sets, Replies}
use Rattle.jc_session.specs.AnswerOf.{origin_in, AllNamed, IsReply, GivesReply}
use Rattle.jc_session.specs.Reply as Y
use Rattle.jc_session.specs.Reply.{Reply}
use Rattle.jc_session.specs.Requests.{Request}
use Rattle.jc_session.proofs.AnswerTextLemmas.{all_named_after}
use Rattle.jc_replies.specs.ReplyTexts.{IsAnswer}
use Rattle.jc_replies.specs.AnswerOf.{background_of, IsHere, event_text, GivesServed}

-- a position in the reply is this one
abbrev StandsAt : ℕ → Reply → Type 0
StandsAt n (Y.went p end) = p ≡ n
StandsAt n (Y.ran p end) = p ≡ n
StandsAt n _ = Unit {0}

act_stands : (O : Origin) (A B : Session) (e : Event) (reply : Reply) → ActsOn O A e B reply → StandsAt B.position reply
act_stands O A B e reply (N.full is) = tt
act_stands O A B e reply (N.stuck why network lt is stuck) = refl
act_stands O A B e reply (N.made network new rows lt is step) = refl

set_stands : (A B : Session) (b : _) (reply : Reply) → Sets A b B reply → StandsAt B.position reply
set_stands A B b reply (N.set least) = tt
set_stands A B b reply (N.none_free none) = tt

stands : (O : Origin) (A B : Session) (request : Request) (reply : Reply) → Replies O A request B reply → StandsAt B.position reply
stands O A B request reply (N.steps le goes) = refl
stands O A B request reply (N.goes_back le) = refl
stands O A B request reply (N.goes_to le goes) = refl
stands O A B request reply (N.acts event spelled acts) = act_stands O A B event reply acts
stands O A B request reply (N.runs lt runs) = refl
stands O A B request reply (N.breaks_at sets) = set_stands A B _ reply sets
stands O A B request reply (N.breaks_rule rule has is sets) = set_stands A B _ reply sets
stands O A B request reply (N.breaks_replica p is sets) = set_stands A B _ reply sets
stands O A B request reply r = tt

here_by : (e : Seen) (answer : AnyReply) (reply : Reply) → IsReply e answer reply → StandsAt (length e.traces) reply → IsHere e answer
here_by e (R.Went n) reply is h = subst (λ (r : Reply). StandsAt (length e.traces) r) is h
here_by e (R.Stuck n s) reply (why, event, told, is) h = subst (λ (r : Reply). StandsAt (length e.traces) r) is h
here_by e (R.Ran n end) reply (outcome, told, is) h = subst (λ (r : Reply). StandsAt (length e.traces) r) is h
here_by e (R.StateOf p) reply (name, A, named, there, is) h = slice_get_within e.net.history.now.states p A there
here_by e answer reply is h = tt

-- a reply's position is that of the debugger that answered, and its replica is there
pub here : (d e : Seen) (q : Request) (answer : AnyReply) → GivesReply d q e answer → IsHere e answer
here d e q answer g = here_by e answer g.reply g.is_reply (stands (origin_in d) (session_of d) (session_of e) q g.reply g.replies)

-- the given events are named as before
pub given_after : (d e : Seen) (q : Request) (answer : AnyReply) (given : List Event) → GivesReply d q e answer → All (λ x. AreNamed x (length d.net.names)) given → All (λ x. AreNamed x (length e.net.names)) given
given_after d e q answer given g h = subst (λ (O : Origin). All (λ x. AreNamed x (length O.names)) given) (sym g.origin) h

pub gives_served : (d e : Seen) (q : Request) (answer : AnyReply) (given : List Event) (event items : List ℕ) → AllNamed d → GivesReply d q e answer → event ≡ event_text q → ((r : Reply) → IsReply e answer r → IsAnswer (background_of given e) event r items) → GivesServed given d q e items
gives_served d e q answer given event items all g spelled h = record {
  reply = g.reply;
  replies = g.replies;
  answer = subst (λ (t : List ℕ). IsAnswer (background_of given e) t g.reply items) spelled (h g.reply g.is_reply);
  origin = g.origin;
  all = all_named_after d e q answer all g;
}

-- a result under `Some`, as `map` gives it
pub as_some : {T E : Type 0} (r : Result T E) (m : Result (Option T) E) (P : Option T → Type 0) → MatchResult r (λ x. IsOkAnd m (λ o. o ≡ Some x)) (λ e. m ≡ Err e) → IfOk r (λ x. P (Some x)) → IfOk m P
as_some (Ok x) (Ok o) P is h = subst P (sym is) h
as_some (Ok x) (Err e) P is h = tt
as_some (Err e) m P is h = subst (λ (k : _). IfOk k P) (sym is) tt
