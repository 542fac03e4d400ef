-- About Commands: commands that came to their end, and their statuses. For PromiseLemmas.
use Rattle.std.proofs.Common.{◌≡◌, ℕ, inl, inr, List, [], Bool, true, if◌then◌else◌, Option, Some, None, Ok, Err, refl, sym, subst, arith}
use Rattle.std.proofs.lemmas.Option.{same_Some}
use Rattle.jc_cli.specs.declared.order.Task.{Task}
use Rattle.jc_cli.specs.declared.order.Task.TheVariants.{Show, Debug, Serve, Threads, Weave}
use Rattle.jc_cli.specs.declared.order.View.{View}
use Rattle.jc_cli.specs.declared.order.View.TheVariants.{Check, Print, Run, Document, Journal}
use Rattle.jc_scenario.specs.WellFormed.{Scenario, IsScenario}
use Rattle.jc_session.specs.Lines.{Line}
use Rattle.jc_session.specs.SessionText.{End}
use Rattle.jc_session.specs.SessionText as S
use Rattle.jc_program.specs.Commands.{IsStoppedCommand}
use Rattle.jc_program.specs.Promise.{HasStart, HasStuckGiven}
use Rattle.jc_program.specs.Journals as J
use Rattle.jc_network.specs.Given.{before_given}
use Rattle.jc_program.specs.ViewText.{IsGivenShown, Ran}
use Rattle.jc_program.specs.Runs.{Stuck, status_of}
use Rattle.jc_program.specs.SessionRuns.{session_status, ShowsTo}
use Rattle.jc_program.specs.declared.fault.WorkFault.TheVariants.{Memory}
use Rattle.jc_io.specs.Written.{Stream}
use Rattle.jc_io.specs.declared.io.ReadFault.TheVariants as I
use Rattle.jc_program.proofs.JournalsLemmas.{all_led, first_stuck}
use Rattle.jc_program.proofs.FoundLemmas.{view_unread, recording_unread}
use Rattle.jc_program.specs.WeaveRuns.{IsBySeed, HaveNoThreads}
use Rattle.jc_program.proofs.SessionRunsLemmas.{unstarted}

-- there was no memory for the arguments
pub nothing_done : (task : Task) (told lines : Option (List ℕ)) (old new : Stream) → new ≡ old → IsStoppedCommand task Memory told lines lines old new
nothing_done (Show view) told lines old new same = view_unread view told old new I.Memory same
nothing_done Debug told lines old new same = unstarted told lines lines old new I.Memory refl same
nothing_done Serve told lines old new same = inl (refl, same)
nothing_done (Threads limit) told lines old new same = (refl, same)
nothing_done (Weave seed limit) told lines old new same = recording_unread (IsBySeed seed limit) HaveNoThreads told old new I.Memory same

-- ---- sessions in which a given event is stuck

module _ (bytes : List ℕ) where
  within_ends : (inside : Bool) (end : End) → end ≡ (if inside then S.finished else S.too_many) → end ≡ S.given_stuck → ⊥
  within_ends inside end is e = grind arith

  lines_end : (lines due : List Line) (end due_end : End) → S.Ends lines end due due_end → (due_end ≡ S.given_stuck → ⊥) → end ≡ S.given_stuck → ⊥
  lines_end lines due end due_end S.at_the_end none e = none e
  lines_end lines due end due_end (S.at_quit x more is quits) none e = cc

  -- a session that ends so is on a scenario of which a given event is stuck
  shows_given : (l text : List ℕ) (end : End) → S.ShowsSession bytes l text end → end ≡ S.given_stuck → HasStuckGiven bytes
  shows_given l text end (S.refused fault is line) e = absurd cc
  shows_given l text end (S.stuck s at event why is given) e = (s, at, event, why, is, given)
  shows_given l text end (S.talks s start is led t) e = absurd (lines_end t.lines t.due end t.due_end t.ends (within_ends _ t.due_end t.are_due.end_is) e)

-- ---- statuses

-- The status of a task that is done: all went well, the text was refused, an event was stuck after the start, or a given
-- one was.
pub data IsEnd (bytes : List ℕ) : ℕ → Type 0 where
  well : IsEnd bytes 0
  text_refused : IsEnd bytes 1
  event_stuck : HasStart bytes → IsEnd bytes 3
  given_stuck : HasStuckGiven bytes → IsEnd bytes 3

of_run : (bytes : List ℕ) → HasStart bytes → (s : Option Stuck) → IsEnd bytes (status_of s)
of_run bytes start None = well
of_run bytes start (Some s) = event_stuck start

-- the lines of a given event
pub of_given : (bytes : List ℕ) (s : Scenario) (shown : List ℕ) (status : ℕ) → IsScenario bytes s → IsGivenShown s shown status → IsEnd bytes status
of_given bytes s shown status is h = subst (IsEnd bytes) (sym h.ends) (given_stuck (s, h.at, h.event, h.why, is, h.stuck))

pub of_view : (view : View) (bytes shown : List ℕ) (status : ℕ) → Ran view bytes shown status → IsEnd bytes status
of_view view bytes shown status (Err fault, is, h) = subst (IsEnd bytes) (sym h.ends) text_refused
of_view Check bytes shown status (Ok s, is, h) = subst (IsEnd bytes) (sym h.1) well
of_view Print bytes shown status (Ok s, is, h) = subst (IsEnd bytes) (sym h.1) well
of_view (Journal trace effects) bytes shown status (Ok s, is, J.given_stuck last (event, why) h) =
    let first = first_stuck (record { rules = trace; effects = effects }) true s.names (before_given s) s.given last event why shown h in
    given_stuck (s, first.0, event, why, is, first.1)
of_view (Journal trace effects) bytes shown status (Ok s, is, J.ran start last stuck first text given h out) =
    of_run bytes (s, start, is, all_led (record { rules = trace; effects = effects }) true s.names (before_given s) s.given start first given) stuck
of_view (Run trace) bytes shown status (Ok s, is, inl h) = subst (IsEnd bytes) (sym h.ends) (of_run bytes (s, h.start, is, h.is_start) h.stuck)
of_view (Run trace) bytes shown status (Ok s, is, inr h) = of_given bytes s shown status is h
of_view (Document n) bytes shown status (Ok s, is, inl h) = subst (IsEnd bytes) (sym h.ends) (of_run bytes (s, h.start, is, h.is_start) h.stuck)
of_view (Document n) bytes shown status (Ok s, is, inr h) = of_given bytes s shown status is h

pub of_session : (bytes : List ℕ) (lines : Option (List ℕ)) (end : End) (a b : Stream) (status : ℕ) → session_status end ≡ Some status → ShowsTo bytes lines end a b → IsEnd bytes status
of_session bytes lines S.finished a b status e h = subst (IsEnd bytes) (same_Some 0 status e) well
of_session bytes lines S.too_many a b status e h = cc
of_session bytes lines (S.text_refused fault) a b status e h = subst (IsEnd bytes) (same_Some 1 status e) text_refused
of_session bytes lines S.given_stuck a b status e h =
    subst (IsEnd bytes) (same_Some 3 status e) (given_stuck (shows_given bytes [] (h []).0 S.given_stuck (h []).1 refl))
