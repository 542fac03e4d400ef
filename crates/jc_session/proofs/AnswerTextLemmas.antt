-- Of `AnswerOf`: the texts of replies in memory, and the answers of lines.
use Rattle.std.proofs.Common.{◌≡◌, ℕ, ◌-◌, List, [], length, slice_get, get_or, Option, None, Some, MatchOption, codes, refl, ap, sym, subst, ◌∙◌, arith}
use Rattle.std.specs.List.{All}
use Rattle.std.proofs.lemmas.Option.{get_or_from_slice_get}
use Rattle.jc_rules.specs.declared.operation.Event.{Event}
use Rattle.jc_rules.specs.declared.refusal.Refusal.TheVariants as F
use Rattle.jc_rules.specs.declared.rule.Rule.{Rule}
use Rattle.jc_printer.specs.Canon.{AreNamed}
use Rattle.jc_network.specs.Enabled.{AreEnabled, candidates}
use Rattle.jc_network.specs.NetworkHistory.{NetworkHistory}
use Rattle.jc_debug.specs.declared.fault.RunEnd.{RunEnd}
use Rattle.jc_debug.specs.declared.fault.RunEnd.TheVariants as E
use Rattle.jc_debug.specs.DebuggerState.{MakesEvent}
use Rattle.jc_debug.specs.Invariant.{Seen, start_of, session_of}
use Rattle.jc_debug.specs.Moves.{IsTraceOf}
use Rattle.jc_debug.proofs.BreaksLemmas.{one_makes}
use Rattle.jc_dump.specs.Texts.{block_text}
use Rattle.jc_session.specs.declared.replies.Reply.{Reply as AnyReply}
use Rattle.jc_session.specs.declared.replies.Reply.TheVariants as R
use Rattle.jc_session.specs.Answers as A
use Rattle.jc_session.specs.Answers.{Origin, LineAnswer}
use Rattle.jc_session.specs.AnswerOf.{origin_in, AllNamed, IsTraceReply, traced, at_start, IsReply, IsNamedEnd, IsNamedReply, GivesReply, GivesAnswer, GivesLine}
use Rattle.jc_session.specs.Lines.{Line}
use Rattle.jc_session.specs.Reply as Y
use Rattle.jc_session.specs.Reply.{Reply}
use Rattle.jc_session.specs.Requests as Q
use Rattle.jc_session.specs.Requests.{Request, nothing, asks, bad, meaning}
use Rattle.jc_session.specs.Texts.{refusal_line, event_lines, or_none_text, reply_text}
use Rattle.jc_session.proofs.AnswerOfLemmas.{of_all}
use Rattle.jc_session.proofs.ChosenEventsLemmas.{one_enabled}
use Rattle.jc_session.proofs.EventNamesLemmas.{replies_named, IsNamedIn}

-- ---- traces

-- the event that led to the position
pub event_at : (d : Seen) (t : List (Rule × ℕ)) (h : IsTraceOf d t) (es : List Event) (n : ℕ) (x : Event) → es ≡ d.schedule → n ≡ length d.traces → get_or es (n - 1) x ≡ h.event
event_at d t h es n x same at =
    let there : n - 1 ≡ h.before = omega (arith, h.position, at) in
    ap (λ xs. get_or xs (n - 1) x) same ∙ get_or_from_slice_get d.schedule (n - 1) h.event x (subst (λ (m : ℕ). slice_get d.schedule m ≡ Some h.event) (sym there) h.makes.is)

pub trace_named : (d : Seen) (t : List (Rule × ℕ)) (h : IsTraceOf d t) (net : NetworkHistory) (names : List (List ℕ)) (event : Event) → AllNamed d → net ≡ d.net → names ≡ net.names → event ≡ h.event → AreNamed event (length names)
trace_named d t h net names event all same is event_is =
    let known : d.net.names ≡ names = sym (is ∙ ap (λ (c : NetworkHistory). c.names) same) in
    let named = of_all (λ x. AreNamed x (length d.net.names)) d.schedule h.before h.event all h.makes.is in
    subst (λ (x : Event). AreNamed x (length names)) (sym event_is) (subst (λ (ns : List (List ℕ)). AreNamed h.event (length ns)) known named)

pub trace_text : (d : Seen) (t : List (Rule × ℕ)) (net : NetworkHistory) (names : List (List ℕ)) (n : ℕ) (event : Event) (text : List ℕ) → net ≡ d.net → names ≡ net.names → n ≡ length d.traces → (h : IsTraceOf d t) → event ≡ h.event → text ≡ block_text names n event t → (r : Reply) → IsTraceReply d r → text ≡ reply_text d.net.names r
trace_text d t net names n event text same is at h event_is due r (traced {rows} k) =
    let known : names ≡ d.net.names = is ∙ ap (λ (c : NetworkHistory). c.names) same in
    let number : h.before ≡ k.before = omega (arith, h.position, k.position) in
    let one = one_makes (start_of d) d.schedule k.before h.event k.event t rows (subst (λ (m : ℕ). MakesEvent (start_of d) d.schedule m h.event t) number h.makes) k.makes in
    let same_event : event ≡ k.event = event_is ∙ one.0 in
    due ∙ (λ i. block_text (known i) (at i) (same_event i) (one.1 i))
trace_text d t net names n event text same is at h event_is due r (at_start none) = let position = h.position in absurd (omega (arith, position, none))

pub start_text : (d : Seen) (text : List ℕ) → length d.traces ≡ 0 → text ≡ codes "start\n" → (r : Reply) → IsTraceReply d r → text ≡ reply_text d.net.names r
start_text d text none h r (at_start is) = h
start_text d text none h r (traced k) = let position = k.position in absurd (omega (arith, position, none))

-- ---- lists of events

pub enabled_text : (net : NetworkHistory) (names : List (List ℕ)) (listed : List Event) (lines text : List ℕ) → names ≡ net.names → AreEnabled net.history.now (candidates net.history.now) listed → lines ≡ event_lines names listed → text ≡ or_none_text lines → (events : List Event) → AreEnabled net.history.now (candidates net.history.now) events → text ≡ or_none_text (event_lines net.names events)
enabled_text net names listed lines text is enabled all h events others =
    let same = one_enabled net.history.now listed events enabled others in
    h ∙ ap or_none_text (all ∙ (λ i. event_lines (is i) (same i)))

-- ---- answers

-- a request leaves each event of the schedule named
pub all_named_after : (d e : Seen) (q : Request) (answer : AnyReply) → AllNamed d → GivesReply d q e answer → AllNamed e
all_named_after d e q answer all g =
    subst (λ (O : Origin). All (λ x. AreNamed x (length O.names)) e.schedule) (sym g.origin) (replies_named (origin_in d) (session_of d) (session_of e) q g.reply g.replies all).0

-- an event that is stuck, too
pub named_reply : (d e : Seen) (q : Request) (answer : AnyReply) → AllNamed d → GivesReply d q e answer → IsNamedReply e.net.names answer
named_reply d e q answer all g = by_answer answer g.is_reply
  where
    names : IsNamedIn (length e.net.names) g.reply
    names = subst (λ (O : Origin). IsNamedIn (length O.names) g.reply) (sym g.origin) (replies_named (origin_in d) (session_of d) (session_of e) q g.reply g.replies all).1

    by_end : (n : ℕ) (end : RunEnd) → IsReply e (R.Ran n end) g.reply → IsNamedEnd e.net.names end
    by_end n (E.Stuck s) (outcome, (why, event, told, ran), is) =
        record { why = why; event = event; is = told; named = subst (λ (r : Reply). IsNamedIn (length e.net.names) r) (is ∙ ap (Y.ran n) ran) names }
    by_end n _ is = tt

    by_answer : (a : AnyReply) → IsReply e a g.reply → IsNamedReply e.net.names a
    by_answer (R.Stuck n s) (why, event, told, is) =
        record { why = why; event = event; is = told; named = subst (λ (r : Reply). IsNamedIn (length e.net.names) r) is names }
    by_answer (R.Ran n end) is = by_end n end is
    by_answer a is = tt

-- ---- lines

pub gives_nothing : (d : Seen) (l : Line) (text : List ℕ) → nothing ≡ meaning l → text ≡ [] → GivesLine d l d text
gives_nothing d l text is h = record { answer = subst (λ (t : List ℕ). LineAnswer (origin_in d) (session_of d) l (session_of d) t) (sym h) (A.empty (sym is)); origin = refl }

pub gives_bad : (d : Seen) (l : Line) (text : List ℕ) → bad ≡ meaning l → text ≡ refusal_line F.BadLine → GivesLine d l d text
gives_bad d l text is h = record { answer = subst (λ (t : List ℕ). LineAnswer (origin_in d) (session_of d) l (session_of d) t) (sym h) (A.refused (sym is)); origin = refl }

pub gives_asks : {X : Type 0} (bytes : X → List ℕ) (d e : Seen) (l : Line) (q : Request) (answer : Option X) → asks q ≡ meaning l → MatchOption answer (q ≡ Q.quit) (λ text. GivesAnswer d q e (bytes text)) → MatchOption answer (meaning l ≡ asks Q.quit) (λ text. GivesLine d l e (bytes text))
gives_asks bytes d e l q None is h = sym is ∙ ap asks h
gives_asks bytes d e l q (Some text) is h = record {
  answer = subst (λ (t : List ℕ). LineAnswer (origin_in d) (session_of d) l (session_of e) t) (sym h.written) (A.replies q (sym is) h.replies);
  origin = h.origin;
}
