-- Of `Laws`: a session has one text at most, and one end.
use Rattle.std.proofs.Common.{◌≡◌, ◌≢◌, ℕ, ◌+◌, List, [], ◌∷◌, ◌++◌, slice_get, Option, None, Some, ◌⊎◌, inl, inr, refl, ap, sym, subst, ◌∙◌, arith, append-nil}
use Rattle.std.proofs.lemmas.Option.{same_Some, slice_get_within, get_or_from_slice_get}
use Rattle.jc_rules.specs.declared.operation.Event.{Event}
use Rattle.jc_rules.specs.declared.refusal.Refusal.TheVariants as F
use Rattle.jc_rules.specs.declared.rule.Rule.{Rule}
use Rattle.jc_rules.specs.Entries.{IsRising}
use Rattle.jc_rules.specs.Order.{name_cmp}
use Rattle.jc_rules.specs.Refused.{Cause, IsStuckIn}
use Rattle.jc_rules.specs.Step.{Network, StepIn}
use Rattle.jc_rules.specs.State.{State}
use Rattle.jc_rules.proofs.RefusalsLemmas.{names_differ}
use Rattle.jc_rules.proofs.VersionLemmas.{stuck_in_has_none, one_stuck_in}
use Rattle.jc_network.specs.Enabled.{AreEnabled, candidates}
use Rattle.jc_network.specs.Given.{before_given, IsStart, IsGivenStuck, OneStart, OneGivenStuck, LedOrStuck}
use Rattle.jc_dump.specs.Texts.{given_text}
use Rattle.jc_meaning.specs.declared.comparison.Comparison.{Comparison}
use Rattle.jc_debug.specs.declared.breaks.Break.{Break}
use Rattle.jc_debug.specs.declared.breaks.Break.TheVariants as Kind
use Rattle.jc_debug.specs.DebuggerState.{Session, IsNetworkAt, MakesEvent, StuckEvent, GoesTo, moved_to, with_break, new_session}
use Rattle.jc_debug.proofs.BreaksLemmas.{one_makes}
use Rattle.jc_debug.proofs.LawsLemmas.{one_network, one_goes, one_least, one_run}
use Rattle.jc_scenario.specs.Laws.{OneScenario, OneFault, ScenarioOrFault, ScenariosAreWellFormed}
use Rattle.jc_scenario.specs.WellFormed.{Scenario}
use Rattle.jc_session.specs.Answers as N
use Rattle.jc_session.specs.Answers.{Origin, origin_of, IsNamed, IsStrange, Compares, ActsOn, Sets, Replies, LineAnswer}
use Rattle.jc_session.specs.Laws.{OneSession}
use Rattle.jc_session.specs.Lines.{Line}
use Rattle.jc_session.specs.Reply as Y
use Rattle.jc_session.specs.Reply.{Reply}
use Rattle.jc_session.specs.Requests as Q
use Rattle.jc_session.specs.Requests.{Request, nothing, asks, bad, meaning}
use Rattle.jc_session.specs.SessionText as H
use Rattle.jc_session.specs.SessionText.{AnswersLines, End, finished, text_refused, Ends, at_the_end, at_quit, Talks, refused, talks}
use Rattle.jc_session.specs.Texts.{reply_text}
use Rattle.jc_session.proofs.ChosenEventsLemmas.{one_enabled}
use Rattle.jc_session.proofs.AnswersUniqueLemmas.{one_named, one_fault_line, EventLaws, one_spelled, spelled_or_not, one_misspelling, one_within}

-- one state and one reply
abbrev Same : Session → Session → Reply → Reply → Type 0
Same B C t u = (B ≡ C) × (t ≡ u)

-- ---- moves and runs

went_once : (O : Origin) (A : Session) (to p q : ℕ) (end other : Option StuckEvent) → GoesTo O.start A.schedule A.position to p end → GoesTo O.start A.schedule A.position to q other → Same (moved_to A p) (moved_to A q) (Y.went p end) (Y.went q other)
went_once O A to p q end other a b =
    let one = one_goes O.start A.schedule A.position to p q end other a b in
    (ap (moved_to A) one.0, λ i. Y.went (one.0 i) (one.1 i))

-- ---- events of a line

no_step : (O : Origin) (A : Session) (event : Event) (why : Cause) (N M new : Network) (rows : List (Rule × ℕ)) → IsNetworkAt O.start A.schedule A.position N → IsStuckIn N event why → IsNetworkAt O.start A.schedule A.position M → StepIn M event new rows → ⊥
no_step O A event why N M new rows a stuck b step =
    stuck_in_has_none M new event why rows (subst (λ (L : Network). IsStuckIn L event why) (one_network O.start A.schedule A.position N M a b) stuck) step

acts_once : (O : Origin) (A B C : Session) (event : Event) (t u : Reply) → ActsOn O A event B t → ActsOn O A event C u → Same B C t u
acts_once O A B C event t u (N.full is) (N.stuck due M lt b other) = absurd (omega (arith, is, lt))
acts_once O A B C event t u (N.full is) (N.made M new rows lt b step) = absurd (omega (arith, is, lt))
acts_once O A B C event t u (N.stuck why L lt a stuck) (N.full is) = absurd (omega (arith, is, lt))
acts_once O A B C event t u (N.stuck why L lt a stuck) (N.stuck due M less b other) =
    let same : IsStuckIn M event why = subst (λ (X : Network). IsStuckIn X event why) (one_network O.start A.schedule A.position L M a b) stuck in
    (refl, ap (λ (x : Cause). Y.went A.position (Some (event, x))) (one_stuck_in M event why due same other))
acts_once O A B C event t u (N.stuck why L lt a stuck) (N.made M new rows less b step) = absurd (no_step O A event why L M new rows a stuck b step)
acts_once O A B C event t u (N.made L new rows lt a step) (N.full is) = absurd (omega (arith, is, lt))
acts_once O A B C event t u (N.made L new rows lt a step) (N.stuck why M less b stuck) = absurd (no_step O A event why M L new rows b stuck a step)
acts_once O A B C event t u _ _ = (refl, refl)

-- ---- breakpoints

sets_once : (A B C : Session) (b : Break) (t u : Reply) → Sets A b B t → Sets A b C u → Same B C t u
sets_once A B C b t u (N.set {j} least) (N.set {j = k} other) =
    let same : j ≡ k = one_least (λ i. slice_get A.breaks i ≡ Some None) j k least other in
    (ap (λ (i : ℕ). with_break A i (Some b)) same, ap (λ (i : ℕ). Y.set (i + 1)) same)
sets_once A B C b t u (N.set {j} least) (N.none_free none) = absurd (none j least.0)
sets_once A B C b t u (N.none_free none) (N.set {j} least) = absurd (none j least.0)
sets_once A B C b t u (N.none_free none) (N.none_free other) = (refl, refl)

-- breakpoint j + 1 is taken away
clears_once : (O : Origin) (A C : Session) (q : Request) (j : ℕ) (b : Break) (u : Reply) → q ≡ Q.unbreak (j + 1) → slice_get A.breaks j ≡ Some (Some b) → Replies O A q C u → Same (with_break A j None) C (Y.cleared (j + 1)) u
clears_once O A C q j b u e is (N.clears i d it) =
    let number : i + 1 ≡ j + 1 = cc in
    let same : j ≡ i = omega (arith, number) in
    (ap (λ (n : ℕ). with_break A n None) same, ap (λ (n : ℕ). Y.cleared (n + 1)) same)
clears_once O A C q j b u e is (N.no_break {k} none) = let number : k ≡ j + 1 = cc in absurd (none j b number is)
clears_once O A C q j b u e is r = absurd cc

-- there is no breakpoint k
no_break_once : (O : Origin) (A C : Session) (q : Request) (k : ℕ) (u : Reply) → q ≡ Q.unbreak k → ((j : ℕ) (b : Break) → k ≡ j + 1 → slice_get A.breaks j ≢ Some (Some b)) → Replies O A q C u → Same A C (Y.refused F.NoSuchBreak) u
no_break_once O A C q k u e none (N.clears j b is) = let number : j + 1 ≡ k = cc in absurd (none j b (sym number) is)
no_break_once O A C q k u e none (N.no_break other) = (refl, refl)
no_break_once O A C q k u e none r = absurd cc

-- ---- what is shown

-- a name that a replica has is no stranger's
known : (names : List (List ℕ)) (name : List ℕ) (p : ℕ) → IsNamed names name p → IsStrange names name → ⊥
known names name p is none = none (p, slice_get_within names p name is, get_or_from_slice_get names p name name is)

there_once : (L M : Network) (p q : ℕ) (C D : State) → L ≡ M → p ≡ q → slice_get L.states p ≡ Some C → slice_get M.states q ≡ Some D → C ≡ D
there_once L M p q C D same number a b = same_Some C D (sym a ∙ (λ i. slice_get (same i).states (number i)) ∙ b)

compared_once : (C D : State) (t u : Comparison) → Compares C D t → Compares C D u → t ≡ u
compared_once C D t u (N.same_tree ops tree) (N.different_tree too other) = absurd (other tree)
compared_once C D t u (N.same_tree ops tree) (N.different_ops other) = absurd (other ops)
compared_once C D t u (N.different_tree ops tree) (N.same_tree too other) = absurd (tree other)
compared_once C D t u (N.different_tree ops tree) (N.different_ops other) = absurd (other ops)
compared_once C D t u (N.different_ops ops) (N.same_tree too other) = absurd (ops too)
compared_once C D t u (N.different_ops ops) (N.different_tree too other) = absurd (ops too)
compared_once C D t u _ _ = refl

both_known : (names : List (List ℕ)) (name other : List ℕ) (p q : ℕ) → IsNamed names name p → IsNamed names other q → IsStrange names name ⊎ IsStrange names other → ⊥
both_known names name other p q a b (inl none) = known names name p a none
both_known names name other p q a b (inr none) = known names other q b none

-- ---- requests

-- a request leads to one state, and has one reply
one_reply : (laws : EventLaws) (O : Origin) (A : Session) (q : Request) → IsRising name_cmp O.names → (B : Session) (t : Reply) → Replies O A q B t → (C : Session) (u : Reply) → Replies O A q C u → Same B C t u
one_reply laws O A q rising B t (N.steps {n} {p} {end} le goes) C u (N.steps {p = r} {end = other} less moves) = went_once O A (A.position + n) p r end other goes moves
one_reply laws O A q rising B t (N.steps {n} le goes) C u (N.steps_past lt) = absurd (omega (arith, le, lt))
one_reply laws O A q rising B t (N.steps_past lt) C u (N.steps {n} le goes) = absurd (omega (arith, le, lt))
one_reply laws O A q rising B t (N.goes_back le) C u (N.back_past lt) = absurd (omega (arith, le, lt))
one_reply laws O A q rising B t (N.back_past lt) C u (N.goes_back le) = absurd (omega (arith, le, lt))
one_reply laws O A q rising B t (N.goes_to {n} {p} {end} le goes) C u (N.goes_to {p = r} {end = other} less moves) = went_once O A n p r end other goes moves
one_reply laws O A q rising B t (N.goes_to le goes) C u (N.goes_past lt) = absurd (omega (arith, le, lt))
one_reply laws O A q rising B t (N.goes_past lt) C u (N.goes_to le goes) = absurd (omega (arith, le, lt))
one_reply laws O A q rising B t (N.acts {rest} e spelled a) C u (N.acts f spelled_too b) =
    let event : e ≡ f = one_spelled laws O.start.version O.names rest e f rising spelled spelled_too in
    acts_once O A B C f t u (subst (λ (x : Event). ActsOn O A x B t) event a) b
one_reply laws O A q rising B t (N.acts {rest} e spelled a) C u (N.acts_misspelled {refusal} {place} m) = absurd (spelled_or_not laws O.start.version O.names rest refusal place e rising spelled m)
one_reply laws O A q rising B t (N.acts_misspelled {rest} {refusal} {place} m) C u (N.acts e spelled a) = absurd (spelled_or_not laws O.start.version O.names rest refusal place e rising spelled m)
one_reply laws O A q rising B t (N.acts_misspelled {rest} {refusal} {place} m) C u (N.acts_misspelled {refusal = other} {place = at} n) = (refl, one_misspelling laws O.start.version O.names rest refusal other place at m n)
one_reply laws O A q rising B t (N.runs {n} {end} lt runs) C u (N.runs {n = m} {end = other} less moves) =
    let one = one_run O.start A n m end other runs moves in
    (ap (moved_to A) one.0, λ i. Y.ran (one.0 i) (one.1 i))
one_reply laws O A q rising B t (N.runs lt runs) C u (N.runs_past is) = absurd (omega (arith, lt, is))
one_reply laws O A q rising B t (N.runs_past is) C u (N.runs lt runs) = absurd (omega (arith, lt, is))
one_reply laws O A q rising B t (N.breaks_at {n} a) C u (N.breaks_at b) = sets_once A B C (Kind.Position n) t u a b
one_reply laws O A q rising B t (N.breaks_rule rule has is a) C u (N.breaks_rule other too it b) =
    let same : rule ≡ other = names_differ rule other (is ∙ sym it) in
    sets_once A B C (Kind.Rule other) t u (subst (λ (r : Rule). Sets A (Kind.Rule r) B t) same a) b
one_reply laws O A q rising B t (N.breaks_rule rule has is a) C u (N.no_rule none) = absurd (none rule has is)
one_reply laws O A q rising B t (N.no_rule none) C u (N.breaks_rule rule has is a) = absurd (none rule has is)
one_reply laws O A q rising B t (N.breaks_replica {name} p is a) C u (N.breaks_replica r it b) =
    let same : p ≡ r = one_named O.names name p r rising is it in
    sets_once A B C (Kind.Replica r) t u (subst (λ (n : ℕ). Sets A (Kind.Replica n) B t) same a) b
one_reply laws O A q rising B t (N.breaks_replica {name} p is a) C u (N.no_replica none) = absurd (known O.names name p is none)
one_reply laws O A q rising B t (N.no_replica {name} none) C u (N.breaks_replica p is a) = absurd (known O.names name p is none)
one_reply laws O A q rising B t (N.clears j b is) C u r = clears_once O A C (Q.unbreak (j + 1)) j b u refl is r
one_reply laws O A q rising B t (N.no_break {k} none) C u r = no_break_once O A C (Q.unbreak k) k u refl none r
one_reply laws O A q rising B t (N.states L is) C u (N.states M it) = (refl, ap (λ (K : Network). Y.states K.states) (one_network O.start A.schedule A.position L M is it))
one_reply laws O A q rising B t (N.state_of {name} L p D is named here) C u (N.state_of M r E it other there) =
    let same : L ≡ M = one_network O.start A.schedule A.position L M is it in
    (refl, ap (Y.state_of name) (there_once L M p r D E same (one_named O.names name p r rising named other) here there))
one_reply laws O A q rising B t (N.state_of {name} L p D is named here) C u (N.no_state none) = absurd (known O.names name p named none)
one_reply laws O A q rising B t (N.no_state {name} none) C u (N.state_of L p D is named here) = absurd (known O.names name p named none)
one_reply laws O A q rising B t (N.traces {n} {event} {rows} is makes) C u (N.traces {n = m} {event = other} {rows = others} it too) =
    let same : n ≡ m = omega (arith, is, it) in
    let one = one_makes O.start A.schedule m event other rows others (subst (λ (k : ℕ). MakesEvent O.start A.schedule k event rows) same makes) too in
    (refl, λ i. Y.traced (same i + 1) (one.0 i) (one.1 i))
one_reply laws O A q rising B t (N.traces {n} is makes) C u (N.at_start it) = absurd (omega (arith, is, it))
one_reply laws O A q rising B t (N.at_start is) C u (N.traces {n} it makes) = absurd (omega (arith, is, it))
one_reply laws O A q rising B t (N.enables L ls is listed) C u (N.enables M ms it other) =
    let here = subst (λ (K : Network). AreEnabled K (candidates K) ls) (one_network O.start A.schedule A.position L M is it) listed in
    (refl, ap Y.enabled (one_enabled M ls ms here other))
one_reply laws O A q rising B t N.lists C u N.lists = (refl, refl)
one_reply laws O A q rising B t N.tells C u N.tells = (refl, refl)
one_reply laws O A q rising B t (N.compares {name} {other} {found = x} L p r D E is one two here there found) C u (N.compares {found = y} M s v F G it first second at too more) =
    let same : L ≡ M = one_network O.start A.schedule A.position L M is it in
    let left : D ≡ F = there_once L M p s D F same (one_named O.names name p s rising one first) here at in
    let right : E ≡ G = there_once L M r v E G same (one_named O.names other r v rising two second) there too in
    (refl, ap Y.compared (compared_once F G x y (subst (λ (K : State). Compares F K x) right (subst (λ (K : State). Compares K E x) left found)) more))
one_reply laws O A q rising B t (N.compares {name} {other} L p r D E is one two here there found) C u (N.no_compared none) = absurd (both_known O.names name other p r one two none)
one_reply laws O A q rising B t (N.no_compared {name} {other} none) C u (N.compares L p r D E is one two here there found) = absurd (both_known O.names name other p r one two none)
one_reply laws O A q rising B t _ C u _ = (refl, refl)

-- ---- lines

-- `quit` has no reply
no_reply : (O : Origin) (A B : Session) (t : Reply) → Replies O A Q.quit B t → ⊥
no_reply O A B t r = elim r [ ]

never_quit : (O : Origin) (A B : Session) (l : Line) (t : List ℕ) → LineAnswer O A l B t → meaning l ≡ asks Q.quit → ⊥
never_quit O A B l t (N.empty is) e = let no : nothing ≡ asks Q.quit = sym is ∙ e in cc
never_quit O A B l t (N.refused is) e = let no : bad ≡ asks Q.quit = sym is ∙ e in cc
never_quit O A B l t (N.replies {reply} q is r) e =
    let asked : asks q ≡ asks Q.quit = sym is ∙ e in
    let same : q ≡ Q.quit = cc in
    no_reply O A B reply (subst (λ (x : Request). Replies O A x B reply) same r)

one_answer : (laws : EventLaws) (O : Origin) (A B C : Session) (l : Line) (t u : List ℕ) → IsRising name_cmp O.names → LineAnswer O A l B t → LineAnswer O A l C u → (B ≡ C) × (t ≡ u)
one_answer laws O A B C l t u rising (N.empty is) (N.refused it) = let no : nothing ≡ bad = sym is ∙ it in absurd (cc)
one_answer laws O A B C l t u rising (N.empty is) (N.replies q it r) = let no : nothing ≡ asks q = sym is ∙ it in absurd (cc)
one_answer laws O A B C l t u rising (N.refused is) (N.empty it) = let no : bad ≡ nothing = sym is ∙ it in absurd (cc)
one_answer laws O A B C l t u rising (N.refused is) (N.replies q it r) = let no : bad ≡ asks q = sym is ∙ it in absurd (cc)
one_answer laws O A B C l t u rising (N.replies q is r) (N.empty it) = let no : asks q ≡ nothing = sym is ∙ it in absurd (cc)
one_answer laws O A B C l t u rising (N.replies q is r) (N.refused it) = let no : asks q ≡ bad = sym is ∙ it in absurd (cc)
one_answer laws O A B C l t u rising (N.replies {reply = x} q is r) (N.replies {reply = y} p it s) =
    let asked : asks q ≡ asks p = sym is ∙ it in
    let same : q ≡ p = cc in
    let one = one_reply laws O A p rising B x (subst (λ (w : Request). Replies O A w B x) same r) C y s in
    (one.0, ap (reply_text O.names) one.1)
one_answer laws O A B C l t u rising _ _ = (refl, refl)

-- ---- whole sessions

-- What is left of the lines that are due: nothing, or `quit` comes next.
abbrev IsRest : End → List Line → End → Type 0
IsRest due_end [] end = end ≡ due_end
IsRest due_end (x ∷ more) end = (meaning x ≡ asks Q.quit) × (end ≡ finished)

rest_of : (lines due : List Line) (end due_end : End) → Ends lines end due due_end → (more : List Line) × (due ≡ lines ++ more) × IsRest due_end more end
rest_of lines due end due_end at_the_end = ([], sym (append-nil lines), refl)
rest_of lines due end due_end (at_quit x more is q) = (x ∷ more, is, (q, refl))

one_rest : (due_end end other : End) (more : List Line) → IsRest due_end more end → IsRest due_end more other → end ≡ other
one_rest due_end end other [] r s = r ∙ sym s
one_rest due_end end other (x ∷ more) r s = r.1 ∙ sym s.1

one_talk : (laws : EventLaws) (O : Origin) (A B C : Session) (xs ys more rest : List Line) (due_end end other : End) (t u : List ℕ) → IsRising name_cmp O.names → xs ++ more ≡ ys ++ rest → IsRest due_end more end → IsRest due_end rest other → AnswersLines O A xs B t → AnswersLines O A ys C u → (t ≡ u) × (end ≡ other)
one_talk laws O A B C [] [] more rest due_end end other t u rising e r s a b = (a.1 ∙ sym b.1, one_rest due_end end other rest (subst (λ (l : List Line). IsRest due_end l end) e r) s)
one_talk laws O A B C [] (y ∷ ys) more rest due_end end other t u rising e r s a b = absurd (never_quit O A b.0 y b.1 b.3 (subst (λ (l : List Line). IsRest due_end l end) e r).0)
one_talk laws O A B C (x ∷ xs) [] more rest due_end end other t u rising e r s a b = absurd (never_quit O A a.0 x a.1 a.3 (subst (λ (l : List Line). IsRest due_end l other) (sym e) s).0)
one_talk laws O A B C (x ∷ xs) (y ∷ ys) more rest due_end end other t u rising e r s a b =
    let line : x ≡ y = cc in
    let tail : xs ++ more ≡ ys ++ rest = cc in
    let one = one_answer laws O A a.0 b.0 y a.1 b.1 rising (subst (λ (l : Line). LineAnswer O A l a.0 a.1) line a.3) b.3 in
    let next = one_talk laws O b.0 B C xs ys more rest due_end end other a.2 b.2 rising tail r s (subst (λ (M : Session). AnswersLines O M xs B a.2) one.0 a.4) b.4 in
    (a.5 ∙ (λ i. one.1 i ++ next.0 i) ∙ sym b.5, next.1)

one_ending : (laws : EventLaws) (O : Origin) (A : Session) (bytes t u : List ℕ) (end other : End) → IsRising name_cmp O.names → Talks O A bytes t end → Talks O A bytes u other → (t ≡ u) × (end ≡ other)
one_ending laws O A bytes t u end other rising a b =
    let due = one_within 67108864 1000000 bytes a.due b.due a.due_end b.due_end a.are_due b.are_due in
    let r = rest_of a.lines a.due end a.due_end a.ends in
    let s = rest_of b.lines b.due other b.due_end b.ends in
    one_talk laws O A a.last b.last a.lines b.lines r.0 s.0 b.due_end end other t u rising (sym r.1 ∙ due.0 ∙ s.1) (subst (λ (x : End). IsRest x r.0 end) due.1 r.2) s.2 a.answers b.answers

-- what holds from the start of a scenario
pub record StartLaws : Type 0 where
  pub one_start : OneStart
  pub one_given_stuck : OneGivenStuck
  pub led_or_stuck : LedOrStuck

-- the given events of one scenario are stuck once
one_stuck : (starts : StartLaws) (s r : Scenario) (at n : ℕ) (event other : Event) (why due : Cause) → s ≡ r → IsGivenStuck (before_given s) s.given at event why → IsGivenStuck (before_given r) r.given n other due → given_text s.names at why event ≡ given_text r.names n due other
one_stuck starts s r at n event other why due same g h =
    let here = subst (λ (x : Scenario). IsGivenStuck (before_given x) x.given at event why) same g in
    let one = starts.one_given_stuck (before_given r) r.given at n event other why due here h in
    λ i. given_text (same i).names (one.0 i) (one.2 i) (one.1 i)

-- and not where there is a start
started_or_stuck : (starts : StartLaws) (s r : Scenario) (start : Network) (at : ℕ) (event : Event) (why : Cause) → s ≡ r → IsStart s start → IsGivenStuck (before_given r) r.given at event why → ⊥
started_or_stuck starts s r start at event why same is g =
    (starts.led_or_stuck r.scripts (before_given r) r.given ([], refl)).1 start at event why (subst (λ (x : Scenario). IsStart x start) same is) g

-- the talk of one scenario goes on from its one start
same_talk : (starts : StartLaws) (s r : Scenario) (start other : Network) (l t : List ℕ) (end : End) → s ≡ r → IsStart s start → IsStart r other → Talks (origin_of s start) (new_session s.schedule) l t end → Talks (origin_of r other) (new_session r.schedule) l t end
same_talk starts s r start other l t end same is it a =
    let one : start ≡ other = starts.one_start r start other (subst (λ (x : Scenario). IsStart x start) same is) it in
    subst (λ (N : Network). Talks (origin_of r N) (new_session r.schedule) l t end) one
    (subst (λ (x : Scenario). Talks (origin_of x start) (new_session x.schedule) l t end) same a)

pub one_session : EventLaws → StartLaws → OneScenario → OneFault → ScenarioOrFault → ScenariosAreWellFormed → OneSession
one_session laws starts one_scenario one_fault never_both formed b l t u end other (refused fault is line) (refused due it more) =
    let same : fault ≡ due = one_fault b fault due is it in
    (one_fault_line fault due t u same line more, ap text_refused same)
one_session laws starts one_scenario one_fault never_both formed b l t u end other (refused fault is line) (H.stuck s at event why it g) = absurd (never_both b s fault it is)
one_session laws starts one_scenario one_fault never_both formed b l t u end other (refused fault is line) (talks s start it begins a) = absurd (never_both b s fault it is)
one_session laws starts one_scenario one_fault never_both formed b l t u end other (H.stuck s at event why is g) (refused fault it line) = absurd (never_both b s fault is it)
one_session laws starts one_scenario one_fault never_both formed b l t u end other (H.stuck s at event why is g) (H.stuck r n next due it h) =
    (one_stuck starts s r at n event next why due (one_scenario b s r is it) g h, refl)
one_session laws starts one_scenario one_fault never_both formed b l t u end other (H.stuck s at event why is g) (talks r start it begins a) =
    absurd (started_or_stuck starts r s start at event why (one_scenario b r s it is) begins g)
one_session laws starts one_scenario one_fault never_both formed b l t u end other (talks s start is begins a) (refused fault it line) = absurd (never_both b s fault is it)
one_session laws starts one_scenario one_fault never_both formed b l t u end other (talks s start is begins a) (H.stuck r at event why it g) =
    absurd (started_or_stuck starts s r start at event why (one_scenario b s r is it) begins g)
one_session laws starts one_scenario one_fault never_both formed b l t u end other (talks s start is begins a) (talks r from it begins_too c) =
    one_ending laws (origin_of r from) (new_session r.schedule) l t u end other (formed b r it).rising
    (same_talk starts s r start from l t end (one_scenario b s r is it) begins begins_too a) c
