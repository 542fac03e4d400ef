-- Of `Answers`: each request but `quit` has a reply, in each state that a session on a scenario reaches.
use Rattle.std.proofs.Common.{◌≡◌, ◌⊎◌, inl, inr, ℕ, zero, suc, ◌+◌, ◌-◌, ◌<◌, ◌≤◌, List, [], ◌∷◌, ◌++◌, length, take, slice_get, Option, None, Some, Contains, true, refl, ap, sym, subst, ◌∙◌, arith, length-append, length-take-le}
use Rattle.std.proofs.lemmas.Bool.{cases_lt}
use Rattle.std.proofs.lemmas.Option.{slice_get_within}
use Rattle.jc_rules.specs.declared.operation.Event.{Event}
use Rattle.jc_rules.specs.declared.refusal.Refusal.{Refusal}
use Rattle.jc_rules.specs.declared.refusal.Refusal.TheVariants as F
use Rattle.jc_rules.specs.State.{State}
use Rattle.jc_rules.specs.Step.{Network, AfterIn}
use Rattle.jc_rules.proofs.VersionLemmas.{after_states}
use Rattle.jc_parser.specs.EventLaws.{EventElseFault}
use Rattle.jc_scenario.specs.WellFormed.{Scenario, IsWellFormedScenario}
use Rattle.jc_network.specs.Given.{before_given, IsStart}
use Rattle.jc_network.specs.Laws.{IsReached, StepOrStuck}
use Rattle.jc_network.proofs.EnabledLemmas.{decided_in}
use Rattle.jc_network.proofs.AfterLemmas.{after_more}
use Rattle.jc_network.proofs.GivenHistoryLemmas.{start_each}
use Rattle.jc_network.proofs.MembersLemmas.{some_at}
use Rattle.jc_meaning.specs.declared.comparison.Comparison.{Comparison}
use Rattle.jc_meaning.specs.declared.comparison.Comparison.TheVariants.{SameOps, DifferentOps}
use Rattle.jc_meaning.specs.Laws.{TreesConverge}
use Rattle.jc_meaning.proofs.ComparisonLemmas.{in_list}
use Rattle.jc_debug.specs.declared.breaks.Break.{Break}
use Rattle.jc_debug.specs.declared.breaks.Break.TheVariants as Kind
use Rattle.jc_debug.specs.DebuggerState.{Session, IsNetworkAt, GoesTo, arrives, StuckEvent, moved_to, acted, with_break}
use Rattle.jc_session.specs.Answers as N
use Rattle.jc_session.specs.Answers.{origin_of, IsNamed, IsEventText, Sets, Compares, Replies}
use Rattle.jc_session.specs.Reply as Y
use Rattle.jc_session.specs.Reply.{Reply}
use Rattle.jc_session.specs.Requests as Q
use Rattle.jc_session.specs.Requests.{Request, Word}
use Rattle.jc_session.proofs.ChosenEventsLemmas.{some_enabled}
use Rattle.jc_session.proofs.DecisionsLemmas.{Decided, least, same_ops, named_or_strange, known_or_none, resolved_or_strange}
use Rattle.jc_session.proofs.TextFaultsLemmas.{fault_line, event_told}
use Rattle.jc_session.proofs.MovesDecidedLemmas.{Decides, same_count, at_earlier, made_before, acted_at, move, come_to, run}

-- what the laws of other crates say of networks and of events' texts
pub record ReplyLaws : Type 0 where
  pub step_or_stuck : StepOrStuck
  pub trees_converge : TreesConverge
  pub event_else_fault : EventElseFault

-- The schedule is within the limit, and events have led to the position.
pub record IsGood (start : Network) (A : Session) : Type 0 where
  pub short : length A.schedule ≤ 100000
  pub network : Network
  pub is_at : IsNetworkAt start A.schedule A.position network

-- a request has a reply, and leads to such a state again
pub record Replied (s : Scenario) (start : Network) (A : Session) (q : Request) : Type 0 where
  pub after : Session
  pub reply : Reply
  pub good : IsGood start after
  pub replies : Replies (origin_of s start) A q after reply

-- ---- parts of replies

is_free : (A : Session) (j : ℕ) → Decided (slice_get A.breaks j ≡ Some None)
is_free A j = by_place (slice_get A.breaks j) refl
  where
    by_place : (o : Option (Option Break)) → slice_get A.breaks j ≡ o → Decided (slice_get A.breaks j ≡ Some None)
    by_place (Some None) e = inl e
    by_place o e = inr (λ f. (let no : o ≡ Some None = sym e ∙ f in cc))

module _ (laws : ReplyLaws) (s : Scenario) (start : Network) (begins : IsStart s start) (formed : IsWellFormedScenario s) where
  -- what the start leads to, its scripts do
  led : (es : List Event) (M : Network) → AfterIn start es M → IsReached s.scripts M.states
  led es M after = (s.given ++ es, after_states (before_given s) (s.given ++ es) M (after_more (before_given s) s.given start es M begins after))

  -- at each position an event is made or stuck
  decides : Decides start
  decides es M after event = decided_in M (λ e. (laws.step_or_stuck s.scripts M.states (led es M after) e).0) event

  reached : (A : Session) (good : IsGood start A) → IsReached s.scripts good.network.states
  reached A good = led (take A.position A.schedule) good.network good.is_at.after

  -- each name has its replica
  replica : (A : Session) (good : IsGood start A) (name : List ℕ) (p : ℕ) → IsNamed s.names name p → (C : State) × (slice_get good.network.states p ≡ Some C)
  replica A good name p is =
      let count : length good.network.states ≡ length start.states = same_count start (take A.position A.schedule) good.network good.is_at.after in
      let scripts : length start.states ≡ length s.scripts = start_each s start begins in
      some_at good.network.states p (omega (arith, slice_get_within s.names p name is, formed.each, count, scripts))

  -- a request that changes nothing
  stays : (A : Session) (q : Request) (reply : Reply) → IsGood start A → Replies (origin_of s start) A q A reply → Replied s start A q
  stays A q reply good r = record { after = A; reply = reply; good = good; replies = r }

  -- ---- moves

  -- a request that moves
  moves : (A : Session) (q : Request) (p : ℕ) (reply : Reply) → IsGood start A → (M : Network) × IsNetworkAt start A.schedule p M → Replies (origin_of s start) A q (moved_to A p) reply → Replied s start A q
  moves A q p reply good (M, a) r = record { after = moved_to A p; reply = reply; good = record { short = good.short; network = M; is_at = a }; replies = r }

  moves_to : (A : Session) → IsGood start A → (n : ℕ) → n ≤ length A.schedule → (p : ℕ) × (end : Option StuckEvent) × GoesTo start A.schedule A.position n p end
  moves_to A good n within =
      elim (cases_lt A.position n) [
        | inl ahead ↦ move start decides A.schedule (n - A.position) A.position A.position n good.network (omega arith) (omega (arith, ahead)) within good.is_at
        | inr behind ↦ let (M, a) = at_earlier start A.schedule n A.position good.network behind good.is_at in (n, None, arrives a)
      ]

  -- `step` and `goto`: to this position, or past the schedule
  goes_to : (A : Session) (q : Request) (n : ℕ) (refusal : Refusal) → IsGood start A → (length A.schedule < n → Replies (origin_of s start) A q A (Y.refused refusal))
      → ((p : ℕ) (end : Option StuckEvent) → n ≤ length A.schedule → GoesTo start A.schedule A.position n p end → Replies (origin_of s start) A q (moved_to A p) (Y.went p end)) → Replied s start A q
  goes_to A q n refusal good refuses replies =
      elim (cases_lt (length A.schedule) n) [
        | inl past ↦ stays A q (Y.refused refusal) good (refuses past)
        | inr within ↦
            let (p, end, goes) = moves_to A good n within in
            moves A q p (Y.went p end) good (come_to start A.schedule A.position n p end goes) (replies p end within goes)
      ]

  goes_back : (A : Session) → IsGood start A → (n : ℕ) → Replied s start A (Q.back n)
  goes_back A good n =
      elim (cases_lt A.position n) [
        | inl past ↦ stays A (Q.back n) (Y.refused F.AtStart) good (N.back_past past)
        | inr within ↦
            moves A (Q.back n) (A.position - n) (Y.went (A.position - n) None) good
            (at_earlier start A.schedule (A.position - n) A.position good.network (omega arith) good.is_at) (N.goes_back within)
      ]

  runs : (A : Session) → IsGood start A → Replied s start A Q.run
  runs A good =
      elim (cases_lt A.position (length A.schedule)) [
        | inl some ↦
            let (n, end, ran) = run start decides A good.network some good.is_at in
            moves A Q.run n (Y.ran n end) good (ran.network, ran.is_at) (N.runs some ran)
        | inr none ↦
            stays A Q.run (Y.refused F.AtEnd) good (N.runs_past (omega (arith, none, good.is_at.within)))
      ]

  -- ---- events of a line

  acts : (A : Session) → IsGood start A → (rest : List ℕ) (event : Event) → IsEventText start.version s.names rest event → Replied s start A (Q.act rest)
  acts A good rest event spelled =
      elim (cases_lt A.position 100000) [
        | inr full ↦
            stays A (Q.act rest) (Y.refused F.TooManyEvents) good (N.acts event spelled (N.full (omega (arith, full, good.is_at.within, good.short))))
        | inl room ↦
            elim (decides (take A.position A.schedule) good.network good.is_at.after event) [
              | inl (new, rows, step) ↦
                  let front = length-take-le A.position A.schedule good.is_at.within in
                  let a = acted_at start A.schedule A.position good.network event new rows good.is_at step in
                  record {
                    after = acted A event;
                    reply = Y.went (A.position + 1) None;
                    good = record { short = omega (arith, length-append (take A.position A.schedule) (event ∷ []), front, room); network = new; is_at = a };
                    replies = N.acts event spelled (N.made good.network new rows room good.is_at step);
                  }
              | inr (why, stuck) ↦
                  stays A (Q.act rest) (Y.went A.position (Some (event, why))) good
                  (N.acts event spelled (N.stuck why good.network room good.is_at stuck))
            ]
      ]

  acts_so : (A : Session) → IsGood start A → (rest : List ℕ) → Replied s start A (Q.act rest)
  acts_so A good rest =
      elim (laws.event_else_fault start.version rest) [
        | inr (fault, is) ↦
            let (text, line) = fault_line fault (event_told start.version rest fault is) in
            stays A (Q.act rest) (Y.misspelled line.refusal line.place) good (N.acts_misspelled (N.faulty fault is line.is_refusal line.is_place))
        | inl (named, is) ↦
            elim (resolved_or_strange s.names named) [
              | inl (event, resolved) ↦ acts A good rest event (record { named = named; is = is; resolved = resolved })
              | inr (place, first) ↦ stays A (Q.act rest) (Y.misspelled F.UnknownReplica place) good (N.acts_misspelled (N.strange named place is first))
            ]
      ]

  -- ---- breakpoints

  -- a request that changes one breakpoint
  places : (A : Session) (q : Request) (j : ℕ) (b : Option Break) (reply : Reply) → IsGood start A → Replies (origin_of s start) A q (with_break A j b) reply → Replied s start A q
  places A q j b reply good r = record { after = with_break A j b; reply = reply; good = record { short = good.short; network = good.network; is_at = good.is_at }; replies = r }

  breaks : (A : Session) (q : Request) (b : Break) → IsGood start A → ((B : Session) (reply : Reply) → Sets A b B reply → Replies (origin_of s start) A q B reply) → Replied s start A q
  breaks A q b good replies =
      elim (least (λ i. slice_get A.breaks i ≡ Some None) (is_free A) (length A.breaks)) [
        | inl (j, first) ↦ places A q j (Some b) (Y.set (j + 1)) good (replies (with_break A j (Some b)) (Y.set (j + 1)) (N.set first))
        | inr none ↦
            stays A q (Y.refused F.TooManyBreaks) good
            (replies A (Y.refused F.TooManyBreaks) (N.none_free (λ j e. none j (slice_get_within A.breaks j None e) e)))
      ]

  breaks_rule : (A : Session) → IsGood start A → (name : Word) → Replied s start A (Q.break_rule name)
  breaks_rule A good name =
      elim (known_or_none start.version name) [
        | inl (rule, known, is) ↦
            breaks A (Q.break_rule name) (Kind.Rule rule) good (λ B reply sets. N.breaks_rule rule known is sets)
        | inr none ↦ stays A (Q.break_rule name) (Y.refused F.BadLine) good (N.no_rule none)
      ]

  breaks_replica : (A : Session) → IsGood start A → (name : Word) → Replied s start A (Q.break_replica name)
  breaks_replica A good name =
      elim (named_or_strange s.names name) [
        | inl (p, is) ↦
            breaks A (Q.break_replica name) (Kind.Replica p) good (λ B reply sets. N.breaks_replica p is sets)
        | inr none ↦ stays A (Q.break_replica name) (Y.refused F.UnknownReplica) good (N.no_replica none)
      ]

  clears : (A : Session) → IsGood start A → (j : ℕ) (o : Option (Option Break)) → slice_get A.breaks j ≡ o → Replied s start A (Q.unbreak (j + 1))
  clears A good j (Some (Some b)) e = places A (Q.unbreak (j + 1)) j None (Y.cleared (j + 1)) good (N.clears j b e)
  clears A good j o e =
      stays A (Q.unbreak (j + 1)) (Y.refused F.NoSuchBreak) good
      (N.no_break (λ i b same at.
      (let one : j ≡ i = omega (arith, same) in
      let no : o ≡ Some (Some b) = sym e ∙ ap (slice_get A.breaks) one ∙ at in
      cc)))

  unbreaks : (A : Session) → IsGood start A → (k : ℕ) → Replied s start A (Q.unbreak k)
  unbreaks A good zero = stays A (Q.unbreak zero) (Y.refused F.NoSuchBreak) good (N.no_break (λ i b same. absurd (omega (arith, same))))
  unbreaks A good (suc j) =
      let same : j + 1 ≡ suc j = omega arith in
      subst (λ (k : ℕ). Replied s start A (Q.unbreak k)) same (clears A good j (slice_get A.breaks j) refl)

  -- ---- what is shown

  state_of : (A : Session) → IsGood start A → (name : Word) → Replied s start A (Q.state_of name)
  state_of A good name =
      elim (named_or_strange s.names name) [
        | inl (p, is) ↦
            let (C, here) = replica A good name p is in
            stays A (Q.state_of name) (Y.state_of name C) good (N.state_of good.network p C good.is_at is here)
        | inr none ↦ stays A (Q.state_of name) (Y.refused F.UnknownReplica) good (N.no_state none)
      ]

  traces : (A : Session) → IsGood start A → (m : ℕ) → A.position ≡ m → Replied s start A Q.trace
  traces A good zero e = stays A Q.trace Y.at_start good (N.at_start e)
  traces A good (suc n) e =
      let (event, rows, makes) = made_before start A.schedule n A.position good.network (omega (arith, e)) good.is_at in
      stays A Q.trace (Y.traced (n + 1) event rows) good (N.traces {n = n} {event = event} {rows = rows} (omega (arith, e)) makes)

  enables : (A : Session) → IsGood start A → Replied s start A Q.enabled
  enables A good =
      let (events, are) = some_enabled laws.step_or_stuck good.network (s.scripts, reached A good) in
      stays A Q.enabled (Y.enabled events) good (N.enables good.network events good.is_at are)

  -- ---- comparisons

  compared : (A : Session) (good : IsGood start A) (C D : State) → Contains good.network.states C → Contains good.network.states D → (found : Comparison) × Compares C D found
  compared A good C D one other =
      elim (same_ops C.ops D.ops) [
        | inl same ↦ (SameOps true, N.same_tree same (laws.trees_converge s.scripts good.network.states (reached A good) C D one other same))
        | inr different ↦ (DifferentOps, N.different_ops different)
      ]

  compares : (A : Session) → IsGood start A → (name other : Word) → Replied s start A (Q.compare name other)
  compares A good name other =
      elim (named_or_strange s.names name) [
        | inr none ↦ stays A (Q.compare name other) (Y.refused F.UnknownReplica) good (N.no_compared (inl none))
        | inl (p, is) ↦
            elim (named_or_strange s.names other) [
              | inr none ↦ stays A (Q.compare name other) (Y.refused F.UnknownReplica) good (N.no_compared (inr none))
              | inl (q, too) ↦
                  let (C, here) = replica A good name p is in
                  let (D, there) = replica A good other q too in
                  let (found, are) = compared A good C D (in_list good.network.states p C here) (in_list good.network.states q D there) in
                  stays A (Q.compare name other) (Y.compared found) good (N.compares good.network p q C D good.is_at is too here there are)
            ]
      ]

  -- ---- requests

  pub some_reply : (A : Session) → IsGood start A → (q : Request) → (q ≡ Q.quit) ⊎ Replied s start A q
  some_reply A good (Q.step n) = inr (goes_to A (Q.step n) (A.position + n) F.AtEnd good N.steps_past (λ p end within goes. N.steps within goes))
  some_reply A good (Q.back n) = inr (goes_back A good n)
  some_reply A good (Q.goto n) = inr (goes_to A (Q.goto n) n F.PastSchedule good N.goes_past (λ p end within goes. N.goes_to within goes))
  some_reply A good (Q.act rest) = inr (acts_so A good rest)
  some_reply A good Q.run = inr (runs A good)
  some_reply A good (Q.break_at n) = inr (breaks A (Q.break_at n) (Kind.Position n) good (λ B reply sets. N.breaks_at sets))
  some_reply A good (Q.break_rule name) = inr (breaks_rule A good name)
  some_reply A good (Q.break_replica name) = inr (breaks_replica A good name)
  some_reply A good (Q.unbreak k) = inr (unbreaks A good k)
  some_reply A good Q.state = inr (stays A Q.state (Y.states good.network.states) good (N.states good.network good.is_at))
  some_reply A good (Q.state_of name) = inr (state_of A good name)
  some_reply A good Q.trace = inr (traces A good A.position refl)
  some_reply A good Q.enabled = inr (enables A good)
  some_reply A good Q.schedule = inr (stays A Q.schedule (Y.scheduled A.schedule) good N.lists)
  some_reply A good Q.position = inr (stays A Q.position (Y.stands A.position (length A.schedule)) good N.tells)
  some_reply A good (Q.compare name other) = inr (compares A good name other)
  some_reply A good Q.quit = inl refl
