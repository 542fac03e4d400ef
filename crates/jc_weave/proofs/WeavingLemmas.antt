-- About specs/Weaving: turns of a loom, the events that they make, and how many.
use Rattle.std.proofs.Common.{arith, ◌≡◌, ◌≢◌, ℕ, ◌<◌, ◌≤◌, ◌+◌, List, [], ◌∷◌, ◌++◌, refl, sym, ◌∙◌, ap, subst, length, slice_set, append-nil, Some, None, Result, Ok, Err, IfOk, ◌⊎◌}
use Rattle.rand_pcg.specs.Lcg.{Lcg}
use Rattle.rand_pcg.specs.Pcg.{pcg32}
use Rattle.jc_rules.specs.declared.operation.Event.{Event}
use Rattle.jc_rules.specs.declared.rule.Rule.{Rule}
use Rattle.jc_rules.specs.Step.{Network, StepIn, AfterIn}
use Rattle.jc_network.specs.declared.fault.Stuck.{Stuck}
use Rattle.jc_network.specs.Steps.{IsStuckFor}
use Rattle.jc_scenario.specs.WellFormed.{Scenario}
use Rattle.jc_choice.specs.declared.phase.Phase.{Phase}
use Rattle.jc_choice.specs.declared.end.End.{End}
use Rattle.jc_choice.specs.Chosen.{choice}
use Rattle.jc_choice.specs.Legal.{IsLegal}
use Rattle.jc_weave.specs.Looms.{Loom, LoomTurn, makes, finishes, gets_stuck, IsLoomTurn, WeavesTo, LeavesLoom, phase_at, pool, drawn_of, without_replica}
use Rattle.jc_weave.specs.Weaving.{loom, first_loom, with_made, made_events, with_stuck, stuck_events, ends_in, IsLoomAfter, IsOneTurnMore, IsWoven}

-- ---- one turn more

weaves_more : (L K M : Loom) (ts : List LoomTurn) (t : LoomTurn) → WeavesTo L ts K → IsLoomTurn K t M → WeavesTo L (ts ++ t ∷ []) M
weaves_more L K M [] t same is = (M, subst (λ (X : Loom). IsLoomTurn X t M) (sym same) is, refl)
weaves_more L K M (u ∷ ts) t w is = (w.0, w.1, weaves_more w.0 K M ts t w.2 is)

turn_events : (u : LoomTurn) (es fs : List Event) → with_made u (es ++ fs) ≡ with_made u es ++ fs
turn_events (makes e) es fs = refl
turn_events (finishes p) es fs = refl
turn_events (gets_stuck e why) es fs = refl

events_more : (ts : List LoomTurn) (t : LoomTurn) → made_events (ts ++ t ∷ []) ≡ made_events ts ++ with_made t []
events_more [] t = refl
events_more (u ∷ ts) t = ap (with_made u) (events_more ts t) ∙ turn_events u (made_events ts) (with_made t [])

turn_stucks : (u : LoomTurn) (es fs : List Stuck) → with_stuck u (es ++ fs) ≡ with_stuck u es ++ fs
turn_stucks (makes e) es fs = refl
turn_stucks (finishes p) es fs = refl
turn_stucks (gets_stuck e why) es fs = refl

stucks_more : (ts : List LoomTurn) (t : LoomTurn) → stuck_events (ts ++ t ∷ []) ≡ stuck_events ts ++ with_stuck t []
stucks_more [] t = refl
stucks_more (u ∷ ts) t = ap (with_stuck u) (stucks_more ts t) ∙ turn_stucks u (stuck_events ts) (with_stuck t [])

pub after_turn : (s : Scenario) (seed limit : ℕ) (K M : Loom) (es fs : List Event) (ss us : List Stuck) → IsLoomAfter s seed limit K es ss → IsOneTurnMore K M es fs ss us → IsLoomAfter s seed limit M fs us
after_turn s seed limit K M es fs ss us b t = record {
  start = b.start;
  is_start = b.is_start;
  turns = b.turns ++ t.turn ∷ [];
  weaves = weaves_more (first_loom s b.start seed limit) K M b.turns t.turn b.weaves t.is_turn;
  events = t.events ∙ (ap (λ l. l ++ with_made t.turn []) b.events ∙ sym (events_more b.turns t.turn));
  stuck = t.stuck ∙ (ap (λ l. l ++ with_stuck t.turn []) b.stuck ∙ sym (stucks_more b.turns t.turn));
}

-- the drawn replica makes an event
pub made_turn : (N N2 : Network) (phases phases2 : List Phase) (live live2 : List ℕ) (g g2 : Lcg) (left left2 : ℕ) (es fs : List Event) (ss us : List Stuck) (p : ℕ) (e : Event) (next : Phase) (rows : List (Rule × ℕ))
    → 0 < left → live ≢ [] → p ≡ drawn_of (pool N.states phases live) g → g2 ≡ (pcg32 g).1 → choice N.states p (phase_at phases p) ≡ Some (e, next) → StepIn N e N2 rows
    → phases2 ≡ slice_set phases p next → live2 ≡ live → left2 + 1 ≡ left → fs ≡ es ++ e ∷ [] → us ≡ ss
    → IsOneTurnMore (loom N phases live g left) (loom N2 phases2 live2 g2 left2) es fs ss us
made_turn N N2 phases phases2 live live2 g g2 left left2 es fs ss us p e next rows room some at moved is step put same less more none = record {
  turn = makes e;
  is_turn = record {
    room = room;
    some = some;
    does = record {
      next = next;
      rows = rows;
      is_chosen = subst (λ (q : ℕ). choice N.states q (phase_at phases q) ≡ Some (e, next)) at is;
      step = step;
      phases = put ∙ ap (λ (q : ℕ). slice_set phases q next) at;
      live = same;
      generator = moved;
      left = less;
    };
  };
  events = more;
  stuck = none ∙ sym (append-nil ss);
}

module _ (N N2 : Network) (phases phases2 : List Phase) (live live2 : List ℕ) (g g2 : Lcg) (left left2 : ℕ) (es fs : List Event) (ss us : List Stuck) (p : ℕ)
    (room : 0 < left) (some : live ≢ []) (at : p ≡ drawn_of (pool N.states phases live) g) (moved : g2 ≡ (pcg32 g).1)
    (net : N2 ≡ N) (ph : phases2 ≡ phases) (gone : live2 ≡ without_replica p live) (same : left2 ≡ left) (none : fs ≡ es) where
  leaves : LeavesLoom (loom N phases live g left) (loom N2 phases2 live2 g2 left2)
  leaves = record {
    network = net;
    phases = ph;
    live = gone ∙ ap (λ (q : ℕ). without_replica q live) at;
    generator = moved;
    left = same;
  }

  -- it chooses none
  pub finished_turn : choice N.states p (phase_at phases p) ≡ None → us ≡ ss → IsOneTurnMore (loom N phases live g left) (loom N2 phases2 live2 g2 left2) es fs ss us
  finished_turn is unstuck = record {
    turn = finishes p;
    is_turn = record { room = room; some = some; does = (at, subst (λ (q : ℕ). choice N.states q (phase_at phases q) ≡ None) at is, leaves) };
    events = none ∙ sym (append-nil es);
    stuck = unstuck ∙ sym (append-nil ss);
  }

  -- the event that it chooses is stuck
  pub stuck_turn : (e : Event) (next : Phase) (stuck : Stuck) → choice N.states p (phase_at phases p) ≡ Some (e, next) → IsStuckFor N e stuck → us ≡ ss ++ stuck ∷ [] → IsOneTurnMore (loom N phases live g left) (loom N2 phases2 live2 g2 left2) es fs ss us
  stuck_turn e next stuck is is_stuck more = record {
    turn = gets_stuck e is_stuck.why;
    is_turn = record {
      room = room;
      some = some;
      does = (
        record {
          next = next;
          is_chosen = subst (λ (q : ℕ). choice N.states q (phase_at phases q) ≡ Some (e, next)) at is;
          is_stuck = is_stuck.stuck;
        },
        leaves,
      );
    };
    events = none ∙ sym (append-nil es);
    stuck = more ∙ ap (λ (t : Stuck). ss ++ t ∷ []) is_stuck.is;
  }

-- ---- the schedule leads from the start

pub weaves_after : (L M : Loom) (ts : List LoomTurn) → WeavesTo L ts M → AfterIn L.network (made_events ts) M.network
weaves_after L M [] same = ap (λ (X : Loom). X.network) same
weaves_after L M (makes e ∷ ts) w = (w.0.network, w.1.does.rows, w.1.does.step, weaves_after w.0 M ts w.2)
weaves_after L M (finishes p ∷ ts) w = subst (λ (N : Network). AfterIn N (made_events ts) M.network) w.1.does.2.network (weaves_after w.0 M ts w.2)
weaves_after L M (gets_stuck e why ∷ ts) w = subst (λ (N : Network). AfterIn N (made_events ts) M.network) w.1.does.1.network (weaves_after w.0 M ts w.2)

pub leads : (s : Scenario) (seed limit : ℕ) (schedule : List Event) (network : Network) (ends : List End) → IsWoven s seed limit schedule network ends → IsLegal schedule s network
leads s seed limit schedule network ends x =
    let a = x.after in
    let all = weaves_after (first_loom s a.start seed limit) x.last a.turns a.weaves in
    record {
      start = a.start;
      is_start = a.is_start;
      after = subst (λ (N : Network). AfterIn a.start schedule N) (sym x.is_network) (subst (λ (l : List Event). AfterIn a.start l x.last.network) (sym a.events) all);
    }

-- ---- how many events are made

pub weaves_count : (L M : Loom) (ts : List LoomTurn) → WeavesTo L ts M → length (made_events ts) + M.left ≡ L.left
weaves_count L M [] same = omega (arith, ap (λ (X : Loom). X.left) (sym same))
weaves_count L M (makes e ∷ ts) w = omega (arith, weaves_count w.0 M ts w.2, w.1.does.left)
weaves_count L M (finishes p ∷ ts) w = weaves_count w.0 M ts w.2 ∙ w.1.does.2.left
weaves_count L M (gets_stuck e why ∷ ts) w = weaves_count w.0 M ts w.2 ∙ w.1.does.1.left

-- at most as many as the limit
pub within : (s : Scenario) (seed limit : ℕ) (schedule : List Event) (network : Network) (ends : List End) → IsWoven s seed limit schedule network ends → length schedule ≤ limit
within s seed limit schedule network ends x =
    let a = x.after in
    omega (arith, ap length a.events, weaves_count (first_loom s a.start seed limit) x.last a.turns a.weaves)

-- ---- the end

-- what is so of each result with three facts
pub of_three : {A E : Type 0} (P Q R S : A → Type 0) (r : Result A E) → IfOk r P → IfOk r Q → IfOk r R → ((w : A) → P w → Q w → R w → S w) → IfOk r S
of_three P Q R S (Ok w) p q r f = f w p q r
of_three P Q R S (Err e) p q r f = tt

pub nil_of : {X : Type 0} (xs : List X) → length xs ≡ 0 → xs ≡ []
nil_of [] none = refl
nil_of (x ∷ xs) none = absurd (omega (arith, none))

pub is_woven : (s : Scenario) (seed limit : ℕ) (M : Loom) (es fs : List Event) (ss : List Stuck) (network : Network) (ends : List End)
    → IsLoomAfter s seed limit M es ss → (M.left ≡ 0) ⊎ (M.live ≡ []) → fs ≡ es → network ≡ M.network → ends ≡ ends_in ss M.network.states s.names → IsWoven s seed limit fs network ends
is_woven s seed limit M es fs ss network ends after over same net are = record {
  last = M;
  stucks = ss;
  after = subst (λ (l : List Event). IsLoomAfter s seed limit M l ss) (sym same) after;
  is_over = over;
  is_network = net;
  are_ends = are ∙ ap (λ (N : Network). ends_in ss N.states s.names) (sym net);
}
