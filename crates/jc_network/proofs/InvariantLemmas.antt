-- Lemmas about Invariant: a step of a network keeps it, and so does the way back.
use Rattle.std.proofs.Common.{◌≡◌, ◌≢◌, ℕ, zero, suc, ◌+◌, ◌<◌, ◌≤◌, ◌⊎◌, inl, inr, List, [], ◌∷◌, ◌++◌, Option, Some, None, IfSome, Bor, Ok, Bool, true, false, IsTrue, IsFalse, reverse, map, length, take, drop, unwrap_or, slice_get, slice_set, refl, sym, ◌∙◌, ap, subst, arith}
use Rattle.std.proofs.lemmas.Option.{same_Some, slice_get-map, slice_get_read, slice_get_within}
use Rattle.std.specs.Slice.{IsItemAt}
use Rattle.std.proofs.Math.Seq.{take-append_seam}
use Rattle.std.proofs.lemmas.List.{map-set, length-map, reverse-append, length-reverse}
use Rattle.jc_rules.specs.declared.operation.Event.{Event}
use Rattle.jc_rules.specs.declared.operation.Op.{Op}
use Rattle.jc_rules.specs.declared.version.Version.{Version}
use Rattle.jc_rules.specs.Version.{Allows}
use Rattle.jc_rules.specs.State.{State}
use Rattle.jc_rules.specs.Step.{Step, Network, StepIn, AfterIn, replica_of}
use Rattle.jc_rules.specs.Syntax.{Cmd}
use Rattle.jc_rules.specs.Trace.{Rows}
use Rattle.jc_rules.specs.History.{timeline}
use Rattle.jc_rules.proofs.HistoryLemmas.{step_back, first_more}
use Rattle.jc_replica.specs.ReplicaHistory.{ReplicaHistory}
use Rattle.jc_network.specs.Applied.{applied_ops, IsApplied}
use Rattle.jc_network.specs.NetworkHistory.{kept_of, network_of, back_one, back_at, earlier_of, network_history_of, of_version, StepsTo}
use Rattle.jc_network.specs.Laws.{starts, IsReached}
use Rattle.jc_network.specs.Steps.{AllHand, AllOwn, HasReplica, ActsReplica}
use Rattle.jc_network.specs.Invariant.{HasBegun, IsInRun, AreInRun, NetCanGoBack, AreBacked, AreNumbered, IsNet}
use Rattle.jc_network.specs.Refines.{AreSeen, IsAsked}
use Rattle.jc_network.proofs.StepsLemmas.{well, reached, as_many_states, kept_there}
use Rattle.jc_network.proofs.AppliedLemmas.{applied_stands}
use Rattle.jc_network.proofs.AfterLemmas.{after_count, after_one_more, states_set}
use Rattle.jc_network.proofs.OfferedLemmas.{offered_handed}
use Rattle.jc_network.proofs.MembersLemmas.{set_there, set_other}
use Rattle.jc_network.proofs.AbstractLemmas.{seen_is_real}
use Rattle.jc_network.proofs.RefinesLemmas.{steps_on, of_one}
use Rattle.jc_replica.specs.Operations.{AreOfOne}

-- what a step led from is what the way back leads to
back_is : (A B : ReplicaHistory) → A.number ≡ B.number → B.history.earlier ≡ timeline A.history → back_one B ≡ A
back_is A B n e = λ i. record { number = sym n i; history = step_back A.history B.history e i }

back_at-set : (ps : List ReplicaHistory) (p : ℕ) (A B : ReplicaHistory) → slice_get ps p ≡ Some A → back_one B ≡ A → back_at p (slice_set ps p B) ≡ ps
back_at-set [] p A B e f = cc
back_at-set (q ∷ ps) zero A B e f = let s : q ≡ A = same_Some q A e in ap (λ x. x ∷ ps) (f ∙ sym s)
back_at-set (q ∷ ps) (suc p) A B e f = ap (λ l. q ∷ l) (back_at-set ps p A B e f)

back_at-is : (p : ℕ) (ps : List ReplicaHistory) (A : ReplicaHistory) → slice_get ps p ≡ Some A → back_at p ps ≡ slice_set ps p (back_one A)
back_at-is p [] A e = cc
back_at-is zero (q ∷ ps) A e = let s : q ≡ A = same_Some q A e in ap (λ x. back_one x ∷ ps) s
back_at-is (suc p) (q ∷ ps) A e = ap (λ l. q ∷ l) (back_at-is p ps A e)

not_empty : (A : State) (As : List State) → As ++ A ∷ [] ≢ []
not_empty A [] e = cc
not_empty A (B ∷ As) e = cc

numbered_set : (ps : List ReplicaHistory) (p : ℕ) (A B : ReplicaHistory) → slice_get ps p ≡ Some A → B.number ≡ A.number → AreNumbered ps → AreNumbered (slice_set ps p B)
numbered_set ps p A B there same numbered q C e = go (set_other ps p q B)
  where
    go : (q ≡ p) ⊎ (slice_get (slice_set ps p B) q ≡ slice_get ps q) → C.number ≡ q
    go (inl s) =
        let is : B ≡ C = same_Some B C (sym (set_there ps p A B there) ∙ subst (λ n. slice_get (slice_set ps p B) n ≡ Some C) s e) in
        sym (ap (λ (x : ReplicaHistory). x.number) is) ∙ (same ∙ (numbered p A there ∙ sym s))
    go (inr s) = numbered q C (sym s ∙ e)

run_now : (version : Version) (scripts : List (List Cmd)) (first : List State) (is : List ℕ) (ps : List ReplicaHistory) → AreInRun version scripts first is ps → IsInRun version scripts first (network_of ps) (kept_of ps)
run_now version scripts first [] ps h = h.0
run_now version scripts first (i ∷ is) ps h = h.0

pub now_in_run : (version : Version) (count : ℕ) (is : List ℕ) (ps : List ReplicaHistory) → (h : IsNet version count is ps) → IsInRun version h.scripts h.first (network_of ps) (kept_of ps)
now_in_run version count is ps h = run_now version h.scripts h.first is ps h.runs

-- and reached
pub now_reached : (version : Version) (count : ℕ) (is : List ℕ) (ps : List ReplicaHistory) → (h : IsNet version count is ps) → IsReached h.scripts (network_of ps)
now_reached version count is ps h = reached version h.scripts h.first (network_of ps) (kept_of ps) (now_in_run version count is ps h)

-- a network has a replica for each name, and at most 64
pub few_names : (version : Version) (count : ℕ) (is : List ℕ) (ps : List ReplicaHistory) → IsNet version count is ps → (length (network_of ps) ≡ count) × (count ≤ 64)
few_names version count is ps h =
    let run = now_in_run version count is ps h in
    let led = now_reached version count is ps h in
    let n : length (network_of ps) ≡ length ps = as_many_states ps in
    let m : length (network_of ps) ≡ length (starts h.scripts) = after_count (starts h.scripts) led.0 (network_of ps) led.1 in
    let l : length (starts h.scripts) ≡ length h.scripts = length-map h.scripts _ in
    let many : length h.scripts ≤ 64 = run.short.many in
    let each : length ps ≡ count = h.each in
    (n ∙ each, omega (arith, n, m, l, many, each))

-- ---- networks of the version

versions-push : (version : Version) (Ns : List (List State)) (N : List State) → map (of_version version) (Ns ++ N ∷ []) ≡ map (of_version version) Ns ++ of_version version N ∷ []
versions-push version [] N = refl
versions-push version (M ∷ Ns) N = ap (λ l. of_version version M ∷ l) (versions-push version Ns N)

-- ---- the start

-- the first network of these, or another one where there is none
abbrev first_or : Network → List Network → Network
first_or other Ns = unwrap_or (slice_get Ns 0) other

-- it is the first one of these
first_is : (version : Version) (scripts : List (List Cmd)) (first : List State) (is : List ℕ) (ps : List ReplicaHistory) → AreInRun version scripts first is ps → first_or (of_version version (network_of ps)) (map (of_version version) (earlier_of is ps) ++ of_version version (network_of ps) ∷ []) ≡ of_version version first
first_is version scripts first [] ps h = ap (of_version version) h.1
first_is version scripts first (i ∷ is) ps h =
    let now = of_version version (network_of ps) in
    let before = of_version version (network_of (back_at i ps)) in
    let front : List Network = map (of_version version) (earlier_of is (back_at i ps)) in
    ap (λ (Ns : List Network). first_or now (Ns ++ now ∷ [])) (versions-push version (earlier_of is (back_at i ps)) (network_of (back_at i ps)))
    ∙ (first_more front before now now ∙ first_is version scripts first is (back_at i ps) h.1)

pub has_begun : (version : Version) (names : List (List ℕ)) (is : List ℕ) (ps : List ReplicaHistory) → IsNet version (length names) is ps → HasBegun (network_history_of version names is ps)
has_begun version names is ps h =
    let first = first_is version h.scripts h.first is ps h.runs in
    let run = now_in_run version (length names) is ps h in
    record {
      scripts = h.scripts;
      given = run.given;
      before = subst (AfterIn (of_version version (starts h.scripts)) run.given) (sym first) run.before;
      events = run.events;
      led = subst (λ (N : Network). AfterIn N run.events (of_version version (network_of ps))) (sym first) run.led;
    }

-- ---- a step

-- the network after it
record IsStepped (version : Version) (scripts : List (List Cmd)) (first : List State) (old new : List ReplicaHistory) (event : Event) (rows : Rows) : Type 0 where
  step : StepIn (of_version version (network_of old)) event (of_version version (network_of new)) rows.rows
  depth : rows.depth ≡ 0
  run : IsInRun version scripts first (network_of new) (kept_of new)

step_of : (version : Version) (scripts : List (List Cmd)) (first : List State) (old new : List ReplicaHistory) (event : Event) (rows : Rows) → Allows event version → IsInRun version scripts first (network_of old) (kept_of old) → AreNumbered old → ActsReplica event old new (Ok rows) → IsStepped version scripts first old new event rows
step_of version scripts first old new event rows allowed run numbered acts =
    let m = acts.moves in
    let p = replica_of event in
    let N = network_of old in
    let asked : IsAsked (kept_of old) event acts.read m.before = record {
      number = numbered p m.before m.there;
      there = slice_get-map (λ (q : ReplicaHistory). q.history.now) old p ∙ rw m.there refl;
      reads = acts.reads;
    } in
    let s = steps_on run.set N (kept_of old) (well scripts N (reached version scripts first N (kept_of old) run)).sets run.seen event acts.read m.before m.after rows asked m.answers in
    let kept : slice_set (kept_of old) p m.after.history.now ≡ kept_of new = sym (ap kept_of m.now ∙ map-set _ old p m.after) in
    let seen = subst (AreSeen s.set s.new) kept s.seen in
    let is : s.new ≡ network_of new = seen_is_real s.set s.new (kept_of new) seen in
    let step : StepIn (of_version version N) event (of_version version (network_of new)) rows.rows =
    record { allowed = allowed; version = refl; step = subst (λ M. Step N event M rows.rows) is s.step } in
    record {
      step = step;
      depth = s.depth;
      run = record {
        short = run.short;
        given = run.given;
        before = run.before;
        events = run.events ++ event ∷ [];
        led = after_one_more (of_version version first) run.events (of_version version N) event (of_version version (network_of new)) rows.rows run.led step;
        set = s.set;
        seen = subst (λ M. AreSeen s.set M (kept_of new)) is seen;
      };
    }

-- what holds of a network after a step
pub record IsAfter (version : Version) (names : List (List ℕ)) (old new : List ReplicaHistory) (whose more : List ℕ) (event : Event) (rows : Rows) : Type 0 where
  pub kept : IsNet version (length names) (reverse more) new
  pub steps : StepsTo (network_history_of version names (reverse whose) old) event (network_history_of version names (reverse more) new) rows

pub stepped : (version : Version) (names : List (List ℕ)) (old new : List ReplicaHistory) (whose more : List ℕ) (event : Event) (rows : Rows) → Allows event version → more ≡ whose ++ replica_of event ∷ [] → IsNet version (length names) (reverse whose) old → ActsReplica event old new (Ok rows) → IsAfter version names old new whose more event rows
stepped version names old new whose more event rows allowed is inv acts =
    let m = acts.moves in
    let p = replica_of event in
    let turned : reverse more ≡ p ∷ reverse whose = ap reverse is ∙ reverse-append whose (p ∷ []) in
    let s = step_of version inv.scripts inv.first old new event rows allowed (run_now version inv.scripts inv.first (reverse whose) old inv.runs) inv.numbered acts in
    let goes : back_one m.after ≡ m.before = back_is m.before m.after (sym m.answers.number) m.answers.earlier in
    let before : back_at p new ≡ old = ap (back_at p) m.now ∙ back_at-set old p m.before m.after m.there goes in
    let there : slice_get new p ≡ Some m.after = subst (λ (ps : List ReplicaHistory). slice_get ps p ≡ Some m.after) (sym m.now) (set_there old p m.before m.after m.there) in
    let can : NetCanGoBack p new = record { replica = m.after; there = there; some = λ e. not_empty m.before.history.now m.before.history.earlier (sym m.answers.earlier ∙ e) } in
    let kept : IsNet version (length names) (p ∷ reverse whose) new = record {
      each = ap length m.now ∙ (states_set old p m.after ∙ inv.each);
      numbered = subst AreNumbered (sym m.now) (numbered_set old p m.before m.after m.there m.answers.number inv.numbered);
      backed = (can, subst (AreBacked (reverse whose)) (sym before) inv.backed);
      scripts = inv.scripts;
      first = inv.first;
      runs = (s.run, subst (AreInRun version inv.scripts inv.first (reverse whose)) (sym before) inv.runs);
    } in
    let earlier : earlier_of (p ∷ reverse whose) new ≡ earlier_of (reverse whose) old ++ network_of old ∷ [] = ap (λ ps. earlier_of (reverse whose) ps ++ network_of ps ∷ []) before in
    record {
      kept = subst (λ w. IsNet version (length names) w new) (sym turned) kept;
      steps = record {
        step = s.step;
        depth = s.depth;
        earlier = ap (map (of_version version)) (subst (λ w. earlier_of w new ≡ earlier_of (reverse whose) old ++ network_of old ∷ []) (sym turned) earlier)
            ∙ versions-push version (earlier_of (reverse whose) old) (network_of old);
        names = refl;
      };
    }

-- what a loan of the whole list has given back
pub stepped_whole : (version : Version) (names : List (List ℕ)) (old new : List ReplicaHistory) (n : ℕ) (whose more : List ℕ) (event : Event) (rows : Rows) → Allows event version → n ≡ length old → more ≡ whose ++ replica_of event ∷ [] → IsNet version (length names) (reverse whose) old → ActsReplica event old new (Ok rows) → IsAfter version names old (take n (new ++ drop (length new) old)) whose more event rows
stepped_whole version names old new n whose more event rows allowed len is inv acts =
    let m = acts.moves in
    let count : length new ≡ length old = ap length m.now ∙ states_set old (replica_of event) m.after in
    let whole : take n (new ++ drop (length new) old) ≡ new = subst (λ k. take k (new ++ drop (length new) old) ≡ new) (count ∙ sym len) (take-append_seam new (drop (length new) old)) in
    subst (λ ps. IsAfter version names old ps whose more event rows) (sym whole) (stepped version names old new whose more event rows allowed is inv acts)

-- what the replicas offer may be handed on
pub all_hand : (version : Version) (count : ℕ) (is : List ℕ) (ps : List ReplicaHistory) → IsNet version count is ps → AllHand ps
all_hand version count is ps h q replica e =
    let run = now_in_run version count is ps h in
    offered_handed h.scripts (network_of ps) (now_reached version count is ps h) run.short run.set (kept_of ps) run.seen q replica.history.now (kept_there ps q replica e)

-- what each offers is one replica's own
pub all_own : (version : Version) (count : ℕ) (is : List ℕ) (ps : List ReplicaHistory) → IsNet version count is ps → AllOwn ps
all_own version count is ps h q replica e =
    let run = now_in_run version count is ps h in
    let x = run.seen.each q replica.history.now (kept_there ps q replica e) in
    subst AreOfOne (sym (ap (λ (S : State). S.send) x.seen.stands.is)) (of_one q x.at.send (λ o c. ((well h.scripts (network_of ps) (now_reached version count is ps h)).sets.sent q x.at o x.there c).0))

-- a replica's stored state represents its state
pub has_replica : (version : Version) (count : ℕ) (is : List ℕ) (ps : List ReplicaHistory) → IsNet version count is ps → (p : ℕ) (replica : ReplicaHistory) → slice_get ps p ≡ Some replica → HasReplica (network_of ps) p replica
has_replica version count is ps h p replica e =
    let run = now_in_run version count is ps h in
    let x = run.seen.each p replica.history.now (kept_there ps p replica e) in
    record { at = x.at; there = x.there; number = h.numbered p replica e; kept = x.seen.stands.is }

-- of what is lent at a place
pub if_lent : (ps : List ReplicaHistory) (i : ℕ) (r : Option (Bor ReplicaHistory)) (Q : ReplicaHistory → Type 0) → IsItemAt ps i r → ((a : ReplicaHistory) → slice_get ps i ≡ Some a → Q a) → IfSome r (λ x. Q x.now)
if_lent ps i None Q f h = tt
if_lent ps i (Some x) Q f h = h x.now (slice_get_read ps (length ps) i x.now refl f.3.0 (f.3.1 x.now))

pub some_lent : (ps : List ReplicaHistory) (i : ℕ) (r : Option (Bor ReplicaHistory)) (x : Bor ReplicaHistory) → IsItemAt ps i r → r ≡ Some x → slice_get ps i ≡ Some x.now
some_lent ps i None x f e = cc
some_lent ps i (Some y) x f e =
    let same : y ≡ x = same_Some y x e in
    subst (λ (z : Bor ReplicaHistory). slice_get ps i ≡ Some z.now) same (slice_get_read ps (length ps) i y.now refl f.3.0 (f.3.1 y.now))

-- what a replica has applied
pub applies : (version : Version) (count : ℕ) (is : List ℕ) (ps : List ReplicaHistory) → IsNet version count is ps → (p : ℕ) (replica : ReplicaHistory) (ops : List Op) → slice_get ps p ≡ Some replica → ops ≡ applied_ops replica.history.now → IsApplied (network_of ps) p ops
applies version count is ps h p replica ops e found =
    let run = now_in_run version count is ps h in
    subst (IsApplied (network_of ps) p) (sym found) (applied_stands run.set (network_of ps) (kept_of ps) run.seen p replica.history.now (kept_there ps p replica e))

-- ---- the way back

pub record IsBefore (version : Version) (count : ℕ) (old new : List ReplicaHistory) (whose fewer : List ℕ) : Type 0 where
  pub kept : IsNet version count (reverse fewer) new
  pub earlier : earlier_of (reverse whose) old ≡ earlier_of (reverse fewer) new ++ network_of new ∷ []

turned_back : (whose fewer : List ℕ) (p : ℕ) → whose ≡ fewer ++ p ∷ [] → reverse whose ≡ p ∷ reverse fewer
turned_back whose fewer p is = ap reverse is ∙ reverse-append fewer (p ∷ [])

-- the replica whose step was the last is there
pub can_index : (version : Version) (count : ℕ) (ps : List ReplicaHistory) (p : ℕ) (whose fewer : List ℕ) → whose ≡ fewer ++ p ∷ [] → IsNet version count (reverse whose) ps → p < length ps
can_index version count ps p whose fewer is inv =
    let h : IsNet version count (p ∷ reverse fewer) ps = subst (λ w. IsNet version count w ps) (turned_back whose fewer p is) inv in
    slice_get_within ps p h.backed.0.replica h.backed.0.there

-- and it can go back
pub goes_back : (version : Version) (count : ℕ) (ps : List ReplicaHistory) (p : ℕ) (a : ReplicaHistory) (whose fewer : List ℕ) → whose ≡ fewer ++ p ∷ [] → IsNet version count (reverse whose) ps → slice_get ps p ≡ Some a → a.history.earlier ≢ []
goes_back version count ps p a whose fewer is inv there e =
    let h : IsNet version count (p ∷ reverse fewer) ps = subst (λ w. IsNet version count w ps) (turned_back whose fewer p is) inv in
    let s : h.backed.0.replica ≡ a = same_Some h.backed.0.replica a (sym h.backed.0.there ∙ there) in
    h.backed.0.some (ap (λ (q : ReplicaHistory). q.history.earlier) s ∙ e)

pub undone : (version : Version) (count : ℕ) (ps : List ReplicaHistory) (p : ℕ) (a b : ReplicaHistory) (whose fewer : List ℕ) → whose ≡ fewer ++ p ∷ [] → IsNet version count (reverse whose) ps → slice_get ps p ≡ Some a → b.number ≡ a.number → timeline b.history ≡ a.history.earlier → IsBefore version count ps (slice_set ps p b) whose fewer
undone version count ps p a b whose fewer is inv there number was =
    let turned = turned_back whose fewer p is in
    let h : IsNet version count (p ∷ reverse fewer) ps = subst (λ w. IsNet version count w ps) turned inv in
    let new : slice_set ps p b ≡ back_at p ps = ap (slice_set ps p) (sym (back_is b a number (sym was))) ∙ sym (back_at-is p ps a there) in
    record {
      kept = record {
        each = states_set ps p b ∙ h.each;
        numbered = numbered_set ps p a b there number h.numbered;
        backed = subst (AreBacked (reverse fewer)) (sym new) h.backed.1;
        scripts = h.scripts;
        first = h.first;
        runs = subst (AreInRun version h.scripts h.first (reverse fewer)) (sym new) h.runs.1;
      };
      earlier = subst (λ w. earlier_of w ps ≡ earlier_of (reverse fewer) (slice_set ps p b) ++ network_of (slice_set ps p b) ∷ []) (sym turned) (ap (λ qs. earlier_of (reverse fewer) qs ++ network_of qs ∷ []) (sym new));
    }

-- as networks of the version
pub versions_before : (version : Version) (count : ℕ) (old new : List ReplicaHistory) (whose fewer : List ℕ) → IsBefore version count old new whose fewer → map (of_version version) (earlier_of (reverse whose) old) ≡ map (of_version version) (earlier_of (reverse fewer) new) ++ of_version version (network_of new) ∷ []
versions_before version count old new whose fewer h = ap (map (of_version version)) h.earlier ∙ versions-push version (earlier_of (reverse fewer) new) (network_of new)

-- the same, where the replica says whether it went back
pub undone_by : (version : Version) (count : ℕ) (ps : List ReplicaHistory) (p : ℕ) (a b : ReplicaHistory) (whose fewer : List ℕ) → whose ≡ fewer ++ p ∷ [] → IsNet version count (reverse whose) ps → slice_get ps p ≡ Some a → b.number ≡ a.number → (result : Bool) → (IsTrue result → timeline b.history ≡ a.history.earlier) → (IsFalse result → (b ≡ a) × (a.history.earlier ≡ [])) → IsBefore version count ps (slice_set ps p b) whose fewer
undone_by version count ps p a b whose fewer is inv there number true was none = undone version count ps p a b whose fewer is inv there number (was refl)
undone_by version count ps p a b whose fewer is inv there number false was none = absurd (goes_back version count ps p a whose fewer is inv there (none refl).1)

-- ---- the number of steps

pub length_end : {X : Type 0} (xs : List X) (x : X) → length (xs ++ x ∷ []) ≡ length xs + 1
length_end [] x = refl
length_end (y ∷ xs) x = let h : length (xs ++ x ∷ []) ≡ length xs + 1 = length_end xs x in omega (arith, h)

length_earlier : (is : List ℕ) (ps : List ReplicaHistory) → length (earlier_of is ps) ≡ length is
length_earlier [] ps = refl
length_earlier (i ∷ is) ps =
    let h : length (earlier_of is (back_at i ps)) ≡ length is = length_earlier is (back_at i ps) in
    let g : length (earlier_of (i ∷ is) ps) ≡ length (earlier_of is (back_at i ps)) + 1 = length_end (earlier_of is (back_at i ps)) (network_of (back_at i ps)) in
    omega (arith, h, g)

pub as_many : (version : Version) (whose : List ℕ) (ps : List ReplicaHistory) → length (map (of_version version) (earlier_of (reverse whose) ps)) ≡ length whose
as_many version whose ps = length-map (earlier_of (reverse whose) ps) (of_version version) ∙ length_earlier (reverse whose) ps ∙ length-reverse whose
