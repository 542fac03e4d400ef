-- Of `Marks` and `InMemory`: the event that led to a debugger's position, and what breakpoints say of it.
use Rattle.std.proofs.Common.{◌≡◌, ◌≢◌, ◌↔◌, ℕ, zero, suc, ◌+◌, ◌-◌, ◌<◌, ◌≤◌, nat_eq, ◌&&◌, is_some, slice_index_or, slice_set, List, ◌∷◌, [], ◌++◌, length, take, slice_get, Option, Some, None, Bool, true, false, IsTrue, refl, ap, sym, subst, ◌∙◌, arith}
use Rattle.std.proofs.lemmas.Bool.Decides.{nat_tests}
use Rattle.std.proofs.lemmas.List.{length-map, map-set}
use Rattle.std.proofs.lemmas.Option.{slice_get-map, slice_get_read, slice_get-get_or, slice_get_within, same_Some}
use Rattle.std.specs.Option.{option_map}
use Rattle.jc_rules.specs.declared.id.Id.{Id}
use Rattle.jc_rules.specs.declared.operation.Cursor.{Cursor}
use Rattle.jc_rules.specs.declared.operation.Event.{Event}
use Rattle.jc_rules.specs.declared.operation.Op.{Op}
use Rattle.jc_rules.specs.declared.rule.Rule.{Rule}
use Rattle.jc_rules.specs.State.{State}
use Rattle.jc_rules.specs.Step.{Network, StepIn, AfterIn, replica_of}
use Rattle.jc_rules.specs.History.{timeline}
use Rattle.jc_rules.proofs.VersionLemmas.{one_after_in}
use Rattle.jc_network.proofs.AfterLemmas.{after_one_more, take_more}
use Rattle.jc_debug.specs.DebuggerState.{IsNetworkAt}
use Rattle.jc_debug.specs.Invariant.{Seen, IsDebugger, start_of}
use Rattle.jc_debug.proofs.InvariantLemmas.{after_first, get_last, is_at}
use Rattle.jc_effects.specs.declared.effects.Effects.{Effects}
use Rattle.jc_effects.specs.Difference.{Differences, IsDifference}
use Rattle.jc_effects.specs.Places.{differs_at}
use Rattle.jc_effects.proofs.OneLemmas.{one_difference}
use Rattle.jc_network.specs.NetworkHistory.{NetworkHistory}
use Rattle.jc_journal.specs.EventLine.{IsBeforeLast, event_op, AreEffects, AreEffectsOf}
use Rattle.jc_journal.specs.Parts.{differences_in}
use Rattle.jc_serve.specs.declared.marks.Mark.{Mark as AnyMark}
use Rattle.jc_serve.specs.InMemory.{mark_of, marks_of, IsBehind, NamesHere, Led}
use Rattle.jc_serve.specs.Marks.{Mark, LedBy, state_before, state_after, Changes, MarkNames, operation, place}

never : IsTrue false → ⊥
never y = cc

-- ---- places

-- what is at a place stands for what is there in memory
pub mark_there : (marks : List (Option AnyMark)) (j : ℕ) (o : Option AnyMark) → slice_get marks j ≡ Some o → slice_get (marks_of marks) j ≡ Some (option_map mark_of o)
mark_there marks j o e = slice_get-map (option_map mark_of) marks j ∙ ap (option_map (option_map mark_of)) e

-- the same of one that code reads by its index
pub mark_read : (marks : List (Option AnyMark)) (j : ℕ) (o : Option AnyMark) → j < length marks → o ≡ slice_index_or marks j o → slice_get (marks_of marks) j ≡ Some (option_map mark_of o)
mark_read marks j o lt e = mark_there marks j o (slice_get_read marks (length marks) j o refl lt e)

pub mark_within : (marks : List (Option AnyMark)) (j : ℕ) (o : Option Mark) → slice_get (marks_of marks) j ≡ Some o → j < length marks
mark_within marks j o e = let w = slice_get_within (marks_of marks) j o e in let n = length-map marks (option_map mark_of) in omega (arith, w, n)

pub not_free : (marks : List (Option AnyMark)) (j : ℕ) (o : Option AnyMark) → j < length marks → o ≡ slice_index_or marks j o → is_some o ≡ true → slice_get (marks_of marks) j ≡ Some None → ⊥
not_free marks j None lt e some k = cc
not_free marks j (Some m) lt e some k = let both : Some (Some (mark_of m)) ≡ Some None = sym (mark_read marks j (Some m) lt e) ∙ k in no_mark (mark_of m) both
  where
    no_mark : (b : Mark) → Some (Some b) ≡ Some None → ⊥
    no_mark b e = cc

pub not_set : (marks : List (Option AnyMark)) (n j : ℕ) (o : Option AnyMark) (b : Mark) → n ≡ j + 1 → n ≤ length marks → o ≡ slice_index_or marks (n - 1) o → is_some o ≡ false → slice_get (marks_of marks) j ≡ Some (Some b) → ⊥
not_set marks n j (Some m) b is le e none k = cc
not_set marks n j None b is le e none k =
    let place : n - 1 ≡ j = omega (arith, is) in
    let lt : n - 1 < length marks = omega (arith, is, le) in
    let both : Some None ≡ Some (Some b) = sym (mark_read marks (n - 1) None lt e) ∙ (ap (slice_get (marks_of marks)) place ∙ k) in
    no_mark both
  where
    no_mark : Some None ≡ Some (Some b) → ⊥
    no_mark e = cc

pub set_there : (marks : List (Option AnyMark)) (j : ℕ) (o : Option AnyMark) → marks_of (slice_set marks j o) ≡ slice_set (marks_of marks) j (option_map mark_of o)
set_there marks j o = map-set (option_map mark_of) marks j o

pub was_set : (marks : List (Option AnyMark)) (n : ℕ) (o : Option AnyMark) → n ≢ 0 → n ≤ length marks → o ≡ slice_index_or marks (n - 1) o → is_some o ≡ true
    → (j : ℕ) × (b : Mark) × (n ≡ j + 1) × (slice_get (marks_of marks) j ≡ Some (Some b)) × (marks_of (slice_set marks (n - 1) None) ≡ slice_set (marks_of marks) j None)
was_set marks n None some le e is = cc
was_set marks n (Some m) some le e is =
    let lt : n - 1 < length marks = omega (arith, some, le) in
    (n - 1, mark_of m, omega (arith, some), mark_read marks (n - 1) (Some m) lt e, set_there marks (n - 1) None)

-- ---- the event that led to a position

-- where the debugger behind is, along the other's schedule
behind : (aside here : Seen) (m : ℕ) → IsDebugger aside → IsBehind aside here → length here.traces ≡ m + 1 → IsNetworkAt (start_of here) here.schedule m aside.net.history.now
behind aside here m h b e =
    let size : length aside.traces ≡ m = (let w = b.2 in omega (arith, w, e)) in
    subst (λ (S : Network). IsNetworkAt S here.schedule m aside.net.history.now) b.1
    (subst (λ (es : List Event). IsNetworkAt (start_of aside) es m aside.net.history.now) b.0
    (subst (λ (k : ℕ). IsNetworkAt (start_of aside) aside.schedule k aside.net.history.now) size (is_at aside h)))

-- the network before the last one
pub before_last : (es : List Network) (N : Network) (m : ℕ) (x : Network) → length es ≡ m + 1 → slice_get (es ++ N ∷ []) m ≡ Some x → es ≡ take m es ++ x ∷ []
before_last [] N m x l e = absurd (omega (arith, l))
before_last (y ∷ []) N zero x l e = ap (λ (z : Network). z ∷ []) (same_Some y x e)
before_last (y ∷ z ∷ ys) N zero x l e = absurd (omega (arith, l))
before_last (y ∷ ys) N (suc m) x l e = ap (λ (zs : List Network). y ∷ zs) (before_last ys N m x (omega (arith, l)) e)

-- the debugger behind is at the network before the last step
pub last_is : (aside here : Seen) (m : ℕ) → IsDebugger here → IsNetworkAt (start_of here) here.schedule m aside.net.history.now → length here.traces ≡ m + 1 → IsBeforeLast aside.net.history.now here.net.history
last_is aside here m h there e =
    let f = h.follows m (omega (arith, e)) in
    let same : f.before ≡ aside.net.history.now = one_after_in (start_of here) (take m here.schedule) f.before aside.net.history.now (after_first here h m (omega (arith, e)) f.before f.is_before) there.after in
    let count : length here.net.history.earlier ≡ m + 1 = h.count ∙ e in
    subst (λ (N : Network). IsBeforeLast N here.net.history) same (record { before = take m here.net.history.earlier; earlier = before_last here.net.history.earlier here.net.history.now m f.before count f.is_before })

pub led : (aside here : Seen) (event : Event) (m : ℕ) → IsDebugger aside → IsDebugger here → IsBehind aside here → m ≡ length aside.traces → slice_get here.schedule m ≡ Some event → Led aside here event
led aside here event m g h b behind_it at =
    let e : length here.traces ≡ m + 1 = (let w = b.2 in omega (arith, w, behind_it)) in
    let f = h.follows m (omega (arith, e)) in
    let there = behind aside here m g b e in
    let before : f.before ≡ aside.net.history.now = one_after_in (start_of here) (take m here.schedule) f.before aside.net.history.now (after_first here h m (omega (arith, e)) f.before f.is_before) there.after in
    let count : length here.net.history.earlier ≡ m + 1 = h.count ∙ e in
    let last : slice_get (timeline here.net.history) (m + 1) ≡ Some here.net.history.now = ap (slice_get (timeline here.net.history)) (sym count) ∙ get_last here.net.history.earlier here.net.history.now in
    let after : f.after ≡ here.net.history.now = same_Some f.after here.net.history.now (sym f.is_after ∙ last) in
    let same : f.event ≡ event = same_Some f.event event (sym f.is_event ∙ at) in
    record {
      before = m;
      rows = f.rows.rows;
      position = e;
      is = at;
      is_before = there;
      step = subst (λ (N : Network). StepIn N event here.net.history.now f.rows.rows) before
          (subst (λ (x : Event). StepIn f.before x here.net.history.now f.rows.rows) same
          (subst (λ (M : Network). StepIn f.before f.event M f.rows.rows) after f.step));
      last = last_is aside here m h there e;
    }

-- the same of the event that code reads by its index
pub led_read : (aside here : Seen) (events : List Event) (m : ℕ) (other : Event) → IsDebugger aside → IsDebugger here → IsBehind aside here → m ≡ length aside.traces → events ≡ here.schedule → Led aside here (slice_index_or events m other)
led_read aside here events m other g h b behind_it same =
    let lt : m < length events = (let w = h.within in let n = b.2 in let size : length events ≡ length here.schedule = ap length same in omega (arith, w, n, behind_it, size)) in
    led aside here (slice_index_or events m other) m g h b behind_it (ap (λ es. slice_get es m) (sym same) ∙ slice_get-get_or events m other lt)

abbrev pub led_by : (aside here : Seen) (event : Event) → Led aside here event → LedBy (start_of here) here.schedule (length here.traces)
led_by aside here event l = record {
  before = l.before;
  event = event;
  rows = l.rows;
  is = l.position;
  makes = record {
    before = aside.net.history.now;
    after = here.net.history.now;
    is_at = l.is_before;
    is = l.is;
    step = l.step;
  };
}

-- what every step by the event between the two networks has
abbrev pub OfSteps : (Event → State → State → Type 0) → Network → Event → Network → Type 0
OfSteps P N e M = (rows : List (Rule × ℕ)) → (made : StepIn N e M rows) → P e made.step.before made.step.after

-- Every event that leads to the position is this one.
pub of_led : (P : Event → State → State → Type 0) (aside here : Seen) (event : Event) → IsDebugger here → Led aside here event → OfSteps P aside.net.history.now event here.net.history.now
    → (to : LedBy (start_of here) here.schedule (length here.traces)) → P to.event (state_before to) (state_after to)
of_led P aside here event h l all to =
    let n = l.position in
    let m = to.is in
    let same : to.before ≡ l.before = omega (arith, n, m) in
    let one : to.event ≡ event = same_Some to.event event (sym to.makes.is ∙ (ap (slice_get here.schedule) same ∙ l.is)) in
    let there : IsNetworkAt (start_of here) here.schedule l.before to.makes.before = subst (λ (k : ℕ). IsNetworkAt (start_of here) here.schedule k to.makes.before) same to.makes.is_at in
    let first : to.makes.before ≡ aside.net.history.now = one_after_in (start_of here) (take l.before here.schedule) to.makes.before aside.net.history.now there.after l.is_before.after in
    let more : AfterIn (start_of here) (take (length here.traces) here.schedule) to.makes.after =
    subst (λ (es : List Event). AfterIn (start_of here) es to.makes.after) (sym (longer here.schedule to.before (length here.traces) to.event m to.makes.is))
    (after_one_more (start_of here) (take to.before here.schedule) to.makes.before to.event to.makes.after to.rows to.makes.is_at.after to.makes.step) in
    let last : to.makes.after ≡ here.net.history.now = one_after_in (start_of here) (take (length here.traces) here.schedule) to.makes.after here.net.history.now more (is_at here h).after in
    subst (λ (M : Network). OfSteps P to.makes.before to.event M) (sym last)
    (subst (λ (x : Event). OfSteps P to.makes.before x here.net.history.now) (sym one)
    (subst (λ (N : Network). OfSteps P N event here.net.history.now) (sym first) all)) to.rows to.makes.step
  where
    longer : (es : List Event) (k n : ℕ) (e : Event) → n ≡ k + 1 → slice_get es k ≡ Some e → take n es ≡ take k es ++ e ∷ []
    longer es k n e is at = let one : n ≡ suc k = omega (arith, is) in ap (λ i. take i es) one ∙ take_more es k e at

-- ---- operations

pub same_ids : (i j : Id) (t : Bool) → t ≡ nat_eq i.counter j.counter && nat_eq i.replica j.replica → IsTrue t ↔ (i ≡ j)
same_ids i j t e = (
  λ y. let both : (nat_eq i.counter j.counter && nat_eq i.replica j.replica) ≡ true = sym e ∙ y in
      let counters : i.counter ≡ j.counter = grind (arith, nat_tests) in
      let replicas : i.replica ≡ j.replica = grind (arith, nat_tests) in
      λ k. record { counter = counters k; replica = replicas k },
  λ same. let counters : i.counter ≡ j.counter = ap (λ (x : Id). x.counter) same in
      let replicas : i.replica ≡ j.replica = ap (λ (x : Id). x.replica) same in
      let both : (nat_eq i.counter j.counter && nat_eq i.replica j.replica) ≡ true = grind (arith, nat_tests) in
      e ∙ both,
)

-- the operation's identifier, where one was found
some_made : (x : Option Op) (i : Id) → Some i ≡ option_map (λ o. o.id) x → (o : Op) × (x ≡ Some o) × (o.id ≡ i)
some_made None i e = cc
some_made (Some o) i e = let same : o.id ≡ i = cc in (o, refl, same)

-- what was found is the identifier of the event's operation
abbrev pub FoundOp : Option Id → Event → State → State → Type 0
FoundOp found e A B = found ≡ option_map (λ o. o.id) (event_op e A B)

-- what was found by the last step of a network
pub found_steps : (aside here : Seen) (event : Event) (found : Option Id) (new : NetworkHistory) → new ≡ here.net → IsBeforeLast aside.net.history.now here.net.history
    → ((N : Network) (e : Event) (rows : List (Rule × ℕ)) → IsBeforeLast N new.history → (made : StepIn N e new.history.now rows) → FoundOp found e made.step.before made.step.after)
    → OfSteps (FoundOp found) aside.net.history.now event here.net.history.now
found_steps aside here event found new is_new last told rows made =
    subst (λ (x : NetworkHistory). (N : Network) (e : Event) (rows : List (Rule × ℕ)) → IsBeforeLast N x.history → (made : StepIn N e x.history.now rows) → FoundOp found e made.step.before made.step.after) is_new told
    aside.net.history.now event rows last made

pub made_named : (aside here : Seen) (event : Event) (found i : Id) (t : Bool) → IsDebugger here → Led aside here event → OfSteps (FoundOp (Some found)) aside.net.history.now event here.net.history.now → (IsTrue t ↔ (found ≡ i))
    → IsTrue t ↔ MarkNames (start_of here) here.schedule (operation i) (length here.traces)
made_named aside here event found i t h l all is = (
  λ y. let to = led_by aside here event l in
      let some = some_made (event_op event (state_before to) (state_after to)) found (all l.rows l.step) in
      (to, some.0, some.1, some.2 ∙ is.0 y),
  λ (to, o, has, same).
      let told : Some found ≡ option_map (λ o. o.id) (event_op to.event (state_before to) (state_after to)) = of_led (FoundOp (Some found)) aside here event h l all to in
      let one : found ≡ o.id = same_Some found o.id (told ∙ ap (option_map (λ o. o.id)) has) in
      is.1 (one ∙ same),
)

pub none_made_named : (aside here : Seen) (event : Event) (i : Id) → IsDebugger here → Led aside here event → OfSteps (FoundOp None) aside.net.history.now event here.net.history.now
    → IsTrue false ↔ MarkNames (start_of here) here.schedule (operation i) (length here.traces)
none_made_named aside here event i h l all = (
  λ y. absurd (never y),
  λ (to, o, has, same).
      let told : None ≡ option_map (λ o. o.id) (event_op to.event (state_before to) (state_after to)) = of_led (FoundOp None) aside here event h l all to in
      absurd (none_is_some o.id (told ∙ ap (option_map (λ o. o.id)) has)),
)
  where
    none_is_some : (x : Id) → None ≡ Some x → ⊥
    none_is_some x e = cc

-- ---- places of documents

pub changes_told : (event : Event) (A B : State) (c : Cursor) (x : Differences) (t : Bool) → AreEffectsOf (event_op event A B) A.tree B.tree (Some x) → t ≡ differs_at c.path c.last x → IsTrue t ↔ Changes event A B c
changes_told event A B c x t told is = by_op (event_op event A B) refl told
  where
    one : (y z : Differences) → Some y ≡ Some z → y ≡ z
    one y z e = same_Some y z e

    is_true : (b : Bool) → IsTrue b → b ≡ true
    is_true b y = y

    of_true : (b : Bool) → b ≡ true → IsTrue b
    of_true b e = e

    by_op : (o : Option Op) → event_op event A B ≡ o → AreEffectsOf o A.tree B.tree (Some x) → IsTrue t ↔ Changes event A B c
    by_op None e h = absurd (let no : Some x ≡ None = h.0 in some_is_none no)
      where
        some_is_none : Some x ≡ None → ⊥
        some_is_none k = cc
    by_op (Some o) e h =
        let same : x ≡ h.0 = one x h.0 h.1 in (
          λ y. record {
            op = o;
            has_op = e;
            differences = x;
            is_difference = subst (IsDifference A.tree B.tree) (sym same) h.2;
            at = sym is ∙ is_true t y;
          },
          λ k. let both : k.differences ≡ x = one_difference A.tree B.tree k.differences x k.is_difference (subst (IsDifference A.tree B.tree) (sym same) h.2) in
              of_true t (is ∙ (ap (differs_at c.path c.last) (sym both) ∙ k.at)),
        )

pub none_changes : (event : Event) (A B : State) (c : Cursor) → AreEffectsOf (event_op event A B) A.tree B.tree None → IsTrue false ↔ Changes event A B c
none_changes event A B c told = (λ y. absurd (never y), λ k. absurd (no_effects (event_op event A B) k.op k.has_op told))
  where
    no_effects : (x : Option Op) (o : Op) → x ≡ Some o → AreEffectsOf x A.tree B.tree None → ⊥
    no_effects None o e h = cc
    no_effects (Some p) o e h = none_is_some h.0 h.1
      where
        none_is_some : (y : Differences) → None ≡ Some y → ⊥
        none_is_some y k = cc

pub effects_steps : (aside here : Seen) (event : Event) (o : Option Effects) (x : Option Differences) (old new : NetworkHistory) → old ≡ aside.net → new ≡ here.net → differences_in o ≡ x
    → ((rows : List (Rule × ℕ)) → (made : StepIn old.history.now event new.history.now rows) → AreEffects true event made.step.before made.step.after (differences_in o))
    → (rows : List (Rule × ℕ)) → (made : StepIn aside.net.history.now event here.net.history.now rows) → AreEffectsOf (event_op event made.step.before made.step.after) made.step.before.tree made.step.after.tree x
effects_steps aside here event o x old new is_old is_new is_x told =
    subst (λ (y : Option Differences). (rows : List (Rule × ℕ)) → (made : StepIn aside.net.history.now event here.net.history.now rows) → AreEffectsOf (event_op event made.step.before made.step.after) made.step.before.tree made.step.after.tree y) is_x
    (subst (λ (N : NetworkHistory). (rows : List (Rule × ℕ)) → (made : StepIn N.history.now event here.net.history.now rows) → AreEffects true event made.step.before made.step.after (differences_in o)) is_old
    (subst (λ (M : NetworkHistory). (rows : List (Rule × ℕ)) → (made : StepIn old.history.now event M.history.now rows) → AreEffects true event made.step.before made.step.after (differences_in o)) is_new told))

abbrev pub TellsChanges : Bool → Cursor → Event → State → State → Type 0
TellsChanges t c e A B = IsTrue t ↔ Changes e A B c

pub change_named : (aside here : Seen) (event : Event) (p : ℕ) (c : Cursor) (t : Bool) → IsDebugger here → Led aside here event → replica_of event ≡ p → OfSteps (TellsChanges t c) aside.net.history.now event here.net.history.now
    → IsTrue t ↔ MarkNames (start_of here) here.schedule (place p c) (length here.traces)
change_named aside here event p c t h l own all = (
  λ y. let to = led_by aside here event l in (to, own, (all l.rows l.step).0 y),
  λ (to, other, changed). (of_led (TellsChanges t c) aside here event h l all to).1 changed,
)

-- ---- any breakpoint

pub none_at : (here : Seen) (marks : List (Option AnyMark)) (j : ℕ) → slice_get (marks_of marks) j ≡ Some None → NamesHere here marks j → ⊥
none_at here marks j e (b, at, names) = no_mark b (sym e ∙ at)
  where
    no_mark : (b : Mark) → Some None ≡ Some (Some b) → ⊥
    no_mark b k = cc

pub other_at : (here : Seen) (marks : List (Option AnyMark)) (j : ℕ) (m : AnyMark) (t : Bool) → slice_get (marks_of marks) j ≡ Some (Some (mark_of m)) → (IsTrue t ↔ MarkNames (start_of here) here.schedule (mark_of m) (length here.traces)) → t ≡ false → NamesHere here marks j → ⊥
other_at here marks j m t e h f (b, at, names) =
    let same : b ≡ mark_of m = same_Some b (mark_of m) (same_Some (Some b) (Some (mark_of m)) (sym at ∙ e)) in
    never (sym f ∙ h.1 (subst (λ (x : Mark). MarkNames (start_of here) here.schedule x (length here.traces)) same names))

pub none_here : (here : Seen) (marks : List (Option AnyMark)) (n : ℕ) → length marks ≤ n → ((i : ℕ) → i < n → NamesHere here marks i → ⊥) → (j : ℕ) → NamesHere here marks j → ⊥
none_here here marks n le none j (b, at, names) = none j (let w = mark_within marks j (Some b) at in omega (arith, w, le)) (b, at, names)
