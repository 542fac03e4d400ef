-- About specs/Steps: each step on the words keeps the rule.
use Rattle.std.proofs.Common.{◌≡◌, ◌≢◌, ℕ, ◌+◌, ◌*◌, ◌^◌, ◌%◌, ◌<◌, ◌≤◌, true, false, eqb, Option, Some, None, List, [], ◌∷◌, ◌++◌, length, get_or, set, sym, refl, ap, ◌∙◌, subst, arith, eq-eqb, ne_eqb, ⊎_elim, ◌⊎◌, inl, inr, length-set, length-append, append_assoc, drop, cond, get_or-set_same, get_or-set_other}
use Rattle.std.specs.Prelude.{sum_by, count_by, All}
use Rattle.std.proofs.lemmas.List.Elements.{filter-append, All-push}
use Rattle.std.proofs.lemmas.List.Prefix.{front_rest}
use Rattle.std.proofs.lemmas.List.Sums.{sum_by-cons}
use mathlib.Core.Logic.{dite}
use mathlib.Core.Option.{none, some, some-injective}
use mathlib.Core.List.{append-nil}
use native.Mathlib.Decide.{ℕ_discrete}
use lib.ListN.{get_elem?}
use lib.Seq.{set-get_or}
use Rattle.atomic_table.specs.Table.{State, Me, step, Act, keeps, takes, gives, stepped, homes_after, Allows}
use Rattle.atomic_table.proofs.Lists.{set_here, set_else}
use Rattle.jc_lock.specs.declared.view.Known.{Known}
use Rattle.jc_lock.specs.declared.view.View.{View}
use Rattle.jc_lock.specs.declared.view.Terms.{Terms}
use Rattle.jc_lock.specs.declared.view.Stage.{Stage}
use Rattle.jc_lock.specs.declared.view.Stage.TheVariants.{Rests, Waits, Holds}
use Rattle.jc_lock.specs.Knowledge.{own, is_for, seen_in, seen_to, grown_to, IsTrueOf, AllTrueOf, Continues}
use Rattle.jc_lock.specs.Rules.{ticket_count, count_of_ticket, has_turn, OnceAnd, tickets_of, times_ticket, takes_left, times_known, NoTurn, FitsStage, FitsSeat, IsKept}
use Rattle.jc_lock.specs.Steps.{ticket_in, with_ticket, with_turn, at_rest, with_seen, with_grown, Draws, Looks, PassesOn, Publishes, ReadsWord}
use Rattle.jc_lock.proofs.RulesSumsLemmas.{one_if, one_if-same, sum_by-same, sum_by-put, part-le-sum_by, two-le-sum_by, at_put, each_set, once_drawn, once_done, once_same}

abbrev pub known_for : {E : Type 0} → ℕ → Known E → ℕ
known_for p x = one_if (is_for p x)

pub count_single : {E : Type 0} → (p : ℕ) (known : List (Known E)) (k : Known E) → known ≡ k ∷ [] → count_by (is_for p) known ≡ known_for p k
count_single p known k one = ap (count_by (is_for p)) one ∙ omega (arith, sum_by-cons (known_for p) k [])

pub single : {X : Type 0} → (l : List X) → length l ≡ 1 → (k : X) × (l ≡ k ∷ [])
single [] e = absurd (omega arith)
single (x ∷ []) e = (x, refl)
single (x ∷ y ∷ ys) e = absurd (omega arith)

pub turn_of : (st : Stage) → has_turn st ≡ true → (t : ℕ) × (st ≡ Holds t)
turn_of Rests e = absurd (Rattle.std.proofs.lemmas.Bool.false≢true e)
turn_of (Waits t) e = absurd (Rattle.std.proofs.lemmas.Bool.false≢true e)
turn_of (Holds t) e = (t, refl)

pub nonempty : {X : Type 0} → (l : List X) (k : X) → l ≡ k ∷ [] → 0 < length l
nonempty l k one = let e : length l ≡ 1 = ap length one in omega arith

module _ {E : Type 0} (maker : E → ℕ) where
  own_one : (e : E) (p : ℕ) → maker e ≡ p → own maker (e ∷ []) p ≡ e ∷ []
  own_one e p is = ap (λ b. cond b (e ∷ []) []) (eq-eqb (maker e) p is)

  own_none : (e : E) (p : ℕ) → maker e ≢ p → own maker (e ∷ []) p ≡ []
  own_none e p not = ap (λ b. cond b (e ∷ []) []) (ne_eqb (maker e) p not)

  -- an entry of the pass is one more of its own
  pub own-push : (history : List E) (e : E) (p : ℕ) → maker e ≡ p → own maker (history ++ e ∷ []) p ≡ own maker history p ++ e ∷ []
  own-push history e p is = filter-append (λ y. eqb (maker y) p) history (e ∷ []) ∙ ap (λ l. own maker history p ++ l) (own_one e p is)

  own-push_other : (history : List E) (e : E) (p : ℕ) → maker e ≢ p → own maker (history ++ e ∷ []) p ≡ own maker history p
  own-push_other history e p not = filter-append (λ y. eqb (maker y) p) history (e ∷ []) ∙ (ap (λ l. own maker history p ++ l) (own_none e p not) ∙ append-nil (own maker history p))

  -- an entry of another pass leaves what is known
  true_on : (history : List E) (e : E) (known : List (Known E)) → count_by (is_for (maker e)) known ≡ 0 → AllTrueOf maker history known → AllTrueOf maker (history ++ e ∷ []) known
  true_on history e [] none_here told = tt
  true_on history e (x ∷ xs) none_here told =
      let p = told.0.0 in
      let parts = sum_by-cons (known_for (maker e)) x xs in
      let other : x.number ≢ maker e = λ same. let one = one_if-same x.number (maker e) same in omega arith in
      let rest : count_by (is_for (maker e)) xs ≡ 0 = omega arith in (
        (
          (p.0 ++ e ∷ [], sym (append_assoc x.seen p.0 (e ∷ [])) ∙ ap (λ l. l ++ e ∷ []) p.1),
          own-push_other history e x.number (λ same. other (sym same)) ∙ told.0.1,
        ),
        true_on history e xs rest told.1,
      )

  continues : (history : List E) (known : List (Known E)) (k : Known E) → known ≡ k ∷ [] → AllTrueOf maker history known → Continues maker known history
  continues history known k one told = subst (λ ks. Continues maker ks history) (sym one) (subst (AllTrueOf maker history) one told).0

  true_seen : (history : List E) (known : List (Known E)) (k : Known E) → known ≡ k ∷ [] → AllTrueOf maker history known → AllTrueOf maker history (seen_to history known)
  true_seen history known k one told = subst (λ ks. AllTrueOf maker history (seen_to history ks)) (sym one) ((([], append-nil history), (subst (AllTrueOf maker history) one told).0.1), tt)

  seen_same : (history : List E) (known : List (Known E)) (k : Known E) → known ≡ k ∷ [] → (p : ℕ) → count_by (is_for p) (seen_to history known) ≡ count_by (is_for p) known
  seen_same history known k one p = subst (λ ks. count_by (is_for p) (seen_to history ks) ≡ count_by (is_for p) ks) (sym one) refl

  grown_same : (history : List E) (known : List (Known E)) (k : Known E) → known ≡ k ∷ [] → (p : ℕ) → count_by (is_for p) (grown_to history known) ≡ count_by (is_for p) known
  grown_same history known k one p = subst (λ ks. count_by (is_for p) (grown_to history ks) ≡ count_by (is_for p) ks) (sym one) refl

  -- what a pass knows once its entry is published
  grown_true : (history : List E) (e : E) (k : Known E) → k.seen ≡ history → maker e ≡ k.number → IsTrueOf maker history k → AllTrueOf maker (history ++ e ∷ []) (grown_to (history ++ e ∷ []) (k ∷ []))
  grown_true history e k all named told =
      let log : List E = history ++ e ∷ [] in (
        (
          ([], append-nil log),
          own-push history e k.number named ∙ (ap (λ l. l ++ e ∷ []) told.1 ∙ ap (λ l. k.mine ++ l) (sym (front_rest log k.seen (e ∷ []) (ap (λ l. l ++ e ∷ []) (sym all))))),
        ),
        tt,
      )

  -- who has no turn stays in the queue, whichever ticket is due and however the history grew
  waits_on : (due due' : ℕ) (history history' : List E) (known : List (Known E)) (st : Stage) → has_turn st ≡ false → FitsStage due history known st → FitsStage due' history' known st
  waits_on due due' history history' known Rests out fits = tt
  waits_on due due' history history' known (Waits t) out fits = fits
  waits_on due due' history history' known (Holds t) out fits = absurd (Rattle.std.proofs.lemmas.Bool.false≢true (sym out))

module _ {K E O : Type 0} (origin : K → O) (list : K → List E) (maker : E → ℕ) (terms : Terms K) where
  abbrev V : Type 0
  V = View E O

  abbrev St : Type 0
  St = State (Option K) V

  abbrev M : Type 0
  M = Me (Option K) V

  abbrev Rule : St → Type 0
  Rule = IsKept origin list maker terms

  abbrev drawn_in : St → ℕ
  drawn_in s = get_or s.words 0 0

  abbrev due_in : St → ℕ
  due_in s = get_or s.words 1 0

  abbrev first_origin : O
  first_origin = origin terms.opened.value

  -- who has the turn has the ticket that is due
  turn_ticket : (due : ℕ) (history : List E) (known : List (Known E)) (st : Stage) → FitsStage due history known st → (has_turn st ≡ false) ⊎ (count_of_ticket due st ≡ 1)
  turn_ticket due history known Rests fits = inl refl
  turn_ticket due history known (Waits t) fits = inl refl
  turn_ticket due history known (Holds t) fits = inr (one_if-same t due fits.3)

  -- where a seat has the ticket that is due, no other has the turn
  others_have_none : (s : St) (r : Rule s) (id : ℕ) (v : V) → get_elem? s.views id ≡ some v → count_of_ticket (due_in s) v.stage ≡ 1 → (j : ℕ) (w : V) → j ≢ id → get_elem? s.views j ≡ some w → has_turn w.stage ≡ false
  others_have_none s r id v at mine j w ne there = ⊎_elim (λ e. e)
      (λ (e : count_of_ticket (due_in s) w.stage ≡ 1). let most = (r.tickets (due_in s)).0 in let two = two-le-sum_by (times_ticket (due_in s)) s.views id j v w ne at there in absurd (omega arith))
      (turn_ticket (due_in s) r.history w.knows w.stage (r.seats j w there).2)

  -- a seat without the turn that no other seat has: nobody has it
  pub nobody_else : (s : St) (id : ℕ) (v : V) → get_elem? s.views id ≡ some v → has_turn v.stage ≡ false → ((j : ℕ) (w : V) → j ≢ id → get_elem? s.views j ≡ some w → has_turn w.stage ≡ false) → NoTurn s.views
  nobody_else s id v at out others j d there = dite (ℕ_discrete j id)
      (λ e. subst (λ (z : V). has_turn z.stage ≡ false) (some-injective v d (sym at ∙ subst (λ k. get_elem? s.views k ≡ some d) e there)) out)
      (λ ne. others j d ne there)

  -- where the old view has no turn, nobody has one after the change only if nobody had one before
  pub no_turn_before : (s : St) (id : ℕ) (v w : V) → get_elem? s.views id ≡ some v → has_turn v.stage ≡ false → NoTurn (set s.views id w) → NoTurn s.views
  no_turn_before s id v w at out none_now = nobody_else s id v at out (λ j d ne there. none_now j d (set_else s.views id j w ne ∙ there))

  turn_there : (s : St) (id : ℕ) (v w : V) → get_elem? s.views id ≡ some v → has_turn w.stage ≡ true → NoTurn (set s.views id w) → ⊥
  turn_there s id v w at turn none_now = Rattle.std.proofs.lemmas.Bool.false≢true (sym (none_now id w (at_put s.views id v w at)) ∙ turn)

  holder : (s : St) (r : Rule s) (id : ℕ) (v : V) (t : ℕ) → get_elem? s.views id ≡ some v → v.stage ≡ Holds t → (x : Known E) × (v.knows ≡ x ∷ []) × (x.seen ≡ r.history) × (t ≡ due_in s)
  holder s r id v t at turn = subst (FitsStage (due_in s) r.history v.knows) turn (r.seats id v at).2

  pub draw_keeps : (slots id : ℕ) (me : M) → me.0.stage ≡ Rests → 0 < me.0.left → (k : Known E) → me.0.knows ≡ k ∷ [] → Allows Rule slots id me 0 (λ n. (n + 1) % 2 ^ 64) (Draws (step slots 0 1 0 none) me)
  draw_keeps slots id me rests some_left k one s r len at fits =
      let n : ℕ = drawn_in s in
      let w : V = with_ticket me.0 n in
      let most : ℕ = terms.passes * terms.takes in
      let wide = r.wide in
      let queue = r.queue in
      let budget : n + sum_by takes_left s.views ≡ most = r.budget in
      let small : most < 72057594037927936 = r.small in
      let up : n + 1 ≡ (n + 1) % 18446744073709551616 = omega arith in
      let first : get_or (set s.words 0 (n + 1)) 0 0 ≡ n + 1 = get_or-set_same s.words 0 (n + 1) 0 (omega arith) in
      let second : get_or (set s.words 0 (n + 1)) 1 0 ≡ due_in s = get_or-set_other s.words 0 1 (n + 1) 0 (λ e. omega arith) in
      let third : get_or (set s.words 0 (n + 1)) 2 0 ≡ get_or s.words 2 0 = get_or-set_other s.words 0 2 (n + 1) 0 (λ e. omega arith) in
      let was : ticket_count me.0.stage ≡ 0 = ap ticket_count rests in
      let q = sum_by-put tickets_of s.views id me.0 w at in
      let l = sum_by-put takes_left s.views id me.0 w at in
      let behind : due_in s ≤ n = omega arith in (
        w,
        keeps,
        tt,
        subst (λ z. Rule (stepped s 0 z id me.1 w keeps)) up record {
          history = r.history;
          wide = length-set s.words 0 (n + 1) ∙ wide;
          queue = omega arith;
          tickets = λ t.
              let sum = sum_by-put (times_ticket t) s.views id me.0 w at in
              let none_yet : count_of_ticket t me.0.stage ≡ 0 = ap (count_of_ticket t) rests in
              subst (λ (z : ℕ × ℕ). OnceAnd (sum_by (times_ticket t) (set s.views id w)) ((z.0 ≤ t) × (t < z.1))) (λ i. (sym second i, sym first i))
              (once_drawn t n (due_in s) (sum_by (times_ticket t) s.views) (sum_by (times_ticket t) (set s.views id w)) behind (omega arith) (r.tickets t));
          budget = omega arith;
          small = r.small;
          numbers = λ p. once_same _ _ (sum_by-same (times_known p) s.views id me.0 w at refl) (r.numbers p);
          seats = subst (λ (z : ℕ). (j : ℕ) (d : V) → get_elem? (set s.views id w) j ≡ some d → FitsSeat maker z r.history first_origin d) (sym second)
              (each_set _ s.views id w (let f = r.seats id me.0 at in (f.0, f.1, (k, one))) (λ j d _. r.seats j d));
          at_home = λ nobody. r.at_home (no_turn_before s id me.0 w at (ap has_turn rests) nobody);
          counted = third ∙ r.counted;
          makers = r.makers;
        },
        refl,
      )

  -- a step that changes no word, where the seat's place in the queue and its numbers stay
  same_words : (s : St) (r : Rule s) (i id : ℕ) (v w : V) (cs : List (ℕ × Option K)) (a : Act (Option K)) → get_elem? s.views id ≡ some v
      → tickets_of w ≡ tickets_of v → ((t : ℕ) → times_ticket t w ≡ times_ticket t v) → w.left ≡ v.left → ((p : ℕ) → times_known p w ≡ times_known p v)
      → FitsSeat maker (due_in s) r.history first_origin w
      → (NoTurn (set s.views id w) → (x : K) × (get_elem? (homes_after s.homes cs a) 0 ≡ some (some (Some x))) × (origin x ≡ first_origin) × (list x ≡ r.history))
      → Rule (stepped s i (get_or s.words i 0) id cs w a)
  same_words s r i id v w cs a at same_count same_ticket same_left same_numbers fits home = subst (λ (ws : List ℕ). Rule record { words = ws; homes = homes_after s.homes cs a; views = set s.views id w }) (sym (set-get_or s.words i 0)) record {
    history = r.history;
    wide = r.wide;
    queue = let q = r.queue in let e = sum_by-same tickets_of s.views id v w at same_count in omega arith;
    tickets = λ t. once_same _ _ (sum_by-same (times_ticket t) s.views id v w at (same_ticket t)) (r.tickets t);
    budget = ap (λ (n : ℕ). drawn_in s + n) (sum_by-same takes_left s.views id v w at same_left) ∙ r.budget;
    small = r.small;
    numbers = λ p. once_same _ _ (sum_by-same (times_known p) s.views id v w at (same_numbers p)) (r.numbers p);
    seats = each_set _ s.views id w fits (λ j d _. r.seats j d);
    at_home = home;
    counted = r.counted;
    makers = r.makers;
  }

  pub look_keeps : (slots id : ℕ) (me : M) (t : ℕ) → me.0.stage ≡ Waits t → (k : Known E) → me.0.knows ≡ k ∷ [] → Allows Rule slots id me 1 (λ n. n) (Looks origin list maker (step slots 1 0 0 none) me)
  look_keeps slots id me t waits k one s r len at fits =
      let n : ℕ = due_in s in
      let mine = r.seats id me.0 at in
      let is : ticket_in me.0.stage ≡ t = ap ticket_in waits in
      dite (ℕ_discrete n t)
      (λ here.
      let ticket : count_of_ticket n me.0.stage ≡ 1 = ap (count_of_ticket n) waits ∙ one_if-same t n (sym here) in
      let home = r.at_home (nobody_else s id me.0 at (ap has_turn waits) (others_have_none s r id me.0 at ticket)) in
      let x : K = home.0 in
      let w : V = with_turn me.0 n (list x) in
      let same : list x ≡ r.history = home.3 in (
        w,
        takes 0 (Some x),
        home.1,
        same_words s r 1 id me.0 w me.1 (takes 0 (Some x)) at
            (sym (ap ticket_count waits))
            (λ u. ap (λ z. one_if (eqb z u)) here ∙ sym (ap (count_of_ticket u) waits))
            refl
            (seen_same maker (list x) me.0.knows k one) (
              (λ some_here. mine.0 (nonempty me.0.knows k one)),
              subst (λ l. AllTrueOf maker r.history (seen_to l me.0.knows)) (sym same) (true_seen maker r.history me.0.knows k one mine.1),
              (record k { seen = list x }, ap (seen_to (list x)) one, same, refl),
            )
            (λ nobody. absurd (turn_there s id me.0 w at refl nobody)),
        (
          (λ _. (x, refl, mine.0 (nonempty me.0.knows k one) ∙ ap Some (sym home.2), subst (Continues maker me.0.knows) (sym same) (continues maker r.history me.0.knows k one mine.1))),
          λ other. absurd (other (here ∙ sym is)),
        ),
      ))
      (λ not_yet. (
        me.0,
        keeps,
        tt,
        same_words s r 1 id me.0 me.0 me.1 keeps at refl (λ _. refl) refl (λ _. refl) mine (λ nobody. r.at_home (no_turn_before s id me.0 me.0 at (ap has_turn waits) nobody)),
        ((λ hit. absurd (not_yet (hit ∙ is))), λ _. refl),
      ))

  pub read_keeps : (slots id : ℕ) (me : M) → me.0.stage ≡ Rests → (k : Known E) → me.0.knows ≡ k ∷ [] → Allows Rule slots id me 2 (λ n. n) (ReadsWord maker (step slots 2 0 0 none) me)
  read_keeps slots id me rests k one s r len at fits =
      let mine = r.seats id me.0 at in
      let w : V = with_seen me.0 r.history in (
        w,
        keeps,
        tt,
        same_words s r 2 id me.0 w me.1 keeps at refl (λ _. refl) refl (seen_same maker r.history me.0.knows k one) (
          (λ _. mine.0 (nonempty me.0.knows k one)),
          true_seen maker r.history me.0.knows k one mine.1,
          subst (λ (st : Stage). FitsStage (due_in s) r.history (seen_to r.history me.0.knows) st) (sym rests) tt,
        )
            (λ nobody. r.at_home (no_turn_before s id me.0 w at (ap has_turn rests) nobody)),
        (r.history, refl, r.counted, continues maker r.history me.0.knows k one mine.1),
      )

  abbrev or_else : O → Option O → O
  or_else d (Some o) = o
  or_else d None = d

  same_origin : (o : Option O) (x : K) → o ≡ Some first_origin → o ≡ Some (origin x) → origin x ≡ first_origin
  same_origin o x a b = ap (or_else (origin x)) (sym b ∙ a)

  pass_on_with : (slots id : ℕ) → slots ≡ 1 → (v : V) (t : ℕ) (x : K) → v.stage ≡ Holds t → v.origin ≡ Some (origin x) → list x ≡ seen_in v.knows → Allows Rule slots id (v, (0, Some x) ∷ []) 1 (λ n. (n + 1) % 2 ^ 64) (PassesOn (step slots 1 1 0 none) (v, (0, Some x) ∷ []))
  pass_on_with slots id one_slot v t x turn from same s r len at fits =
      let n : ℕ = due_in s in
      let w : V = at_rest v in
      let mine = r.seats id v at in
      let h = holder s r id v t at turn in
      let due : t ≡ n = h.3 in
      let ticket : count_of_ticket n v.stage ≡ 1 = ap (count_of_ticket n) turn ∙ one_if-same t n due in
      let wide = r.wide in
      let queue = r.queue in
      let most : ℕ = terms.passes * terms.takes in
      let budget : drawn_in s + sum_by takes_left s.views ≡ most = r.budget in
      let small : most < 72057594037927936 = r.small in
      let q = sum_by-put tickets_of s.views id v w at in
      let was : ticket_count v.stage ≡ 1 = ap ticket_count turn in
      let up : n + 1 ≡ (n + 1) % 18446744073709551616 = omega arith in
      let first : get_or (set s.words 1 (n + 1)) 0 0 ≡ drawn_in s = get_or-set_other s.words 1 0 (n + 1) 0 (λ e. omega arith) in
      let second : get_or (set s.words 1 (n + 1)) 1 0 ≡ n + 1 = get_or-set_same s.words 1 (n + 1) 0 (omega arith) in
      let third : get_or (set s.words 1 (n + 1)) 2 0 ≡ get_or s.words 2 0 = get_or-set_other s.words 1 2 (n + 1) 0 (λ e. omega arith) in
      let origin_is : v.origin ≡ Some first_origin = mine.0 (nonempty v.knows h.0 h.1) in (
        w,
        gives,
        tt,
        subst (λ z. Rule (stepped s 1 z id ((0, Some x) ∷ []) w gives)) up record {
          history = r.history;
          wide = length-set s.words 1 (n + 1) ∙ wide;
          queue = omega arith;
          tickets = λ u.
              let sum = sum_by-put (times_ticket u) s.views id v w at in
              let had : count_of_ticket u v.stage ≡ one_if (eqb n u) = ap (count_of_ticket u) turn ∙ ap (λ z. one_if (eqb z u)) due in
              subst (λ (z : ℕ × ℕ). OnceAnd (sum_by (times_ticket u) (set s.views id w)) ((z.0 ≤ u) × (u < z.1))) (λ i. (sym second i, sym first i))
              (once_done u n (drawn_in s) (sum_by (times_ticket u) s.views) (sum_by (times_ticket u) (set s.views id w)) (omega arith) (r.tickets u));
          budget = ap (λ (z : ℕ). z + sum_by takes_left (set s.views id w)) first ∙ (ap (λ (z : ℕ). drawn_in s + z) (sum_by-same takes_left s.views id v w at refl) ∙ r.budget);
          small = r.small;
          numbers = λ p. once_same _ _ (sum_by-same (times_known p) s.views id v w at refl) (r.numbers p);
          seats = subst (λ (z : ℕ). (j : ℕ) (d : V) → get_elem? (set s.views id w) j ≡ some d → FitsSeat maker z r.history first_origin d) (sym second)
              (each_set _ s.views id w (mine.0, mine.1, tt) (λ j d ne there. let f = r.seats j d there in (f.0, f.1, waits_on maker n (n + 1) r.history r.history d.knows d.stage (others_have_none s r id v at ticket j d ne there) f.2)));
          at_home = λ _. (x, set_here s.homes 0 (some (Some x)) (omega arith), same_origin v.origin x origin_is from, same ∙ (ap seen_in h.1 ∙ h.2));
          counted = third ∙ r.counted;
          makers = r.makers;
        },
        refl,
      )

  pub pass_on_keeps : (slots id : ℕ) → slots ≡ 1 → (me : M) (t : ℕ) (x : K) → me.0.stage ≡ Holds t → me.1 ≡ (0, Some x) ∷ [] → me.0.origin ≡ Some (origin x) → list x ≡ seen_in me.0.knows → Allows Rule slots id me 1 (λ n. (n + 1) % 2 ^ 64) (PassesOn (step slots 1 1 0 none) me)
  pass_on_keeps slots id one_slot me t x turn slot from same = subst (λ (cs : List (ℕ × Option K)). Allows Rule slots id (me.0, cs) 1 (λ n. (n + 1) % 2 ^ 64) (PassesOn (step slots 1 1 0 none) (me.0, cs))) (sym slot) (pass_on_with slots id one_slot me.0 t x turn from same)

  publish_with : (slots id : ℕ) (v : V) (t : ℕ) (x : K) (e : E) (k : Known E) → v.stage ≡ Holds t → v.knows ≡ k ∷ [] → list x ≡ k.seen ++ e ∷ [] → maker e ≡ k.number → length (list x) < 18446744073709551616
      → Allows Rule slots id (v, (0, Some x) ∷ []) 2 (λ n. (n + 1) % 2 ^ 64) (Publishes list (step slots 2 1 0 none) (v, (0, Some x) ∷ []))
  publish_with slots id v t x e k turn one more named few s r len at fits =
      let log : List E = list x in
      let w : V = with_grown v log in
      let n : ℕ = get_or s.words 2 0 in
      let mine = r.seats id v at in
      let h = holder s r id v t at turn in
      let due : t ≡ due_in s = h.3 in
      let ticket : count_of_ticket (due_in s) v.stage ≡ 1 = ap (count_of_ticket (due_in s)) turn ∙ one_if-same t (due_in s) due in
      let seen_all : k.seen ≡ r.history = ap seen_in (sym one ∙ h.1) ∙ h.2 in
      let log_is : log ≡ r.history ++ e ∷ [] = more ∙ ap (λ l. l ++ e ∷ []) seen_all in
      let long : length log ≡ length r.history + 1 = ap length log_is ∙ length-append r.history (e ∷ []) in
      let count : n ≡ length r.history = r.counted in
      let few' : length log < 18446744073709551616 = few in
      let up : n + 1 ≡ (n + 1) % 18446744073709551616 = omega arith in
      let wide = r.wide in
      let first : get_or (set s.words 2 (n + 1)) 0 0 ≡ drawn_in s = get_or-set_other s.words 2 0 (n + 1) 0 (λ e. omega arith) in
      let second : get_or (set s.words 2 (n + 1)) 1 0 ≡ due_in s = get_or-set_other s.words 2 1 (n + 1) 0 (λ e. omega arith) in
      let third : get_or (set s.words 2 (n + 1)) 2 0 ≡ n + 1 = get_or-set_same s.words 2 (n + 1) 0 (omega arith) in
      let told : IsTrueOf maker r.history k = (subst (AllTrueOf maker r.history) one mine.1).0 in
      let had : times_known (maker e) v ≡ 1 = count_single (maker e) v.knows k one ∙ one_if-same k.number (maker e) (sym named) in
      let part = part-le-sum_by (times_known (maker e)) s.views id v at in
      let numbers = r.numbers (maker e) in (
        w,
        keeps,
        tt,
        subst (λ z. Rule (stepped s 2 z id ((0, Some x) ∷ []) w keeps)) up record {
          history = log;
          wide = length-set s.words 2 (n + 1) ∙ wide;
          queue = let q = r.queue in let e = sum_by-same tickets_of s.views id v w at refl in omega arith;
          tickets = λ u. subst (λ (z : ℕ × ℕ). OnceAnd (sum_by (times_ticket u) (set s.views id w)) ((z.0 ≤ u) × (u < z.1))) (λ i. (sym second i, sym first i))
              (once_same _ _ (sum_by-same (times_ticket u) s.views id v w at refl) (r.tickets u));
          budget = ap (λ (z : ℕ). z + sum_by takes_left (set s.views id w)) first ∙ (ap (λ (z : ℕ). drawn_in s + z) (sum_by-same takes_left s.views id v w at refl) ∙ r.budget);
          small = r.small;
          numbers = λ p. once_same _ _ (sum_by-same (times_known p) s.views id v w at (grown_same maker log v.knows k one p)) (r.numbers p);
          seats = subst (λ (z : ℕ). (j : ℕ) (d : V) → get_elem? (set s.views id w) j ≡ some d → FitsSeat maker z log first_origin d) (sym second)
              (each_set _ s.views id w (
                (λ _. mine.0 (nonempty v.knows k one)),
                subst (λ ks. AllTrueOf maker log (grown_to log ks)) (sym one) (subst (λ l. AllTrueOf maker l (grown_to l (k ∷ []))) (sym log_is) (grown_true maker r.history e k seen_all named told)),
                subst (λ (st : Stage). FitsStage (due_in s) log (grown_to log v.knows) st) (sym turn) (record k { seen = log; mine = k.mine ++ drop (length k.seen) log }, ap (grown_to log) one, refl, due),
              )
              (λ j d ne there.
              let f = r.seats j d there in
              let two = two-le-sum_by (times_known (maker e)) s.views id j v d ne at there in
              let once = numbers.0 in
              let elsewhere : times_known (maker e) d ≡ 0 = omega arith in (
                f.0,
                subst (λ l. AllTrueOf maker l d.knows) (sym log_is) (true_on maker r.history e d.knows elsewhere f.1),
                waits_on maker (due_in s) (due_in s) r.history log d.knows d.stage (others_have_none s r id v at ticket j d ne there) f.2,
              )));
          at_home = λ nobody. absurd (turn_there s id v w at (ap has_turn turn) nobody);
          counted = third ∙ (ap (λ (z : ℕ). z + 1) count ∙ sym long);
          makers = subst (All (λ y. maker y < terms.passes)) (sym log_is) (All-push (λ y. maker y < terms.passes) r.history e r.makers (numbers.1 (omega arith)));
        },
        refl,
      )

  pub publish_keeps : (slots id : ℕ) (me : M) (t : ℕ) (x : K) (e : E) (k : Known E) → me.0.stage ≡ Holds t → me.1 ≡ (0, Some x) ∷ [] → me.0.knows ≡ k ∷ [] → list x ≡ k.seen ++ e ∷ [] → maker e ≡ k.number → length (list x) < 18446744073709551616
      → Allows Rule slots id me 2 (λ n. (n + 1) % 2 ^ 64) (Publishes list (step slots 2 1 0 none) me)
  publish_keeps slots id me t x e k turn slot one more named few = subst (λ (cs : List (ℕ × Option K)). Allows Rule slots id (me.0, cs) 2 (λ n. (n + 1) % 2 ^ 64) (Publishes list (step slots 2 1 0 none) (me.0, cs))) (sym slot) (publish_with slots id me.0 t x e k turn one more named few)
