-- About specs/Gathered and specs/Rules: joining the passes of a lock, and closing it.
use Rattle.std.proofs.Common.{◌≡◌, ◌≢◌, ℕ, ◌+◌, ◌*◌, ◌<◌, Bool, true, false, cond, Option, Some, None, List, [], ◌∷◌, ◌++◌, length, map, set, get_or, sym, refl, ap, ◌∙◌, subst, arith, append_assoc, length-append}
use Rattle.std.specs.Prelude.{sum_by, count_by, All}
use Rattle.std.proofs.lemmas.List.Sums.{sum_by-cons, sum_by-append}
use Rattle.std.proofs.lemmas.List.Elements.{All-head, All-tail, All-cons, All-nil}
use Rattle.std.proofs.lemmas.Bool.{lt-ltb, false≢true}
use mathlib.Core.Option.{some}
use mathlib.Core.List.{append-nil, IsPrefix}
use lib.ListN.{get_elem?}
use Rattle.atomic_table.specs.Table.{State, Joins, Final, Seen}
use Rattle.atomic_table.proofs.Lists.{set_else}
use Rattle.jc_lock.specs.declared.kept.Kept.{Ghosts}
use Rattle.jc_lock.specs.declared.lock.Pass.{Pass}
use Rattle.jc_lock.specs.declared.view.Known.{Known}
use Rattle.jc_lock.specs.declared.view.View.{View}
use Rattle.jc_lock.specs.declared.view.Terms.{Terms}
use Rattle.jc_lock.specs.declared.view.Stage.{Stage}
use Rattle.jc_lock.specs.declared.view.Stage.TheVariants.{Rests, Waits, Holds}
use Rattle.jc_lock.specs.Gathered.{known_of, KnowsAll}
use Rattle.jc_lock.specs.Knowledge.{own, is_for, AllTrueOf}
use Rattle.jc_lock.specs.Numbers.{times, EachOnce}
use Rattle.jc_lock.specs.Rules.{ticket_count, count_of_ticket, has_turn, tickets_of, times_ticket, takes_left, times_known, FitsStage, IsKept}
use Rattle.jc_lock.specs.Shows.{pass_number, pass_seen, pass_mine}
use Rattle.jc_lock.specs.Steps.{join_of, spent_view}
use Rattle.jc_lock.proofs.RulesSumsLemmas.{one_if-same, part-le-sum_by, two-le-sum_by, sum_by-same, sum_by-put, each_set, once_same}
use Rattle.jc_lock.proofs.StepsLemmas.{known_for, nobody_else, no_turn_before, count_single, nonempty, single}

pub none_of_length : {X : Type 0} → (l : List X) → length l ≡ 0 → l ≡ []
none_of_length [] e = refl
none_of_length (x ∷ xs) e = absurd (omega arith)

pub some_append : {X : Type 0} → (l m : List X) → 0 < length m → 0 < length (l ++ m)
some_append l m h = omega (arith, length-append l m)

pub all_but_last : {X : Type 0} → (P : X → Type 0) (xs : List X) (x : X) → All P (xs ++ x ∷ []) → All P xs × P x
all_but_last P [] x all = (All-nil P, All-head P x [] all)
all_but_last P (y ∷ ys) x all = let t = all_but_last P ys x (All-tail P y (ys ++ x ∷ []) all) in (All-cons P y ys (All-head P y (ys ++ x ∷ []) all) t.0, t.1)

true_append : {E : Type 0} → (maker : E → ℕ) (history : List E) (ks ls : List (Known E)) → AllTrueOf maker history ks → AllTrueOf maker history ls → AllTrueOf maker history (ks ++ ls)
true_append maker history [] ls a b = b
true_append maker history (x ∷ xs) ls a b = (a.0, true_append maker history xs ls a.1 b)

module _ {K E O : Type 0} (origin : K → O) (list : K → List E) (maker : E → ℕ) (terms : Terms K) where
  abbrev V : Type 0
  V = View E O

  abbrev St : Type 0
  St = State (Option K) V

  abbrev Rule : St → Type 0
  Rule = IsKept origin list maker terms

  pub gather_keeps : (id : ℕ) (v : V) (other : ℕ) (w : V) → v.stage ≡ Rests → w.stage ≡ Rests → 0 < length v.knows → Joins Rule id v other w (join_of v w) spent_view
  gather_keeps id v other w rests rests' some_here s r at apart there =
      let a : V = join_of v w in
      let vs : List V = set s.views id a in
      let due : ℕ = get_or s.words 1 0 in
      let drawn : ℕ = get_or s.words 0 0 in
      let there' : get_elem? s.views other ≡ some w = sym (set_else s.views id other a apart) ∙ there in
      let mine = r.seats id v at in
      let theirs = r.seats other w there' in record {
        history = r.history;
        wide = r.wide;
        queue = let q = r.queue in let e = sum_by-same tickets_of s.views id v a at refl in let f = sum_by-same tickets_of vs other w spent_view there (sym (ap ticket_count rests')) in omega arith;
        tickets = λ t. once_same _ _ (sum_by-same (times_ticket t) vs other w spent_view there (sym (ap (count_of_ticket t) rests')) ∙ sum_by-same (times_ticket t) s.views id v a at refl) (r.tickets t);
        budget =
            let most : ℕ = terms.passes * terms.takes in
            let q : drawn + sum_by takes_left s.views ≡ most = r.budget in
            let e = sum_by-put takes_left s.views id v a at in
            let f = sum_by-put takes_left vs other w spent_view there in
            let g : drawn + sum_by takes_left (set vs other spent_view) ≡ most = omega arith in g;
        small = r.small;
        numbers = λ p. once_same _ _ (let e = sum_by-put (times_known p) s.views id v a at in let f = sum_by-put (times_known p) vs other w spent_view there in let g = sum_by-append (known_for p) w.knows v.knows in omega arith) (r.numbers p);
        seats = each_set _ vs other spent_view ((λ h. absurd (omega arith)), tt, tt)
            (λ j d _. each_set _ s.views id a
            ((λ _. mine.0 some_here), true_append maker r.history w.knows v.knows theirs.1 mine.1, subst (λ (st : Stage). FitsStage due r.history (w.knows ++ v.knows) st) (sym rests) tt)
            (λ j d _. r.seats j d) j d);
        at_home = λ nobody. r.at_home (no_turn_before origin list maker terms s id v a at (ap has_turn rests) (no_turn_before origin list maker terms record { words = s.words; homes = s.homes; views = vs } other w spent_view there (ap has_turn rests') nobody));
        counted = r.counted;
        makers = r.makers;
      }

  -- where one seat knows for each pass, no other has the turn
  others_out : (s : St) (r : Rule s) (id : ℕ) (v : V) → get_elem? s.views id ≡ some v → KnowsAll terms.passes v.knows → (j : ℕ) (d : V) → j ≢ id → get_elem? s.views j ≡ some d → (st : Stage) → FitsStage (get_or s.words 1 0) r.history d.knows st → has_turn st ≡ false
  others_out s r id v at all j d ne there Rests fits = refl
  others_out s r id v at all j d ne there (Waits t) fits = refl
  others_out s r id v at all j d ne there (Holds t) fits =
      let p = fits.0.number in
      let had : times_known p d ≡ 1 = count_single p d.knows fits.0 fits.1 ∙ one_if-same p p refl in
      let part = part-le-sum_by (times_known p) s.views j d there in
      let n = r.numbers p in
      let once = n.0 in
      let mine = all p (n.1 (omega arith)) in
      let two = two-le-sum_by (times_known p) s.views id j v d ne at there in
      absurd (omega arith)

  -- then the value is at home, and what the seat knows is true of its list
  pub close_gives : (id : ℕ) (v : V) → v.stage ≡ Rests → KnowsAll terms.passes v.knows → (ws : List ℕ) (xs : List (Option K)) → Final (Seen Rule id v) ws xs
      → (x : K) × (get_elem? xs 0 ≡ some (Some x)) × (origin x ≡ origin terms.opened.value) × AllTrueOf maker (list x) v.knows × All (λ e. maker e < terms.passes) (list x)
  close_gives id v rests all ws xs final =
      let s = final.0 in
      let r = final.1.0 in
      let at = final.1.1 in
      let home = r.at_home (nobody_else origin list maker terms s id v at (ap has_turn rests) (λ j d ne there. others_out s r id v at all j d ne there d.stage (r.seats j d there).2)) in
      (home.0, final.4 0 (Some home.0) home.1, home.2, subst (λ l. AllTrueOf maker l v.knows) (sym home.3) (r.seats id v at).1, subst (All (λ e. maker e < terms.passes)) (sym home.3) r.makers)

module _ {K E O : Type 0} {g : Ghosts K E O} where
  pub some_known : (p : Pass K E O g) → 0 < length p.seat.me.0.knows
  some_known p = let k = single p.seat.me.0.knows p.single in nonempty p.seat.me.0.knows k.0 k.1

  pub known_of-push : (ps : List (Pass K E O g)) (p : Pass K E O g) → known_of (ps ++ p ∷ []) ≡ known_of ps ++ p.seat.me.0.knows
  known_of-push [] p = append-nil p.seat.me.0.knows
  known_of-push (q ∷ qs) p = ap (λ l. q.seat.me.0.knows ++ l) (known_of-push qs p) ∙ sym (append_assoc q.seat.me.0.knows (known_of qs) p.seat.me.0.knows)

  -- what is known for one pass of a list is counted by its number
  count_known : (p : ℕ) (ps : List (Pass K E O g)) → count_by (is_for p) (known_of ps) ≡ times p (map pass_number ps)
  count_known p [] = refl
  count_known p (q ∷ qs) =
      let k = single q.seat.me.0.knows q.single in
      let named : k.0.number ≡ q.number = sym (ap Rattle.jc_lock.specs.Knowledge.number_in k.1) ∙ q.numbered in
      let one : count_by (is_for p) q.seat.me.0.knows ≡ known_for p k.0 = count_single p q.seat.me.0.knows k.0 k.1 in
      let same : known_for p k.0 ≡ cond (Rattle.std.proofs.Common.eqb q.number p) 1 0 = ap (λ (z : ℕ). cond (Rattle.std.proofs.Common.eqb z p) 1 0) named in
      let rest = count_known p qs in
      let numbers : List ℕ = map pass_number qs in
      omega (arith, sum_by-append (known_for p) q.seat.me.0.knows (known_of qs), sum_by-cons (λ (z : ℕ). cond (Rattle.std.proofs.Common.eqb z p) 1 0) q.number numbers)

  pub knows_all : (n : ℕ) (ps : List (Pass K E O g)) → EachOnce n (map pass_number ps) → KnowsAll n (known_of ps)
  knows_all n ps each p h =
      let once : count_by (is_for p) (known_of ps) ≡ 1 = count_known p ps ∙ (each p ∙ ap (λ b. cond b 1 0) (lt-ltb p n h)) in
      omega arith

  pub some_pass : (n : ℕ) (ps : List (Pass K E O g)) → 0 < n → EachOnce n (map pass_number ps) → 0 < length ps
  some_pass n [] h each = let once : times 0 (map (pass_number {g = g}) []) ≡ 1 = each 0 ∙ ap (λ b. cond b 1 0) (lt-ltb 0 n h) in absurd (omega arith)
  some_pass n (p ∷ ps) h each = omega arith

  first_true : (maker : E → ℕ) (history : List E) (p : Pass K E O g) (ks : List (Known E)) → AllTrueOf maker history (p.seat.me.0.knows ++ ks) → (IsPrefix (pass_seen p) history × (own maker history (pass_number p) ≡ pass_mine p)) × AllTrueOf maker history ks
  first_true maker history p ks all =
      let k = single p.seat.me.0.knows p.single in
      let told = subst (λ l. AllTrueOf maker history (l ++ ks)) k.1 all in
      let fact : IsPrefix (pass_seen p) history × (own maker history (Rattle.jc_lock.specs.Knowledge.number_in p.seat.me.0.knows) ≡ pass_mine p) = subst (λ l. Rattle.jc_lock.specs.Knowledge.Continues maker l history) (sym k.1) told.0 in
      ((fact.0, ap (own maker history) (sym p.numbered) ∙ fact.1), told.1)

  pub all_seen : (maker : E → ℕ) (history : List E) (ps : List (Pass K E O g)) → AllTrueOf maker history (known_of ps) → All (λ p. IsPrefix (pass_seen p) history) ps
  all_seen maker history [] all = All-nil (λ q. IsPrefix (pass_seen q) history)
  all_seen maker history (p ∷ ps) all = let t = first_true maker history p (known_of ps) all in All-cons (λ q. IsPrefix (pass_seen q) history) p ps t.0.0 (all_seen maker history ps t.1)

  pub all_mine : (maker : E → ℕ) (history : List E) (ps : List (Pass K E O g)) → AllTrueOf maker history (known_of ps) → All (λ p. own maker history (pass_number p) ≡ pass_mine p) ps
  all_mine maker history [] all = All-nil (λ q. own maker history (pass_number q) ≡ pass_mine q)
  all_mine maker history (p ∷ ps) all = let t = first_true maker history p (known_of ps) all in All-cons (λ q. own maker history (pass_number q) ≡ pass_mine q) p ps t.0.1 (all_mine maker history ps t.1)

abbrev or_else : {X : Type 0} → X → Option X → X
or_else d (Some x) = x
or_else d None = d

pub same_some : {X : Type 0} → (r : Option X) (a b : X) → r ≡ Some a → r ≡ Some b → a ≡ b
same_some r a b e f = ap (or_else a) (sym e ∙ f)

abbrev is_full : {X : Type 0} → Option X → Bool
is_full (Some x) = true
is_full None = false

pub some_not_none : {X : Type 0} → (x : X) → Some x ≡ None → ⊥
some_not_none x e = false≢true (sym (ap is_full e))

pub each_of : (n n' : ℕ) (numbers numbers' : List ℕ) → n ≡ n' → numbers ≡ numbers' → EachOnce n numbers → EachOnce n' numbers'
each_of n n' numbers numbers' same same' each = subst (EachOnce n') same' (subst (λ (k : ℕ). EachOnce k numbers) same each)
