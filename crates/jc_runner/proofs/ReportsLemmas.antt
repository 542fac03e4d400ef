-- About specs/Reports: what the passes know of the history that the closed bench returns.
use Rattle.std.proofs.Common.{rules, arith, ◌≡◌, ℕ, zero, suc, ◌+◌, ◌≤◌, ◌<◌, List, [], ◌∷◌, ◌++◌, refl, sym, ◌∙◌, ap, subst, Bool, true, false, nat_eq, length, length-append, append-nil, sum, map, get_or, inl, inr, slice_get}
use Rattle.std.specs.Prelude.{All}
use Rattle.std.specs.List.{range_with_len}
use Rattle.std.proofs.lemmas.List.Elements.{All-nil, All-cons, All-head, All-tail, All-get_or}
use mathlib.Core.Logic.{dite}
use native.Mathlib.Decide.{ℕ_discrete}
use mathlib.Core.List.{IsPrefix}
use Rattle.jc_rules.specs.declared.operation.Event.{Event}
use Rattle.jc_rules.specs.Step.{Network, replica_of}
use Rattle.jc_rules.proofs.VersionLemmas.{after_states}
use Rattle.jc_scenario.specs.WellFormed.{Scenario, IsWellFormedScenario}
use Rattle.jc_scenario.specs.Views.{scenario_view}
use Rattle.jc_choice.specs.declared.end.End.{End}
use Rattle.jc_choice.specs.declared.end.End.TheVariants as N
use Rattle.jc_choice.specs.Legal.{IsLegal, own_events}
use Rattle.jc_runner.specs.Benches.{bench_start}
use Rattle.jc_runner.specs.WorkerResult.{IsFinishedAfter, ChoosesAfter, EndsWith, HaveWorked}
use Rattle.std.proofs.lemmas.List.{get_or-map, length-map}
use Rattle.std.proofs.lemmas.List.Sums.{sum_by-cons}
use Rattle.std.proofs.lemmas.Option.{get_or_from_slice_get}
use Rattle.jc_choice.proofs.LegalGrowsLemmas.{one_legal, legal_both, own_both, nothing_more, untouched}
use Rattle.jc_choice.proofs.LegalLemmas.{well_formed_with}
use Rattle.jc_runner.proofs.WorkerResultLemmas.{still_chosen, stuck_named}
use Rattle.jc_lock.specs.Shows.{pass_number, pass_seen, pass_mine}
use Rattle.jc_runner.specs.declared.bench.Bench.{Bench}
use Rattle.jc_runner.specs.declared.worker.Worked.{Worked}
use Rattle.jc_runner.specs.declared.run.Report.{Report}
use Rattle.jc_runner.specs.Recording.{IsRecorded}
use Rattle.jc_runner.specs.Reports.{IsFinishedIn, HasEnd, IsReport}

is_same : (a b : ℕ) → a ≡ b → nat_eq a b ≡ true
is_same a b e = search (rules, e)

is_other : (a b : ℕ) → (a ≡ b → ⊥) → nat_eq a b ≡ false
is_other a b e = search (rules, e)

pub finished_in : (s : Scenario) (p : ℕ) (seen schedule : List Event) (M : Network) → IsFinishedAfter s p seen → IsPrefix seen schedule → own_events schedule p ≡ own_events seen p → IsLegal schedule s M → IsFinishedIn M p
finished_in s p seen schedule M finished begins same legal =
    let split = legal_both s seen begins.0 M (subst (λ l. IsLegal l s M) (sym begins.1) legal) in
    let one : split.0 ≡ finished.network = one_legal s seen split.0 finished.network split.1 finished.legal in
    let none = nothing_more (own_events seen p) (own_events begins.0 p) (sym (own_both p seen begins.0) ∙ (ap (λ l. own_events l p) begins.1 ∙ same)) in
    record {
      state = finished.state;
      is_there = untouched p split.0.states begins.0 M.states (after_states split.0 begins.0 M split.2) none ∙ (ap (λ (K : Network). slice_get K.states p) one ∙ finished.is_there);
      none_left = finished.none_left;
    }

none_of : (es : List Event) → length es ≡ 0 → es ≡ []
none_of [] none = refl
none_of (e ∷ es) none = absurd (omega (arith, none))

pub has_end : (s : Scenario) (p limit : ℕ) (seen mine schedule : List Event) (M : Network) (end : End) → IsWellFormedScenario s → p < length s.scripts → EndsWith s p limit seen mine end → own_events seen p ≡ mine → IsPrefix seen schedule → own_events schedule p ≡ mine → IsLegal schedule s M → length schedule ≤ 100000
    → HasEnd s p limit schedule M end
has_end s p limit seen mine schedule M N.Finished well low ends own begins owned legal small =
    (finished_in s p seen schedule M ends.0 begins (owned ∙ sym own) legal, omega (arith, ap length owned, ends.1))
has_end s p limit seen mine schedule M (N.StuckAt stuck) well low ends own begins owned legal small = (
  record { front = seen; begins = begins; has_all = own ∙ sym owned; room = ends.2; is_stuck = ends.0; named = stuck_named s p seen stuck well low ends.0 },
  omega (arith, ap length owned, ends.1),
)
has_end s p limit seen mine schedule M N.LimitReached well low (inl made) own begins owned legal small = inl (ap length owned ∙ made)
has_end s p limit seen mine schedule M N.LimitReached well low (inr full) own begins owned legal small =
    let long = ap length begins.1 in
    let none : begins.0 ≡ [] = none_of begins.0 (omega (arith, full.0, small, long, length-append seen begins.0)) in
    let same : seen ≡ schedule = sym (append-nil seen) ∙ (ap (λ l. seen ++ l) (sym none) ∙ begins.1) in
    inr (subst (λ (l : List Event). (length l ≡ 100000) × ChoosesAfter s p l) same full)
has_end s p limit seen mine schedule M N.NoMemory well low ends own begins owned legal small = (
  record { front = seen; begins = begins; has_all = own ∙ sym owned; room = ends.2; chooses = ends.0 },
  omega (arith, ap length owned, ends.1),
)

-- a list that is known by its places
pub numbered : {X : Type 0} → (f : X → ℕ) (a n : ℕ) (xs : List X) → length xs ≡ n → ((k : ℕ) (d : X) → k < n → f (get_or xs k d) ≡ a + k) → map f xs ≡ range_with_len a n
numbered f a zero [] long each = refl
numbered f a zero (x ∷ xs) long each = absurd (omega (arith, long))
numbered f a (suc n) [] long each = absurd (omega (arith, long))
numbered f a (suc n) (x ∷ xs) long each =
    let first : f x ≡ a = each 0 x (omega arith) ∙ omega arith in
    let rest = numbered f (a + 1) n xs (omega (arith, long)) (λ k d low. let h = each (suc k) d (omega (arith, low)) in omega (arith, h)) in
    λ i. first i ∷ rest i

-- the sum of g over the numbers from a, n in all
abbrev total : (ℕ → ℕ) → ℕ → ℕ → ℕ
total g a zero = 0
total g a (suc n) = g a + total g (a + 1) n

total_same : (g h : ℕ → ℕ) (a n : ℕ) → ((k : ℕ) → g k ≡ h k) → total g a n ≡ total h a n
total_same g h a zero same = refl
total_same g h a (suc n) same = omega (arith, same a, total_same g h (a + 1) n same)

total_none : (a n : ℕ) → total (λ k. 0) a n ≡ 0
total_none a zero = refl
total_none a (suc n) = omega (arith, total_none (a + 1) n)

abbrev one_if : Bool → ℕ
one_if true = 1
one_if false = 0

total_both : (g h : ℕ → ℕ) (a n : ℕ) → total (λ k. g k + h k) a n ≡ total g a n + total h a n
total_both g h a zero = refl
total_both g h a (suc n) = omega (arith, total_both g h (a + 1) n)

total_below : (p a n : ℕ) → p < a → total (λ k. one_if (nat_eq p k)) a n ≡ 0
total_below p a zero low = refl
total_below p a (suc n) low =
    let other : one_if (nat_eq p a) ≡ 0 = ap one_if (is_other p a (λ e. omega (arith, e, low))) in
    omega (arith, other, total_below p (a + 1) n (omega (arith, low)))

own_length : (e : Event) (es : List Event) (k : ℕ) → length (own_events (e ∷ es) k) ≡ one_if (nat_eq (replica_of e) k) + length (own_events es k)
own_length e es k = go (nat_eq (replica_of e) k) refl
  where
    go : (t : Bool) → nat_eq (replica_of e) k ≡ t → length (own_events (e ∷ es) k) ≡ one_if (nat_eq (replica_of e) k) + length (own_events es k)
    go true same = rw same (omega arith)
    go false other = rw other (omega arith)

total_within : (p a n : ℕ) → a ≤ p → p < a + n → total (λ k. one_if (nat_eq p k)) a n ≡ 1
total_within p a zero low high = absurd (omega (arith, low, high))
total_within p a (suc n) low high = dite (ℕ_discrete p a)
    (λ same.
    let one : one_if (nat_eq p a) ≡ 1 = ap one_if (is_same p a same) in
    omega (arith, one, total_below p (a + 1) n (omega (arith, same))))
    (λ other.
    let none : one_if (nat_eq p a) ≡ 0 = ap one_if (is_other p a other) in
    omega (arith, none, total_within p (a + 1) n (omega (arith, low, other)) (omega (arith, high))))

counted : (n : ℕ) (schedule : List Event) → All (λ e. replica_of e < n) schedule → total (λ k. length (own_events schedule k)) 0 n ≡ length schedule
counted n [] all = total_none 0 n
counted n (e ∷ es) all =
    let head : replica_of e < n = All-head (λ f. replica_of f < n) e es all in
    let tail = counted n es (All-tail (λ f. replica_of f < n) e es all) in
    let split = total_same (λ k. length (own_events (e ∷ es) k)) (λ k. one_if (nat_eq (replica_of e) k) + length (own_events es k)) 0 n (own_length e es) in
    let apart = total_both (λ k. one_if (nat_eq (replica_of e) k)) (λ k. length (own_events es k)) 0 n in
    let one = total_within (replica_of e) 0 n (omega arith) (omega (arith, head)) in
    omega (arith, tail, split, apart, one)

summed : (f : ℕ → ℕ) (a n : ℕ) (xs : List ℕ) → length xs ≡ n → ((k : ℕ) → k < n → get_or xs k 0 ≡ f (a + k)) → sum xs ≡ total f a n
summed f a zero [] long each = refl
summed f a zero (x ∷ xs) long each = absurd (omega (arith, long))
summed f a (suc n) [] long each = absurd (omega (arith, long))
summed f a (suc n) (x ∷ xs) long each =
    let first : x ≡ f a = each 0 (omega arith) ∙ ap f (omega arith) in
    let rest = summed f (a + 1) n xs (omega (arith, long)) (λ k low. each (suc k) (omega (arith, low)) ∙ ap f (omega arith)) in
    let more : sum (x ∷ xs) ≡ x + sum xs = sum_by-cons (λ y. y) x xs in
    omega (arith, first, rest, more)

-- the counts of all replicas add up to the history
pub adds_up : (n : ℕ) (schedule : List Event) (made : List ℕ) → All (λ e. replica_of e < n) schedule → length made ≡ n → ((k : ℕ) → k < n → get_or made k 0 ≡ length (own_events schedule k)) → sum made ≡ length schedule
adds_up n schedule made all long each = summed (λ k. length (own_events schedule k)) 0 n made long (λ k low. each k low ∙ ap (λ j. length (own_events schedule j)) (omega arith)) ∙ counted n schedule all

some_of : {X : Type 0} → (xs : List X) → 0 < length xs → X
some_of [] low = absurd (omega (arith, low))
some_of (x ∷ xs) low = x

pub all_mapped : {X Y : Type 0} → (P : Y → Type 0) (f : X → Y) (ys : List Y) (xs : List X) → ys ≡ map f xs → All P ys → (k : ℕ) (d : X) → k < length xs → P (f (get_or xs k d))
all_mapped P f ys xs same all k d low = subst P (get_or-map f xs k d (f d) low) (All-get_or P (map f xs) k (f d) (omega (arith, length-map xs f, low)) (subst (All P) same all))

pub mapped_all : {X Y : Type 0} → (P : Y → Type 0) (f : X → Y) (ys : List Y) (xs : List X) → ys ≡ map f xs → ((k : ℕ) (d : X) → k < length xs → P (f (get_or xs k d))) → All P ys
mapped_all {X} {Y} P f ys xs same each = subst (All P) (sym same) (go xs each)
  where
    go : (zs : List X) → ((k : ℕ) (d : X) → k < length zs → P (f (get_or zs k d))) → All P (map f zs)
    go [] each = All-nil P
    go (z ∷ zs) each = All-cons P (f z) (map f zs) (each 0 z (omega arith)) (go zs (λ k d low. each (suc k) d (omega (arith, low))))

pub map_twice : {X Y Z : Type 0} → (f : X → Y) (g : Y → Z) (xs : List X) → map g (map f xs) ≡ map (λ x. g (f x)) xs
map_twice f g [] = refl
map_twice f g (x ∷ xs) = λ i. g (f x) ∷ map_twice f g xs i

reported_at : (bench : Bench) (limit : ℕ) (r : Report) (ws : List Worked)
    → IsWellFormedScenario (bench_start bench) → IsRecorded r.net r.schedule.items (scenario_view r.start) → scenario_view r.start ≡ bench_start bench → length ws ≡ length (bench_start bench).scripts
    → HaveWorked bench limit (length (bench_start bench).scripts) ws
    → r.made.items ≡ map (λ (w : Worked). w.made) ws → r.ends.items ≡ map (λ (w : Worked). w.end) ws
    → ((k : ℕ) (d : Worked) → k < length (bench_start bench).scripts → IsPrefix (pass_seen (get_or ws k d).pass) r.schedule.items × (own_events r.schedule.items (pass_number (get_or ws k d).pass) ≡ pass_mine (get_or ws k d).pass))
    → All (λ e. replica_of e < length (bench_start bench).scripts) r.schedule.items → IsReport (bench_start bench) limit r
reported_at bench limit r ws well kept same long worked made ends told makers =
    let s : Scenario = bench_start bench in
    let legal : IsLegal r.schedule.items s r.net.history.now = subst (λ t. IsLegal r.schedule.items t r.net.history.now) same kept.legal in
    let first = some_of ws in
    let mades : (k : ℕ) → k < length s.scripts → get_or r.made.items k 0 ≡ length (own_events r.schedule.items k) = λ k low.
    let d = first (omega (arith, long, low)) in
    let w = worked k d low in
    let t = told k d low in
    ap (λ l. get_or l k 0) made ∙ (get_or-map (λ (x : Worked). x.made) ws k d 0 (omega (arith, long, low)) ∙ (sym w.made ∙ ap length (sym t.1 ∙ ap (own_events r.schedule.items) w.is_number))) in
    record {
      start = same;
      legal = legal;
      well_formed = well_formed_with (scenario_view r.start) r.schedule.items r.net.history.now (subst IsWellFormedScenario (sym same) well) kept.legal kept.small;
      named = kept.named ∙ ap (λ (t : Scenario). t.names) same;
      begun = kept.begun;
      small = kept.small;
      each_made = ap length made ∙ (length-map ws (λ w. w.made) ∙ long);
      each_end = ap length ends ∙ (length-map ws (λ w. w.end) ∙ long);
      sum = adds_up (length s.scripts) r.schedule.items r.made.items makers (ap length made ∙ (length-map ws (λ w. w.made) ∙ long)) mades;
      each = λ p low.
          let d = first (omega (arith, long, low)) in
          let w = worked p d low in
          let t = told p d low in
          let owned : own_events r.schedule.items p ≡ pass_mine (get_or ws p d).pass = ap (own_events r.schedule.items) (sym w.is_number) ∙ t.1 in
          record {
            made = mades p low;
            chosen = still_chosen s p (pass_seen (get_or ws p d).pass) r.schedule.items (pass_mine (get_or ws p d).pass) t.0 w.own owned w.chosen;
            end = λ e is.
                let at : (get_or ws p d).end ≡ e = sym (get_or-map (λ (x : Worked). x.end) ws p d d.end (omega (arith, long, low))) ∙ (ap (λ l. get_or l p d.end) (sym ends) ∙ get_or_from_slice_get r.ends.items p e d.end is) in
                subst (HasEnd s p limit r.schedule.items r.net.history.now) at
                (has_end s p limit (pass_seen (get_or ws p d).pass) (pass_mine (get_or ws p d).pass) r.schedule.items r.net.history.now (get_or ws p d).end well low w.ends w.own t.0 owned legal kept.small);
          };
    }

-- the facts of the passes and of the closed bench make the report
pub reported : (bench : Bench) (s : Scenario) (limit : ℕ) (r : Report) (ws : List Worked) → bench_start bench ≡ s
    → IsWellFormedScenario s → IsRecorded r.net r.schedule.items (scenario_view r.start) → scenario_view r.start ≡ bench_start bench → length ws ≡ length (bench_start bench).scripts
    → HaveWorked bench limit (length (bench_start bench).scripts) ws
    → r.made.items ≡ map (λ (w : Worked). w.made) ws → r.ends.items ≡ map (λ (w : Worked). w.end) ws
    → ((k : ℕ) (d : Worked) → k < length (bench_start bench).scripts → IsPrefix (pass_seen (get_or ws k d).pass) r.schedule.items × (own_events r.schedule.items (pass_number (get_or ws k d).pass) ≡ pass_mine (get_or ws k d).pass))
    → All (λ e. replica_of e < length (bench_start bench).scripts) r.schedule.items → IsReport s limit r
reported bench s limit r ws begun well kept same long worked made ends told makers =
    subst (λ t. IsReport t limit r) begun (reported_at bench limit r ws (subst IsWellFormedScenario (sym begun) well) kept same long worked made ends told makers)
