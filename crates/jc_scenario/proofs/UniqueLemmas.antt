-- About `WellFormed`: a tree is one scenario at most.
use Rattle.std.proofs.Common.{◌≡◌, ℕ, zero, suc, ◌<◌, ◌⊎◌, inl, inr, List, [], ◌∷◌, map, length, get_or, refl, sym, ap, subst, ◌∙◌, arith}
use Rattle.std.specs.Prelude.{All}
use Rattle.std.specs.List.{AllByRecursion, Contains}
use Rattle.std.specs.declared.cmp.Ordering.TheVariants.{Less}
use Rattle.std.proofs.lemmas.Bool.{cases_lt}
use Rattle.std.proofs.lemmas.List.Elements.{All-head, All-tail}
use Rattle.std.proofs.lemmas.List.Sorted.{IsPermutation-sym, Contains-permutation}
use Rattle.std.proofs.lemmas.Option.{unwrap_or-slice_get}
use Rattle.jc_rules.specs.declared.operation.Event.{Event}
use Rattle.jc_rules.specs.declared.operation.Event.TheVariants.{Exec, Send, Recv, Take, Apply, Done}
use Rattle.jc_rules.specs.Entries.{IsRising}
use Rattle.jc_rules.specs.ReplicaNames.{name_at}
use Rattle.jc_rules.specs.Order.{name_cmp}
use Rattle.jc_rules.specs.Syntax.{Cmd}
use Rattle.jc_rules.proofs.OrderLemmas.{names_total}
use Rattle.jc_parser.specs.LegalSymbols.{call_by}
use Rattle.jc_parser.specs.Scenarios.{Part, ScenarioTree, name_of_part}
use Rattle.jc_printer.specs.Canon.{AreNamed}
use Rattle.jc_scenario.specs.WellFormed.{Scenario, parts_of, IsOfTree}
use Rattle.jc_scenario.proofs.NamesDifferLemmas.{names-parts, never_less, rising_apart}

-- ---- replicas that rise by their names

abbrev Among : Part → List Part → Type 0
Among p [] = ⊥
Among p (q ∷ qs) = (p ≡ q) ⊎ Among p qs

among : (qs : List Part) (p : Part) → Contains qs p → Among p qs
among [] p (k, inside, is) = absurd (omega arith)
among (q ∷ qs) p (zero, inside, is) = inl (sym is)
among (q ∷ qs) p (suc k, inside, is) = inr (among qs p (k, omega (arith, inside), is))

contained : (qs : List Part) (p : Part) → Among p qs → Contains qs p
contained [] p a = absurd a
contained (q ∷ qs) p (inl e) = (0, omega arith, sym e)
contained (q ∷ qs) p (inr a) = let (k, inside, is) = contained qs p a in (suc k, omega (arith, inside), is)

above : (n : List ℕ) (qs : List Part) (p : Part) → AllByRecursion (λ m. name_cmp n m ≡ Less) (map name_of_part qs) → Among p qs → name_cmp n p.name ≡ Less
above n [] p all a = absurd a
above n (q ∷ qs) p all (inl e) = subst (λ (r : Part). name_cmp n r.name ≡ Less) (sym e) all.0
above n (q ∷ qs) p all (inr a) = above n qs p all.1 a

same_head : (p q : Part) (ps qs : List Part) → AllByRecursion (λ m. name_cmp p.name m ≡ Less) (map name_of_part ps) → AllByRecursion (λ m. name_cmp q.name m ≡ Less) (map name_of_part qs) → Among p (q ∷ qs) → Among q (p ∷ ps) → p ≡ q
same_head p q ps qs h g (inl e) b = e
same_head p q ps qs h g (inr a) (inl e) = sym e
same_head p q ps qs h g (inr a) (inr b) = absurd (never_less p.name (names_total.trans p.name q.name p.name (above p.name ps q h b) (above q.name qs p g a)))

-- what is above the first is among the others
later : (x p q : Part) (qs : List Part) → p ≡ q → name_cmp p.name x.name ≡ Less → Among x (q ∷ qs) → Among x qs
later x p q qs same less (inl e) = absurd (never_less p.name (subst (λ (r : Part). name_cmp p.name r.name ≡ Less) (e ∙ sym same) less))
later x p q qs same less (inr a) = a

same_parts : (ps qs : List Part) → IsRising name_cmp (map name_of_part ps) → IsRising name_cmp (map name_of_part qs) → ((x : Part) → Among x ps → Among x qs) → ((x : Part) → Among x qs → Among x ps) → ps ≡ qs
same_parts [] [] h g there back = refl
same_parts [] (q ∷ qs) h g there back = absurd (back q (inl refl))
same_parts (p ∷ ps) [] h g there back = absurd (there p (inl refl))
same_parts (p ∷ ps) (q ∷ qs) h g there back =
    let first : p ≡ q = same_head p q ps qs h.0 g.0 (there p (inl refl)) (back q (inl refl)) in
    let rest : ps ≡ qs = same_parts ps qs h.1 g.1
    (λ x a. later x p q qs first (above p.name ps x h.0 a) (there x (inr a)))
    (λ x a. later x q p ps (sym first) (above q.name qs x g.0 a) (back x (inr a))) in
    λ i. first i ∷ rest i

abbrev pub script_of : Part → List Cmd
script_of p = p.script

pub scripts-parts : (ns : List (List ℕ)) (ss : List (List Cmd)) → length ss ≡ length ns → map script_of (parts_of ns ss) ≡ ss
scripts-parts [] [] each = refl
scripts-parts [] (s ∷ ss) each = absurd (omega arith)
scripts-parts (n ∷ ns) [] each = refl
scripts-parts (n ∷ ns) (s ∷ ss) each = ap (λ (l : List (List Cmd)). s ∷ l) (scripts-parts ns ss (omega arith))

-- ---- events

same_number : (names : List (List ℕ)) (p q : ℕ) → IsRising name_cmp names → p < length names → q < length names → name_at names p ≡ name_at names q → p ≡ q
same_number names p q h inside within same =
    let there : get_or names p [] ≡ get_or names q [] = sym (unwrap_or-slice_get names p []) ∙ same ∙ unwrap_or-slice_get names q [] in
    elim (cases_lt p q) [
      | inl less ↦ absurd (rising_apart names h p q [] less within there)
      | inr most ↦
          elim (cases_lt q p) [
            | inl more ↦ absurd (rising_apart names h q p [] more inside (sym there))
            | inr least ↦ omega arith
          ]
    ]

same_event : (names : List (List ℕ)) (e f : Event) → IsRising name_cmp names → AreNamed e (length names) → AreNamed f (length names) → call_by names e ≡ call_by names f → e ≡ f
same_event names (Exec p) (Exec q) h a b same = let name : name_at names p ≡ name_at names q = cc in ap Exec (same_number names p q h a b name)
same_event names (Send p) (Send q) h a b same = let name : name_at names p ≡ name_at names q = cc in ap Send (same_number names p q h a b name)
same_event names (Done p) (Done q) h a b same = let name : name_at names p ≡ name_at names q = cc in ap Done (same_number names p q h a b name)
same_event names (Recv p r) (Recv q s) h a b same =
    let name : name_at names p ≡ name_at names q = cc in
    let other : name_at names r ≡ name_at names s = cc in
    let first : p ≡ q = same_number names p q h a.0 b.0 name in
    let second : r ≡ s = same_number names r s h a.1 b.1 other in
    λ i. Recv (first i) (second i)
same_event names (Take p from r) (Take q other s) h a b same =
    let name : name_at names p ≡ name_at names q = cc in
    let sender : name_at names from ≡ name_at names other = cc in
    let counter : r.counter ≡ s.counter = cc in
    let author : name_at names r.replica ≡ name_at names s.replica = cc in
    let first : p ≡ q = same_number names p q h a.0 b.0 name in
    let second : from ≡ other = same_number names from other h a.1 b.1 sender in
    let third : r.replica ≡ s.replica = same_number names r.replica s.replica h a.2 b.2 author in
    λ i. Take (first i) (second i) (record { counter = counter i; replica = third i })
same_event names (Apply p r) (Apply q s) h a b same =
    let name : name_at names p ≡ name_at names q = cc in
    let counter : r.counter ≡ s.counter = cc in
    let other : name_at names r.replica ≡ name_at names s.replica = cc in
    let first : p ≡ q = same_number names p q h a.0 b.0 name in
    let second : r.replica ≡ s.replica = same_number names r.replica s.replica h a.1 b.1 other in
    λ i. Apply (first i) (record { counter = counter i; replica = second i })
same_event names e f h a b same = cc

same_events : (names : List (List ℕ)) (es fs : List Event) → IsRising name_cmp names → All (λ e. AreNamed e (length names)) es → All (λ e. AreNamed e (length names)) fs → map (call_by names) es ≡ map (call_by names) fs → es ≡ fs
same_events names [] [] h a b same = refl
same_events names [] (f ∷ fs) h a b same = cc
same_events names (e ∷ es) [] h a b same = cc
same_events names (e ∷ es) (f ∷ fs) h a b same =
    let one : call_by names e ≡ call_by names f = cc in
    let more : map (call_by names) es ≡ map (call_by names) fs = cc in
    let first : e ≡ f = same_event names e f h (All-head (λ e. AreNamed e (length names)) e es a) (All-head (λ e. AreNamed e (length names)) f fs b) one in
    let rest : es ≡ fs = same_events names es fs h (All-tail (λ e. AreNamed e (length names)) e es a) (All-tail (λ e. AreNamed e (length names)) f fs b) more in
    λ i. first i ∷ rest i

-- ---- scenarios

pub one_of_tree : (t : ScenarioTree) (s u : Scenario) → IsOfTree t s → IsOfTree t u → s ≡ u
one_of_tree t s u a b =
    let own : List Part = parts_of s.names s.scripts in
    let other : List Part = parts_of u.names u.scripts in
    let parts : parts_of s.names s.scripts ≡ parts_of u.names u.scripts =
    same_parts (parts_of s.names s.scripts) (parts_of u.names u.scripts)
    (subst (IsRising name_cmp) (sym (names-parts s.names s.scripts a.each)) a.rising)
    (subst (IsRising name_cmp) (sym (names-parts u.names u.scripts b.each)) b.rising)
    (λ x m. among (parts_of u.names u.scripts) x (Contains-permutation t.parts (parts_of u.names u.scripts) x b.same (Contains-permutation (parts_of s.names s.scripts) t.parts x (IsPermutation-sym t.parts (parts_of s.names s.scripts) a.same) (contained (parts_of s.names s.scripts) x m))))
    (λ x m. among (parts_of s.names s.scripts) x (Contains-permutation t.parts (parts_of s.names s.scripts) x a.same (Contains-permutation (parts_of u.names u.scripts) t.parts x (IsPermutation-sym t.parts (parts_of u.names u.scripts) b.same) (contained (parts_of u.names u.scripts) x m)))) in
    let names : s.names ≡ u.names = sym (names-parts s.names s.scripts a.each) ∙ ap (map name_of_part) parts ∙ names-parts u.names u.scripts b.each in
    let scripts : s.scripts ≡ u.scripts = sym (scripts-parts s.names s.scripts a.each) ∙ ap (map script_of) parts ∙ scripts-parts u.names u.scripts b.each in
    let known : All (λ e. AreNamed e (length s.names)) u.schedule = subst (λ (l : List (List ℕ)). All (λ e. AreNamed e (length l)) u.schedule) (sym names) b.known in
    let called : map (call_by s.names) u.schedule ≡ t.calls = subst (λ (l : List (List ℕ)). map (call_by l) u.schedule ≡ t.calls) (sym names) b.called in
    let schedule : s.schedule ≡ u.schedule = same_events s.names s.schedule u.schedule a.rising a.known known (a.called ∙ sym called) in
    let version : s.version ≡ u.version = a.version ∙ sym b.version in
    let given_known : All (λ e. AreNamed e (length s.names)) u.given = subst (λ (l : List (List ℕ)). All (λ e. AreNamed e (length l)) u.given) (sym names) b.given_known in
    let given_called : map (call_by s.names) u.given ≡ t.given = subst (λ (l : List (List ℕ)). map (call_by l) u.given ≡ t.given) (sym names) b.given_called in
    let given : s.given ≡ u.given = same_events s.names s.given u.given a.rising a.given_known given_known (a.given_called ∙ sym given_called) in
    λ i. record { version = version i; names = names i; scripts = scripts i; given = given i; schedule = schedule i }
