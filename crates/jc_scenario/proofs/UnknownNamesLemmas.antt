-- About `Resolved`: names in events that no replica has.
use Rattle.std.proofs.Common.{◌≡◌, ℕ, zero, suc, ◌+◌, ◌<◌, inl, inr, List, [], ◌∷◌, ◌++◌, map, length, get_or, take, sym, ap, subst, ◌∙◌, arith}
use Rattle.std.specs.Prelude.{All}
use Rattle.std.specs.List.{Contains}
use Rattle.std.specs.List.Sorted.{IsPermutation}
use Rattle.std.proofs.lemmas.List.{map-append, map_more}
use Rattle.std.proofs.lemmas.Grind.{flat_map-append}
use Rattle.std.proofs.lemmas.List.Elements.{All-head, All-tail, All-push, Contains-get_or}
use Rattle.std.proofs.lemmas.List.Sorted.{IsPermutation-map, IsPermutation-sym, Contains-permutation}
use Rattle.std.proofs.lemmas.Option.{unwrap_or-slice_get}
use Rattle.jc_rules.specs.declared.operation.Event.{Event}
use Rattle.jc_rules.specs.declared.operation.Event.TheVariants as E
use Rattle.jc_rules.specs.ReplicaNames.{name_at}
use Rattle.jc_rules.specs.Syntax.{Cmd}
use Rattle.jc_syntax.specs.declared.tree.Named.{Named}
use Rattle.jc_syntax.specs.declared.tree.NamedEvent.{NamedEvent}
use Rattle.jc_syntax.specs.declared.tree.NamedEvent.TheVariants as N
use Rattle.jc_parser.specs.Events.{Call, call_of}
use Rattle.jc_parser.specs.LegalSymbols.{call_by}
use Rattle.jc_parser.specs.Scenarios.{Part, NamedTree, tree_of_named, name_of_part}
use Rattle.jc_printer.specs.Canon.{AreNamed}
use Rattle.jc_scenario.specs.Resolved.{IsResolved, names_in_event, IsFirstStranger, AreResolved, all_names_in}
use Rattle.jc_scenario.specs.WellFormed.{Scenario, parts_of, IsOfTree}
use Rattle.jc_scenario.proofs.NamesDifferLemmas.{names-parts}

-- the first stranger stands at one place
pub one_stranger : (names : List (List ℕ)) (xs : List Named) (at other : ℕ) → IsFirstStranger names xs at → IsFirstStranger names xs other → at ≡ other
one_stranger names [] at other a b = absurd a
one_stranger names (x ∷ xs) at other (inl (new, is)) (inl (new2, is2)) = is ∙ sym is2
one_stranger names (x ∷ xs) at other (inl (new, is)) (inr (known, more)) = absurd (new known)
one_stranger names (x ∷ xs) at other (inr (known, more)) (inl (new, is)) = absurd (new known)
one_stranger names (x ∷ xs) at other (inr (known, more)) (inr (known2, more2)) = one_stranger names xs at other more more2

-- ---- where all names are known, none is a stranger

abbrev pub AreKnown : List (List ℕ) → List Named → Type 0
AreKnown names [] = Unit {0}
AreKnown names (x ∷ xs) = Contains names x.name × AreKnown names xs

none_strange : (names : List (List ℕ)) (xs : List Named) (at : ℕ) → AreKnown names xs → IsFirstStranger names xs at → ⊥
none_strange names [] at k h = h
none_strange names (x ∷ xs) at k (inl (new, is)) = new k.0
none_strange names (x ∷ xs) at k (inr (known, more)) = none_strange names xs at k.1 more

both_known : (names : List (List ℕ)) (xs ys : List Named) → AreKnown names xs → AreKnown names ys → AreKnown names (xs ++ ys)
both_known names [] ys a b = b
both_known names (x ∷ xs) ys a b = (a.0, both_known names xs ys a.1 b)

-- a replica's name is one of the names
has_name : (names : List (List ℕ)) (name : List ℕ) (p : ℕ) → p < length names → name_at names p ≡ name → Contains names name
has_name names name p inside is = subst (Contains names) (sym (unwrap_or-slice_get names p []) ∙ is) (Contains-get_or names p [] inside)

event_known : (names : List (List ℕ)) (e : Event) (x : NamedEvent) → AreNamed e (length names) → call_by names e ≡ call_of x → AreKnown names (names_in_event x)
event_known names (E.Exec p) (N.Exec q) a same = (has_name names q.name p a cc, tt)
event_known names (E.Send p) (N.Send q) a same = (has_name names q.name p a cc, tt)
event_known names (E.Done p) (N.Done q) a same = (has_name names q.name p a cc, tt)
event_known names (E.Recv p r) (N.Recv q s) a same = (has_name names q.name p a.0 cc, (has_name names s.name r a.1 cc, tt))
event_known names (E.Apply p r) (N.Apply q counter s) a same = (has_name names q.name p a.0 cc, (has_name names s.name r.replica a.1 cc, tt))
event_known names (E.Take p r i) (N.Take q s counter t) a same = (
  has_name names q.name p a.0 cc,
  (has_name names s.name r a.1 cc, (has_name names t.name i.replica a.2 cc, tt)),
)
event_known names e x a same = cc

pub all_known : (names : List (List ℕ)) (es : List Event) (xs : List NamedEvent) → All (λ e. AreNamed e (length names)) es → map (call_by names) es ≡ map call_of xs → AreKnown names (all_names_in xs)
all_known names [] [] a same = tt
all_known names [] (x ∷ xs) a same = cc
all_known names (e ∷ es) [] a same = cc
all_known names (e ∷ es) (x ∷ xs) a same =
    let one : call_by names e ≡ call_of x = cc in
    let more : map (call_by names) es ≡ map call_of xs = cc in
    both_known names (names_in_event x) (all_names_in xs) (event_known names e x (All-head (λ e. AreNamed e (length names)) e es a) one) (all_known names es xs (All-tail (λ e. AreNamed e (length names)) e es a) more)

-- ---- names in another order

abbrev pub SameNames : List (List ℕ) → List (List ℕ) → Type 0
SameNames ns ms = ((n : List ℕ) → Contains ns n → Contains ms n) × ((n : List ℕ) → Contains ms n → Contains ns n)

pub strange_too : (ns ms : List (List ℕ)) (xs : List Named) (at : ℕ) → SameNames ns ms → IsFirstStranger ns xs at → IsFirstStranger ms xs at
strange_too ns ms [] at same h = h
strange_too ns ms (x ∷ xs) at same (inl (new, is)) = inl (λ known. new (same.1 x.name known), is)
strange_too ns ms (x ∷ xs) at same (inr (known, more)) = inr (same.0 x.name known, strange_too ns ms xs at same more)

-- the names of the replicas in the text and in their order
pub same_names : (ps : List Part) (ns : List (List ℕ)) (ss : List (List Cmd)) → length ss ≡ length ns → IsPermutation ps (parts_of ns ss) → SameNames ns (map name_of_part ps)
same_names ps ns ss each same =
    let names : IsPermutation (map name_of_part ps) ns = subst (IsPermutation (map name_of_part ps)) (names-parts ns ss each) (IsPermutation-map name_of_part ps (parts_of ns ss) same) in (
      λ n c. Contains-permutation ns (map name_of_part ps) n (IsPermutation-sym (map name_of_part ps) ns names) c,
      λ n c. Contains-permutation (map name_of_part ps) ns n names c,
    )

-- names of the one list of events and of the other
pub both_lists : (xs ys : List NamedEvent) → all_names_in (xs ++ ys) ≡ all_names_in xs ++ all_names_in ys
both_lists xs ys = flat_map-append names_in_event xs ys

pub no_stranger : (t : NamedTree) (s : Scenario) (at : ℕ) → IsOfTree (tree_of_named t) s → IsFirstStranger (map name_of_part t.parts) (all_names_in (t.given ++ t.events)) at → ⊥
no_stranger t s at is h =
    let same = same_names t.parts s.names s.scripts is.each is.same in
    let given = all_known s.names s.given t.given is.given_known is.given_called in
    let schedule = all_known s.names s.schedule t.events is.known is.called in
    let first : IsFirstStranger s.names (all_names_in t.given ++ all_names_in t.events) at =
    subst (λ (xs : List Named). IsFirstStranger s.names xs at) (both_lists t.given t.events) (strange_too (map name_of_part t.parts) s.names (all_names_in (t.given ++ t.events)) at (same.1, same.0) h) in
    none_strange s.names (all_names_in t.given ++ all_names_in t.events) at (both_known s.names (all_names_in t.given) (all_names_in t.events) given schedule) first

-- ---- the first stranger of events

pub known_parts : (names : List (List ℕ)) (xs ys : List Named) → AreKnown names (xs ++ ys) → AreKnown names xs × AreKnown names ys
known_parts names [] ys k = (tt, k)
known_parts names (x ∷ xs) ys k = let (more, rest) = known_parts names xs ys k.1 in ((k.0, more), rest)

first_after : (names : List (List ℕ)) (xs ys : List Named) (at : ℕ) → AreKnown names xs → IsFirstStranger names ys at → IsFirstStranger names (xs ++ ys) at
first_after names [] ys at k h = h
first_after names (x ∷ xs) ys at k h = inr (k.0, first_after names xs ys at k.1 h)

first_before : (names : List (List ℕ)) (xs ys : List Named) (at : ℕ) → IsFirstStranger names xs at → IsFirstStranger names (xs ++ ys) at
first_before names [] ys at h = absurd h
first_before names (x ∷ xs) ys at (inl here) = inl here
first_before names (x ∷ xs) ys at (inr (known, more)) = inr (known, first_before names xs ys at more)

first_there : (names : List (List ℕ)) (xs : List NamedEvent) (i : ℕ) (x : NamedEvent) (at : ℕ) → i < length xs → x ≡ get_or xs i x → AreKnown names (all_names_in (take i xs)) → IsFirstStranger names (names_in_event x) at → IsFirstStranger names (all_names_in xs) at
first_there names [] i x at inside is k h = absurd (omega arith)
first_there names (y ∷ ys) zero x at inside is k h = first_before names (names_in_event y) (all_names_in ys) at (subst (λ (z : NamedEvent). IsFirstStranger names (names_in_event z) at) is h)
first_there names (y ∷ ys) (suc i) x at inside is k h =
    let (own, rest) = known_parts names (names_in_event y) (all_names_in (take i ys)) k in
    first_after names (names_in_event y) (all_names_in ys) at own (first_there names ys i x at (omega arith) is rest h)

-- after events that are resolved
pub first_stranger : (names : List (List ℕ)) (xs : List NamedEvent) (es : List Event) (i : ℕ) (x : NamedEvent) (at : ℕ) → i < length xs → x ≡ get_or xs i x → AreResolved names (take i xs) es → IsFirstStranger names (names_in_event x) at → IsFirstStranger names (all_names_in xs) at
first_stranger names xs es i x at inside is so h = first_there names xs i x at inside is (all_known names es (take i xs) so.known so.called) h

-- among the given events, or in the schedule after given events that are resolved
pub first_given : (names : List (List ℕ)) (xs ys : List NamedEvent) (at : ℕ) → IsFirstStranger names (all_names_in xs) at → IsFirstStranger names (all_names_in (xs ++ ys)) at
first_given names xs ys at h = rw (both_lists xs ys) (first_before names (all_names_in xs) (all_names_in ys) at h)

pub first_scheduled : (names : List (List ℕ)) (xs ys : List NamedEvent) (es : List Event) (at : ℕ) → AreResolved names xs es → IsFirstStranger names (all_names_in ys) at → IsFirstStranger names (all_names_in (xs ++ ys)) at
first_scheduled names xs ys es at so h = rw (both_lists xs ys) (first_after names (all_names_in xs) (all_names_in ys) at (all_known names es xs so.known so.called) h)

-- one event more is resolved
pub one_more : (names : List (List ℕ)) (xs : List NamedEvent) (es : List Event) (i : ℕ) (x : NamedEvent) (e : Event) → i < length xs → x ≡ get_or xs i x → AreResolved names (take i xs) es → IsResolved names x e → AreResolved names (take (i + 1) xs) (es ++ e ∷ [])
one_more names xs es i x e inside is so one = record {
  known = All-push (λ e. AreNamed e (length names)) es e so.known one.known;
  called =
      map-append (call_by names) es (e ∷ [])
      ∙ ap (λ (l : List Call). l ++ call_by names e ∷ []) so.called
      ∙ ap (λ (c : Call). map call_of (take i xs) ++ c ∷ []) (one.called ∙ ap call_of is)
      ∙ sym (map_more call_of xs i x inside);
}
