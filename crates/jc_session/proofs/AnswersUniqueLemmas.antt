-- Of `Answers` and `Lines`: a name, the rest of an `act` line, a fault and bytes are read in one way, for `LawsLemmas`.
use Rattle.std.proofs.Common.{◌≡◌, ℕ, ◌<◌, nat_le, ◌&&◌, List, [], ◌∷◌, ◌++◌, length, Some, map, take, if◌then◌else◌, refl, ap, sym, subst, ◌∙◌, arith, append_assoc, append-nil}
use Rattle.std.specs.List.{AllByRecursion}
use Rattle.std.proofs.lemmas.Option.{same_Some, slice_get_within, get_or_from_slice_get}
use Rattle.std.proofs.lemmas.List.{length-map}
use Rattle.std.proofs.lemmas.List.Elements.{All-nil, All-cons}
use Rattle.std.proofs.lemmas.List.Sorted.{IsPermutation-refl}
use Rattle.jc_rules.specs.declared.operation.Event.{Event}
use Rattle.jc_rules.specs.declared.refusal.Refusal.{Refusal}
use Rattle.jc_rules.specs.declared.refusal.Refusal.TheVariants as F
use Rattle.jc_rules.specs.declared.version.Version.{Version}
use Rattle.jc_rules.specs.declared.version.Version.TheVariants.{One}
use Rattle.jc_rules.specs.Entries.{IsRising}
use Rattle.jc_rules.specs.Order.{name_cmp}
use Rattle.jc_rules.specs.Syntax.{Cmd}
use Rattle.jc_syntax.specs.declared.tree.Named.{Named}
use Rattle.jc_syntax.specs.declared.tree.NamedEvent.{NamedEvent}
use Rattle.jc_parser.specs.declared.fault.ScenarioFault.{ScenarioFault}
use Rattle.jc_parser.specs.EventLaws.{OneEvent, EventOrFault, OneEventFault}
use Rattle.jc_parser.specs.Faults.{fault_refusal, fault_offset}
use Rattle.jc_parser.specs.Scenarios.{NamedTree, tree_of_named, name_of_part}
use Rattle.jc_printer.specs.Canon.{AreNamed}
use Rattle.jc_dump.specs.Texts.{refused_text}
use Rattle.jc_scenario.specs.Resolved.{IsResolved, names_in_event, IsFirstStranger, all_names_in}
use Rattle.jc_scenario.specs.WellFormed.{Scenario, parts_of, IsOfTree}
use Rattle.jc_scenario.proofs.NamesDifferLemmas.{names-parts, rising_apart}
use Rattle.jc_scenario.proofs.UnknownNamesLemmas.{one_stranger, no_stranger}
use Rattle.jc_scenario.proofs.UniqueLemmas.{one_of_tree}
use Rattle.jc_session.specs.Lines.{Line, Lacks, with_line_ends, whole_line, last_line}
use Rattle.jc_session.specs.Reply as Y
use Rattle.jc_session.specs.Answers.{IsNamed, IsFaultLine, IsMisspelled, faulty, strange, IsEventText}
use Rattle.jc_session.specs.SessionText.{End, finished, too_many, AreWithin}

-- ---- names

apart : (names : List (List ℕ)) (name : List ℕ) (p q : ℕ) → IsRising name_cmp names → IsNamed names name p → IsNamed names name q → p < q → ⊥
apart names name p q rising a b less =
    rising_apart names rising p q [] less (slice_get_within names q name b) (get_or_from_slice_get names p name [] a ∙ sym (get_or_from_slice_get names q name [] b))

-- a name is that of one replica
pub one_named : (names : List (List ℕ)) (name : List ℕ) (p q : ℕ) → IsRising name_cmp names → IsNamed names name p → IsNamed names name q → p ≡ q
one_named names name p q rising a b =
    let least : p < q → ⊥ = apart names name p q rising a b in
    let most : q < p → ⊥ = apart names name q p rising b a in
    omega (arith, least, most)

-- ---- events

abbrev no_script : List ℕ → List Cmd
no_script name = []

-- a scenario of one event, whose scripts are empty
abbrev no_scripts : List (List ℕ) → List (List Cmd)
no_scripts names = map no_script names

abbrev of_event : List (List ℕ) → Event → Scenario
of_event names event = record { version = One; names = names; scripts = no_scripts names; given = []; schedule = event ∷ [] }

-- its text
abbrev tree_with : List (List ℕ) → NamedEvent → NamedTree
tree_with names named = record { version = One; parts = parts_of names (no_scripts names); given = []; events = named ∷ [] }

is_of_tree : (names : List (List ℕ)) (named : NamedEvent) (event : Event) → IsRising name_cmp names → IsResolved names named event → IsOfTree (tree_of_named (tree_with names named)) (of_event names event)
is_of_tree names named event rising r = record {
  version = refl;
  rising = rising;
  each = length-map names no_script;
  same = IsPermutation-refl (parts_of names (no_scripts names));
  given_known = All-nil (λ e. AreNamed e (length names));
  given_called = refl;
  known = All-cons (λ e. AreNamed e (length names)) event [] r.known (All-nil (λ e. AreNamed e (length names)));
  called = ap (λ c. c ∷ []) r.called;
}

-- names are resolved in one way
one_resolved : (names : List (List ℕ)) (named : NamedEvent) (e f : Event) → IsRising name_cmp names → IsResolved names named e → IsResolved names named f → e ≡ f
one_resolved names named e f rising a b =
    let same : of_event names e ≡ of_event names f = one_of_tree (tree_of_named (tree_with names named)) (of_event names e) (of_event names f) (is_of_tree names named e rising a) (is_of_tree names named f rising b) in
    let events : e ∷ [] ≡ f ∷ [] = ap (λ (s : Scenario). s.schedule) same in
    cc

-- and then none of them is a stranger
none_strange : (names : List (List ℕ)) (named : NamedEvent) (event : Event) (place : ℕ) → IsRising name_cmp names → IsResolved names named event → IsFirstStranger names (names_in_event named) place → ⊥
none_strange names named event place rising r h =
    let all : names ≡ map name_of_part (parts_of names (no_scripts names)) = sym (names-parts names (no_scripts names) (length-map names no_script)) in
    let there : IsFirstStranger names (all_names_in (named ∷ [])) place = subst (λ (xs : List Named). IsFirstStranger names xs place) (sym (append-nil (names_in_event named))) h in
    no_stranger (tree_with names named) (of_event names event) place (is_of_tree names named event rising r) (subst (λ (ns : List (List ℕ)). IsFirstStranger ns (all_names_in (named ∷ [])) place) all there)

-- ---- faults

pub one_fault_line : (fault other : ScenarioFault) (text more : List ℕ) → fault ≡ other → IsFaultLine fault text → IsFaultLine other more → text ≡ more
one_fault_line fault other text more same a b =
    let k = subst (λ (f : ScenarioFault). IsFaultLine f text) same a in
    let refusal : k.refusal ≡ b.refusal = same_Some k.refusal b.refusal (sym k.is_refusal ∙ b.is_refusal) in
    let place : k.place ≡ b.place = same_Some k.place b.place (sym k.is_place ∙ b.is_place) in
    k.written ∙ (λ i. refused_text (refusal i) (place i)) ∙ sym b.written

-- the place of a fault is one, too
one_place : (fault other : ScenarioFault) (refusal more : Refusal) (place at : ℕ) → fault ≡ other → fault_refusal fault ≡ Some refusal → fault_offset fault ≡ Some place → fault_refusal other ≡ Some more → fault_offset other ≡ Some at → Y.misspelled refusal place ≡ Y.misspelled more at
one_place fault other refusal more place at same a b c d =
    let one : refusal ≡ more = same_Some refusal more (sym a ∙ ap fault_refusal same ∙ c) in
    let here : place ≡ at = same_Some place at (sym b ∙ ap fault_offset same ∙ d) in
    λ i. Y.misspelled (one i) (here i)

-- ---- the rest of an `act` line

-- the laws of events' texts
pub record EventLaws : Type 0 where
  pub one_event : OneEvent
  pub one_fault : OneEventFault
  pub never_both : EventOrFault

pub one_spelled : (laws : EventLaws) (version : Version) (names : List (List ℕ)) (rest : List ℕ) (e f : Event) → IsRising name_cmp names → IsEventText version names rest e → IsEventText version names rest f → e ≡ f
one_spelled laws version names rest e f rising a b =
    let same : a.named ≡ b.named = laws.one_event version rest a.named b.named a.is b.is in
    one_resolved names b.named e f rising (subst (λ (n : NamedEvent). IsResolved names n e) same a.resolved) b.resolved

pub spelled_or_not : (laws : EventLaws) (version : Version) (names : List (List ℕ)) (rest : List ℕ) (refusal : Refusal) (place : ℕ) (e : Event) → IsRising name_cmp names → IsEventText version names rest e → IsMisspelled version names rest refusal place → ⊥
spelled_or_not laws version names rest refusal place e rising a (faulty fault is told at) = laws.never_both version rest a.named fault a.is is
spelled_or_not laws version names rest refusal place e rising a (strange named at is first) =
    let same : a.named ≡ named = laws.one_event version rest a.named named a.is is in
    none_strange names named e at rising (subst (λ (n : NamedEvent). IsResolved names n e) same a.resolved) first

pub one_misspelling : (laws : EventLaws) (version : Version) (names : List (List ℕ)) (rest : List ℕ) (refusal other : Refusal) (place at : ℕ) → IsMisspelled version names rest refusal place → IsMisspelled version names rest other at → Y.misspelled refusal place ≡ Y.misspelled other at
one_misspelling laws version names rest refusal other place at (faulty fault is told here) (faulty due it too there) = one_place fault due refusal other place at (laws.one_fault version rest fault due is it) told here too there
one_misspelling laws version names rest refusal other place at (faulty fault is told here) (strange named there it first) = absurd (laws.never_both version rest named fault it is)
one_misspelling laws version names rest refusal other place at (strange named there it first) (faulty fault is told here) = absurd (laws.never_both version rest named fault it is)
one_misspelling laws version names rest refusal other place at (strange named here is first) (strange due there it second) =
    let same : named ≡ due = laws.one_event version rest named due is it in
    ap (Y.misspelled F.UnknownReplica) (one_stranger names (names_in_event due) here there (subst (λ (n : NamedEvent). IsFirstStranger names (names_in_event n) here) same first) second)

-- ---- lines

-- bytes without an LF don't begin with a whole line
no_line : (last y rest : List ℕ) → Lacks 10 last → last ≡ y ++ 10 ∷ rest → ⊥
no_line [] [] rest l e = cc
no_line [] (b ∷ y) rest l e = cc
no_line (x ∷ last) [] rest l e = let lf : x ≡ 10 = cc in l.0 lf
no_line (x ∷ last) (b ∷ y) rest l e = let more : last ≡ y ++ 10 ∷ rest = cc in no_line last y rest l.1 more

first_line : (x y r s : List ℕ) → Lacks 10 x → Lacks 10 y → x ++ 10 ∷ r ≡ y ++ 10 ∷ s → (x ≡ y) × (r ≡ s)
first_line [] [] r s a b e = let more : r ≡ s = cc in (refl, more)
first_line [] (c ∷ y) r s a b e = let lf : c ≡ 10 = cc in absurd (b.0 lf)
first_line (c ∷ x) [] r s a b e = let lf : c ≡ 10 = cc in absurd (a.0 lf)
first_line (c ∷ x) (d ∷ y) r s a b e =
    let one : c ≡ d = cc in
    let more : x ++ 10 ∷ r ≡ y ++ 10 ∷ s = cc in
    let rest = first_line x y r s a.1 b.1 more in
    ((λ i. one i ∷ rest.0 i), rest.1)

-- a whole line, and what follows it
behind : (x rest last : List ℕ) → ((x ++ 10 ∷ []) ++ rest) ++ last ≡ x ++ 10 ∷ (rest ++ last)
behind x rest last = append_assoc (x ++ 10 ∷ []) rest last ∙ append_assoc x (10 ∷ []) (rest ++ last)

one_lines : (xs ys : List (List ℕ)) (l m : List ℕ) → AllByRecursion (Lacks 10) xs → AllByRecursion (Lacks 10) ys → Lacks 10 l → Lacks 10 m → with_line_ends xs ++ l ≡ with_line_ends ys ++ m → (xs ≡ ys) × (l ≡ m)
one_lines [] [] l m a b c d e = (refl, e)
one_lines [] (y ∷ ys) l m a b c d e = absurd (no_line l y (with_line_ends ys ++ m) c (e ∙ behind y (with_line_ends ys) m))
one_lines (x ∷ xs) [] l m a b c d e = absurd (no_line m x (with_line_ends xs ++ l) d (sym e ∙ behind x (with_line_ends xs) l))
one_lines (x ∷ xs) (y ∷ ys) l m a b c d e =
    let one = first_line x y (with_line_ends xs ++ l) (with_line_ends ys ++ m) a.0 b.0 (sym (behind x (with_line_ends xs) l) ∙ e ∙ behind y (with_line_ends ys) m) in
    let more = one_lines xs ys l m a.1 b.1 c d one.1 in
    ((λ i. one.0 i ∷ more.0 i), more.1)

-- the lines of bytes up to the limits are one list, and end in one way
pub one_within : (m k : ℕ) (bytes : List ℕ) (xs ys : List Line) (e f : End) → AreWithin m k bytes xs e → AreWithin m k bytes ys f → (xs ≡ ys) × (e ≡ f)
one_within m k bytes xs ys e f a b =
    let one = one_lines a.whole b.whole a.last b.last a.parts.no_lf b.parts.no_lf a.parts.last_no_lf b.parts.last_no_lf (sym a.parts.is ∙ b.parts.is) in
    let all : a.all ≡ b.all =
    a.all_are
    ∙ (λ i. if nat_le (length bytes) m then map whole_line (one.0 i) ++ last_line (one.1 i) else map whole_line (one.0 i))
    ∙ sym b.all_are in (
      a.lines_are ∙ ap (take k) all ∙ sym b.lines_are,
      a.end_is ∙ ap (λ (l : List Line). if nat_le (length bytes) m && nat_le (length l) k then finished else too_many) all ∙ sym b.end_is,
    )
