-- About `Faults`: bytes that are no scenario have a fault.
use Rattle.std.proofs.Common.{◌≡◌, ◌≢◌, ℕ, zero, suc, ◌≤◌, ◌<◌, ◌⊎◌, inl, inr, List, [], ◌∷◌, ◌++◌, map, length, get_or, refl, sym, ap, subst, ◌∙◌, arith}
use Rattle.std.specs.List.{All, AllPairs, Contains, insert}
use Rattle.std.specs.Str.{IsUtf8, bytes_eq, is_utf8}
use Rattle.std.specs.Str.Lossy.{utf8_valid_len}
use Rattle.std.specs.declared.cmp.Ordering.{Ordering}
use Rattle.std.specs.declared.cmp.Ordering.TheVariants.{Less, Equal, Greater}
use Rattle.std.specs.List.Sorted.{IsPermutation}
use Rattle.std.proofs.lemmas.Bool.{cases_Bool, cases_lt}
use Rattle.std.proofs.lemmas.List.{get_or_default}
use Rattle.std.proofs.lemmas.List.Edits.{length-insert}
use Rattle.std.proofs.lemmas.List.Elements.{All-nil, All-cons}
use Rattle.std.proofs.lemmas.List.Sorted.{IsPermutation-refl, IsPermutation-trans, IsPermutation-cons, IsPermutation-insert}
use Rattle.std.proofs.lemmas.Option.{unwrap_or-slice_get}
use Rattle.std.proofs.lemmas.Slice.Eq.{bytes_eq-Decides}
use Rattle.std.proofs.lemmas.Str.{IsUtf8-from_is_utf8, is_utf8-from_IsUtf8}
use Rattle.jc_rules.specs.declared.operation.Event.{Event}
use Rattle.jc_rules.specs.declared.operation.Event.TheVariants as E
use Rattle.jc_rules.specs.Entries.{IsRising}
use Rattle.jc_rules.specs.ReplicaNames.{name_at}
use Rattle.jc_rules.specs.Order.{name_cmp}
use Rattle.jc_rules.specs.Syntax.{Cmd}
use Rattle.jc_rules.proofs.OrderLemmas.{names_total, exact_names}
use Rattle.jc_rules.proofs.RisingLemmas as rising
use Rattle.jc_syntax.specs.declared.fault.LexFault.{LexFault}
use Rattle.jc_syntax.specs.declared.token.Token.{Token}
use Rattle.jc_syntax.specs.declared.tree.Named.{Named}
use Rattle.jc_syntax.specs.declared.tree.NamedEvent.{NamedEvent}
use Rattle.jc_syntax.specs.declared.tree.NamedEvent.TheVariants as N
use Rattle.jc_syntax.specs.Lexemes.{AreTokensOf, IsTokenOf, IsFaultOf}
use Rattle.jc_syntax.proofs.LexemesLemmas.{each_token}
use Rattle.jc_parser.specs.declared.fault.ScenarioFault.{ScenarioFault}
use Rattle.jc_parser.specs.declared.fault.ScenarioFault.TheVariants.{TextTooLong, NotUtf8, UnknownReplica}
use Rattle.jc_parser.specs.Events.{Call, executes, sends, receives, takes, applies, ends, call_of}
use Rattle.jc_parser.specs.Faults.{from_lexer}
use Rattle.jc_parser.specs.LegalSymbols.{call_by}
use Rattle.jc_parser.specs.LegalSymbolLaws.{LegalScenarios}
use Rattle.jc_parser.specs.ReaderState.{Reading, reading_of}
use Rattle.jc_parser.specs.Scenarios.{Part, NamedTree, name_of_part, IsNamedTree}
use Rattle.jc_parser.specs.ScenarioLaws.{NamedTreeElseFault}
use Rattle.jc_printer.specs.Canon.{AreNamed}
use Rattle.jc_scenario.specs.Faults.{IsStranger, IsFaultAmong, IsFault}
use Rattle.jc_scenario.specs.Laws.{ScenarioElseFault}
use Rattle.jc_scenario.specs.Resolved.{IsResolved, names_in_event, IsFirstStranger, AreResolved, all_names_in}
use Rattle.jc_scenario.specs.WellFormed.{Scenario, parts_of, AreScenario, IsScenario}
use Rattle.jc_scenario.proofs.ArrangeLemmas.{part, rises, parts-insert}
use Rattle.jc_scenario.proofs.ResolvedLemmas.{AreArranged, scenario_read, stranger_read}
use Rattle.jc_scenario.proofs.UnknownNamesLemmas.{AreKnown, known_parts, same_names, both_lists}

-- ---- names of replicas

same_or_not : (m n : List ℕ) → (m ≡ n) ⊎ (m ≡ n → ⊥)
same_or_not m n =
    elim (cases_Bool (bytes_eq m n)) [
      | inl equal ↦ inl ((bytes_eq-Decides m n).0 equal)
      | inr other ↦ inr (λ same. (let equal = (bytes_eq-Decides m n).1 same in cc (equal, other)))
    ]

neither : (m n : List ℕ) (ms : List (List ℕ)) → (m ≡ n → ⊥) → (Contains ms n → ⊥) → (k : ℕ) → k < length (m ∷ ms) → get_or (m ∷ ms) k n ≡ n → ⊥
neither m n ms other new zero inside is = other is
neither m n ms other new (suc k) inside is = new (k, omega (arith, inside), is)

known_or_new : (names : List (List ℕ)) (n : List ℕ) → Contains names n ⊎ (Contains names n → ⊥)
known_or_new [] n = inr (λ has. omega (arith, has.1))
known_or_new (m ∷ ms) n =
    elim (same_or_not m n) [
      | inl same ↦ inl (0, omega arith, same)
      | inr other ↦
          elim (known_or_new ms n) [
            | inl (k, inside, is) ↦ inl (suc k, omega (arith, inside), is)
            | inr new ↦ inr (λ has. neither m n ms other new has.0 has.1 has.2)
          ]
    ]

known_or_strange : (names : List (List ℕ)) (xs : List Named) → AreKnown names xs ⊎ ((at : ℕ) × IsFirstStranger names xs at)
known_or_strange names [] = inl tt
known_or_strange names (x ∷ xs) =
    elim (known_or_new names x.name) [
      | inr new ↦ inr (x.place, inl (new, refl))
      | inl known ↦
          elim (known_or_strange names xs) [
            | inl all ↦ inl (known, all)
            | inr (at, first) ↦ inr (at, inr (known, first))
          ]
    ]

-- ---- events by numbers

numbered : (names : List (List ℕ)) (n : List ℕ) → Contains names n → (p : ℕ) × (p < length names) × (name_at names p ≡ n)
numbered names n (k, inside, is) = (k, inside, unwrap_or-slice_get names k [] ∙ get_or_default names k [] n inside ∙ is)

event_of : (names : List (List ℕ)) (x : NamedEvent) → AreKnown names (names_in_event x) → (e : Event) × IsResolved names x e
event_of names (N.Exec q) k =
    let (p, inside, is) = numbered names q.name k.0 in
    (E.Exec p, record { known = inside; called = ap executes is })
event_of names (N.Send q) k =
    let (p, inside, is) = numbered names q.name k.0 in
    (E.Send p, record { known = inside; called = ap sends is })
event_of names (N.Done q) k =
    let (p, inside, is) = numbered names q.name k.0 in
    (E.Done p, record { known = inside; called = ap ends is })
event_of names (N.Recv q s) k =
    let (p, inside, is) = numbered names q.name k.0 in
    let (r, other_inside, other) = numbered names s.name k.1.0 in
    (E.Recv p r, record { known = (inside, other_inside); called = ap (λ (n : List ℕ). receives n (name_at names r)) is ∙ ap (λ (n : List ℕ). receives q.name n) other })
event_of names (N.Take q s counter t) k =
    let (p, inside, is) = numbered names q.name k.0 in
    let (r, other_inside, other) = numbered names s.name k.1.0 in
    let (u, author_inside, author) = numbered names t.name k.1.1.0 in (
      E.Take p r (record { counter = counter; replica = u }),
      record {
        known = (inside, other_inside, author_inside);
        called =
            ap (λ (n : List ℕ). takes n (name_at names r) counter (name_at names u)) is
            ∙ ap (λ (n : List ℕ). takes q.name n counter (name_at names u)) other
            ∙ ap (λ (n : List ℕ). takes q.name s.name counter n) author;
      },
    )
event_of names (N.Apply q counter s) k =
    let (p, inside, is) = numbered names q.name k.0 in
    let (r, other_inside, other) = numbered names s.name k.1.0 in
    (E.Apply p (record { counter = counter; replica = r }), record { known = (inside, other_inside); called = ap (λ (n : List ℕ). applies n counter (name_at names r)) is ∙ ap (λ (n : List ℕ). applies q.name counter n) other })

events_of : (names : List (List ℕ)) (xs : List NamedEvent) → AreKnown names (all_names_in xs) → (es : List Event) × AreResolved names xs es
events_of names [] k = ([], record { known = All-nil (λ e. AreNamed e (length names)); called = refl })
events_of names (x ∷ xs) k =
    let (own, rest) = known_parts names (names_in_event x) (all_names_in xs) k in
    let (e, one) = event_of names x own in
    let (es, more) = events_of names xs rest in (
      e ∷ es,
      record {
        known = All-cons (λ e. AreNamed e (length names)) e es one.known more.known;
        called =
            ap (λ (c : Call). c ∷ map (call_by names) es) one.called
            ∙ ap (λ (l : List Call). call_of x ∷ l) more.called;
      },
    )

-- ---- replicas in the order of their names

-- a name stands there: the lesser ones come before it, the greater ones from there on
abbrev IsPlace : List ℕ → List (List ℕ) → ℕ → Type 0
IsPlace n ns p =
    (p ≤ length ns)
    × ((k : ℕ) (d : List ℕ) → k < p → name_cmp (get_or ns k d) n ≡ Less)
    × ((k : ℕ) (d : List ℕ) → p ≤ k → k < length ns → name_cmp (get_or ns k d) n ≡ Greater)

less_more : (n m : List ℕ) (ms : List (List ℕ)) (p : ℕ) → name_cmp m n ≡ Less → ((k : ℕ) (d : List ℕ) → k < p → name_cmp (get_or ms k d) n ≡ Less) → (k : ℕ) (d : List ℕ) → k < suc p → name_cmp (get_or (m ∷ ms) k d) n ≡ Less
less_more n m ms p is less zero d l = is
less_more n m ms p is less (suc k) d l = less k d (omega (arith, l))

greater_more : (n m : List ℕ) (ms : List (List ℕ)) (p : ℕ) → ((k : ℕ) (d : List ℕ) → p ≤ k → k < length ms → name_cmp (get_or ms k d) n ≡ Greater) → (k : ℕ) (d : List ℕ) → suc p ≤ k → k < length (m ∷ ms) → name_cmp (get_or (m ∷ ms) k d) n ≡ Greater
greater_more n m ms p more zero d l inside = absurd (omega (arith, l))
greater_more n m ms p more (suc k) d l inside = more k d (omega (arith, l)) (omega (arith, inside))

greater_all : (n m : List ℕ) (ms : List (List ℕ)) → name_cmp m n ≡ Greater → IsRising name_cmp (m ∷ ms) → (k : ℕ) (d : List ℕ) → k < length (m ∷ ms) → name_cmp (get_or (m ∷ ms) k d) n ≡ Greater
greater_all n m ms is h zero d inside = is
greater_all n m ms is h (suc k) d inside =
    let above : name_cmp m (get_or ms k d) ≡ Less = rising.all_at (λ j. name_cmp m j ≡ Less) ms h.0 k d (omega (arith, inside)) in
    let below : name_cmp n m ≡ Less = rising.greater_less names_total m n is in
    rising.less_greater names_total n (get_or ms k d) (names_total.trans n m (get_or ms k d) below above)

place_of : (n : List ℕ) (ns : List (List ℕ)) → IsRising name_cmp ns → (Contains ns n → ⊥) → (p : ℕ) × IsPlace n ns p
place_of n [] h new = (0, (omega arith, λ k d l. absurd (omega (arith, l)), λ k d l inside. absurd (omega (arith, inside))))
place_of n (m ∷ ms) h new = by_order (λ g other. place_of n ms g other) (name_cmp m n) refl
  where
    by_order : (IsRising name_cmp ms → (Contains ms n → ⊥) → (p : ℕ) × IsPlace n ms p) → (o : Ordering) → name_cmp m n ≡ o → (p : ℕ) × IsPlace n (m ∷ ms) p
    by_order others Equal is = absurd (new (0, omega arith, exact_names m n is))
    by_order others Greater is = (0, (omega arith, λ k d l. absurd (omega (arith, l)), λ k d l inside. greater_all n m ms is h k d inside))
    by_order others Less is =
        let (p, (bound, less, more)) = others h.1 (λ has. new (suc has.0, omega (arith, has.1), has.2)) in
        (suc p, (omega (arith, bound), less_more n m ms p is less, greater_more n m ms p more))

abbrev Apart : List Part → Type 0
Apart ps = AllPairs (λ a b. a ≢ b) (map name_of_part ps)

arranged : (ps : List Part) → Apart ps → (ns : List (List ℕ)) × (ss : List (List Cmd)) × AreArranged ps ns ss
arranged [] apart = ([], [], record { rising = tt; each = refl; same = IsPermutation-refl [] })
arranged (p ∷ ps) apart = by_rest (arranged ps (λ i j d less inside. apart (suc i) (suc j) d (omega (arith, less)) (omega (arith, inside))))
  where
    by_rest : (ns : List (List ℕ)) × (ss : List (List Cmd)) × AreArranged ps ns ss → (ns : List (List ℕ)) × (ss : List (List Cmd)) × AreArranged (p ∷ ps) ns ss
    by_rest (ns, ss, a) =
        let new : Contains ns p.name → ⊥ = λ has. (let (k, within, here) = (same_names ps ns ss a.each a.same).0 p.name has in apart 0 (suc k) p.name (omega arith) (omega (arith, within)) (sym here)) in
        let (q, (bound, less, more)) = place_of p.name ns a.rising new in
        let count : length ss ≡ length ns = a.each in
        let inside : q ≤ length ss = omega (arith, bound, count) in
        let each : length (insert ss q p.script) ≡ length (insert ns q p.name) = omega (arith, length-insert ss q p.script inside, length-insert ns q p.name bound, count) in
        let entered : IsPermutation (p ∷ parts_of ns ss) (parts_of (insert ns q p.name) (insert ss q p.script)) =
        subst (λ (l : List Part). IsPermutation (p ∷ parts_of ns ss) l) (sym (parts-insert ns ss q p.name p.script count)) (IsPermutation-insert (parts_of ns ss) q (part p.name p.script)) in (
          insert ns q p.name,
          insert ss q p.script,
          record {
            rising = rises p.name ns q a.rising bound less more;
            each = each;
            same = IsPermutation-trans (p ∷ ps) (p ∷ parts_of ns ss) (parts_of (insert ns q p.name) (insert ss q p.script)) (IsPermutation-cons p ps (parts_of ns ss) a.same) entered;
          },
        )

-- ---- tokens

scenario_or_stranger : (r : Reading) (t : NamedTree) → IsNamedTree r t → Apart t.parts → ((s : Scenario) × AreScenario r s) ⊎ ((fault : ScenarioFault) × IsStranger r fault)
scenario_or_stranger r t named apart =
    let (ns, ss, a) = arranged t.parts apart in
    elim (known_or_strange ns (all_names_in (t.given ++ t.events))) [
      | inl known ↦
          let (own, rest) = known_parts ns (all_names_in t.given) (all_names_in t.events) (subst (AreKnown ns) (both_lists t.given t.events) known) in
          let (gs, given) = events_of ns t.given own in
          let (es, so) = events_of ns t.events rest in
          inl (record { version = t.version; names = ns; scripts = ss; given = gs; schedule = es }, scenario_read r t ns ss gs es named a given so)
      | inr (at, first) ↦ inr (UnknownReplica at, stranger_read r t ns ss at named a first)
    ]

among : NamedTreeElseFault → (r : Reading) → ((t : NamedTree) → IsNamedTree r t → Apart t.parts) → ((s : Scenario) × AreScenario r s) ⊎ ((fault : ScenarioFault) × IsFaultAmong r fault)
among parsed r apart =
    elim (parsed r) [
      | inr (fault, is) ↦ inr (fault, inl is)
      | inl (t, named) ↦
          elim (scenario_or_stranger r t named (apart t named)) [
            | inl (s, is) ↦ inl (s, is)
            | inr (fault, is) ↦ inr (fault, inr is)
          ]
    ]

-- ---- bytes

utf8_or_not : (bytes : List ℕ) → IsUtf8 bytes ⊎ (IsUtf8 bytes → ⊥)
utf8_or_not bytes =
    elim (cases_Bool (is_utf8 bytes)) [
      | inl text ↦ inl (IsUtf8-from_is_utf8 bytes text)
      | inr other ↦ inr (λ valid. (let text = is_utf8-from_IsUtf8 bytes valid in cc (text, other)))
    ]

abbrev EachHasTokens : Type 0
EachHasTokens = (text : List ℕ) → ((ts : List Token) × AreTokensOf text ts) ⊎ ((e : LexFault) × IsFaultOf text e)

pub scenario_else_fault : EachHasTokens → NamedTreeElseFault → LegalScenarios → ScenarioElseFault
scenario_else_fault lexed parsed legal bytes = by_length 8388608 refl
  where
    each : (ts : List Token) → AreTokensOf bytes ts → All (IsTokenOf bytes) ts
    each ts (room, place, are, ended) = each_token bytes 0 place ts room are

    apart : IsUtf8 bytes → (ts : List Token) → AreTokensOf bytes ts → (t : NamedTree) → IsNamedTree (reading_of bytes ts) t → Apart t.parts
    apart valid ts are t named = (legal bytes ts t valid (each ts are) named).0.parts.apart

    by_utf8 : length bytes ≤ 8388608 → IsUtf8 bytes ⊎ (IsUtf8 bytes → ⊥) → ((s : Scenario) × IsScenario bytes s) ⊎ ((fault : ScenarioFault) × IsFault bytes fault)
    by_utf8 room (inr none) = inr (NotUtf8 (utf8_valid_len bytes), inr (room, inl (none, refl)))
    by_utf8 room (inl valid) =
        elim (lexed bytes) [
          | inr (e, is) ↦ inr (from_lexer e, inr (room, inr (valid, inl (e, is, refl))))
          | inl (ts, are) ↦
              elim (among parsed (reading_of bytes ts) (apart valid ts are)) [
                | inl (s, is) ↦ inl (s, record { valid = valid; tokens = ts; lexed = are; scenario = is })
                | inr (fault, is) ↦ inr (fault, inr (room, inr (valid, inr (ts, are, is))))
              ]
        ]

    by_length : (limit : ℕ) → limit ≡ 8388608 → ((s : Scenario) × IsScenario bytes s) ⊎ ((fault : ScenarioFault) × IsFault bytes fault)
    by_length limit is =
        elim (cases_lt limit (length bytes)) [
          | inl long ↦ inr (TextTooLong 8388608, inl (omega (arith, is, long), refl))
          | inr room ↦ by_utf8 (omega (arith, is, room)) (utf8_or_not bytes)
        ]
