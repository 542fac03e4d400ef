-- For `scenarios`: the loop over replicas, and the names that it compares.
use Rattle.std.proofs.Common.{◌≡◌, ◌≢◌, ℕ, zero, suc, ◌-◌, Bool, true, false, ◌||◌, List, [], ◌∷◌, ◌++◌, map, Result, Ok, Err, refl, sym, ap, ◌∙◌, append_assoc, sub-one, arith}
use Rattle.std.specs.Prelude.{codes}
use Rattle.std.specs.Str.{bytes_eq}
use Rattle.std.specs.List.{list_any}
use Rattle.std.proofs.lemmas.List.{append-nil}
use Rattle.std.proofs.lemmas.Bool.{cases_Bool}
use Rattle.std.proofs.Common.{inl, inr}
use Rattle.jc_rules.specs.declared.version.Version.{Version}
use Rattle.jc_syntax.specs.declared.tree.NamedEvent.{NamedEvent}
use Rattle.jc_parser.specs.declared.fault.ScenarioFault.{ScenarioFault}
use Rattle.jc_parser.specs.declared.fault.ScenarioFault.TheVariants.{TooManyReplicas, Memory}
use Rattle.jc_parser.specs.declared.scenarios.NamedReplica.{NamedReplica}
use Rattle.jc_grammar.specs.Symbols.{Symbol, word, Lexeme}
use Rattle.jc_parser.specs.ReaderState.{Reading, ReadOutcome, MapsResult, ◌>>=◌, begins, is_word, place_at, one, skip, named_at}
use Rattle.jc_grammar.specs.SymbolTests.{is_reserved}
use Rattle.jc_parser.specs.NamedTrees.{Part, NamedTree, tree, with_replica_part}
use Rattle.jc_parser.specs.ScenarioReader.{is_among, other_name_at, new_name_at, part_at, blocks_at, too_many_replicas_at, tail_at, rest_at}
use Rattle.jc_parser.specs.ScenarioViews.{part_view, names_of}
use Rattle.jc_parser.proofs.GrammarAgreesLemmas.{reading}

-- ---- names

pub among_any : (ps : List NamedReplica) (name : List ℕ) → list_any (λ p. bytes_eq name p.name) ps ≡ is_among (names_of ps) name
among_any [] name = refl
among_any (p ∷ ps) name = ap (λ b. bytes_eq name p.name || b) (among_any ps name)

pub pushed : (ps : List NamedReplica) (p : NamedReplica) → map part_view (ps ++ p ∷ []) ≡ map part_view ps ++ part_view p ∷ []
pushed [] p = refl
pushed (q ∷ ps) p = ap (λ l. part_view q ∷ l) (pushed ps p)

pub names_pushed : (ps : List NamedReplica) (p : NamedReplica) → names_of (ps ++ p ∷ []) ≡ names_of ps ++ p.name ∷ []
names_pushed [] p = refl
names_pushed (q ∷ ps) p = ap (λ (l : List (List ℕ)). q.name ∷ l) (names_pushed ps p)

-- a name that is new where there is no room
crowd_named : (names : List (List ℕ)) (stop at : ℕ) (s : Symbol) (ls : List Lexeme) (x : List ℕ × Reading) → new_name_at names (reading stop (record { place = at; symbol = s } ∷ ls)) ≡ Ok x → too_many_replicas_at names (reading stop (record { place = at; symbol = s } ∷ ls)) ≡ TooManyReplicas at
unfolding new_name_at other_name_at named_at one
crowd_named names stop at (word name) ls x h =
    elim (cases_Bool (is_reserved name)) [
      | inl held ↦ let bad = rw held at h in absurd cc
      | inr free ↦ elim (cases_Bool (is_among names name)) [ inl taken ↦ let bad = rw (free, taken) at h in absurd cc | inr other ↦ rw (free, other) refl ]
    ]
crowd_named names stop at s ls x h = absurd cc

crowd_taken : (names : List (List ℕ)) (stop at : ℕ) (s : Symbol) (ls : List Lexeme) (e : ScenarioFault) → new_name_at names (reading stop (record { place = at; symbol = s } ∷ ls)) ≡ Err e → too_many_replicas_at names (reading stop (record { place = at; symbol = s } ∷ ls)) ≡ e
unfolding new_name_at other_name_at named_at one
crowd_taken names stop at (word name) ls e h =
    elim (cases_Bool (is_reserved name)) [
      | inl held ↦ let is = rw held at h in rw held cc
      | inr free ↦
          elim (cases_Bool (is_among names name)) [
            | inl taken ↦ let is = rw (free, taken) at h in rw (free, taken) cc
            | inr other ↦ let bad = rw (free, other) at h in absurd cc
          ]
    ]
crowd_taken names stop at s ls e h = cc

pub crowd_ok : (names : List (List ℕ)) (r : Reading) (x : List ℕ × Reading) → new_name_at names r ≡ Ok x → too_many_replicas_at names r ≡ TooManyReplicas (place_at r.stop r.left)
unfolding new_name_at other_name_at named_at one
crowd_ok names r x h = by_left r.stop r.left h
  where
    by_left : (stop : ℕ) (ls : List Lexeme) → new_name_at names (reading stop ls) ≡ Ok x → too_many_replicas_at names (reading stop ls) ≡ TooManyReplicas (place_at stop ls)
    by_left stop [] h = absurd cc
    by_left stop (y ∷ ys) h = crowd_named names stop y.place y.symbol ys x h

pub crowd_err : (names : List (List ℕ)) (r : Reading) (e : ScenarioFault) → new_name_at names r ≡ Err e → too_many_replicas_at names r ≡ e
unfolding new_name_at other_name_at named_at one
crowd_err names r e h = by_left r.stop r.left h
  where
    by_left : (stop : ℕ) (ls : List Lexeme) → new_name_at names (reading stop ls) ≡ Err e → too_many_replicas_at names (reading stop ls) ≡ e
    by_left stop [] h = cc
    by_left stop (y ∷ ys) h = crowd_taken names stop y.place y.symbol ys e h

-- ---- replicas

abbrev pub is_replica : Symbol → Bool
is_replica s = is_word (codes "replica") s

-- these replicas before others
abbrev pub then_parts : List Part → ReadOutcome NamedTree → ReadOutcome NamedTree
then_parts ps r = r >>= λ t. Ok (tree t.0.version (ps ++ t.0.parts) t.0.given t.0.events, t.1)

pub first_fails : (v : Version) (m n : ℕ) (r : Reading) (e : ScenarioFault) → part_at [] r ≡ Err e → rest_at v m n r ≡ Err e
unfolding rest_at
first_fails v m n r e fails = rw fails refl

pub first_read : (v : Version) (m n : ℕ) (r s : Reading) (p : Part) → part_at [] r ≡ Ok (p, s) → rest_at v m n r ≡ then_parts (p ∷ []) (tail_at v m n (p.name ∷ []) s)
unfolding rest_at
first_read v m n r s p read = rw read refl

pub replicas_full : (v : Version) (m n : ℕ) (names : List (List ℕ)) (ps : List Part) (r a : Reading) → n ≡ 0 → begins is_replica r ≡ true → skip is_replica r ≡ Ok (tt, a) → then_parts ps (tail_at v m n names r) ≡ Err (too_many_replicas_at names a)
unfolding tail_at
replicas_full v m zero names ps r a z some takes = rw (some, takes) refl
replicas_full v m (suc n) names ps r a z some takes = absurd (omega (arith, z))

pub replicas_fail : (v : Version) (m n : ℕ) (names : List (List ℕ)) (ps : List Part) (r a : Reading) (e : ScenarioFault) → n ≢ 0 → begins is_replica r ≡ true → skip is_replica r ≡ Ok (tt, a) → part_at names a ≡ Err e → then_parts ps (tail_at v m n names r) ≡ Err e
unfolding tail_at
replicas_fail v m zero names ps r a e z some takes fails = absurd (z refl)
replicas_fail v m (suc n) names ps r a e z some takes fails = rw (some, takes, fails) refl

regroup : (ps : List Part) (p : Part) (r : ReadOutcome NamedTree) → then_parts ps (r >>= λ t. Ok (with_replica_part p t.0, t.1)) ≡ then_parts (ps ++ p ∷ []) r
regroup ps p (Ok x) = ap (λ qs. Ok (tree x.0.version qs x.0.given x.0.events, x.1)) (sym (append_assoc ps (p ∷ []) x.0.parts))
regroup ps p (Err e) = refl

pub replicas_next : (v : Version) (m n : ℕ) (names : List (List ℕ)) (ps : List Part) (r a b : Reading) (p : Part) → n ≢ 0 → begins is_replica r ≡ true → skip is_replica r ≡ Ok (tt, a) → part_at names a ≡ Ok (p, b) → then_parts ps (tail_at v m n names r) ≡ then_parts (ps ++ p ∷ []) (tail_at v m (n - 1) (names ++ p.name ∷ []) b)
unfolding tail_at
replicas_next v m zero names ps r a b p z some takes reads = absurd (z refl)
replicas_next v m (suc n) names ps r a b p z some takes reads = rw (some, takes, reads, sub-one) (regroup ps p (tail_at v m n (names ++ p.name ∷ []) b))

pub replicas_done : (v : Version) (m n : ℕ) (names : List (List ℕ)) (ps : List Part) (r s : Reading) (given es : List NamedEvent) → begins is_replica r ≡ false → blocks_at v m r ≡ Ok (tree v [] given es, s) → then_parts ps (tail_at v m n names r) ≡ Ok (tree v ps given es, s)
unfolding tail_at
replicas_done v m zero names ps r s given es none reads = rw (none, reads) (ap (λ qs. Ok (tree v qs given es, s)) (append-nil ps))
replicas_done v m (suc n) names ps r s given es none reads = rw (none, reads) (ap (λ qs. Ok (tree v qs given es, s)) (append-nil ps))

pub replicas_end : (v : Version) (m n : ℕ) (names : List (List ℕ)) (ps : List Part) (r : Reading) (e : ScenarioFault) → begins is_replica r ≡ false → blocks_at v m r ≡ Err e → then_parts ps (tail_at v m n names r) ≡ Err e
unfolding tail_at
replicas_end v m zero names ps r e none fails = rw (none, fails) refl
replicas_end v m (suc n) names ps r e none fails = rw (none, fails) refl

-- ---- a name as a function returned it

pub named_so : {X : Type 0} (view : X → List ℕ × Reading) (result : Result X ScenarioFault) (x : X) (names : List (List ℕ)) (r : Reading) → MapsResult view result (new_name_at names r) → Ok x ≡ result → too_many_replicas_at names r ≡ TooManyReplicas (place_at r.stop r.left)
named_so view (Ok y) x names r given is = crowd_ok names r (view y) given
named_so view (Err e) x names r given is = absurd cc

pub taken_so : {X : Type 0} (view : X → List ℕ × Reading) (result : Result X ScenarioFault) (e : ScenarioFault) (names : List (List ℕ)) (r : Reading) → MapsResult view result (new_name_at names r) → Err e ≡ result → e ≢ Memory → too_many_replicas_at names r ≡ e
taken_so view (Ok y) e names r given is kept = absurd cc
taken_so view (Err d) e names r given is kept =
    let same : e ≡ d = cc in
    crowd_err names r d (given (λ memory. kept (same ∙ memory))) ∙ sym same
