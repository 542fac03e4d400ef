-- About `Grammar`: a decided grammar's reader decides what it spells.
use Rattle.std.proofs.Common.{◌≡◌, ◌⊎◌, inl, inr, Bool, true, false, ◌&&◌, cond, List, [], ◌∷◌, ◌++◌, Option, Some, None, Result, Ok, Err, refl, sym, ap, subst, ◌∙◌, append_assoc, arith}
use Rattle.std.specs.Prelude.{not}
use Rattle.std.proofs.lemmas.Bool.{cases_Bool}
use Rattle.std.proofs.lemmas.List.{append-nil}
use Rattle.jc_grammar.specs.Symbols.{Lexeme}
use Rattle.jc_grammar.specs.Classes.{Class, is_of, example_of}
use Rattle.jc_grammar.specs.Guards.{TextFault, Misfit, GuardState, Verdict, Guard, refuses, passes}
use Rattle.jc_grammar.specs.Grammar.{Grammar, ParseTree, leaves, FitsClasses, NoticedFault, first_of, verdict_at, state_after, refusal_by, first_refusal, symbol, nothing, ◌then◌, ◌or◌, guarded}
use Rattle.jc_grammar.specs.LookAhead.{is_of_any, begins_with_any, may_be_empty, first_classes, all_are_apart, is_decided}
use Rattle.jc_grammar.specs.TreeReader.{whole_of, read_tree, TreeOutcome, with_tree, pair_of, read_by, read_whole, ◌⟫◌}
use Rattle.jc_grammar.specs.Faults.{Language, IsTreeText, IsRefusedLater, BeginsUnrefused, FitsNoSentence, IsMisfit}
use Rattle.jc_grammar.proofs.LookAheadLemmas.{both_true, cases_or, not_true, any_split, follows, starts, HasFirst, has_first, starts_own, starts_other, same_first}
use Rattle.jc_grammar.proofs.FaultsDecideLemmas.{outcome, TextFunction, RefusesAlways, Decides, decides_same, Either, AllAnswer, decides_choice}
use Rattle.jc_grammar.proofs.FaultsLemmas.{later_more}

-- ---- a grammar, and what comes after it

-- a tree of the grammar, then a sentence of a language that may depend on the tree and on what the guards remember
pub record After (g : Grammar) (s : GuardState) {T : Type 0} (K : ParseTree g → GuardState → Language T) (t : T) (v : Option NoticedFault) (w : List Lexeme) : Type 0 where
  pub tree : ParseTree g
  pub rest : List Lexeme
  pub last : Option NoticedFault
  pub fit : FitsClasses g tree
  pub next : K tree (state_after g s tree) t last rest
  pub refusal_is : v ≡ first_of (first_refusal g s tree rest) last
  pub text_is : w ≡ leaves g tree ++ rest

abbrev pub going_on : (g : Grammar) {T : Type 0} → Misfit → GuardState → (ParseTree g → GuardState → TextFunction T) → TextFunction T
going_on g misfit s k ls = read_tree g misfit s ls ⟫ λ x. k x.0 x.1 x.2

abbrev pub IsPossible : {T : Type 0} → Language T → Type 0
IsPossible {T} L = (t : T) × (v : Option NoticedFault) × (w : List Lexeme) × L t v w

abbrev pub AllFollow : {T : Type 0} → List Class → Language T → Type 0
AllFollow {T} cs L = (t : T) (v : Option NoticedFault) (w : List Lexeme) → L t v w → follows cs w ≡ true

-- what is refuses stands in the sentence
abbrev pub AllRefuseInside : {T : Type 0} → Language T → Type 0
AllRefuseInside {T} L = (t : T) (v : Option NoticedFault) (w : List Lexeme) → L t v w → IsRefusedLater v w

clear_empty : {T : Type 0} (L : Language T) → IsPossible L → AllRefuseInside L → BeginsUnrefused L []
clear_empty L (t, v, w, l) inside = record { tree = t; refused = v; more = w; spelled = l; clear = inside t v w l }

-- what comes after a grammar: its first symbols, a sentence of it, and what is refuses in it
pub record GoesOn {T : Type 0} (cs : List Class) (misfit : Misfit) (L : Language T) (f : TextFunction T) : Type 0 where
  pub follow : AllFollow cs L
  pub possible : IsPossible L
  pub inside : AllRefuseInside L
  pub decides : Decides L misfit f

-- ---- one symbol

abbrev example : Class → Lexeme
example c = record { place = 0; symbol = example_of c }

abbrev fault_as : {T : Type 0} → NoticedFault → Result T NoticedFault
fault_as e = Err e

symbol_ok : (c : Class) (misfit : Misfit) (s : GuardState) {T : Type 0} (K : Lexeme → GuardState → Language T) (k : Lexeme → GuardState → TextFunction T) → ((x : Lexeme) → Decides (K x s) misfit (k x s)) → (ls : List Lexeme) (t : T) → going_on (symbol c) misfit s k ls ≡ Ok t → After (symbol c) s K t None ls
symbol_ok c misfit s K k D [] t e = absurd cc
symbol_ok c misfit s {T} K k D (x ∷ xs) t e =
    elim (cases_Bool (is_of c x.symbol)) [
      | inl fit ↦
          let next : k x s xs ≡ Ok t = rw fit at e in
          record { tree = x; rest = xs; last = None; fit = fit; next = (D x).ok xs t next; refusal_is = refl; text_is = refl }
      | inr unfit ↦ let bad : fault_as {T = T} (record { fault = misfit (x ∷ xs); rest = x ∷ xs }) ≡ Ok t = rw unfit at e in absurd cc
    ]

-- what comes after a symbol is put behind it
symbol_then : (c : Class) (misfit : Misfit) (s : GuardState) {T : Type 0} (K : Lexeme → GuardState → Language T) (k : Lexeme → GuardState → TextFunction T) (x : Lexeme) → is_of c x.symbol ≡ true
    → (xs : List Lexeme) (e : TextFault) → IsMisfit (K x s) misfit xs e ⊎ RefusesAlways (K x s) (k x s) xs e → IsMisfit (After (symbol c) s K) misfit (x ∷ xs) e ⊎ RefusesAlways (After (symbol c) s K) (going_on (symbol c) misfit s k) (x ∷ xs) e
symbol_then c misfit s {T} K k x fit xs e = elim [
  | inl m ↦
      inl (record {
        before = x ∷ m.before;
        after = m.after;
        parts = ap (λ (l : List Lexeme). x ∷ l) m.parts;
        within = clear m.before m.within;
        unfit = unfit_then m.before m.after m.unfit;
        is = m.is;
      })
  | inr p ↦
      inr (record {
        before = x ∷ p.before;
        next = p.next;
        after = p.after;
        parts = ap (λ (l : List Lexeme). x ∷ l) p.parts;
        within = clear p.before p.within;
        tree = p.tree;
        more = p.more;
        spelled = put p.tree (Some (record { fault = e; rest = p.next ∷ p.more })) (p.before ++ p.next ∷ p.more) p.spelled;
        always = λ y. rw fit (p.always y);
      })
]
  where
    put : (t : T) (v : Option NoticedFault) (w : List Lexeme) → K x s t v w → After (symbol c) s K t v (x ∷ w)
    put t v w l = record { tree = x; rest = w; last = v; fit = fit; next = l; refusal_is = refl; text_is = refl }

    clear : (w : List Lexeme) → BeginsUnrefused (K x s) w → BeginsUnrefused (After (symbol c) s K) (x ∷ w)
    clear w b = record { tree = b.tree; refused = b.refused; more = b.more; spelled = put b.tree b.refused (w ++ b.more) b.spelled; clear = b.clear }

    taken : (t : T) (v : Option NoticedFault) (w : List Lexeme) → After (symbol c) s K t v (x ∷ w) → (d : Option NoticedFault) × K x s t d w
    taken t v w a =
        let first : a.tree ≡ x = cc in
        let rest : a.rest ≡ w = cc in
        (a.last, subst (λ (l : List Lexeme). K x s t a.last l) rest (subst (λ (y : Lexeme). K y s t a.last a.rest) first a.next))

    unfit_then : (before after : List Lexeme) → FitsNoSentence (K x s) before after → FitsNoSentence (After (symbol c) s K) (x ∷ before) after
    unfit_then before [] unfit = λ t v a. let (d, l) = taken t v before a in unfit t d l
    unfit_then before (y ∷ after) unfit = λ (t, v, more, a). let (d, l) = taken t v ((before ++ y ∷ []) ++ more) a in unfit (t, d, more, l)

symbol_err : (c : Class) (misfit : Misfit) (s : GuardState) {T : Type 0} (K : Lexeme → GuardState → Language T) (k : Lexeme → GuardState → TextFunction T) → BeginsUnrefused (After (symbol c) s K) [] → ((x : Lexeme) → Decides (K x s) misfit (k x s))
    → (ls : List Lexeme) (e : NoticedFault) → going_on (symbol c) misfit s k ls ≡ Err e → IsMisfit (After (symbol c) s K) misfit ls e.fault ⊎ RefusesAlways (After (symbol c) s K) (going_on (symbol c) misfit s k) ls e.fault
symbol_err c misfit s {T} K k begins D [] e r =
    let same : fault_as {T = T} (record { fault = misfit []; rest = [] }) ≡ fault_as e = r in
    let is : e ≡ record { fault = misfit []; rest = [] } = cc in
    inl (record {
      before = [];
      after = [];
      parts = refl;
      within = begins;
      unfit = λ t v a. let bad : [] ≡ a.tree ∷ a.rest = a.text_is in absurd cc;
      is = ap (λ (d : NoticedFault). d.fault) is;
    })
symbol_err c misfit s {T} K k begins D (x ∷ xs) e r =
    elim (cases_Bool (is_of c x.symbol)) [
      | inl fit ↦ symbol_then c misfit s K k x fit xs e.fault ((D x).err xs e (rw fit at r))
      | inr unfit ↦
          let same : fault_as {T = T} (record { fault = misfit (x ∷ xs); rest = x ∷ xs }) ≡ fault_as e = rw unfit at r in
          let is : e ≡ record { fault = misfit (x ∷ xs); rest = x ∷ xs } = cc in
          inl (record {
            before = [];
            after = x ∷ xs;
            parts = refl;
            within = begins;
            unfit = λ (t, v, more, a).
                let own : a.tree ≡ x = cc in
                let bad : is_of c x.symbol ≡ true = subst (λ (y : Lexeme). is_of c y.symbol ≡ true) own a.fit in
                absurd cc;
            is = ap (λ (d : NoticedFault). d.fault) is;
          })
    ]

-- ---- steps that may fail

mapped : {A B C : Type 0} (r : TreeOutcome A) (f : A → B) (k : B → GuardState → List Lexeme → Result C NoticedFault) → ((r ⟫ with_tree f) ⟫ λ x. k x.0 x.1 x.2) ≡ (r ⟫ λ a. k (f a.0) a.1 a.2)
mapped (Ok a) f k = refl
mapped (Err e) f k = refl

paired : {A B C : Type 0} (r : TreeOutcome A) (s : GuardState → List Lexeme → TreeOutcome B) (k : A × B → GuardState → List Lexeme → Result C NoticedFault)
    → ((r ⟫ λ a. s a.1 a.2 ⟫ with_tree (pair_of a.0)) ⟫ λ x. k x.0 x.1 x.2) ≡ (r ⟫ λ a. s a.1 a.2 ⟫ λ b. k (pair_of a.0 b.0) b.1 b.2)
paired (Ok a) s k = mapped (s a.1 a.2) (pair_of a.0) k
paired (Err e) s k = refl

chosen : {A B C : Type 0} (b : Bool) (r : TreeOutcome A) (s : TreeOutcome B) (k : A ⊎ B → GuardState → List Lexeme → Result C NoticedFault)
    → (cond b (r ⟫ with_tree (λ a. inl a)) (s ⟫ with_tree (λ b. inr b)) ⟫ λ x. k x.0 x.1 x.2) ≡ cond b (r ⟫ λ a. k (inl a.0) a.1 a.2) (s ⟫ λ b. k (inr b.0) b.1 b.2)
chosen true r s k = mapped r (λ a. inl a) k
chosen false r s k = mapped s (λ b. inr b) k

first_assoc : (a b c : Option NoticedFault) → first_of (first_of a b) c ≡ first_of a (first_of b c)
first_assoc None b c = refl
first_assoc (Some e) b c = refl

pub first_none : (v : Option NoticedFault) → first_of v None ≡ v
first_none None = refl
first_none (Some e) = refl

-- ---- what is refuses stands in the sentence

first_later : (a b : Option NoticedFault) (w : List Lexeme) → IsRefusedLater a w → IsRefusedLater b w → IsRefusedLater (first_of a b) w
first_later None b w x y = y
first_later (Some e) b w x y = x

by_verdict_later : (v : Verdict) (ls : List Lexeme) (k : GuardState → Option NoticedFault) → ((own : GuardState) → IsRefusedLater (k own) ls) → IsRefusedLater (refusal_by v ls k) ls
by_verdict_later (refuses e) ls k all = omega arith
by_verdict_later (passes s) ls k all = all s

refusal_later : (g : Grammar) (s : GuardState) (t : ParseTree g) (u : List Lexeme) → IsRefusedLater (first_refusal g s t u) (leaves g t ++ u)
refusal_later (symbol c) s x u = tt
refusal_later nothing s t u = tt
refusal_later (g then h) s t u =
    rw append_assoc (first_later (first_refusal g s t.0 (leaves h t.1 ++ u)) (first_refusal h (state_after g s t.0) t.1 u) (leaves g t.0 ++ (leaves h t.1 ++ u))
    (refusal_later g s t.0 (leaves h t.1 ++ u))
    (later_more (first_refusal h (state_after g s t.0) t.1 u) (leaves g t.0) (leaves h t.1 ++ u) (refusal_later h (state_after g s t.0) t.1 u)))
refusal_later (g or h) s (inl t) u = refusal_later g s t u
refusal_later (g or h) s (inr t) u = refusal_later h s t u
refusal_later (guarded c g) s t u = by_verdict_later (verdict_at c s (leaves g t ++ u)) (leaves g t ++ u) (λ own. first_refusal g own t u) (λ own. refusal_later g own t u)

-- ---- sentences of a grammar and what comes after it

-- a decided grammar has a tree
has_tree : (g : Grammar) (cs : List Class) → is_decided g cs ≡ true → (t : ParseTree g) × FitsClasses g t
has_tree (symbol c) cs d = (example c, d)
has_tree nothing cs d = (tt, tt)
has_tree (g then h) cs d =
    let (one, two) = both_true (is_decided g (first_classes h cs)) (is_decided h cs) d in
    let (a, fit) = has_tree g (first_classes h cs) one in
    let (b, also) = has_tree h cs two in
    ((a, b), (fit, also))
has_tree (g or h) cs d =
    let (own, rest) = both_true (not (may_be_empty g)) (all_are_apart (first_classes g []) (first_classes h cs) && (is_decided g cs && is_decided h cs)) d in
    let (other, both) = both_true (all_are_apart (first_classes g []) (first_classes h cs)) (is_decided g cs && is_decided h cs) rest in
    let (a, fit) = has_tree g cs (both_true (is_decided g cs) (is_decided h cs) both).0 in
    (inl a, fit)
has_tree (guarded c g) cs d = has_tree g cs (both_true (not (may_be_empty g)) (is_decided g cs) d).1

pub after_goes : (g : Grammar) (cs : List Class) → is_decided g cs ≡ true → (misfit : Misfit) (s : GuardState) {T : Type 0} (K : ParseTree g → GuardState → Language T) (k : ParseTree g → GuardState → TextFunction T)
    → ((a : ParseTree g) (own : GuardState) → GoesOn cs misfit (K a own) (k a own)) → Decides (After g s K) misfit (going_on g misfit s k) → GoesOn (first_classes g cs) misfit (After g s K) (going_on g misfit s k)
after_goes g cs d misfit s K k next D = record {
  follow = λ t v w a. rw a.text_is (starts g cs a.tree a.rest a.fit ((next a.tree (state_after g s a.tree)).follow t a.last a.rest a.next));
  possible =
      let (a, fit) = has_tree g cs d in
      let (t, v, w, l) = (next a (state_after g s a)).possible in
      (t, first_of (first_refusal g s a w) v, leaves g a ++ w, record { tree = a; rest = w; last = v; fit = fit; next = l; refusal_is = refl; text_is = refl });
  inside = λ t v w a.
      rw (a.refusal_is, a.text_is) (first_later (first_refusal g s a.tree a.rest) a.last (leaves g a.tree ++ a.rest) (refusal_later g s a.tree a.rest)
      (later_more a.last (leaves g a.tree) a.rest ((next a.tree (state_after g s a.tree)).inside t a.last a.rest a.next)));
  decides = D;
}

-- ---- guards

-- a tree that begins with a lexeme, or an empty one
abbrev BeginsWith : Grammar → Lexeme → Type 0
BeginsWith g x = (t : ParseTree g) × (y : List Lexeme) × FitsClasses g t × (leaves g t ≡ x ∷ y)

abbrev HasEmpty : Grammar → Type 0
HasEmpty g = (t : ParseTree g) × FitsClasses g t × (leaves g t ≡ [])

-- each first symbol begins a tree
starts_with : (g : Grammar) (ds : List Class) → is_decided g ds ≡ true → (cs : List Class) (x : Lexeme) → is_of_any (first_classes g cs) x.symbol ≡ true → BeginsWith g x ⊎ ((is_of_any cs x.symbol ≡ true) × HasEmpty g)
starts_with (symbol c) ds d cs x h =
    elim (cases_or (is_of c x.symbol) false h) [
      | inl fit ↦ inl (x, [], fit, refl)
      | inr bad ↦ absurd cc
    ]
starts_with nothing ds d cs x h = inr (h, (tt, tt, refl))
starts_with (g then h) ds d cs x i =
    let (one, two) = both_true (is_decided g (first_classes h ds)) (is_decided h ds) d in
    elim (starts_with g (first_classes h ds) one (first_classes h cs) x i) [
      | inl (a, y, fit, text) ↦ let (b, also) = has_tree h ds two in inl ((a, b), y ++ leaves h b, (fit, also), rw text refl)
      | inr (later, (a, fit, none)) ↦
          elim (starts_with h ds two cs x later) [
            | inl (b, y, also, text) ↦ inl ((a, b), y, (fit, also), rw (none, text) refl)
            | inr (after, (b, also, empty)) ↦ inr (after, ((a, b), (fit, also), rw (none, empty) refl))
          ]
    ]
starts_with (g or h) ds d cs x i =
    let (own, rest) = both_true (not (may_be_empty g)) (all_are_apart (first_classes g []) (first_classes h ds) && (is_decided g ds && is_decided h ds)) d in
    let (other, both) = both_true (all_are_apart (first_classes g []) (first_classes h ds)) (is_decided g ds && is_decided h ds) rest in
    let (one, two) = both_true (is_decided g ds) (is_decided h ds) both in
    elim (any_split (first_classes g cs) (first_classes h cs) x.symbol i) [
      | inl here ↦
          elim (starts_with g ds one cs x here) [
            | inl (a, y, fit, text) ↦ inl (inl a, y, fit, text)
            | inr (after, (a, fit, none)) ↦ inr (after, (inl a, fit, none))
          ]
      | inr here ↦
          elim (starts_with h ds two cs x here) [
            | inl (b, y, fit, text) ↦ inl (inr b, y, fit, text)
            | inr (after, (b, fit, none)) ↦ inr (after, (inr b, fit, none))
          ]
    ]
starts_with (guarded c g) ds d cs x i = starts_with g ds (both_true (not (may_be_empty g)) (is_decided g ds) d).1 cs x i

-- a guard looks at the first lexeme alone
pub verdict_front : (c : Guard) (s : GuardState) (a u : List Lexeme) → HasFirst a → verdict_at c s (a ++ u) ≡ verdict_at c s a
verdict_front c s a u (x, xs, e) = rw e refl

verdict_same : (c : Guard) (s : GuardState) (before : List Lexeme) (x : Lexeme) (a b : List Lexeme) → verdict_at c s (before ++ x ∷ a) ≡ verdict_at c s (before ++ x ∷ b)
verdict_same c s [] x a b = refl
verdict_same c s (y ∷ before) x a b = refl

module _ (c : Guard) (g : Grammar) (full : may_be_empty g ≡ false) (cs : List Class) (d : is_decided g cs ≡ true) (misfit : Misfit) (s : GuardState) {T : Type 0} (K : ParseTree g → GuardState → Language T) (k : ParseTree g → GuardState → TextFunction T)
    (next : (a : ParseTree g) (own : GuardState) → GoesOn cs misfit (K a own) (k a own)) (D : (own : GuardState) → Decides (After g own K) misfit (going_on g misfit own k)) where
  -- after the guard
  abbrev Own : GuardState → Language T
  Own own = After g own K

  abbrev Whole : Language T
  Whole = After (guarded c g) s K

  abbrev whole : TextFunction T
  whole = going_on (guarded c g) misfit s k

  own_first : (own : GuardState) → AllAnswer (first_classes g []) true (Own own)
  own_first own t v w a = rw a.text_is (starts_own g a.tree a.rest full a.fit)

  whole_first : AllAnswer (first_classes g []) true Whole
  whole_first t v w a = rw a.text_is (starts_own g a.tree a.rest full a.fit)

  to_whole : (own : GuardState) (t : T) (v : Option NoticedFault) (w : List Lexeme) → verdict_at c s w ≡ passes own → Own own t v w → Whole t v w
  to_whole own t v w check a =
      let here : verdict_at c s (leaves g a.tree ++ a.rest) ≡ passes own = sym (ap (verdict_at c s) a.text_is) ∙ check in
      let front : verdict_at c s (leaves g a.tree) ≡ passes own = sym (verdict_front c s (leaves g a.tree) a.rest (has_first g a.tree full)) ∙ here in
      record { tree = a.tree; rest = a.rest; last = a.last; fit = a.fit; next = rw front a.next; refusal_is = rw here a.refusal_is; text_is = a.text_is }

  from_whole : (own : GuardState) (t : T) (v : Option NoticedFault) (w : List Lexeme) → verdict_at c s w ≡ passes own → Whole t v w → Own own t v w
  from_whole own t v w check a =
      let here : verdict_at c s (leaves g a.tree ++ a.rest) ≡ passes own = sym (ap (verdict_at c s) a.text_is) ∙ check in
      let front : verdict_at c s (leaves g a.tree) ≡ passes own = sym (verdict_front c s (leaves g a.tree) a.rest (has_first g a.tree full)) ∙ here in
      record { tree = a.tree; rest = a.rest; last = a.last; fit = a.fit; next = rw front at a.next; refusal_is = rw here at a.refusal_is; text_is = a.text_is }

  whole_refused : (e : TextFault) (t : T) (v : Option NoticedFault) (w : List Lexeme) → verdict_at c s w ≡ refuses e → Whole t v w → v ≡ Some (record { fault = e; rest = w })
  whole_refused e t v w check a =
      let here : verdict_at c s (leaves g a.tree ++ a.rest) ≡ refuses e = sym (ap (verdict_at c s) a.text_is) ∙ check in
      let is : v ≡ Some (record { fault = e; rest = leaves g a.tree ++ a.rest }) = rw here at a.refusal_is in
      rw a.text_is is

  guard_ok : (ls : List Lexeme) (t : T) → whole ls ≡ Ok t → Whole t None ls
  guard_ok ls t e =
      elim (cases_Bool (begins_with_any (first_classes g []) ls)) [
        | inl fits ↦ by_check (verdict_at c s ls) refl (rw fits at e)
        | inr other ↦ let own : Own s t None ls = (D s).ok ls t (rw other at e) in let bad : false ≡ true = sym other ∙ own_first s t None ls own in absurd cc
      ]
    where
      by_check : (v : Verdict) → verdict_at c s ls ≡ v → (read_by (verdict_at c s ls) ls (λ own. read_tree g misfit own ls) ⟫ λ x. k x.0 x.1 x.2) ≡ Ok t → Whole t None ls
      by_check (refuses f) check h = let bad : fault_as {T = T} (record { fault = f; rest = ls }) ≡ Ok t = rw check at h in absurd cc
      by_check (passes own) check h = to_whole own t None ls check ((D own).ok ls t (rw check at h))

  guard_again : (t : T) (v : Option NoticedFault) (ls : List Lexeme) → Whole t v ls → whole ls ≡ outcome t v
  guard_again t v ls a = rw (whole_first t v ls a) (by_check (verdict_at c s ls) refl)
    where
      by_check : (r : Verdict) → verdict_at c s ls ≡ r → (read_by (verdict_at c s ls) ls (λ own. read_tree g misfit own ls) ⟫ λ x. k x.0 x.1 x.2) ≡ outcome t v
      by_check (refuses f) check = rw (check, whole_refused f t v ls check a) refl
      by_check (passes own) check = rw check ((D own).again t v ls (from_whole own t v ls check a))

  whole_begins : BeginsUnrefused Whole []
  whole_begins = clear_empty Whole possible inside
    where
      possible : IsPossible Whole
      possible =
          let (a, fit) = has_tree g cs d in
          let (t, v, w, l) = (next a (state_after (guarded c g) s a)).possible in
          (t, first_of (first_refusal (guarded c g) s a w) v, leaves g a ++ w, record { tree = a; rest = w; last = v; fit = fit; next = l; refusal_is = refl; text_is = refl })

      inside : AllRefuseInside Whole
      inside t v w a =
          rw (a.refusal_is, a.text_is) (first_later (first_refusal (guarded c g) s a.tree a.rest) a.last (leaves g a.tree ++ a.rest) (refusal_later (guarded c g) s a.tree a.rest)
          (later_more a.last (leaves g a.tree) a.rest ((next a.tree (state_after (guarded c g) s a.tree)).inside t a.last a.rest a.next)))

  -- no sentence begins otherwise
  not_first : (ls : List Lexeme) → begins_with_any (first_classes g []) ls ≡ false → FitsNoSentence Whole [] ls
  not_first [] other = λ t v a. let bad : false ≡ true = sym other ∙ whole_first t v [] a in absurd cc
  not_first (x ∷ xs) other = λ (t, v, more, a). let bad : false ≡ true = sym other ∙ whole_first t v (x ∷ more) a in absurd cc

  other_err : (ls : List Lexeme) (e : TextFault) → begins_with_any (first_classes g []) ls ≡ false → IsMisfit (Own s) misfit ls e ⊎ RefusesAlways (Own s) (going_on g misfit s k) ls e → IsMisfit Whole misfit ls e ⊎ RefusesAlways Whole whole ls e
  other_err ls e other (inr p) =
      let bad : false ≡ true = sym other ∙ ap (begins_with_any (first_classes g [])) p.parts ∙ same_first (first_classes g []) p.before p.next p.after p.more ∙ own_first s p.tree (Some (record { fault = e; rest = p.next ∷ p.more })) (p.before ++ p.next ∷ p.more) p.spelled in
      absurd cc
  other_err ls e other (inl m) = by_before m.before m.after m.parts m.within m.is
    where
      by_before : (before after : List Lexeme) → ls ≡ before ++ after → BeginsUnrefused (Own s) before → e ≡ misfit after → IsMisfit Whole misfit ls e ⊎ RefusesAlways Whole whole ls e
      by_before [] after parts within is = inl (record { before = []; after = after; parts = parts; within = whole_begins; unfit = not_first after (sym (ap (begins_with_any (first_classes g [])) parts) ∙ other); is = is })
      by_before (y ∷ before) after parts within is =
          let bad : false ≡ true = sym other ∙ ap (begins_with_any (first_classes g [])) parts ∙ own_first s within.tree within.refused ((y ∷ before) ++ within.more) within.spelled in
          absurd cc

  -- what is refuses after the guard
  own_err : (own : GuardState) (ls : List Lexeme) (e : TextFault) → begins_with_any (first_classes g []) ls ≡ true → verdict_at c s ls ≡ passes own → IsMisfit (Own own) misfit ls e ⊎ RefusesAlways (Own own) (going_on g misfit own k) ls e → IsMisfit Whole misfit ls e ⊎ RefusesAlways Whole whole ls e
  own_err own ls e fits check (inl m) = inl (record { before = m.before; after = m.after; parts = m.parts; within = clear m.before m.after m.parts m.within; unfit = unfit m.before m.after m.parts m.unfit; is = m.is })
    where
      clear : (before after : List Lexeme) → ls ≡ before ++ after → BeginsUnrefused (Own own) before → BeginsUnrefused Whole before
      clear [] after parts b = whole_begins
      clear (y ∷ before) after parts b = record { tree = b.tree; refused = b.refused; more = b.more; spelled = to_whole own b.tree b.refused ((y ∷ before) ++ b.more) (ap (verdict_at c s) (sym parts) ∙ check) b.spelled; clear = b.clear }

      unfit : (before after : List Lexeme) → ls ≡ before ++ after → FitsNoSentence (Own own) before after → FitsNoSentence Whole before after
      unfit before [] parts none = λ t v a. none t v (from_whole own t v before (ap (verdict_at c s) (sym (append-nil before) ∙ sym parts) ∙ check) a)
      unfit before (y ∷ after) parts none = λ (t, v, more, a).
          none (t, v, more, from_whole own t v ((before ++ y ∷ []) ++ more) (ap (verdict_at c s) (append_assoc before (y ∷ []) more) ∙ verdict_same c s before y more after ∙ ap (verdict_at c s) (sym parts) ∙ check) a)
  own_err own ls e fits check (inr p) =
      inr (record {
        before = p.before;
        next = p.next;
        after = p.after;
        parts = p.parts;
        within = clear p.before p.parts p.within;
        tree = p.tree;
        more = p.more;
        spelled = to_whole own p.tree (Some (record { fault = e; rest = p.next ∷ p.more })) (p.before ++ p.next ∷ p.more) (here p.more) p.spelled;
        always = λ y.
            let first : begins_with_any (first_classes g []) (p.before ++ p.next ∷ y) ≡ true = same_first (first_classes g []) p.before p.next y p.after ∙ ap (begins_with_any (first_classes g [])) (sym p.parts) ∙ fits in
            rw (first, here y) (p.always y);
      })
    where
      here : (y : List Lexeme) → verdict_at c s (p.before ++ p.next ∷ y) ≡ passes own
      here y = verdict_same c s p.before p.next y p.after ∙ ap (verdict_at c s) (sym p.parts) ∙ check

      clear : (before : List Lexeme) → ls ≡ before ++ p.next ∷ p.after → BeginsUnrefused (Own own) before → BeginsUnrefused Whole before
      clear [] parts b = whole_begins
      clear (y ∷ before) parts b = record { tree = b.tree; refused = b.refused; more = b.more; spelled = to_whole own b.tree b.refused ((y ∷ before) ++ b.more) (ap (verdict_at c s) (sym parts) ∙ check) b.spelled; clear = b.clear }

  -- what the guard itself refuses
  guard_refuses : (ls : List Lexeme) (f : TextFault) (e : NoticedFault) → begins_with_any (first_classes g []) ls ≡ true → verdict_at c s ls ≡ refuses f → fault_as {T = T} (record { fault = f; rest = ls }) ≡ fault_as e → IsMisfit Whole misfit ls e.fault ⊎ RefusesAlways Whole whole ls e.fault
  guard_refuses [] f e fits check same = absurd cc
  guard_refuses (x ∷ xs) f e fits check same =
      let is : record { fault = f; rest = x ∷ xs } ≡ e = cc in
      let fault : f ≡ e.fault = ap (λ (q : NoticedFault). q.fault) is in
      elim (starts_with g cs d [] x fits) [
        | inr (bad, empty) ↦ absurd cc
        | inl (a, y, fit, text) ↦
            let (t, v, w, l) = (next a (state_after (guarded c g) s a)).possible in
            let word : leaves g a ++ w ≡ x ∷ (y ++ w) = ap (λ (q : List Lexeme). q ++ w) text in
            let here : verdict_at c s (leaves g a ++ w) ≡ refuses f = rw word check in
            inr (record {
              before = [];
              next = x;
              after = xs;
              parts = refl;
              within = whole_begins;
              tree = t;
              more = y ++ w;
              spelled = record { tree = a; rest = w; last = v; fit = fit; next = l; refusal_is = rw (here, word, fault) refl; text_is = sym word };
              always = λ z. rw (fits, check, fault) refl;
            })
      ]

  guard_err : (ls : List Lexeme) (e : NoticedFault) → whole ls ≡ Err e → IsMisfit Whole misfit ls e.fault ⊎ RefusesAlways Whole whole ls e.fault
  guard_err ls e r =
      elim (cases_Bool (begins_with_any (first_classes g []) ls)) [
        | inl fits ↦ by_check fits (verdict_at c s ls) refl (rw fits at r)
        | inr other ↦ other_err ls e.fault other ((D s).err ls e (rw other at r))
      ]
    where
      by_check : begins_with_any (first_classes g []) ls ≡ true → (v : Verdict) → verdict_at c s ls ≡ v → (read_by (verdict_at c s ls) ls (λ own. read_tree g misfit own ls) ⟫ λ x. k x.0 x.1 x.2) ≡ Err e → IsMisfit Whole misfit ls e.fault ⊎ RefusesAlways Whole whole ls e.fault
      by_check fits (refuses f) check h = guard_refuses ls f e fits check (rw check at h)
      by_check fits (passes own) check h = own_err own ls e.fault fits check ((D own).err ls e (rw check at h))

  decides_guarded : Decides Whole misfit whole
  decides_guarded = record { ok = guard_ok; again = guard_again; err = guard_err }

-- ---- all grammars

-- one part after another
abbrev Second : (g h : Grammar) {T : Type 0} → (ParseTree (g then h) → GuardState → Language T) → ParseTree g → GuardState → Language T
Second g h K a s = After h s (λ b. K (a, b))

abbrev second : (g h : Grammar) {T : Type 0} → Misfit → (ParseTree (g then h) → GuardState → TextFunction T) → ParseTree g → GuardState → TextFunction T
second g h misfit k a s = going_on h misfit s (λ b. k (a, b))

by_side : (g h : Grammar) (s : GuardState) {T : Type 0} (K : ParseTree (g or h) → GuardState → Language T) (t : T) (v : Option NoticedFault) (w : List Lexeme) (tree : ParseTree (g or h)) (rest : List Lexeme) (last : Option NoticedFault)
    → FitsClasses (g or h) tree → K tree (state_after (g or h) s tree) t last rest → v ≡ first_of (first_refusal (g or h) s tree rest) last → w ≡ leaves (g or h) tree ++ rest
    → Either (After g s (λ a. K (inl a))) (After h s (λ b. K (inr b))) t v w
by_side g h s K t v w (inl a) rest last fit next refusal_is text_is = inl (record { tree = a; rest = rest; last = last; fit = fit; next = next; refusal_is = refusal_is; text_is = text_is })
by_side g h s K t v w (inr b) rest last fit next refusal_is text_is = inr (record { tree = b; rest = rest; last = last; fit = fit; next = next; refusal_is = refusal_is; text_is = text_is })

pub decides : (g : Grammar) (cs : List Class) → is_decided g cs ≡ true → (misfit : Misfit) (s : GuardState) {T : Type 0} (K : ParseTree g → GuardState → Language T) (k : ParseTree g → GuardState → TextFunction T)
    → ((a : ParseTree g) (own : GuardState) → GoesOn cs misfit (K a own) (k a own)) → Decides (After g s K) misfit (going_on g misfit s k)
decides (symbol c) cs d misfit s {T} K k next =
    record {
      ok = λ ls t e. symbol_ok c misfit s K k (λ x. (next x s).decides) ls t e;
      again = λ t v ls a. rw (a.text_is, a.refusal_is, a.fit) ((next a.tree s).decides.again t a.last a.rest a.next);
      err = λ ls e r. symbol_err c misfit s K k begins (λ x. (next x s).decides) ls e r;
    }
  where
    begins : BeginsUnrefused (After (symbol c) s K) []
    begins =
        let (t, v, w, l) = (next (example c) s).possible in
        record { tree = t; refused = v; more = example c ∷ w; spelled = record { tree = example c; rest = w; last = v; fit = d; next = l; refusal_is = refl; text_is = refl }; clear = later_more v (example c ∷ []) w ((next (example c) s).inside t v w l) }
decides nothing cs d misfit s K k next =
    decides_same (going_on nothing misfit s k) (λ ls. refl)
    (λ t v w l. record { tree = tt; rest = w; last = v; fit = tt; next = l; refusal_is = refl; text_is = refl })
    (λ t v w a. rw (a.refusal_is, a.text_is) a.next)
    ((next tt s).decides)
decides (g then h) cs d misfit s K k next =
    let (one, two) = both_true (is_decided g (first_classes h cs)) (is_decided h cs) d in
    decides_same (going_on (g then h) misfit s k) (λ ls. paired (read_tree g misfit s ls) (read_tree h misfit) k)
    (λ t v w a. record {
      tree = (a.tree, a.next.tree);
      rest = a.next.rest;
      last = a.next.last;
      fit = (a.fit, a.next.fit);
      next = a.next.next;
      refusal_is =
          a.refusal_is
          ∙ ap (λ (r : List Lexeme). first_of (first_refusal g s a.tree r) a.last) a.next.text_is
          ∙ ap (first_of (first_refusal g s a.tree (leaves h a.next.tree ++ a.next.rest))) a.next.refusal_is
          ∙ sym (first_assoc (first_refusal g s a.tree (leaves h a.next.tree ++ a.next.rest)) (first_refusal h (state_after g s a.tree) a.next.tree a.next.rest) a.next.last);
      text_is = a.text_is ∙ ap (λ (l : List Lexeme). leaves g a.tree ++ l) a.next.text_is ∙ sym (append_assoc (leaves g a.tree) (leaves h a.next.tree) a.next.rest);
    })
    (λ t v w a. record {
      tree = a.tree.0;
      rest = leaves h a.tree.1 ++ a.rest;
      last = first_of (first_refusal h (state_after g s a.tree.0) a.tree.1 a.rest) a.last;
      fit = a.fit.0;
      next = record { tree = a.tree.1; rest = a.rest; last = a.last; fit = a.fit.1; next = a.next; refusal_is = refl; text_is = refl };
      refusal_is = a.refusal_is ∙ first_assoc (first_refusal g s a.tree.0 (leaves h a.tree.1 ++ a.rest)) (first_refusal h (state_after g s a.tree.0) a.tree.1 a.rest) a.last;
      text_is = a.text_is ∙ append_assoc (leaves g a.tree.0) (leaves h a.tree.1) a.rest;
    })
    (decides g (first_classes h cs) one misfit s (Second g h K) (second g h misfit k)
    (λ a own. after_goes h cs two misfit own (λ b. K (a, b)) (λ b. k (a, b)) (λ b later. next (a, b) later) (decides h cs two misfit own (λ b. K (a, b)) (λ b. k (a, b)) (λ b later. next (a, b) later))))
decides (g or h) cs d misfit s K k next =
    let (own, rest) = both_true (not (may_be_empty g)) (all_are_apart (first_classes g []) (first_classes h cs) && (is_decided g cs && is_decided h cs)) d in
    let (other, both) = both_true (all_are_apart (first_classes g []) (first_classes h cs)) (is_decided g cs && is_decided h cs) rest in
    let (one, two) = both_true (is_decided g cs) (is_decided h cs) both in
    let H = decides h cs two misfit s (λ b. K (inr b)) (λ b. k (inr b)) (λ b later. next (inr b) later) in
    decides_same (going_on (g or h) misfit s k) (λ ls. chosen (begins_with_any (first_classes g []) ls) (read_tree g misfit s ls) (read_tree h misfit s ls) k)
    (λ t v w l.
    elim l [
      | inl a ↦ record { tree = inl a.tree; rest = a.rest; last = a.last; fit = a.fit; next = a.next; refusal_is = a.refusal_is; text_is = a.text_is }
      | inr b ↦ record { tree = inr b.tree; rest = b.rest; last = b.last; fit = b.fit; next = b.next; refusal_is = b.refusal_is; text_is = b.text_is }
    ])
    (λ t v w a. by_side g h s K t v w a.tree a.rest a.last a.fit a.next a.refusal_is a.text_is)
    (decides_choice (first_classes g [])
    (λ t v w a. rw a.text_is (starts_own g a.tree a.rest (not_true (may_be_empty g) own) a.fit))
    (λ t v w b. starts_other (first_classes g []) (first_classes h cs) w other ((after_goes h cs two misfit s (λ b. K (inr b)) (λ b. k (inr b)) (λ b later. next (inr b) later) H).follow t v w b))
    (decides g cs one misfit s (λ a. K (inl a)) (λ a. k (inl a)) (λ a later. next (inl a) later))
    H)
decides (guarded c g) cs d misfit s K k next =
    let (own, one) = both_true (not (may_be_empty g)) (is_decided g cs) d in
    decides_guarded c g (not_true (may_be_empty g) own) cs one misfit s K k next (λ later. decides g cs one misfit later K k next)

-- ---- nothing more

abbrev End : {T : Type 0} → T → Language T
End a t v w = (t ≡ a) × (v ≡ None) × (w ≡ [])

end_goes : {T : Type 0} (misfit : Misfit) (a : T) → GoesOn [] misfit (End a) (λ ls. whole_of misfit a ls)
end_goes {T} misfit a = record {
  follow = λ t v w l. rw l.2 refl;
  possible = (a, None, [], (refl, refl, refl));
  inside = λ t v w l. rw l.1 tt;
  decides = record {
    ok = λ ls t e. end_ok a ls t e;
    again = λ t v ls l. rw (l.0, l.1, l.2) refl;
    err = λ ls e r. inl (end_err a ls e r);
  };
}
  where
    end_ok : (a : T) (ls : List Lexeme) (t : T) → whole_of misfit a ls ≡ Ok t → End a t None ls
    end_ok a [] t e = (cc, refl, refl)
    end_ok a (x ∷ xs) t e = absurd cc

    end_err : (a : T) (ls : List Lexeme) (e : NoticedFault) → whole_of misfit a ls ≡ Err e → IsMisfit (End a) misfit ls e.fault
    end_err a [] e r = absurd cc
    end_err a (x ∷ xs) e r =
        let is : record { fault = misfit (x ∷ xs); rest = x ∷ xs } ≡ e = cc in
        record { before = []; after = x ∷ xs; parts = refl; within = record { tree = a; refused = None; more = []; spelled = (refl, refl, refl); clear = tt }; unfit = λ (t, v, more, l). (let bad : x ∷ more ≡ [] = l.2 in absurd cc); is = sym (ap (λ (q : NoticedFault). q.fault) is) }

pub decides_all : (g : Grammar) → is_decided g [] ≡ true → (misfit : Misfit) (s : GuardState) → Decides (IsTreeText g s) misfit (read_whole g misfit s)
decides_all g d misfit s =
    decides_same (read_whole g misfit s) (λ ls. refl)
    (λ t v w a. rw a.next.0 (
      a.fit,
      sym (a.refusal_is ∙ ap (λ (r : List Lexeme). first_of (first_refusal g s a.tree r) a.last) a.next.2 ∙ ap (first_of (first_refusal g s a.tree [])) a.next.1 ∙ first_none (first_refusal g s a.tree [])),
      sym (a.text_is ∙ ap (λ (l : List Lexeme). leaves g a.tree ++ l) a.next.2 ∙ append-nil (leaves g a.tree)),
    ))
    (λ t v w l. record { tree = t; rest = []; last = None; fit = l.0; next = (refl, refl, refl); refusal_is = sym l.1 ∙ sym (first_none (first_refusal g s t [])); text_is = sym l.2 ∙ sym (append-nil (leaves g t)) })
    (decides g [] d misfit s (λ a own. End a) (λ a own ls. whole_of misfit a ls) (λ a own. end_goes misfit a))
