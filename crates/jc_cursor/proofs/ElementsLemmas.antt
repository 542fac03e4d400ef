-- About WayDown and Evaluates: along a list to an element by its index.
use Rattle.std.proofs.Common.{◌≡◌, ◌≢◌, ℕ, suc, zero, ◌-◌, ◌+◌, ◌/◌, ◌%◌, ◌<◌, ◌≤◌, List, [], ◌∷◌, length, Option, Some, None, IfSome, Bool, true, false, cond, refl, sym, ◌∙◌, ap, subst, arith}
use Rattle.std.specs.Int.{from_bool}
use Rattle.jc_rules.specs.declared.id.Id.{Id}
use Rattle.jc_rules.specs.declared.key.Key.{Key}
use Rattle.jc_rules.specs.declared.key.Key.TheVariants.{Head, Elem}
use Rattle.jc_rules.specs.declared.key.Next.{Next}
use Rattle.jc_rules.specs.declared.key.Next.TheVariants.{Elem as To}
use Rattle.jc_rules.specs.declared.refusal.Refusal.TheVariants as F
use Rattle.jc_rules.specs.declared.rule.Rule.TheVariants as R
use Rattle.jc_rules.specs.Context.{Context, links, next, presence, presences}
use Rattle.jc_rules.specs.Derivation.{SelectIndex, ToCursor}
use Rattle.jc_rules.specs.Derives.{Derives}
use Rattle.jc_rules.specs.Refused.{Cause, because, Refused, past_end, in_counted, in_passed}
use Rattle.jc_rules.specs.WellFormed.{IsChainedList}
use Rattle.jc_rules.specs.Table.{cursor, IsEmptyIds}
use Rattle.jc_rules.specs.Trace.{Rows, pushed, one_deeper, at_depth}
use Rattle.std.specs.declared.cmp.Ordering.TheVariants.{Equal, Greater}
use Rattle.jc_rules.proofs.IdsLemmas.{equal_itself}
use Rattle.jc_rules.proofs.DerivesLemmas.{by_axiom, one_premise}
use Rattle.jc_tree.specs.Tree.{or_no_entries, has_ids}
use Rattle.jc_tree.proofs.ChainedLeadsLemmas.{Leads, leads_from, leads_on, steps}
use Rattle.jc_tree.specs.Blocks.{IsAtMost, presence_bit}
use Rattle.jc_tree.specs.Stretches.{LeadsOver}
use Rattle.jc_cursor.specs.Along.{rule_of_bit, gone_over, count_bits, GoesOn}
use Rattle.jc_cursor.specs.WayDown.{IsGrown}
use Rattle.jc_cursor.proofs.TraceGrowsLemmas.{grown_below}

-- What the loop along a list keeps, with so many present elements left to pass: what is derived or refused from its key is so from the head.
pub record Along (c : Context) (i : ℕ) (k : Key) (m : ℕ) (t u : Rows) : Type 0 where
  pub leads : (j : Key) (v : Rows) → Derives (SelectIndex c (cursor [] k) m) (ToCursor (cursor [] j)) u v → Derives (SelectIndex c (cursor [] Head) i) (ToCursor (cursor [] j)) t (at_depth t.depth v)
  pub refuses : (why : Cause) → Refused (SelectIndex c (cursor [] k) m) why → Refused (SelectIndex c (cursor [] Head) i) why
  pub grown : IsGrown t u

-- a presence set with an identifier, and one with none
pub has_one : (o : Option (List Id)) → has_ids (or_no_entries o) ≡ true → IsEmptyIds o → ⊥
has_one None e h = let f : false ≡ true = e in cc
has_one (Some []) e h = let f : false ≡ true = e in cc
has_one (Some (i ∷ is)) e h = h

pub has_none : (o : Option (List Id)) → has_ids (or_no_entries o) ≡ false → IsEmptyIds o
has_none None e = tt
has_none (Some []) e = tt
has_none (Some (i ∷ is)) e = let f : true ≡ false = e in cc

-- the key that follows is nearer to the end
pub nearer : (c : Context) (k j : Key) (i : Id) → (next k c ≡ Some (To i) → IsChainedList c) → next k c ≡ Some (To i) → j ≡ Elem i → steps (Some j) (length (links c)) c < steps (Some k) (length (links c)) c
nearer c k j i h e je = rw je ((leads_on c k (To i) (leads_from c k (To i) (h e) e) e).1)

a_suc : (m : ℕ) → 0 < m → m ≡ suc (m - 1)
a_suc m h = omega (arith, h)

-- past an element that is present
pub along_counted : (c : Context) (i : ℕ) (k j : Key) (m n : ℕ) (d : Id) (t u v : Rows) → 0 < m → n ≡ m - 1 → next k c ≡ Some (To d) → j ≡ Elem d → (IsEmptyIds (presence j c) → ⊥) → v ≡ one_deeper (pushed u R.Idx3) → Along c i k m t u → Along c i j n t v
along_counted c i k j m n d t u v h ne e je p ve w =
    let q : IsEmptyIds (presence (Elem d) c) → ⊥ = subst (λ (y : Key). IsEmptyIds (presence y c) → ⊥) je p in
    let w2 : Along c i k (suc (m - 1)) t u = subst (λ (y : ℕ). Along c i k y t u) (a_suc m h) w in
    rw (je, ne, ve) (record {
      leads = λ y z x. w2.leads y (at_depth u.depth z) (one_premise R.Idx3 (SelectIndex c (cursor [] k) (suc (m - 1))) _ _ _ u z x (d, cursor [] y, refl, e, q, refl, refl));
      refuses = λ why x. w2.refuses why (in_counted refl e q x);
      grown = grown_below t u (one_deeper (pushed u R.Idx3)) R.Idx3 w.grown refl;
    })

-- past one that is not
pub along_passed : (c : Context) (i : ℕ) (k j : Key) (m : ℕ) (d : Id) (t u v : Rows) → 0 < m → next k c ≡ Some (To d) → j ≡ Elem d → IsEmptyIds (presence j c) → v ≡ one_deeper (pushed u R.Idx4) → Along c i k m t u → Along c i j m t v
along_passed c i k j m d t u v h e je p ve w =
    let q : IsEmptyIds (presence (Elem d) c) = subst (λ (y : Key). IsEmptyIds (presence y c)) je p in
    let w2 : Along c i k (suc (m - 1)) t u = subst (λ (y : ℕ). Along c i k y t u) (a_suc m h) w in
    let on : Along c i (Elem d) (suc (m - 1)) t (one_deeper (pushed u R.Idx4)) = record {
      leads = λ y z x. w2.leads y (at_depth u.depth z) (one_premise R.Idx4 (SelectIndex c (cursor [] k) (suc (m - 1))) _ _ _ u z x (d, cursor [] y, refl, e, q, refl, refl));
      refuses = λ why x. w2.refuses why (in_passed refl e q x);
      grown = grown_below t u (one_deeper (pushed u R.Idx4)) R.Idx4 w.grown refl;
    } in
    rw (je, ve) (subst (λ (y : ℕ). Along c i (Elem d) y t (one_deeper (pushed u R.Idx4))) (sym (a_suc m h)) on)

-- where the list ends
pub along_past_end : (c : Context) (i : ℕ) (k : Key) (m : ℕ) (t u : Rows) → 0 < m → ((d : Id) → next k c ≢ Some (To d)) → Along c i k m t u → Refused (SelectIndex c (cursor [] Head) i) (because F.PastEnd)
along_past_end c i k m t u h e w =
    w.refuses (because F.PastEnd) (subst (λ (y : ℕ). Refused (SelectIndex c (cursor [] k) y) (because F.PastEnd)) (sym (a_suc m h)) (past_end refl e))

pub past_refused : (c : Context) (i : ℕ) (k : Key) (m : ℕ) (t u : Rows) (o : Option Cause) → 0 < m → Along c i k m t u → IfSome o (λ why. (why ≡ because F.PastEnd) × ((d : Id) → next k c ≢ Some (To d))) → IfSome o (λ why. Refused (SelectIndex c (cursor [] Head) i) why)
past_refused c i k m t u None h a e = tt
past_refused c i k m t u (Some why) h a e = subst (λ (w : Cause). Refused (SelectIndex c (cursor [] Head) i) w) (sym e.0) (along_past_end c i k m t u h e.1 a)

-- at the element
pub along_ends : (c : Context) (i : ℕ) (k : Key) (m : ℕ) (t u v : Rows) → m ≤ 0 → Along c i k m t u → v ≡ pushed u R.Idx5 → Derives (SelectIndex c (cursor [] Head) i) (ToCursor (cursor [] k)) t (at_depth t.depth v)
along_ends c i k m t u v h a ve =
    let none : m ≡ 0 = omega (arith, h) in
    let a2 : Along c i k 0 t u = subst (λ (y : ℕ). Along c i k y t u) none a in
    rw ve (a2.leads k (pushed u R.Idx5) (by_axiom R.Idx5 (SelectIndex c (cursor [] k) 0) (ToCursor (cursor [] k)) u (refl, refl, refl)))

-- over as many elements as are told at once

presence_one : (i : Id) (c : Context) (bits : ℕ) → has_ids (or_no_entries (presence (Elem i) c)) ≡ true → bits % 2 ≡ presence_bit (Elem i) (presences c) → bits % 2 ≡ 1
presence_one i c bits h e = e ∙ ap (λ b. cond b 1 0) h

presence_none : (i : Id) (c : Context) (bits : ℕ) → has_ids (or_no_entries (presence (Elem i) c)) ≡ false → bits % 2 ≡ presence_bit (Elem i) (presences c) → bits % 2 ≡ 0
presence_none i c bits h e = e ∙ ap (λ b. cond b 1 0) h

pub along_over : (count : ℕ) (c : Context) (i : ℕ) (k j : Key) (bits : ℕ) (least : Id) (m l : ℕ) (t u : Rows) → count ≤ m → m ≡ l + count_bits count bits → LeadsOver c k count bits least j → Along c i k m t u → Along c i j l t (gone_over count bits u)
along_over zero c i k j bits least m l t u w e h a =
    let same : m ≡ l = omega (arith, e) in
    subst (λ (y : ℕ). Along c i j y t u) same (subst (λ (y : Key). Along c i y m t u) h a)
along_over (suc n) c i k j bits least m l t u w e h a =
    go (has_ids (or_no_entries (presence (Elem h.0) c))) refl (λ m2 u2 w2 e2 a2. along_over n c i (Elem h.0) j (bits / 2) least m2 l t u2 w2 e2 h.4 a2)
  where
    some : 0 < m
    some = omega (arith, w)

    go : (b : Bool) → has_ids (or_no_entries (presence (Elem h.0) c)) ≡ b → ((m2 : ℕ) (u2 : Rows) → n ≤ m2 → m2 ≡ l + count_bits n (bits / 2) → Along c i (Elem h.0) m2 t u2 → Along c i j l t (gone_over n (bits / 2) u2)) → Along c i j l t (gone_over n (bits / 2) (one_deeper (pushed u (rule_of_bit (bits % 2)))))
    go true p ih =
        let bit : bits % 2 ≡ 1 = presence_one h.0 c bits p h.2 in
        rw bit (ih (m - 1) (one_deeper (pushed u R.Idx3)) (omega (arith, w)) (omega (arith, e, bit, some)) (along_counted c i k (Elem h.0) m (m - 1) h.0 t u (one_deeper (pushed u R.Idx3)) some refl h.1 refl (has_one (presence (Elem h.0) c) p) refl a))
    go false p ih =
        let bit : bits % 2 ≡ 0 = presence_none h.0 c bits p h.2 in
        rw bit (ih m (one_deeper (pushed u R.Idx4)) (omega (arith, w)) (omega (arith, e, bit)) (along_passed c i k (Elem h.0) m h.0 t u (one_deeper (pushed u R.Idx4)) some h.1 refl (has_none (presence (Elem h.0) c) p) refl a))

no_further : (count : ℕ) (c : Context) (k j : Key) (bits : ℕ) (least : Id) → Leads c (Some k) → LeadsOver c k count bits least j → steps (Some j) (length (links c)) c ≤ steps (Some k) (length (links c)) c
no_further zero c k j bits least w h = subst (λ (y : Key). steps (Some y) (length (links c)) c ≤ steps (Some k) (length (links c)) c) h (omega arith)
no_further (suc n) c k j bits least w h =
    let on = leads_on c k (To h.0) w h.1 in
    omega (arith, on.1, no_further n c (Elem h.0) j (bits / 2) least on.0 h.4)

-- what is behind is nearer to the end
pub nearer_over : (count : ℕ) (c : Context) (k j : Key) (bits : ℕ) (least : Id) → 0 < count → ((x : Next) → next k c ≡ Some x → IsChainedList c) → LeadsOver c k count bits least j → steps (Some j) (length (links c)) c < steps (Some k) (length (links c)) c
nearer_over zero c k j bits least some h over = absurd (omega (arith, some))
nearer_over (suc n) c k j bits least some h over =
    let on = leads_on c k (To over.0) (leads_from c k (To over.0) (h (To over.0) over.1) over.1) over.1 in
    omega (arith, on.1, no_further n c (Elem over.0) j (bits / 2) least on.0 over.4)

-- the walk goes on
pub along_goes_on : (c : Context) (i : ℕ) (k j : Key) (m l : ℕ) (t u v : Rows) → GoesOn c k m j l u v → Along c i k m t u → Along c i j l t v
along_goes_on c i k j m l t u v g a =
    rw g.rows (along_over g.count c i k j g.bits g.least m l t u g.most g.counted g.leads a)

pub nearer_on : (c : Context) (k j : Key) (m l : ℕ) (u v : Rows) → ((x : Next) → next k c ≡ Some x → IsChainedList c) → GoesOn c k m j l u v → steps (Some j) (length (links c)) c < steps (Some k) (length (links c)) c
nearer_on c k j m l u v h g = nearer_over g.count c k j g.bits g.least g.some h g.leads

-- no identifier is below itself
not_below : (i : Id) → IsAtMost i i
not_below i e = let no : Equal ≡ Greater = sym (equal_itself i) ∙ e in cc

-- over one element
bit_is : (present : Bool) → from_bool present % 2 ≡ cond present 1 0
bit_is true = refl
bit_is false = refl

pub one_over : (c : Context) (k : Key) (i : Id) (bits : ℕ) (present : Bool) → next k c ≡ Some (To i) → bits ≡ from_bool present → present ≡ has_ids (or_no_entries (presence (Elem i) c)) → LeadsOver c k 1 bits i (Elem i)
one_over c k i bits present e b p = (i, e, ap (λ n. n % 2) b ∙ bit_is present ∙ ap (λ x. cond x 1 0) p, not_below i, refl)

pub rule_of_zero : (b : ℕ) → b ≡ 0 → R.Idx4 ≡ rule_of_bit b
rule_of_zero b h = sym (ap rule_of_bit h)

pub rule_of_one : (b : ℕ) → b ≢ 0 → R.Idx3 ≡ rule_of_bit b
rule_of_one zero h = absurd (h refl)
rule_of_one (suc b) h = refl
