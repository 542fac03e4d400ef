-- About `Claims`: the fault that is read is a fault of the lexemes, and there is no other.
use Rattle.std.proofs.Common.{◌≡◌, ◌⊎◌, inl, inr, List, [], ◌∷◌, ◌++◌, Option, Some, None, Result, Ok, Err, refl, sym, ap, subst, ◌∙◌, append_assoc, length, ◌≤◌, arith}
use Rattle.std.proofs.lemmas.List.{append-nil, length-append}
use Rattle.jc_grammar.specs.Symbols.{Lexeme}
use Rattle.jc_grammar.specs.Guards.{TextFault, Misfit}
use Rattle.jc_grammar.specs.Grammar.{NoticedFault}
use Rattle.jc_grammar.specs.TreeReader.{refused_at}
use Rattle.jc_grammar.specs.Faults.{Language, BeginsSentence, IsRefusedLater, BeginsUnrefused, FitsNoSentence, IsMisfit, IsGuardFault, IsFaultIn, ReadsFault}
use Rattle.jc_grammar.proofs.FaultsDecideLemmas.{outcome, TextFunction, RefusesAlways, Decides}

-- ---- two ways to part a list

-- the first part ends earlier in the one way than in the other
abbrev Earlier : List Lexeme → List Lexeme → List Lexeme → List Lexeme → Type 0
Earlier a b c d = (x : Lexeme) × (m : List Lexeme) × (c ≡ a ++ x ∷ m) × (b ≡ x ∷ (m ++ d))

abbrev Parted : List Lexeme → List Lexeme → List Lexeme → List Lexeme → Type 0
Parted a b c d = ((a ≡ c) × (b ≡ d)) ⊎ (Earlier a b c d ⊎ Earlier c d a b)

parted_later : (x y : Lexeme) (a b c d : List Lexeme) → x ≡ y → Parted a b c d → Parted (x ∷ a) b (y ∷ c) d
parted_later x y a b c d same (inl (e, f)) = inl (rw (same, e) refl, f)
parted_later x y a b c d same (inr (inl (z, m, e, f))) = inr (inl (z, m, rw (same, e) refl, f))
parted_later x y a b c d same (inr (inr (z, m, e, f))) = inr (inr (z, m, rw (same, e) refl, f))

parted : (a b c d : List Lexeme) → a ++ b ≡ c ++ d → Parted a b c d
parted [] b [] d e = inl (refl, e)
parted [] b (y ∷ c) d e = inr (inl (y, c, refl, e))
parted (x ∷ a) b [] d e = inr (inr (x, a, refl, sym e))
parted (x ∷ a) b (y ∷ c) d e =
    let first : x ≡ y = cc in
    let rest : a ++ b ≡ c ++ d = cc in
    parted_later x y a b c d first (parted a b c d rest)

-- ---- what fits nothing

begins_less : {T : Type 0} (L : Language T) (a b : List Lexeme) → BeginsSentence L (a ++ b) → BeginsSentence L a
begins_less L a b (t, v, more, l) = (t, v, b ++ more, subst (L t v) (append_assoc a b more) l)

pub later_more : (v : Option NoticedFault) (a b : List Lexeme) → IsRefusedLater v b → IsRefusedLater v (a ++ b)
later_more None a b c = tt
later_more (Some e) a b c = rw length-append (omega arith)

within_less : {T : Type 0} (L : Language T) (a b : List Lexeme) → BeginsUnrefused L (a ++ b) → BeginsUnrefused L a
within_less L a b h = record { tree = h.tree; refused = h.refused; more = b ++ h.more; spelled = subst (L h.tree h.refused) (append_assoc a b h.more) h.spelled; clear = later_more h.refused b h.more h.clear }

limits_aside : {T : Type 0} (L : Language T) (w : List Lexeme) → BeginsUnrefused L w → BeginsSentence L w
limits_aside L w h = (h.tree, h.refused, h.more, h.spelled)

-- what fits nothing is not followed
unfit_first : {T : Type 0} (L : Language T) (before after : List Lexeme) (x : Lexeme) (m others : List Lexeme) → after ≡ x ∷ others → FitsNoSentence L before after → BeginsSentence L (before ++ x ∷ m) → ⊥
unfit_first L before after x m others is unfit b =
    let here : FitsNoSentence L before (x ∷ others) = rw is at unfit in
    here (begins_less L (before ++ x ∷ []) m (subst (BeginsSentence L) (sym (append_assoc before (x ∷ []) m)) b))

-- no sentence has in it what fits nothing
misfit_is_none : {T : Type 0} (L : Language T) (before after ls : List Lexeme) (t : T) (v : Option NoticedFault) → ls ≡ before ++ after → FitsNoSentence L before after → L t v ls → ⊥
misfit_is_none L before [] ls t v parts unfit l = unfit t v (subst (L t v) (parts ∙ append-nil before) l)
misfit_is_none L before (x ∷ after) ls t v parts unfit l = unfit (t, v, after, subst (L t v) (parts ∙ sym (append_assoc before (x ∷ []) after)) l)

one_misfit : {T : Type 0} {L : Language T} {misfit : Misfit} {ls : List Lexeme} {e d : TextFault} → IsMisfit L misfit ls e → IsMisfit L misfit ls d → e ≡ d
one_misfit {L} {misfit} {ls} {e} {d} s r = by_parts (parted s.before s.after r.before r.after (sym s.parts ∙ r.parts))
  where
    by_parts : Parted s.before s.after r.before r.after → e ≡ d
    by_parts (inl (a, b)) = s.is ∙ ap misfit b ∙ sym r.is
    by_parts (inr (inl (x, m, a, b))) = absurd (unfit_first L s.before s.after x m (m ++ r.after) b s.unfit (limits_aside L (s.before ++ x ∷ m) (subst (BeginsUnrefused L) a r.within)))
    by_parts (inr (inr (x, m, a, b))) = absurd (unfit_first L r.before r.after x m (m ++ s.after) b r.unfit (limits_aside L (r.before ++ x ∷ m) (subst (BeginsUnrefused L) a s.within)))

-- what fits nothing and what is past a limit do not stand in one text
misfit_or_guard_fault : {T : Type 0} {L : Language T} {misfit : Misfit} {ls : List Lexeme} {e d : TextFault} → IsMisfit L misfit ls e → IsGuardFault L ls d → ⊥
misfit_or_guard_fault {L} s p = by_parts (parted s.before s.after p.before (p.next ∷ p.after) (sym s.parts ∙ p.parts))
  where
    fits_here : BeginsSentence L (p.before ++ p.next ∷ p.more)
    fits_here = (p.tree, Some _, [], subst (L p.tree (Some _)) (sym (append-nil (p.before ++ p.next ∷ p.more))) p.spelled)

    by_parts : Parted s.before s.after p.before (p.next ∷ p.after) → ⊥
    by_parts (inl (a, b)) = unfit_first L s.before s.after p.next p.more p.after b s.unfit (rw a fits_here)
    by_parts (inr (inl (x, m, a, b))) = unfit_first L s.before s.after x m (m ++ p.next ∷ p.after) b s.unfit (limits_aside L (s.before ++ x ∷ m) (subst (BeginsUnrefused L) a p.within))
    by_parts (inr (inr (x, m, a, b))) =
        let same : p.next ≡ x = cc in
        p.without (within_less L (p.before ++ p.next ∷ []) m (subst (BeginsUnrefused L) (a ∙ ap (λ (y : Lexeme). p.before ++ y ∷ m) (sym same) ∙ sym (append_assoc p.before (p.next ∷ []) m)) s.within))

-- two guards stand at one place
same_next : {T : Type 0} {L : Language T} {ls : List Lexeme} {e d : TextFault} (p : IsGuardFault L ls e) (q : IsGuardFault L ls d) → (p.before ≡ q.before) × (p.next ≡ q.next)
same_next {L} p q = by_parts (parted p.before (p.next ∷ p.after) q.before (q.next ∷ q.after) (sym p.parts ∙ q.parts))
  where
    by_parts : Parted p.before (p.next ∷ p.after) q.before (q.next ∷ q.after) → (p.before ≡ q.before) × (p.next ≡ q.next)
    by_parts (inl (a, b)) = (a, cc)
    by_parts (inr (inl (x, m, a, b))) =
        let same : p.next ≡ x = cc in
        absurd (p.without (within_less L (p.before ++ p.next ∷ []) m (subst (BeginsUnrefused L) (a ∙ ap (λ (y : Lexeme). p.before ++ y ∷ m) (sym same) ∙ sym (append_assoc p.before (p.next ∷ []) m)) q.within)))
    by_parts (inr (inr (x, m, a, b))) =
        let same : q.next ≡ x = cc in
        absurd (q.without (within_less L (q.before ++ q.next ∷ []) m (subst (BeginsUnrefused L) (a ∙ ap (λ (y : Lexeme). q.before ++ y ∷ m) (sym same) ∙ sym (append_assoc q.before (q.next ∷ []) m)) p.within)))

-- ---- what a decider refuses

abbrev tree_as : {T : Type 0} → T → Result T NoticedFault
tree_as t = Ok t

pub not_clear : {T : Type 0} (t : T) (v : Option NoticedFault) (e : TextFault) (x : Lexeme) (more : List Lexeme) → outcome t v ≡ refused_at e (x ∷ more) → IsRefusedLater v more → ⊥
not_clear t None e x more same clear = absurd cc
not_clear t (Some d) e x more same clear =
    let is : d ≡ record { fault = e; rest = x ∷ more } = cc in
    let long : length (x ∷ more) ≤ length more = subst (λ (q : NoticedFault). length q.rest ≤ length more) is clear in
    omega arith

abbrev pub guard_fault_of : {T : Type 0} {L : Language T} {misfit : Misfit} {f : TextFunction T} → Decides L misfit f → (ls : List Lexeme) (e : TextFault) → RefusesAlways L f ls e → IsGuardFault L ls e
guard_fault_of {T} {L} {misfit} {f} D ls e p = record {
  before = p.before;
  next = p.next;
  after = p.after;
  parts = p.parts;
  within = p.within;
  without = λ h.
      not_clear h.tree h.refused e p.next h.more
      (sym (D.again h.tree h.refused (p.before ++ p.next ∷ h.more) (subst (L h.tree h.refused) (append_assoc p.before (p.next ∷ []) h.more) h.spelled)) ∙ p.always h.more)
      h.clear;
  tree = p.tree;
  more = p.more;
  spelled = p.spelled;
}

pub refused_so : {T : Type 0} {L : Language T} {misfit : Misfit} {f : TextFunction T} → Decides L misfit f → (ls : List Lexeme) (e : TextFault) → ReadsFault (f ls) e → IsFaultIn L misfit ls e
refused_so D ls e (rest, r) =
    elim (D.err ls (record { fault = e; rest = rest }) r) [
      | inl s ↦ inl s
      | inr p ↦ inr (guard_fault_of D ls e p)
    ]

told_so : {T : Type 0} (r : Result T NoticedFault) (d : NoticedFault) (e : TextFault) → r ≡ Err d → d.fault ≡ e → ReadsFault r e
told_so r d e read same = (d.rest, read ∙ ap (λ (x : TextFault). refused_at x d.rest) same)

same_fault : {T : Type 0} (d e : TextFault) (ls : List Lexeme) → refused_at {A = T} d ls ≡ refused_at e ls → d ≡ e
same_fault d e ls h = let both : record { fault = d; rest = ls } ≡ stop_of e ls = cc in ap (λ (s : NoticedFault). s.fault) both
  where
    stop_of : TextFault → List Lexeme → NoticedFault
    stop_of x ls = record { fault = x; rest = ls }

pub fault_refused : {T : Type 0} {L : Language T} {misfit : Misfit} {f : TextFunction T} → Decides L misfit f → (ls : List Lexeme) (e : TextFault) → IsFaultIn L misfit ls e → ReadsFault (f ls) e
fault_refused {T} {L} {misfit} {f} D ls e fault = by_result (f ls) refl fault
  where
    by_result : (r : Result T NoticedFault) → f ls ≡ r → IsFaultIn L misfit ls e → ReadsFault (f ls) e
    by_result (Ok t) read (inl s) = absurd (misfit_is_none L s.before s.after ls t None s.parts s.unfit (D.ok ls t read))
    by_result (Ok t) read (inr p) = absurd (p.without (record { tree = t; refused = None; more = p.after; spelled = subst (L t None) (p.parts ∙ sym (append_assoc p.before (p.next ∷ []) p.after)) (D.ok ls t read); clear = tt }))
    by_result (Err d) read (inl s) =
        elim (D.err ls d read) [
          | inl own ↦ told_so (f ls) d e read (one_misfit own s)
          | inr own ↦ absurd (misfit_or_guard_fault s (guard_fault_of D ls d.fault own))
        ]
    by_result (Err d) read (inr p) =
        elim (D.err ls d read) [
          | inl own ↦ absurd (misfit_or_guard_fault own p)
          | inr own ↦
              let (a, b) = same_next (guard_fault_of D ls d.fault own) p in
              let mine : f (p.before ++ p.next ∷ p.more) ≡ refused_at d.fault (p.next ∷ p.more) = subst (λ (l : List Lexeme). f (l ++ p.next ∷ p.more) ≡ refused_at d.fault (p.next ∷ p.more)) a (subst (λ (x : Lexeme). f (own.before ++ x ∷ p.more) ≡ refused_at d.fault (x ∷ p.more)) b (own.always p.more)) in
              let theirs : f (p.before ++ p.next ∷ p.more) ≡ refused_at e (p.next ∷ p.more) = D.again p.tree (Some (record { fault = e; rest = p.next ∷ p.more })) (p.before ++ p.next ∷ p.more) p.spelled in
              told_so (f ls) d e read (same_fault d.fault e (p.next ∷ p.more) (sym mine ∙ theirs))
        ]
