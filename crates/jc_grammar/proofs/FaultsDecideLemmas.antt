-- About `Claims`: what decides a language, and how the deciders of parts make that of the whole.
use Rattle.std.proofs.Common.{◌≡◌, ◌⊎◌, inl, inr, Bool, true, false, cond, List, [], ◌∷◌, ◌++◌, Option, Some, None, Result, Ok, Err, refl, sym, ap, ◌∙◌, append_assoc}
use Rattle.std.proofs.lemmas.Bool.{cases_Bool}
use Rattle.std.proofs.lemmas.List.{append-nil}
use Rattle.jc_grammar.specs.Symbols.{Lexeme}
use Rattle.jc_grammar.specs.Classes.{Class}
use Rattle.jc_grammar.specs.Guards.{TextFault, Misfit}
use Rattle.jc_grammar.specs.Grammar.{NoticedFault}
use Rattle.jc_grammar.specs.LookAhead.{begins_with_any}
use Rattle.jc_grammar.specs.TreeReader.{refused_at}
use Rattle.jc_grammar.specs.Faults.{Language, BeginsUnrefused, FitsNoSentence, IsMisfit}
use Rattle.jc_grammar.proofs.LookAheadLemmas.{same_first}

-- what is read of a sentence in which this is refuses
abbrev pub outcome : {T : Type 0} → T → Option NoticedFault → Result T NoticedFault
outcome t None = Ok t
outcome t (Some e) = Err e

abbrev pub TextFunction : Type 0 → Type 0
TextFunction T = List Lexeme → Result T NoticedFault

-- refuses at a lexeme, whatever follows it
pub record RefusesAlways {T : Type 0} (L : Language T) (f : TextFunction T) (ls : List Lexeme) (e : TextFault) : Type 0 where
  pub before : List Lexeme
  pub next : Lexeme
  pub after : List Lexeme
  pub parts : ls ≡ before ++ next ∷ after
  pub within : BeginsUnrefused L before
  pub tree : T
  pub more : List Lexeme
  pub spelled : L tree (Some (record { fault = e; rest = next ∷ more })) (before ++ next ∷ more)
  pub always : (y : List Lexeme) → f (before ++ next ∷ y) ≡ refused_at e (next ∷ y)

pub record Decides {T : Type 0} (L : Language T) (misfit : Misfit) (f : TextFunction T) : Type 0 where
  pub ok : (ls : List Lexeme) (t : T) → f ls ≡ Ok t → L t None ls
  pub again : (t : T) (v : Option NoticedFault) (ls : List Lexeme) → L t v ls → f ls ≡ outcome t v
  pub err : (ls : List Lexeme) (e : NoticedFault) → f ls ≡ Err e → IsMisfit L misfit ls e.fault ⊎ RefusesAlways L f ls e.fault

-- ---- the same language and function, told otherwise

abbrev pub Within : {T : Type 0} → Language T → Language T → Type 0
Within {T} L M = (t : T) (v : Option NoticedFault) (w : List Lexeme) → L t v w → M t v w

pub clear_within : {T : Type 0} {L M : Language T} → Within L M → (w : List Lexeme) → BeginsUnrefused L w → BeginsUnrefused M w
clear_within give w b = record { tree = b.tree; refused = b.refused; more = b.more; spelled = give b.tree b.refused (w ++ b.more) b.spelled; clear = b.clear }

unfit_within : {T : Type 0} {L M : Language T} → Within M L → (before after : List Lexeme) → FitsNoSentence L before after → FitsNoSentence M before after
unfit_within back before [] unfit = λ t v m. unfit t v (back t v before m)
unfit_within back before (x ∷ after) unfit = λ (t, v, more, m). unfit (t, v, more, back t v ((before ++ x ∷ []) ++ more) m)

pub decides_same : {T : Type 0} {L M : Language T} {misfit : Misfit} {f : TextFunction T} (h : TextFunction T) → ((ls : List Lexeme) → h ls ≡ f ls) → Within L M → Within M L → Decides L misfit f → Decides M misfit h
decides_same {L} {M} h agree give back D = record {
  ok = λ ls t e. give t None ls (D.ok ls t (sym (agree ls) ∙ e));
  again = λ t v ls m. agree ls ∙ D.again t v ls (back t v ls m);
  err = λ ls e r.
      elim (D.err ls e (sym (agree ls) ∙ r)) [
        | inl s ↦
            inl (record { before = s.before; after = s.after; parts = s.parts; within = clear_within give s.before s.within; unfit = unfit_within {L = L} {M = M} back s.before s.after s.unfit; is = s.is })
        | inr p ↦
            inr (record { before = p.before; next = p.next; after = p.after; parts = p.parts; within = clear_within give p.before p.within; tree = p.tree; more = p.more; spelled = give p.tree (Some (record { fault = e.fault; rest = p.next ∷ p.more })) (p.before ++ p.next ∷ p.more) p.spelled; always = λ y. agree (p.before ++ p.next ∷ y) ∙ p.always y })
      ];
}

-- ---- one of two languages, by the first symbol

abbrev pub Either : {T : Type 0} → Language T → Language T → Language T
Either L M t v w = L t v w ⊎ M t v w

-- each sentence has this answer to the test
abbrev pub AllAnswer : {T : Type 0} → List Class → Bool → Language T → Type 0
AllAnswer {T} cs b L = (t : T) (v : Option NoticedFault) (w : List Lexeme) → L t v w → begins_with_any cs w ≡ b

other_unfit : {T : Type 0} (M : Language T) (cs : List Class) (b c : Bool) → (b ≡ c → ⊥) → AllAnswer cs c M → (before after : List Lexeme) → begins_with_any cs (before ++ after) ≡ b → FitsNoSentence M before after
other_unfit M cs b c differ all before [] test = λ t v m. differ (sym test ∙ ap (begins_with_any cs) (append-nil before) ∙ all t v before m)
other_unfit M cs b c differ all before (x ∷ after) test = λ (t, v, more, m).
    differ (sym test ∙ same_first cs before x after more ∙ ap (begins_with_any cs) (sym (append_assoc before (x ∷ []) more)) ∙ all t v ((before ++ x ∷ []) ++ more) m)

either_unfit : {T : Type 0} (L M : Language T) (before after : List Lexeme) → FitsNoSentence L before after → FitsNoSentence M before after → FitsNoSentence (Either L M) before after
either_unfit L M before [] l m = λ t v h. elim h [ inl a ↦ l t v a | inr b ↦ m t v b ]
either_unfit L M before (x ∷ after) l m = λ (t, v, more, h). elim h [ inl a ↦ l (t, v, more, a) | inr b ↦ m (t, v, more, b) ]

-- what one of two deciders refuses, the choice refuses
chosen_err : {T : Type 0} (L M N : Language T) (cs : List Class) (misfit : Misfit) (b c : Bool) (f h : TextFunction T) (ls : List Lexeme) (e : TextFault) → (b ≡ c → ⊥) → AllAnswer cs c M → Within L N → Within N (Either L M)
    → begins_with_any cs ls ≡ b → ((s : List Lexeme) → begins_with_any cs s ≡ b → h s ≡ f s) → IsMisfit L misfit ls e ⊎ RefusesAlways L f ls e → IsMisfit N misfit ls e ⊎ RefusesAlways N h ls e
chosen_err L M N cs misfit b c f h ls e differ all give back test agree (inl s) =
    let here : begins_with_any cs (s.before ++ s.after) ≡ b = ap (begins_with_any cs) (sym s.parts) ∙ test in
    inl (record { before = s.before; after = s.after; parts = s.parts; within = clear_within give s.before s.within; unfit = unfit_within {L = Either L M} {M = N} back s.before s.after (either_unfit L M s.before s.after s.unfit (other_unfit M cs b c differ all s.before s.after here)); is = s.is })
chosen_err L M N cs misfit b c f h ls e differ all give back test agree (inr p) =
    inr (record {
      before = p.before;
      next = p.next;
      after = p.after;
      parts = p.parts;
      within = clear_within give p.before p.within;
      tree = p.tree;
      more = p.more;
      spelled = give p.tree (Some (record { fault = e; rest = p.next ∷ p.more })) (p.before ++ p.next ∷ p.more) p.spelled;
      always = λ y. agree (p.before ++ p.next ∷ y) (same_first cs p.before p.next y p.after ∙ ap (begins_with_any cs) (sym p.parts) ∙ test) ∙ p.always y;
    })

pub decides_choice : {T : Type 0} {L M : Language T} {misfit : Misfit} {f h : TextFunction T} (cs : List Class) → AllAnswer cs true L → AllAnswer cs false M → Decides L misfit f → Decides M misfit h
    → Decides (Either L M) misfit (λ ls. cond (begins_with_any cs ls) (f ls) (h ls))
decides_choice {L} {M} {misfit} {f} {h} cs first other F H = record {
  ok = λ ls t e.
      elim (cases_Bool (begins_with_any cs ls)) [
        | inl fits ↦ inl (F.ok ls t (rw fits at e))
        | inr not ↦ inr (H.ok ls t (rw not at e))
      ];
  again = λ t v ls l.
      elim l [
        | inl a ↦ rw (first t v ls a) (F.again t v ls a)
        | inr b ↦ rw (other t v ls b) (H.again t v ls b)
      ];
  err = λ ls e r.
      elim (cases_Bool (begins_with_any cs ls)) [
        | inl fits ↦ chosen_err L M (Either L M) cs misfit true false f (λ s. cond (begins_with_any cs s) (f s) (h s)) ls e.fault (λ bad. absurd cc) other (λ t v w l. inl l) (λ t v w l. l) fits (λ s t. rw t refl) (F.err ls e (rw fits at r))
        | inr not ↦ chosen_err M L (Either L M) cs misfit false true h (λ s. cond (begins_with_any cs s) (f s) (h s)) ls e.fault (λ bad. absurd cc) first (λ t v w l. inr l) (λ t v w l. elim l [ inl a ↦ inr a | inr b ↦ inl b ]) not (λ s t. rw t refl) (H.err ls e (rw not at r))
      ];
}
