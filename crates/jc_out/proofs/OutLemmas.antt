-- About Out: texts that an output was given one behind another, and what was written of them. What writes over outputs
-- needs `adds_nothing`, `adds_both`, `adds_same`, `put_adds` and `gave_held`.
use Rattle.std.proofs.Common.{◌≡◌, ℕ, List, [], ◌++◌, Bool, true, false, refl, ap, sym, subst, ◌∙◌, append_assoc, append-nil}
use Rattle.jc_io.specs.Written.{Stream, Wrote, WrotePart}
use Rattle.jc_out.specs.Out.{OutState, GaveBy, GaveText, AddsText}
use Rattle.jc_io.proofs.WrittenLemmas.{wrote_none, wrote_both, part_after, part_of_longer}

-- ---- the composition

-- nothing
pub adds_nothing : (a b : OutState) → b ≡ a → AddsText [] a b
adds_nothing a b same = (
  ap (λ (o : OutState). o.reference) same,
  λ first before h. subst (λ (o : OutState). GaveText (before ++ []) first o) (sym same) (subst (λ t. GaveText t first a) (sym (append-nil before)) h),
)

-- a text, and then another
pub adds_both : (a b c : OutState) (text more : List ℕ) → AddsText text a b → AddsText more b c → AddsText (text ++ more) a c
adds_both a b c text more h k =
    (k.0 ∙ h.0, λ first before gave. subst (λ t. GaveText t first c) (append_assoc before text more) (k.1 first (before ++ text) (h.1 first before gave)))

-- the same text, said otherwise
pub adds_same : (a b : OutState) (text other : List ℕ) → text ≡ other → AddsText text a b → AddsText other a b
adds_same a b text other same h = subst (λ t. AddsText t a b) same h

-- ---- one write

-- What is held was sent, and a text behind it.
sent_more : (text more held : List ℕ) (first a b : Stream) → GaveBy false text held first a → Wrote (held ++ more) a b → GaveBy false (text ++ more) [] first b
sent_more text more held first a b (sent, is, wrote) rest =
    (text ++ more, sym (append-nil (text ++ more)), subst (λ l. Wrote l first b) (sym (ap (λ l. l ++ more) is ∙ append_assoc sent held more)) (wrote_both first a b sent (held ++ more) wrote rest))

-- A write of what is held, and of a text behind it, failed.
cut_more : (text more held : List ℕ) (first a b : Stream) → GaveBy false text held first a → WrotePart (held ++ more) a b → WrotePart (text ++ more) first b
cut_more text more held first a b (sent, is, wrote) part =
    subst (λ l. WrotePart l first b) (sym (ap (λ l. l ++ more) is ∙ append_assoc sent held more)) (part_after first a b sent (held ++ more) wrote part)

-- A text is held behind the others.
held_more : (text more held : List ℕ) (first a : Stream) → GaveBy false text held first a → GaveBy false (text ++ more) (held ++ more) first a
held_more text more held first a (sent, is, wrote) = (sent, ap (λ l. l ++ more) is ∙ append_assoc sent held more, wrote)

-- ---- by what the output says of itself

-- a write of what is held, and of more, went well
pub write_adds : (is_broken : Bool) (more old held : List ℕ) (a b : Stream) → is_broken ≡ false → held ≡ [] → Wrote (old ++ more) a b → (first : Stream) (before : List ℕ) → GaveBy is_broken before old first a → GaveBy is_broken (before ++ more) held first b
write_adds true more old held a b sound none wrote first before h = cc
write_adds false more old held a b sound none wrote first before h = subst (λ l. GaveBy false (before ++ more) l first b) (sym none) (sent_more before more old first a b h wrote)

-- or failed
pub write_breaks : (is_broken : Bool) (more old : List ℕ) (a b : Stream) → is_broken ≡ false → WrotePart (old ++ more) a b → (first : Stream) (before : List ℕ) → GaveBy is_broken before old first a → WrotePart (before ++ more) first b
write_breaks true more old a b sound part first before h = cc
write_breaks false more old a b sound part first before h = cut_more before more old first a b h part

-- what is held is what was held and the text
pub hold_adds : (is_broken : Bool) (text old held : List ℕ) (a : Stream) → is_broken ≡ false → held ≡ old ++ text → (first : Stream) (before : List ℕ) → GaveBy is_broken before old first a → GaveBy is_broken (before ++ text) held first a
hold_adds true text old held a sound is first before h = cc
hold_adds false text old held a sound is first before h = subst (λ l. GaveBy false (before ++ text) l first a) (sym is) (held_more before text old first a h)

-- a text was put behind what is held, broken or not
put_by : (is_broken : Bool) (text old held : List ℕ) (a : Stream) → held ≡ old ++ text → (first : Stream) (before : List ℕ) → GaveBy is_broken before old first a → GaveBy is_broken (before ++ text) held first a
put_by true text old held a is first before h = part_of_longer first a before text h
put_by false text old held a is first before h = hold_adds false text old held a refl is first before h

-- nothing is held where all was sent
empty_by : (is_broken : Bool) (old held : List ℕ) (a : Stream) → (is_broken ≡ false → old ≡ []) → held ≡ [] → (first : Stream) (before : List ℕ) → GaveBy is_broken before old first a → GaveBy is_broken (before ++ []) held first a
empty_by true old held a none is first before h = part_of_longer first a before [] h
empty_by false old held a none is first before h =
    subst (λ t. GaveBy false t held first a) (sym (append-nil before)) (subst (λ l. GaveBy false before l first a) (none refl ∙ sym is) h)

-- what is held is another, and nothing else
module _ (a b : OutState) (reference : b.reference ≡ a.reference) (stream : b.stream ≡ a.stream) (broken : b.is_broken ≡ a.is_broken) where
  gave_there : (text : List ℕ) (first : Stream) → GaveBy a.is_broken text b.held first a.stream → GaveText text first b
  gave_there text first h =
      subst (λ k. GaveBy k text b.held first b.stream) (sym broken) (subst (λ (o : Stream). GaveBy a.is_broken text b.held first o) (sym stream) h)

  pub put_adds : (text : List ℕ) → b.held ≡ a.held ++ text → AddsText text a b
  put_adds text is = (reference, λ first before h. gave_there (before ++ text) first (put_by a.is_broken text a.held b.held a.stream is first before h))

  pub empty_adds : (a.is_broken ≡ false → a.held ≡ []) → b.held ≡ [] → AddsText [] a b
  empty_adds none is = (reference, λ first before h. gave_there (before ++ []) first (empty_by a.is_broken a.held b.held a.stream none is first before h))

-- ---- the beginning and the end

-- an output that isn't broken was given what it holds, since its sink is as it is
held_by : (is_broken : Bool) (held : List ℕ) (now : Stream) → is_broken ≡ false → GaveBy is_broken held held now now
held_by true held now sound = cc
held_by false held now sound = ([], refl, wrote_none now now refl)

pub gave_held : (o : OutState) → o.is_broken ≡ false → GaveText o.held o.stream o
gave_held o sound = held_by o.is_broken o.held o.stream sound

-- An output of which all was sent has written all that it was given.
whole_by : (is_broken : Bool) (text held : List ℕ) (first now : Stream) → is_broken ≡ false → held ≡ [] → GaveBy is_broken text held first now → Wrote text first now
whole_by true text held first now sound none h = cc
whole_by false text held first now sound none (sent, is, wrote) = subst (λ l. Wrote l first now) (sym (is ∙ (ap (λ l. sent ++ l) none ∙ append-nil sent))) wrote

pub gave_whole : (text : List ℕ) (first : Stream) (o : OutState) → o.is_broken ≡ false → o.held ≡ [] → GaveText text first o → Wrote text first o.stream
gave_whole text first o sound none h = whole_by o.is_broken text o.held first o.stream sound none h

-- One of which a write failed has written a part.
part_by : (is_broken : Bool) (text held : List ℕ) (first now : Stream) → is_broken ≡ true → GaveBy is_broken text held first now → WrotePart text first now
part_by false text held first now is h = cc
part_by true text held first now is h = h

pub gave_part : (text : List ℕ) (first : Stream) (o : OutState) → o.is_broken ≡ true → GaveText text first o → WrotePart text first o.stream
gave_part text first o is h = part_by o.is_broken text o.held first o.stream is h
