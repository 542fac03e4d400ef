-- About Parts: the texts of keys, written one behind the other and then cut.
use Rattle.std.proofs.Common.{◌≡◌, ℕ, ◌+◌, ◌<◌, List, [], ◌∷◌, ◌++◌, map, length, take, drop, Bor, get_or, length-append, append_assoc, sym, ap, ◌∙◌, subst, arith}
use Rattle.std.specs.List.{flat_map}
use Rattle.std.specs.Str.{IsUtf8, IsCharBoundary}
use Rattle.std.proofs.Math.Seq.{get_or-append_seam, take-append_seam, drop-append_seam}
use Rattle.std.proofs.lemmas.List.{map-append, length-map, get_or-map, flat_map_more}
use Rattle.std.proofs.lemmas.Str.{IsUtf8-drop, IsCharBoundary-after_ascii}
use Rattle.jc_rules.specs.declared.key.Key.{Key}
use Rattle.jc_tree.specs.Tree.{keys_lent}
use Rattle.jc_json.specs.Json.{key_text, closed_text}
use Rattle.jc_json.specs.Parts.{AreJoined}

module _ (names : List (List ℕ)) where
  pub joined_begins : (all lens : List ℕ) → all ≡ [] → lens ≡ [] → AreJoined names [] all lens
  joined_begins all lens a l = record { texts = a; each = l }

  pub joined_goes_on : (ks : List Key) (k : Key) (all new lens : List ℕ) (n : ℕ) → new ≡ all ++ closed_text names k → n ≡ length (closed_text names k) → AreJoined names ks all lens → AreJoined names (ks ++ k ∷ []) new (lens ++ n ∷ [])
  joined_goes_on ks k all new lens n w l j = record {
    texts = w ∙ ap (λ bs. bs ++ closed_text names k) j.texts ∙ flat_map_more (closed_text names) [] ks k;
    each = ap (λ ns. ns ++ n ∷ []) j.each ∙ ap (λ m. map (λ k. length (closed_text names k)) ks ++ m ∷ []) l ∙ sym (map-append (λ k. length (closed_text names k)) ks (k ∷ []));
  }

  -- the same texts, where each list is read by two names
  pub same_joined : {X : Type 0} {items keys lent : List (Bor Key × X)} {bytes all ns lens : List ℕ} → keys ≡ items → lent ≡ items → all ≡ bytes → lens ≡ ns → AreJoined names (keys_lent keys) bytes ns → AreJoined names (keys_lent lent) all lens
  same_joined k l a n j = record {
    texts = a ∙ j.texts ∙ ap (λ ks. flat_map (closed_text names) (keys_lent ks)) (k ∙ sym l);
    each = n ∙ j.each ∙ ap (λ ks. map (λ k. length (closed_text names k)) (keys_lent ks)) (k ∙ sym l);
  }

  -- the length that stands beside a key
  pub len_at : {X : Type 0} (lent : List (Bor Key × X)) (lens all : List ℕ) (i : ℕ) (l : Bor Key × X) → AreJoined names (keys_lent lent) all lens → i < length lent → l ≡ get_or lent i l → get_or lens i 0 ≡ length (closed_text names l.0.now)
  len_at lent lens all i l j h is =
      let long : i < length (keys_lent lent) = subst (λ m. i < m) (sym (length-map lent (λ l. l.0.now))) h in
      ap (λ ns. get_or ns i 0) j.each
      ∙ get_or-map (λ k. length (closed_text names k)) (keys_lent lent) i l.0.now 0 long
      ∙ ap (λ k. length (closed_text names k)) (get_or-map (λ l. l.0.now) lent i l l.0.now h ∙ ap (λ l. l.0.now) (sym is))

  -- the texts from a key on fall into the key's own and the others
  module _ (k : Key) (ks : List Key) (rest : List ℕ) (n : ℕ) (is : rest ≡ flat_map (closed_text names) (k ∷ ks)) (long : n ≡ length (closed_text names k)) where
    pub first_text : take n rest ≡ closed_text names k
    first_text = ap (λ m. take m rest) long ∙ ap (take (length (closed_text names k))) is ∙ take-append_seam (closed_text names k) (flat_map (closed_text names) ks)

    pub other_texts : drop n rest ≡ flat_map (closed_text names) ks
    other_texts = ap (λ m. drop m rest) long ∙ ap (drop (length (closed_text names k))) is ∙ drop-append_seam (closed_text names k) (flat_map (closed_text names) ks)

    -- a bracket is before the cut, so no character is split
    pub cut_between : IsUtf8 rest → IsCharBoundary rest n
    cut_between u =
        let more = flat_map (closed_text names) ks in
        let at : rest ≡ key_text names k ++ 41 ∷ more = is ∙ append_assoc (key_text names k) (41 ∷ []) more in
        let i = length (key_text names k) in
        let bracket : get_or rest i 0 ≡ 41 = ap (λ bs. get_or bs i 0) at ∙ get_or-append_seam (key_text names k) 41 more 0 in
        let within : i < length rest = omega (arith, ap (length {A = ℕ}) at, length-append (key_text names k) (41 ∷ more)) in
        let end : i + 1 ≡ n = omega (arith, long, length-append (key_text names k) (41 ∷ [])) in
        subst (IsCharBoundary rest) end (IsCharBoundary-after_ascii rest i u within (omega (arith, bracket)))

    pub others_utf8 : IsUtf8 rest → IsUtf8 (drop n rest)
    others_utf8 u = IsUtf8-drop rest n u (cut_between u)
