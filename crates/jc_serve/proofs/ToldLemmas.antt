-- Of `Answers`: breakpoints as they are told, and lists of them.
use Rattle.std.proofs.Common.{◌≡◌, ℕ, suc, ◌+◌, ◌<◌, List, [], ◌∷◌, ◌++◌, length, map, take, get_or, Option, Some, None, option_map, sym, ap, subst, ◌∙◌, arith, append-nil}
use Rattle.std.proofs.lemmas.List.{map_more, length-map, length-take-le}
use Rattle.jc_answers.specs.declared.arrays.ArrayText.{ArrayText}
use Rattle.jc_answers.specs.declared.objects.Member.{Member}
use Rattle.jc_answers.specs.JsonTexts.{NamedText, object_text}
use Rattle.jc_answers.specs.Parts.{HasItems, member_of, members_of}
use Rattle.jc_serve.specs.declared.marks.Mark.{Mark as AnyMark}
use Rattle.jc_serve.specs.Answers.{mark_members, mark_answers}
use Rattle.jc_serve.specs.InMemory.{mark_of, marks_of}
use Rattle.jc_serve.specs.Marks.{Mark}

-- ---- members

pub one_member : (p : Member) (a : NamedText) → member_of p ≡ a ∷ [] → members_of (p ∷ []) ≡ a ∷ []
one_member p a x = λ i. x i ++ []

pub members_and_more : (p q r s t : Member) (a b c d : NamedText) → member_of p ≡ a ∷ [] → member_of q ≡ b ∷ [] → member_of r ≡ c ∷ [] → member_of s ≡ d ∷ [] → members_of (p ∷ q ∷ r ∷ s ∷ t ∷ []) ≡ a ∷ b ∷ c ∷ d ∷ member_of t
members_and_more p q r s t a b c d x y z w = (λ i. x i ++ (y i ++ (z i ++ (w i ++ (member_of t ++ []))))) ∙ ap (λ more. a ∷ b ∷ c ∷ d ∷ more) (append-nil (member_of t))

-- ---- lists of breakpoints

module _ (names : List (List ℕ)) where
  answers_more : (k : ℕ) (marks : List (Option Mark)) (m : Option Mark) → mark_answers names k (marks ++ m ∷ []) ≡ mark_answers names k marks ++ mark_answers names (k + length marks) (m ∷ [])
  answers_more k [] m = let number : k ≡ k + 0 = omega arith in ap (λ n. mark_answers names n (m ∷ [])) number
  answers_more k (None ∷ marks) m =
      let number : suc k + length marks ≡ k + suc (length marks) = omega arith in
      answers_more (suc k) marks m ∙ ap (λ n. mark_answers names (suc k) marks ++ mark_answers names n (m ∷ [])) number
  answers_more k (Some b ∷ marks) m =
      let number : suc k + length marks ≡ k + suc (length marks) = omega arith in
      ap (λ ts. object_text (mark_members names k b) ∷ ts)
      (answers_more (suc k) marks m ∙ ap (λ n. mark_answers names (suc k) marks ++ mark_answers names n (m ∷ [])) number)

  pub more_marks : (marks : List (Option AnyMark)) (i number : ℕ) (d : Option AnyMark) (m : Option Mark) (a : ArrayText)
      → i < length marks
      → number ≡ i + 1
      → m ≡ option_map mark_of (get_or marks i d)
      → HasItems a (mark_answers names 1 (marks_of (take i marks)) ++ mark_answers names number (m ∷ []))
      → HasItems a (mark_answers names 1 (marks_of (take (i + 1) marks)))
  more_marks marks i number d m a lt numbered same h =
      let f : Option AnyMark → Option Mark = option_map mark_of in
      let many : length (map f (take i marks)) ≡ i = length-map (take i marks) f ∙ length-take-le i marks (omega (arith, lt)) in
      let next : number ≡ 1 + length (map f (take i marks)) = omega (arith, numbered, many) in
      let step : mark_answers names 1 (map f (take i marks)) ++ mark_answers names number (m ∷ []) ≡ mark_answers names 1 (map f (take (i + 1) marks)) =
      (λ j. mark_answers names 1 (map f (take i marks)) ++ mark_answers names (next j) (same j ∷ []))
      ∙ sym (answers_more 1 (map f (take i marks)) (f (get_or marks i d)))
      ∙ ap (mark_answers names 1) (sym (map_more f marks i d lt)) in
      subst (λ ts. HasItems a ts) step h
