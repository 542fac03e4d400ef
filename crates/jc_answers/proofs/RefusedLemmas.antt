-- Of `Refusals`: the members of a refusal in memory, and that a text is refused at an offset by one answer.
use Rattle.std.proofs.Common.{◌≡◌, ℕ, List, [], ◌∷◌, ◌++◌, take, codes, Some, inl, inr, ap, sym, subst, ◌∙◌, arith}
use Rattle.jc_rules.specs.declared.refusal.Refusal.{Refusal}
use Rattle.jc_rules.specs.Refusals.{refusal_name, refusal_number}
use Rattle.jc_syntax.specs.Lexemes.{IsTokenEnd}
use Rattle.jc_syntax.proofs.TokenEndsLemmas.{only_end}
use Rattle.jc_answers.specs.declared.objects.Member.{Member}
use Rattle.jc_answers.specs.declared.refusals.Extent.{Extent}
use Rattle.jc_answers.specs.declared.refusals.Extent.TheVariants.{Token, Escape, Character, Byte}
use Rattle.jc_answers.specs.JsonTexts.{NamedText, number_member, string_member}
use Rattle.jc_answers.specs.Parts.{member_of, members_of}
use Rattle.jc_answers.specs.Refusals.{refused_object, line_behind, column_behind, extent_of, EndsWith, EndsAt, placed_members, IsRefusedTextWith, IsRefusedText}

-- ---- members

pub seven_members : (a b m c d e f : Member) (text : List ℕ) (refusal : Refusal) (at stop : ℕ)
    → member_of a ≡ number_member (codes "column") (column_behind (take at text))
    → member_of b ≡ number_member (codes "end") stop
    → member_of c ≡ number_member (codes "line") (line_behind (take at text))
    → member_of d ≡ string_member (codes "name") (refusal_name refusal)
    → member_of e ≡ number_member (codes "number") (refusal_number refusal)
    → member_of f ≡ number_member (codes "offset") at
    → members_of (a ∷ b ∷ m ∷ c ∷ d ∷ e ∷ f ∷ []) ≡ placed_members text refusal at stop (member_of m)
seven_members a b m c d e f text refusal at stop column end line name number offset =
    λ i. column i ++ (end i ++ (member_of m ++ (line i ++ (name i ++ (number i ++ (offset i ++ []))))))

-- ---- ends

one_token_end : (text : List ℕ) (at p q : ℕ) → IsTokenEnd text at p → IsTokenEnd text at q → p ≡ q
one_token_end text at p q a b = only_end (Some q) text at b.kind b.begins b.ends p a

extent_ends : (extent : Extent) (text : List ℕ) (at p q : ℕ) → EndsWith extent text at p → EndsWith extent text at q → p ≡ q
extent_ends Token text at p q (inl a) (inl b) = one_token_end text at p q a b
extent_ends Token text at p q (inl a) (inr b) = absurd (b.0 p a)
extent_ends Token text at p q (inr a) (inl b) = absurd (a.0 q b)
extent_ends Token text at p q (inr a) (inr b) = a.1 ∙ sym b.1
extent_ends Escape text at p q a b = a ∙ sym b
extent_ends Character text at p q a b = a ∙ sym b
extent_ends Byte text at p q a b = a ∙ sym b

one_end : (refusal : Refusal) (text : List ℕ) (at p q : ℕ) → EndsAt refusal text at p → EndsAt refusal text at q → p ≡ q
one_end refusal text at p q (inl a) (inl b) = a.1 ∙ sym b.1
one_end refusal text at p q (inl a) (inr b) = absurd (omega (arith, a.0, b.0))
one_end refusal text at p q (inr a) (inl b) = absurd (omega (arith, a.0, b.0))
one_end refusal text at p q (inr a) (inr b) = extent_ends (extent_of refusal at) text at p q a.1 b.1

-- ---- answers

pub is_refused : (more : List NamedText) (text answer : List ℕ) (refusal : Refusal) (at stop : ℕ) (ms : List Member) → EndsAt refusal text at stop → answer ≡ refused_object (members_of ms) → members_of ms ≡ placed_members text refusal at stop more → IsRefusedTextWith more text refusal at answer
is_refused more text answer refusal at stop ms ends is members = record { stop = stop; ends = ends; is = is ∙ ap refused_object members }

pub one_refused : (more : List NamedText) (text : List ℕ) (refusal : Refusal) (at : ℕ) (answer other : List ℕ) → IsRefusedTextWith more text refusal at answer → IsRefusedTextWith more text refusal at other → other ≡ answer
one_refused more text refusal at answer other a b =
    b.is ∙ ap (λ (n : ℕ). refused_object (placed_members text refusal at n more)) (one_end refusal text at b.stop a.stop b.ends a.ends) ∙ sym a.is

-- a member that isn't there is none more
pub with_none_more : (more : List NamedText) (text : List ℕ) (refusal : Refusal) (at : ℕ) (answer : List ℕ) → more ≡ [] → IsRefusedText text refusal at answer → IsRefusedTextWith more text refusal at answer
with_none_more more text refusal at answer none h = subst (λ (ms : List NamedText). IsRefusedTextWith ms text refusal at answer) (sym none) h
