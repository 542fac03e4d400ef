-- About Fits: the last rule of an answer, and the contexts that are answered for children.
use Rattle.std.proofs.Common.{◌≡◌, Some, sym, ◌∙◌, ap, subst}
use Rattle.jc_rules.specs.declared.key.Tagged.{Tagged}
use Rattle.jc_rules.specs.declared.key.Tagged.TheVariants.{MapT, ListT, RegT}
use Rattle.jc_rules.specs.declared.rule.Rule.{Rule}
use Rattle.jc_rules.specs.declared.rule.Rule.TheVariants as R
use Rattle.jc_rules.specs.Context.{Context, Content, Node, content, new_content}
use Rattle.jc_rules.specs.ContextsAt.{node_in}
use Rattle.jc_rules.specs.Derivation.{Question, Child, Answer, ToContent, Judgement, gives, Derivation, derive, Premises, conclusion, conclusions}
use Rattle.jc_rules.specs.Table.{Follows, Holds, AllHold}
use Rattle.jc_rules.specs.Refused.{IsAnswered}
use Rattle.jc_apply.specs.Fits.{content_or_new, child_context}
use Rattle.std.proofs.Common.{List}

-- the last rule of an answer, with its premises
pub last_rule : (q : Question) (a : Answer) (P : Type 0) → IsAnswered q a → ((r : Rule) (ps : Premises) → Follows r q a (conclusions ps) → AllHold ps → P) → P
last_rule q a P s f = go s.derivation s.holds s.concludes
  where
    go : (d : Derivation) → Holds d → conclusion d ≡ gives q a → P
    go (derive r j ps) h is =
        let h2 = subst (λ (i : Judgement). Holds (derive r i ps)) is h in
        f r ps h2.0 h2.1

-- what is answered for a child, is there or new
pub child_is : (t : Tagged) (c d : Context) → IsAnswered (Child c t) (ToContent (Node d)) → child_context t c ≡ Some d
child_is t c d a = last_rule (Child c t) (ToContent (Node d)) _ a (λ r ps f h. ap (λ (x : Content). node_in (Some x)) (sym (follows r t (Node d) (conclusions ps) f)))
  where
    follows : (r : Rule) (t : Tagged) (x : Content) (js : List Judgement) → Follows r (Child c t) (ToContent x) js → x ≡ content_or_new t (content t c)
    follows R.ChildGet t x js (y, there, _, is) = let same : x ≡ y = cc in same ∙ ap (content_or_new t) (sym there)
    follows R.ChildMap (MapT k) x js (absent, _, is) = let same : x ≡ new_content (MapT k) = cc in same ∙ ap (content_or_new (MapT k)) (sym absent)
    follows R.ChildList (ListT k) x js (absent, _, is) = let same : x ≡ new_content (ListT k) = cc in same ∙ ap (content_or_new (ListT k)) (sym absent)
    follows R.ChildReg (RegT k) x js (absent, _, is) = let same : x ≡ new_content (RegT k) = cc in same ∙ ap (content_or_new (RegT k)) (sym absent)
    follows _ t x js h = absurd h
