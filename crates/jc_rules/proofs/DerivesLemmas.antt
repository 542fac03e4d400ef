-- About specs/Derives: a rule above the derivations of its premises, and the rows that the trace gets.
use Rattle.std.proofs.Common.{◌≡◌, List, [], ◌∷◌, ◌++◌, refl, sym, ◌∙◌, subst, append_assoc, append-nil}
use Rattle.jc_rules.specs.declared.rule.Rule.{Rule}
use Rattle.jc_rules.specs.Derivation.{Question, Answer, Judgement, gives, derive, Premises, none, premise, conclusions, traces}
use Rattle.jc_rules.specs.Table.{Follows, AllHold}
use Rattle.jc_rules.specs.Derives.{Derives}
use Rattle.jc_rules.specs.Trace.{Rows, pushed, one_deeper, at_depth, IsLonger}

-- derivations of premises, one after another
pub record DeriveAll (js : List Judgement) (t u : Rows) : Type 0 where
  pub premises : Premises
  pub hold : AllHold premises
  pub conclude : conclusions premises ≡ js
  pub rows : u.rows ≡ t.rows ++ traces t.depth premises
  pub depth : u.depth ≡ t.depth

pub no_more : (t : Rows) → DeriveAll [] t t
no_more t = record { premises = none; hold = tt; conclude = refl; rows = rw (append-nil t.rows) refl; depth = refl }

pub one_more : (q : Question) (a : Answer) (js : List Judgement) (t u v : Rows) → Derives q a t u → DeriveAll js u v → DeriveAll (gives q a ∷ js) t v
one_more q a js t u v d ps =
    record {
      premises = premise d.derivation ps.premises;
      hold = (d.holds, ps.hold);
      conclude = rw (d.concludes, ps.conclude) refl;
      rows = rw (ps.rows, d.rows, d.depth, append_assoc) refl;
      depth = ps.depth ∙ d.depth;
    }

-- the trace ends at the depth where it began
pub by_rule : (r : Rule) (q : Question) (a : Answer) (js : List Judgement) (t u : Rows) → DeriveAll js (one_deeper (pushed t r)) u → Follows r q a js → Derives q a t (at_depth t.depth u)
by_rule r q a js t u ps h =
    record {
      derivation = derive r (gives q a) ps.premises;
      holds = (subst (Follows r q a) (sym ps.conclude) h, ps.hold);
      concludes = refl;
      rows = rw (ps.rows, append_assoc) refl;
      depth = refl;
    }

pub by_axiom : (r : Rule) (q : Question) (a : Answer) (t : Rows) → Follows r q a [] → Derives q a t (pushed t r)
by_axiom r q a t h = record { derivation = derive r (gives q a) none; holds = (h, tt); concludes = refl; rows = refl; depth = refl }

pub one_premise : (r : Rule) (q : Question) (a : Answer) (q1 : Question) (a1 : Answer) (t u : Rows) → Derives q1 a1 (one_deeper (pushed t r)) u → Follows r q a (gives q1 a1 ∷ []) → Derives q a t (at_depth t.depth u)
one_premise r q a q1 a1 t u d h = by_rule r q a _ t u (one_more _ _ _ _ _ _ d (no_more _)) h

pub two_premises : (r : Rule) (q : Question) (a : Answer) (q1 : Question) (a1 : Answer) (q2 : Question) (a2 : Answer) (t u v : Rows) → Derives q1 a1 (one_deeper (pushed t r)) u → Derives q2 a2 u v → Follows r q a (gives q1 a1 ∷ gives q2 a2 ∷ []) → Derives q a t (at_depth t.depth v)
two_premises r q a q1 a1 q2 a2 t u v d e h = by_rule r q a _ t v (one_more _ _ _ _ _ _ d (one_more _ _ _ _ _ _ e (no_more _))) h

pub three_premises : (r : Rule) (q : Question) (a : Answer) (q1 : Question) (a1 : Answer) (q2 : Question) (a2 : Answer) (q3 : Question) (a3 : Answer) (t u v w : Rows) → Derives q1 a1 (one_deeper (pushed t r)) u → Derives q2 a2 u v → Derives q3 a3 v w → Follows r q a (gives q1 a1 ∷ gives q2 a2 ∷ gives q3 a3 ∷ []) → Derives q a t (at_depth t.depth w)
three_premises r q a q1 a1 q2 a2 q3 a3 t u v w d e f h = by_rule r q a _ t w (one_more _ _ _ _ _ _ d (one_more _ _ _ _ _ _ e (one_more _ _ _ _ _ _ f (no_more _)))) h

-- traces only grow
pub same_rows : (t : Rows) → IsLonger t t
same_rows t = record { added = []; is = sym (append-nil t.rows) }

pub longer_still : (t u v : Rows) → IsLonger t u → IsLonger u v → IsLonger t v
longer_still t u v h k = record { added = h.added ++ k.added; is = rw (k.is, h.is) (append_assoc t.rows h.added k.added) }
