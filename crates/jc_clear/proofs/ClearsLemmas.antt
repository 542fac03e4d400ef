-- About Clears: clearing one key after another; an answer for the rest is one for the whole.
use Rattle.std.proofs.Common.{◌≡◌, List, [], ◌∷◌, refl, sym, ◌∙◌, ap, subst, arith}
use Rattle.jc_rules.specs.declared.id.Id.{Id}
use Rattle.jc_rules.specs.declared.key.Key.{Key}
use Rattle.jc_rules.specs.declared.key.Tagged.{Tagged}
use Rattle.jc_rules.specs.declared.rule.Rule.{Rule}
use Rattle.jc_rules.specs.Ids.{union}
use Rattle.jc_rules.specs.Context.{Context}
use Rattle.jc_rules.specs.Derivation.{Question, gives, ClearElem, Cleared}
use Rattle.jc_rules.specs.Derives.{Derives}
use Rattle.jc_rules.specs.Trace.{Rows, pushed, one_deeper, at_depth}
use Rattle.jc_rules.specs.Table.{Follows}
use Rattle.jc_rules.proofs.IdsLemmas.{union-rises, union-nothing, nothing-union}
use Rattle.jc_rules.proofs.ContextsAtLemmas.{there, with_node-same}
use Rattle.jc_rules.proofs.DerivesLemmas.{by_axiom, two_premises}
use Rattle.jc_tree.specs.Tree.{Tree, HasPlace, here}
use Rattle.jc_clear.specs.Bare.{bare}
use Rattle.jc_clear.specs.Clears.{Clears}
use Rattle.jc_clear.specs.Turns.{Turn}
use Rattle.jc_tree.proofs.PlacesLemmas.{then_here, then_now}
use Rattle.jc_clear.proofs.ClearRulesLemmas.{After, after_change}
use Rattle.jc_clear.proofs.UnionLemmas.{union-union}

pub first_turn : (whole : Context → Question) (at : List Tagged) (a : Tree) (t : Rows) (ids : List Id) → HasPlace at a → ids ≡ [] → Turn whole whole at a t a ids t
first_turn whole at a t ids p i =
    rw i (record {
      so_far = here at a;
      now = sym (with_node-same at (here at a) a.now (there at a.now p));
      same = refl;
      rises = tt;
      deeper = omega arith;
      rest = λ d s v r h. rw (nothing-union s r) (record { derivation = h.derivation; holds = h.holds; concludes = h.concludes; rows = h.rows; depth = refl });
    })

-- a key was cleared, which the rule does first and then goes on
pub next_turn : (whole left on : Context → Question) (rule : Rule) (at : List Tagged) (a : Tree) (t : Rows) (b d : Tree) (deps : List Id) (k : Key) (ids more all : List Id) (u o v : Rows) → HasPlace at a → Turn whole left at a t b ids u → Clears (λ c. ClearElem c deps k) at b d more o v → o ≡ one_deeper (pushed u rule) → all ≡ union ids more → ((c1 c2 : Context) (s : List Id) → Follows rule (left (here at b)) (Cleared c2 (union more s)) (gives (ClearElem (here at b) deps k) (Cleared c1 more) ∷ gives (on c1) (Cleared c2 s) ∷ [])) → Turn whole on at a t d all v
next_turn whole left on rule at a t b d deps k ids more all u o v p w x oe i follows =
    let hb : here at b ≡ w.so_far = then_here at _ a b p w.now in
    let elem = subst (λ (r : Rows). Derives (ClearElem (here at b) deps k) (Cleared x.after more) r v) oe x.derives in
    rw i (record {
      so_far = x.after;
      now = then_now at _ _ a b d w.now x.now;
      same = x.same ∙ ap bare hb ∙ w.same;
      rises = union-rises ids more;
      deeper = omega (arith, w.deeper, x.derives.depth, ap (λ (r : Rows). r.depth) oe);
      rest = λ e s z r h.
          let turn = two_premises rule (left (here at b)) (Cleared e (union more s)) _ _ _ _ u v z elem h (follows x.after e s) in
          let turn2 = subst (λ (c : Context). Derives (left c) (Cleared e (union more s)) u (at_depth u.depth z)) hb turn in
          rw (union-union ids more s) (w.rest e (union more s) (at_depth u.depth z) (union-rises more s) turn2);
    })

-- nothing is left
pub last_turn : (whole left : Context → Question) (rule : Rule) (at : List Tagged) (a : Tree) (t : Rows) (b : Tree) (ids : List Id) (u v : Rows) → HasPlace at a → Turn whole left at a t b ids u → v ≡ at_depth t.depth (pushed u rule) → Follows rule (left (here at b)) (Cleared (here at b) []) [] → Clears whole at a b ids t v
last_turn whole left rule at a t b ids u v p w e follows =
    let hb : here at b ≡ w.so_far = then_here at _ a b p w.now in
    let last = subst (λ (c : Context). Derives (left c) (Cleared c []) u (pushed u rule)) hb (by_axiom rule (left (here at b)) (Cleared (here at b) []) u follows) in
    rw e (record {
      after = w.so_far;
      derives = rw (sym (union-nothing ids w.rises)) (w.rest w.so_far [] (pushed u rule) tt last);
      now = w.now;
      same = w.same;
      rises = w.rises;
    })

pub after_turns : (whole left : Context → Question) (at : List Tagged) (a : Tree) (t : Rows) (b : Tree) (ids : List Id) (u : Rows) → HasPlace at a → Turn whole left at a t b ids u → After at a b
after_turns whole left at a t b ids u h w = after_change at w.so_far a b h w.now w.same
