-- About Clears: clearing along the chain of a list.
use Rattle.std.proofs.Common.{◌≡◌, ◌≢◌, ◌<◌, List, [], length, Option, Some, None, refl, sym, ◌∙◌, ap, subst}
use Rattle.jc_rules.specs.declared.id.Id.{Id}
use Rattle.jc_rules.specs.declared.key.Key.{Key}
use Rattle.jc_rules.specs.declared.key.Key.TheVariants.{Head}
use Rattle.jc_rules.specs.declared.key.Next.{Next}
use Rattle.jc_rules.specs.declared.key.Tagged.{Tagged}
use Rattle.jc_rules.specs.declared.rule.Rule.TheVariants as R
use Rattle.jc_rules.specs.Order.{key_cmp}
use Rattle.jc_rules.specs.Entries.{find}
use Rattle.jc_rules.specs.Ids.{union}
use Rattle.jc_rules.specs.Table.{after}
use Rattle.jc_rules.specs.Context.{links, next}
use Rattle.jc_rules.specs.Derivation.{ClearElem, ClearList}
use Rattle.jc_rules.specs.WellFormed.{IsChainedList}
use Rattle.jc_rules.specs.Trace.{Rows, pushed, one_deeper, at_depth}
use Rattle.jc_tree.specs.Tree.{Tree, HasPlace, here}
use Rattle.jc_clear.specs.Clears.{Clears}
use Rattle.jc_clear.specs.Turns.{Turn}
use Rattle.jc_tree.proofs.ChainedLeadsLemmas.{steps, Leads, leads_whole, leads_on, leads_next}
use Rattle.jc_clear.proofs.BareLemmas.{links-same}
use Rattle.jc_clear.proofs.ClearRulesLemmas.{After}
use Rattle.jc_clear.proofs.ClearsLemmas.{first_turn, next_turn, last_turn, after_turns}

-- what the loop along a list keeps
pub record Along (deps : List Id) (at : List Tagged) (a : Tree) (t : Rows) (b : Tree) (key : Option Key) (ids : List Id) (u : Rows) : Type 0 where
  pub turn : Turn (λ c. ClearList c deps (Some Head)) (λ c. ClearList c deps key) at a t b ids u
  pub leads : Leads (here at a) key

pub first_along : (deps : List Id) (at : List Tagged) (a : Tree) (t : Rows) (ids : List Id) → HasPlace at a → IsChainedList (here at a) → ids ≡ [] → Along deps at a t a (Some Head) ids t
first_along deps at a t ids p h i = record { turn = first_turn _ at a t ids p i; leads = leads_whole (here at a) h }

pub after_along : (deps : List Id) (at : List Tagged) (a : Tree) (t : Rows) (b : Tree) (key : Option Key) (ids : List Id) (u : Rows) → HasPlace at a → Along deps at a t b key ids u → After at a b
after_along deps at a t b key ids u h w = after_turns _ _ at a t b ids u h w.turn

next_was : (deps : List Id) (at : List Tagged) (a : Tree) (t : Rows) (b : Tree) (key : Option Key) (ids : List Id) (u : Rows) (k : Key) → HasPlace at a → Along deps at a t b key ids u → next k (here at b) ≡ next k (here at a)
next_was deps at a t b key ids u k h w =
    ap (find key_cmp k) (links-same (here at b) (here at a) (after_along deps at a t b key ids u h w).same)

pub along_finds : (deps : List Id) (at : List Tagged) (a : Tree) (t : Rows) (b : Tree) (key : Option Key) (k : Key) (ids : List Id) (u : Rows) → HasPlace at a → Along deps at a t b key ids u → key ≡ Some k → next k (here at b) ≢ None
along_finds deps at a t b key k ids u h w f g =
    let l : Leads (here at a) (Some k) = subst (λ (y : Option Key). Leads (here at a) y) f w.leads in
    leads_next (here at a) k l (sym (next_was deps at a t b key ids u k h w) ∙ g)

-- one element further
pub along_on : (deps : List Id) (at : List Tagged) (a : Tree) (t : Rows) (b d : Tree) (key key2 : Option Key) (k : Key) (x : Next) (ids more all : List Id) (u o v : Rows) → HasPlace at a → Along deps at a t b key ids u → key ≡ Some k → next k (here at b) ≡ Some x → Clears (λ c. ClearElem c deps k) at b d more o v → o ≡ one_deeper (pushed u R.ClearList2) → all ≡ union ids more → key2 ≡ after x → Along deps at a t d key2 all v × (steps key2 (length (links (here at a))) (here at a) < steps key (length (links (here at a))) (here at a))
along_on deps at a t b d key key2 k x ids more all u o v h w f now elem oe i g =
    let was : next k (here at a) ≡ Some x = sym (next_was deps at a t b key ids u k h w) ∙ now in
    let turn = subst (λ (y : Option Key). Turn (λ c. ClearList c deps (Some Head)) (λ c. ClearList c deps y) at a t b ids u) f w.turn in
    let on = leads_on (here at a) k x (subst (λ (y : Option Key). Leads (here at a) y) f w.leads) was in
    rw (g, f) (
      record {
        turn = next_turn _ (λ c. ClearList c deps (Some k)) (λ c. ClearList c deps (after x)) R.ClearList2 at a t b d deps k ids more all u o v h turn elem oe i (λ c1 c2 s. (x, c1, more, c2, s, now, refl, refl));
        leads = on.0;
      },
      on.1,
    )

pub last_along : (deps : List Id) (at : List Tagged) (a : Tree) (t : Rows) (b : Tree) (key : Option Key) (ids : List Id) (u v : Rows) → HasPlace at a → Along deps at a t b key ids u → key ≡ None → v ≡ at_depth t.depth (pushed u R.ClearList3) → Clears (λ c. ClearList c deps (Some Head)) at a b ids t v
last_along deps at a t b key ids u v h w f e =
    let turn = subst (λ (y : Option Key). Turn (λ c. ClearList c deps (Some Head)) (λ c. ClearList c deps y) at a t b ids u) f w.turn in
    last_turn _ (λ c. ClearList c deps None) R.ClearList3 at a t b ids u v h turn e (refl, refl)
