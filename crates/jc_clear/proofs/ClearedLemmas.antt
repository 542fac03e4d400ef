-- About Cleared: the rules by which a key is cleared once more.
use Rattle.std.proofs.Common.{◌≡◌, List, [], refl}
use Rattle.jc_rules.specs.declared.id.Id.{Id}
use Rattle.jc_rules.specs.declared.key.Key.{Key}
use Rattle.jc_rules.specs.declared.key.Tagged.{Tagged}
use Rattle.jc_rules.specs.declared.key.Tagged.TheVariants.{MapT, ListT}
use Rattle.jc_rules.specs.declared.rule.Rule.TheVariants as R
use Rattle.jc_rules.specs.Derivation.{ClearAny, ClearElem}
use Rattle.jc_rules.specs.Trace.{Rows, pushed, one_deeper, at_depth}
use Rattle.jc_tree.specs.Tree.{Tree, HasPlace, here}
use Rattle.jc_clear.specs.Cleared.{IsCleared}
use Rattle.jc_clear.specs.Clears.{Clears}
use Rattle.jc_clear.proofs.ClearRulesLemmas.{presence_there, clear_none, clear_values, clear_any, clear_elem, presence_stays, register_stays}

pub cleared_again : (at : List Tagged) (a : Tree) (deps : List Id) (k : Key) (t o p t1 t2 t3 u v w : Rows) → HasPlace at a → IsCleared k (here at a) → o ≡ one_deeper (pushed t R.ClearElem) → p ≡ one_deeper (pushed o R.ClearAny) → t1 ≡ pushed p R.ClearNone → t2 ≡ pushed t1 R.ClearNone → t3 ≡ pushed t2 R.ClearReg → u ≡ at_depth o.depth t3 → v ≡ pushed u R.Presence1 → w ≡ at_depth t.depth v → Clears (λ c. ClearElem c deps k) at a a [] t w
cleared_again at a deps k t o p t1 t2 t3 u v w h is oe pe e1 e2 e3 ue ve we =
    let maps = clear_none at deps (MapT k) a a [] p t1 h is.map e1 refl refl in
    let lists = clear_none at deps (ListT k) a a [] t1 t2 h is.list e2 refl refl in
    let values = clear_values at deps k [] [] a a [] t2 t3 is.register refl (tt, tt) e3 (register_stays at k [] [] a h is.register refl) refl in
    let any : Clears (λ c. ClearAny c deps k) at a a [] o u = clear_any at deps k a a a a [] [] [] [] o p t1 t2 t3 u h pe maps lists values refl ue in
    clear_elem at deps k a a a [] [] [] [] t o u v w h oe any (presence_there (here at a) k [] [] u v is.presence refl ve) refl refl (presence_stays at k [] a h is.presence) we
