-- About AppliesAlong: what the steps of an operation leave of links.
use Rattle.std.proofs.Common.{◌≡◌, List, refl, ◌∙◌, ap}
use Rattle.jc_rules.specs.declared.id.Id.{Id}
use Rattle.jc_rules.specs.declared.key.Key.{Key}
use Rattle.jc_rules.specs.declared.key.Tagged.{Tagged}
use Rattle.jc_rules.specs.declared.key.Tagged.TheVariants.{MapT, ListT, RegT}
use Rattle.jc_rules.specs.Context.{Context, context, Values, Register, links, with_content, new_content, with_presence}
use Rattle.jc_rules.specs.Derivation.{Question}
use Rattle.jc_rules.specs.Trace.{Rows}
use Rattle.jc_tree.specs.Tree.{Tree, HasPlace, here, IsChanged}
use Rattle.jc_tree.proofs.ChainedLemmas.{keeps_chained}
use Rattle.jc_tree.proofs.TreeLemmas.{here_changed}
use Rattle.jc_tree.proofs.PlacesLemmas.{then_here}
use Rattle.jc_clear.specs.Clears.{Clears}
use Rattle.jc_clear.proofs.BareLemmas.{links-same}
use Rattle.jc_clear.proofs.ClearsBelowLemmas.{still_chained}
use Rattle.jc_apply.specs.AppliesAlong.{LinksNone, LinksOnly}
use Rattle.jc_apply.proofs.UnlinkedLemmas.{unlinked_here, unlinked_now, unlinked-new, unlinked-presence, unlinked-register, unlinked-same}

pub none_then : (at : List Tagged) (a b d : Tree) → LinksNone at a b → LinksNone at b d → LinksNone at a d
none_then at a b d x y =
    record { same = y.same ∙ x.same; chained = λ h. y.chained (x.chained h); unlinked = λ i h. y.unlinked i (x.unlinked i h) }

links-presence : (k : Key) (s : List Id) (c : Context) → links (with_presence k s c) ≡ links c
links-presence k s (context m l r p n) = refl

pub none_presence : (at : List Tagged) (k : Key) (s : List Id) (a b : Tree) → HasPlace at a → IsChanged at (with_presence k s (here at a)) a b → LinksNone at a b
none_presence at k s a b p e =
    record {
      same = ap links (here_changed at _ a b p e) ∙ links-presence k s (here at a);
      chained = λ h. rw e.now (keeps_chained.presence at k s a.now p h);
      unlinked = λ i h. unlinked_now i at _ a b e.now (unlinked-presence i k s (here at a) (unlinked_here i at a p h)) h;
    }

links-register : (k : Key) (v : Register) (c : Context) → links (with_content (RegT k) (Values v) c) ≡ links c
links-register k v (context m l r p n) = refl

pub none_register : (at : List Tagged) (k : Key) (v : Register) (a b : Tree) → HasPlace at a → IsChanged at (with_content (RegT k) (Values v) (here at a)) a b → LinksNone at a b
none_register at k v a b p e =
    record {
      same = ap links (here_changed at _ a b p e) ∙ links-register k v (here at a);
      chained = λ h. rw e.now (keeps_chained.register at k v a.now p h);
      unlinked = λ i h. unlinked_now i at _ a b e.now (unlinked-register i k v (here at a) (unlinked_here i at a p h)) h;
    }

links-new : (t : Tagged) (c : Context) → links (with_content t (new_content t) c) ≡ links c
links-new (MapT k) (context m l r p n) = refl
links-new (ListT k) (context m l r p n) = refl
links-new (RegT k) (context m l r p n) = refl

pub none_child : (at : List Tagged) (t : Tagged) (a b : Tree) → HasPlace at a → IsChanged at (with_content t (new_content t) (here at a)) a b → LinksNone at a b
none_child at t a b p e =
    record {
      same = ap links (here_changed at _ a b p e) ∙ links-new t (here at a);
      chained = λ h. rw e.now (keeps_chained.child at t a.now p h);
      unlinked = λ i h. unlinked_now i at _ a b e.now (unlinked-new i t (here at a) (unlinked_here i at a p h)) h;
    }

pub none_cleared : (q : Context → Question) (at : List Tagged) (a b : Tree) (ids : List Id) (t u : Rows) → HasPlace at a → Clears q at a b ids t u → LinksNone at a b
none_cleared q at a b ids t u p x =
    record {
      same = ap links (then_here at x.after a b p x.now) ∙ links-same x.after (here at a) x.same;
      chained = λ h. still_chained at x.after a b p x.now x.same h;
      unlinked = λ i h. unlinked_now i at x.after a b x.now (unlinked-same i (here at a) x.after x.same (unlinked_here i at a p h)) h;
    }

-- links were set after a call that sets none
pub only_after : (i : Id) (at : List Tagged) (a b d : Tree) → LinksNone at a b → LinksOnly i b d → LinksOnly i a d
only_after i at a b d x y = record { chained = y.chained; unlinked = λ j ne h. y.unlinked j ne (x.unlinked j h) }
