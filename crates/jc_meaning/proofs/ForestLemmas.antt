-- About Forest: there is one forest of inserts at a key and a bound.
use Rattle.std.proofs.Common.{◌≡◌, Bool, Option, Some, None, refl, sym, subst}
use Rattle.jc_rules.specs.declared.id.Id.{Id}
use Rattle.jc_rules.specs.declared.key.Key.{Key}
use Rattle.jc_rules.specs.declared.key.Key.TheVariants as K
use Rattle.jc_meaning.proofs.OrdersLemmas.{not_apart}
use Rattle.jc_meaning.specs.Forest.{Forest, bare, tree, Hangs}

pub one_forest : (at : Key → Id → Bool) (k : Key) (b : Option Id) (f g : Forest) → Hangs at k b f → Hangs at k b g → f ≡ g
one_forest at k b bare bare h l = refl
one_forest at k b bare (tree j y s) h l = absurd (h j l.0 l.1)
one_forest at k b (tree i x r) bare h l = absurd (l i h.0 h.1)
one_forest at k b (tree i x r) (tree j y s) h l =
    let same : i ≡ j = not_apart i j (λ e. h.2 j l.0 l.1 e) (λ e. l.2 i h.0 h.1 e) in
    let below : x ≡ y = one_forest at (K.Elem i) None x y h.3 (subst (λ q. Hangs at (K.Elem q) None y) (sym same) l.3) in
    let later : r ≡ s = one_forest at k (Some i) r s h.4 (subst (λ q. Hangs at k (Some q) s) (sym same) l.4) in
    cc
