-- About specs/KnownIds: what rules read of a document has known identifiers alone, and what they write too.
use Rattle.std.proofs.Common.{◌≡◌, List, [], ◌∷◌, Option, Some, None, Bool, true, false, refl, ◌∙◌, ap}
use Rattle.std.specs.List.{AllByRecursion}
use Rattle.std.specs.Ordering.{eq_by_cmp}
use Rattle.std.specs.declared.cmp.Ordering.{Ordering}
use Rattle.std.specs.declared.cmp.Ordering.TheVariants.{Less, Equal, Greater}
use Rattle.jc_rules.specs.declared.id.Id.{Id}
use Rattle.jc_rules.specs.declared.key.Key.{Key}
use Rattle.jc_rules.specs.declared.key.Next.{Next}
use Rattle.jc_rules.specs.declared.key.Tagged.{Tagged}
use Rattle.jc_rules.specs.declared.key.Tagged.TheVariants.{MapT, ListT, RegT}
use Rattle.jc_rules.specs.declared.value.Value.{Value}
use Rattle.jc_rules.specs.Order.{key_cmp, id_cmp}
use Rattle.jc_rules.specs.Entries.{find, put, keys_of, if_found, replaced, placed}
use Rattle.jc_rules.specs.Ids.{has_id, with_id, added, union, without}
use Rattle.jc_rules.specs.Context.{Context, context, Children, no_child, child, children, listed, Register, Content, Node, Values, node_of, values_of, content, with_content, new_content, presence, with_presence, with_next}
use Rattle.jc_rules.specs.Table.{kept}
use Rattle.jc_rules.proofs.OrderLemmas.{keys_total, exact_keys}
use Rattle.jc_rules.proofs.EntriesLemmas.{values-put, value-found}
use Rattle.jc_vectors.specs.KnownIds.{EachId, EachIdIn, EachOf}

module _ (P : Id → Type 0) where
  abbrev pub Each : List Id → Type 0
  Each s = AllByRecursion P s

  abbrev pub EachPair : Register → Type 0
  EachPair r = AllByRecursion (λ v. P v.0) r

  each_listed : (cs : Children) → EachIdIn P cs → AllByRecursion (λ e. EachId P e.1) (listed cs)
  each_listed no_child h = tt
  each_listed (child k c cs) h = (h.0, each_listed cs h.1)

  listed_each : (es : List (Key × Context)) → AllByRecursion (λ e. EachId P e.1) es → EachIdIn P (children es)
  listed_each [] h = tt
  listed_each (e ∷ es) h = (h.0, listed_each es h.1)

  each-put : (k : Key) (d : Context) (cs : Children) → EachIdIn P cs → EachId P d → EachIdIn P (children (put key_cmp k d (listed cs)))
  each-put k d cs h g = listed_each (put key_cmp k d (listed cs)) (values-put keys_total exact_keys (EachId P) k d (listed cs) g (each_listed cs h))

  node_content : (o : Option Context) (x : Content) → node_of o ≡ Some x → (d : Context) × (o ≡ Some d) × (x ≡ Node d)
  node_content None x h = absurd (let f : ⊥ = cc in f)
  node_content (Some d) x h = (d, refl, cc)

  values_content : (o : Option Register) (x : Content) → values_of o ≡ Some x → (r : Register) × (o ≡ Some r) × (x ≡ Values r)
  values_content None x h = absurd (let f : ⊥ = cc in f)
  values_content (Some r) x h = (r, refl, cc)

  -- what is read
  pub each_content : (t : Tagged) (c : Context) (x : Content) → content t c ≡ Some x → EachId P c → EachOf P x
  each_content (MapT k) (context m l r p n) x e h =
      let f = node_content (find key_cmp k (listed m)) x e in
      rw f.2 (value-found keys_total exact_keys (EachId P) k f.0 (listed m) (each_listed m h.0) f.1)
  each_content (ListT k) (context m l r p n) x e h =
      let f = node_content (find key_cmp k (listed l)) x e in
      rw f.2 (value-found keys_total exact_keys (EachId P) k f.0 (listed l) (each_listed l h.1) f.1)
  each_content (RegT k) (context m l r p n) x e h =
      let f = values_content (find key_cmp k r) x e in
      rw f.2 (value-found keys_total exact_keys EachPair k f.0 r h.2 f.1)

  pub each_presence : (k : Key) (c : Context) (s : List Id) → presence k c ≡ Some s → EachId P c → Each s
  each_presence k (context m l r p n) s e h = value-found keys_total exact_keys Each k s p h.3 e

  -- what is written
  pub each-with_content : (t : Tagged) (x : Content) (c : Context) → EachId P c → EachOf P x → EachId P (with_content t x c)
  each-with_content (MapT k) (Node d) (context m l r p n) h g = (each-put k d m h.0 g, h.1, h.2, h.3)
  each-with_content (ListT k) (Node d) (context m l r p n) h g = (h.0, each-put k d l h.1 g, h.2, h.3)
  each-with_content (RegT k) (Values v) (context m l r p n) h g = (h.0, h.1, values-put keys_total exact_keys EachPair k v r g h.2, h.3)
  each-with_content (MapT k) (Values v) (context m l r p n) h g = h
  each-with_content (ListT k) (Values v) (context m l r p n) h g = h
  each-with_content (RegT k) (Node d) (context m l r p n) h g = h

  pub each-new : (t : Tagged) → EachOf P (new_content t)
  each-new (MapT k) = (tt, tt, tt, tt)
  each-new (ListT k) = (tt, tt, tt, tt)
  each-new (RegT k) = tt

  pub each-with_presence : (k : Key) (s : List Id) (c : Context) → EachId P c → Each s → EachId P (with_presence k s c)
  each-with_presence k s (context m l r p n) h g = (h.0, h.1, h.2, values-put keys_total exact_keys Each k s p g h.3)

  pub each-with_next : (k : Key) (x : Next) (c : Context) → EachId P c → EachId P (with_next k x c)
  each-with_next k x (context m l r p n) h = h

  -- sets
  pub each-with : (i : Id) (s : List Id) → P i → Each s → Each (with_id i s)
  each-with i [] h g = (h, tt)
  each-with i (j ∷ s) h g = go (id_cmp i j) refl (each-with i s h g.1)
    where
      go : (o : Ordering) → id_cmp i j ≡ o → Each (with_id i s) → Each (with_id i (j ∷ s))
      go Less e ih = rw e (h, g)
      go Equal e ih = rw e g
      go Greater e ih = rw e (g.0, ih)

  each-added : (s t : List Id) → Each s → Each t → Each (added s t)
  each-added [] t h g = g
  each-added (i ∷ s) t h g = each-with i (added s t) h.0 (each-added s t h.1 g)

  pub each-union : (s t : List Id) → Each s → Each t → Each (union s t)
  each-union s t h g = each-added s (added t []) h (each-added t [] g tt)

  pub each-without : (s d : List Id) → Each s → Each (without s d)
  each-without [] d h = tt
  each-without (i ∷ s) d h = go (has_id i d) refl (each-without s d h.1)
    where
      go : (b : Bool) → has_id i d ≡ b → Each (without s d) → Each (without (i ∷ s) d)
      go true e ih = rw e ih
      go false e ih = rw e (h.0, ih)

  pub each-kept : (d : List Id) (r : Register) → EachPair r → EachPair (kept d r)
  each-kept d [] h = tt
  each-kept d (v ∷ r) h = go (has_id v.0 d) refl (each-kept d r h.1)
    where
      go : (b : Bool) → has_id v.0 d ≡ b → EachPair (kept d r) → EachPair (kept d (v ∷ r))
      go true e ih = rw e ih
      go false e ih = rw e (h.0, ih)

  pub each-keys : (r : Register) → EachPair r → Each (keys_of r)
  each-keys [] h = tt
  each-keys (v ∷ r) h = (h.0, each-keys r h.1)

  pairs-replaced : (i : Id) (v : Value) (r : Register) → P i → EachPair r → EachPair (replaced id_cmp i v r)
  pairs-replaced i v [] h g = tt
  pairs-replaced i v (e ∷ r) h g = go (eq_by_cmp id_cmp i e.0) refl (pairs-replaced i v r h g.1)
    where
      go : (b : Bool) → eq_by_cmp id_cmp i e.0 ≡ b → EachPair (replaced id_cmp i v r) → EachPair (replaced id_cmp i v (e ∷ r))
      go true q ih = rw q (h, g.1)
      go false q ih = rw q (g.0, ih)

  pairs-placed : (i : Id) (v : Value) (r : Register) → P i → EachPair r → EachPair (placed id_cmp i v r)
  pairs-placed i v [] h g = (h, tt)
  pairs-placed i v (e ∷ r) h g = go (id_cmp i e.0) refl (pairs-placed i v r h g.1)
    where
      go : (o : Ordering) → id_cmp i e.0 ≡ o → EachPair (placed id_cmp i v r) → EachPair (placed id_cmp i v (e ∷ r))
      go Less q ih = rw q (h, g)
      go Equal q ih = rw q (h, g)
      go Greater q ih = rw q (g.0, ih)

  pub pairs-put : (i : Id) (v : Value) (r : Register) → P i → EachPair r → EachPair (put id_cmp i v r)
  pairs-put i v r h g = go (find id_cmp i r)
    where
      go : (o : Option Value) → EachPair (if_found o (replaced id_cmp i v r) (placed id_cmp i v r))
      go None = pairs-placed i v r h g
      go (Some w) = pairs-replaced i v r h g

  -- two sets that agree on known identifiers leave the same
  pub without-alike : (s d e : List Id) → ((i : Id) → P i → has_id i d ≡ has_id i e) → Each s → without s d ≡ without s e
  without-alike [] d e a h = refl
  without-alike (i ∷ s) d e a h = go (has_id i e) refl (without-alike s d e a h.1)
    where
      go : (b : Bool) → has_id i e ≡ b → without s d ≡ without s e → without (i ∷ s) d ≡ without (i ∷ s) e
      go true f ih = let g : has_id i d ≡ true = a i h.0 ∙ f in rw (f, g) ih
      go false f ih = let g : has_id i d ≡ false = a i h.0 ∙ f in rw (f, g) (ap (λ (x : List Id). i ∷ x) ih)

  pub kept-alike : (d e : List Id) (r : Register) → ((i : Id) → P i → has_id i d ≡ has_id i e) → EachPair r → kept d r ≡ kept e r
  kept-alike d e [] a h = refl
  kept-alike d e (v ∷ r) a h = go (has_id v.0 e) refl (kept-alike d e r a h.1)
    where
      go : (b : Bool) → has_id v.0 e ≡ b → kept d r ≡ kept e r → kept d (v ∷ r) ≡ kept e (v ∷ r)
      go true f ih = let g : has_id v.0 d ≡ true = a v.0 h.0 ∙ f in rw (f, g) ih
      go false f ih = let g : has_id v.0 d ≡ false = a v.0 h.0 ∙ f in rw (f, g) (ap (λ (x : Register). v ∷ x) ih)
