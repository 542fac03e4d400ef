-- About ClearingEffects: what clearing needs of a context (`Tidy`), and what it takes away (`TakesAway`).
use Rattle.std.proofs.Common.{◌≡◌, List, [], ◌∷◌, ◌++◌, Bool, true, false, not, ◌||◌, ◌&&◌, cond, Option, Some, None, is_some, refl, sym, ◌∙◌, ap, subst}
use Rattle.jc_rules.specs.declared.id.Id.{Id}
use Rattle.jc_rules.specs.declared.key.Key.{Key}
use Rattle.jc_rules.specs.declared.key.Key.TheVariants as K
use Rattle.jc_rules.specs.declared.key.Tagged.{Tagged}
use Rattle.jc_rules.specs.declared.key.Tagged.TheVariants.{MapT, ListT, RegT}
use Rattle.jc_rules.specs.declared.value.Value.{Value}
use Rattle.jc_rules.specs.Order.{key_cmp}
use Rattle.jc_rules.specs.Entries.{find}
use Rattle.jc_rules.specs.Ids.{has_id}
use Rattle.jc_rules.specs.Context.{Context, maps, lists, registers, Register, node_of, values_of, content, next, empty, empty_list, key_of_tagged}
use Rattle.jc_rules.specs.ContextsAt.{first_key}
use Rattle.jc_rules.specs.WellFormed.{LeadsThrough}
use Rattle.jc_rules.proofs.BoolLemmas.{first_true}
use Rattle.jc_meaning.specs.Effects.{list_at}
use Rattle.jc_meaning.specs.Seen.{context_or_new, seen, ids_at, reg_at, value_in_some, value_seen_at, has_tag}
use Rattle.jc_meaning.specs.ClearingEffects.{is_tagged, TidyAt, Tidy, TakesAway}

abbrev pub nowhere : List Tagged → Key → Bool
nowhere P l = false

pub and_true : (x : Bool) → x ≡ (x && true)
and_true true = refl
and_true false = refl

pub takes_none : (c : Context) (deps : List Id) → TakesAway c c deps nowhere nowhere
takes_none c deps = record { tags = λ P u. refl; ids = λ P k i. and_true (has_id i (ids_at k (seen P c))); values = λ P k i. refl; links = λ P k. refl }

twice : (x a b c : Bool) → ((x && not (a && c)) && not (b && c)) ≡ (x && not ((a || b) && c))
twice false a b c = refl
twice true false b c = refl
twice true true b true = refl
twice true true true false = refl
twice true true false false = refl

twice_none : (a b c : Bool) (v : Option Value) → cond (b && c) None (cond (a && c) None v) ≡ cond ((a || b) && c) None v
twice_none true true true v = refl
twice_none true true false v = refl
twice_none true false c v = refl
twice_none false b c v = refl

-- one after another
pub takes_both : (c d e : Context) (deps : List Id) (p q s r t w : List Tagged → Key → Bool) → TakesAway c d deps p r → TakesAway d e deps q t → ((P : List Tagged) (k : Key) → (p P k || q P k) ≡ s P k) → ((P : List Tagged) (k : Key) → (r P k || t P k) ≡ w P k) → TakesAway c e deps s w
takes_both c d e deps p q s r t w f g h l = record {
  tags = λ P u. g.tags P u ∙ f.tags P u;
  ids = λ P k i. g.ids P k i ∙ ap (λ b. b && not (q P k && has_id i deps)) (f.ids P k i) ∙ twice (has_id i (ids_at k (seen P c))) (p P k) (q P k) (has_id i deps) ∙ ap (λ b. has_id i (ids_at k (seen P c)) && not (b && has_id i deps)) (h P k);
  values = λ P k i. g.values P k i ∙ ap (λ v. cond (t P k && has_id i deps) None v) (f.values P k i) ∙ twice_none (r P k) (t P k) (has_id i deps) (value_seen_at i k (seen P c)) ∙ ap (λ b. cond (b && has_id i deps) None (value_seen_at i k (seen P c))) (l P k);
  links = λ P k. g.links P k ∙ f.links P k;
}

pub seen_append : (P : List Tagged) (u : Tagged) (c : Context) → seen (P ++ u ∷ []) c ≡ context_or_new (content u (seen P c)) u
seen_append [] u c = refl
seen_append (t ∷ ts) u c = seen_append ts u (context_or_new (content t c) t)

pub leads_still : (c d : Context) (k : Key) (is : List Id) → ((j : Key) → next j d ≡ next j c) → LeadsThrough c k is → LeadsThrough d k is
leads_still c d k [] e h = e k ∙ h
leads_still c d k (i ∷ is) e h = (e k ∙ h.0, leads_still c d (K.Elem i) is e h.1)

pub tagged_same : (c d : Context) (k : Key) → ((u : Tagged) → has_tag u d ≡ has_tag u c) → is_tagged k d ≡ is_tagged k c
tagged_same c d k e = rw (e (MapT k), e (ListT k), e (RegT k)) refl

still : (x y p q a : Bool) → (x && not (p && a)) ≡ true → (x ≡ true → y ≡ true) → (q ≡ true → p ≡ true) → (y && not (q && a)) ≡ true
still false y p q a h f g = cc
still true y p false a h f g = rw (f refl) refl
still true y true true true h f g = cc
still true y true true false h f g = rw (f refl) refl
still true y false true a h f g = let e : false ≡ true = g refl in cc

still_some : (v : Option Value) (y p q a : Bool) → is_some (cond (p && a) None v) ≡ true → (is_some v ≡ true → y ≡ true) → (q ≡ true → p ≡ true) → (y && not (q && a)) ≡ true
still_some v y p false a h f g = rw (f (go (p && a) h)) refl
  where
    go : (b : Bool) → is_some (cond b None v) ≡ true → is_some v ≡ true
    go true h = cc
    go false h = h
still_some v y true true true h f g = cc
still_some v y true true false h f g = rw (f h) refl
still_some v y false true a h f g = let e : false ≡ true = g refl in cc

-- p goes downwards, and r is where p is
pub record IsDownward (p r : List Tagged → Key → Bool) : Type 0 where
  pub down : (P : List Tagged) (u : Tagged) (l : Key) → p P (key_of_tagged u) ≡ true → p (P ++ u ∷ []) l ≡ true
  pub wide : (P : List Tagged) (k : Key) → p P k ≡ true → r P k ≡ true

pub tidy_after : (b : Bool) (c d : Context) (deps : List Id) (p r : List Tagged → Key → Bool) → Tidy b c → TakesAway c d deps p r → IsDownward p r → Tidy b d
tidy_after b c d deps p r t k down P = record {
  under = λ u l i h.
      let g : has_id i (ids_at l (seen (P ++ u ∷ []) d)) ≡ true = rw (seen_append P u d) h in
      let g2 : (has_id i (ids_at l (seen (P ++ u ∷ []) c)) && not (p (P ++ u ∷ []) l && has_id i deps)) ≡ true = sym (k.ids (P ++ u ∷ []) l i) ∙ g in
      k.ids P (key_of_tagged u) i ∙ still (has_id i (ids_at l (seen (P ++ u ∷ []) c))) (has_id i (ids_at (key_of_tagged u) (seen P c))) (p (P ++ u ∷ []) l) (p P (key_of_tagged u)) (has_id i deps) g2 (λ x. here.under u l i (subst (λ e. has_id i (ids_at l e) ≡ true) (seen_append P u c) x)) (down.down P u l);
  written = λ j i h.
      let g : is_some (cond (r P j && has_id i deps) None (value_seen_at i j (seen P c))) ≡ true = ap is_some (sym (k.values P j i)) ∙ h in
      k.ids P j i ∙ still_some (value_seen_at i j (seen P c)) (has_id i (ids_at j (seen P c))) (r P j) (p P j) (has_id i deps) g (here.written j i) (down.wide P j);
  tagged = λ j i h. tagged_same (seen P c) (seen P d) j (k.tags P) ∙ here.tagged j i (first_true (has_id i (ids_at j (seen P c))) (not (p P j && has_id i deps)) (sym (k.ids P j i) ∙ h));
  linked = λ e. let x = here.linked e in (x.0, leads_still (seen P c) (seen P d) K.Head x.0 (k.links P) x.1, λ j h. x.2 j (sym (tagged_same (seen P c) (seen P d) j (k.tags P)) ∙ h));
}
  where
    here : TidyAt (list_at b P) (seen P c)
    here = t P

-- ---- what is new has nothing

mutual
  pub ids_empty : (P : List Tagged) (k : Key) → ids_at k (seen P empty) ≡ []
  ids_empty [] k = refl
  ids_empty (MapT j ∷ ts) k = ids_empty ts k
  ids_empty (ListT j ∷ ts) k = ids_empty_list ts k
  ids_empty (RegT j ∷ ts) k = ids_empty ts k

  pub ids_empty_list : (P : List Tagged) (k : Key) → ids_at k (seen P empty_list) ≡ []
  ids_empty_list [] k = refl
  ids_empty_list (MapT j ∷ ts) k = ids_empty ts k
  ids_empty_list (ListT j ∷ ts) k = ids_empty_list ts k
  ids_empty_list (RegT j ∷ ts) k = ids_empty ts k

mutual
  pub value_empty : (P : List Tagged) (k : Key) (i : Id) → value_seen_at i k (seen P empty) ≡ None
  value_empty [] k i = refl
  value_empty (MapT j ∷ ts) k i = value_empty ts k i
  value_empty (ListT j ∷ ts) k i = value_empty_list ts k i
  value_empty (RegT j ∷ ts) k i = value_empty ts k i

  pub value_empty_list : (P : List Tagged) (k : Key) (i : Id) → value_seen_at i k (seen P empty_list) ≡ None
  value_empty_list [] k i = refl
  value_empty_list (MapT j ∷ ts) k i = value_empty ts k i
  value_empty_list (ListT j ∷ ts) k i = value_empty_list ts k i
  value_empty_list (RegT j ∷ ts) k i = value_empty ts k i

-- what is below a register's tag
pub below_reg : (k : Key) (c : Context) → context_or_new (content (RegT k) c) (RegT k) ≡ empty
below_reg k c = go (find key_cmp k (registers c))
  where
    go : (o : Option Register) → context_or_new (values_of o) (RegT k) ≡ empty
    go None = refl
    go (Some r) = refl

-- where a tag isn't there nothing is below it
pub ids_below_new : (u : Tagged) (P : List Tagged) (k : Key) (c : Context) → has_tag u c ≡ false → ids_at k (seen (u ∷ P) c) ≡ []
ids_below_new (MapT j) P k c h = go (find key_cmp j (maps c)) h
  where
    go : (o : Option Context) → is_some (node_of o) ≡ false → ids_at k (seen P (context_or_new (node_of o) (MapT j))) ≡ []
    go None e = ids_empty P k
    go (Some d) e = cc
ids_below_new (ListT j) P k c h = go (find key_cmp j (lists c)) h
  where
    go : (o : Option Context) → is_some (node_of o) ≡ false → ids_at k (seen P (context_or_new (node_of o) (ListT j))) ≡ []
    go None e = ids_empty_list P k
    go (Some d) e = cc
ids_below_new (RegT j) P k c h = ap (λ e. ids_at k (seen P e)) (below_reg j c) ∙ ids_empty P k

pub value_below_new : (u : Tagged) (P : List Tagged) (k : Key) (i : Id) (c : Context) → has_tag u c ≡ false → value_seen_at i k (seen (u ∷ P) c) ≡ None
value_below_new (MapT j) P k i c h = go (find key_cmp j (maps c)) h
  where
    go : (o : Option Context) → is_some (node_of o) ≡ false → value_seen_at i k (seen P (context_or_new (node_of o) (MapT j))) ≡ None
    go None e = value_empty P k i
    go (Some d) e = cc
value_below_new (ListT j) P k i c h = go (find key_cmp j (lists c)) h
  where
    go : (o : Option Context) → is_some (node_of o) ≡ false → value_seen_at i k (seen P (context_or_new (node_of o) (ListT j))) ≡ None
    go None e = value_empty_list P k i
    go (Some d) e = cc
value_below_new (RegT j) P k i c h = ap (λ e. value_seen_at i k (seen P e)) (below_reg j c) ∙ value_empty P k i

no_or : (x y z : Bool) → (x || (y || z)) ≡ false → (x ≡ false) × (y ≡ false) × (z ≡ false)
no_or false false false h = (refl, refl, refl)
no_or false false true h = cc
no_or false true z h = cc
no_or true y z h = cc

pub tag_of_key : (u : Tagged) (c : Context) → is_tagged (key_of_tagged u) c ≡ false → has_tag u c ≡ false
tag_of_key (MapT k) c h = let x = no_or (has_tag (MapT k) c) (has_tag (ListT k) c) (has_tag (RegT k) c) h in x.0
tag_of_key (ListT k) c h = let x = no_or (has_tag (MapT k) c) (has_tag (ListT k) c) (has_tag (RegT k) c) h in x.1
tag_of_key (RegT k) c h = let x = no_or (has_tag (MapT k) c) (has_tag (ListT k) c) (has_tag (RegT k) c) h in x.2

pub no_value : (k : Key) (i : Id) (c : Context) → has_tag (RegT k) c ≡ false → value_seen_at i k c ≡ None
no_value k i c h = go (reg_at k c) h
  where
    go : (o : Option Register) → is_some (values_of o) ≡ false → value_in_some i o ≡ None
    go None e = refl
    go (Some r) e = cc

pub absent : (x y : Bool) → (x ≡ true → y ≡ true) → y ≡ false → x ≡ false
absent false y f e = refl
absent true y f e = let g : y ≡ true = f refl in let w : true ≡ false = sym g ∙ e in cc

-- where a key has no tag nothing is at it or below it
pub nothing_there : (b : Bool) (c : Context) → TidyAt b c → (P : List Tagged) (l : Key) (i : Id) → is_tagged (first_key P l) c ≡ false → (has_id i (ids_at l (seen P c)) ≡ false) × (value_seen_at i l (seen P c) ≡ None)
nothing_there b c t [] l i h = (absent (has_id i (ids_at l c)) (is_tagged l c) (t.tagged l i) h, no_value l i c (tag_of_key (RegT l) c h))
nothing_there b c t (u ∷ P) l i h = (ap (has_id i) (ids_below_new u P l c (tag_of_key u c h)), value_below_new u P l i c (tag_of_key u c h))

pub empty_ids : (x y a : Bool) → x ≡ false → (x && not (y && a)) ≡ false
empty_ids false y a h = refl
empty_ids true y a h = cc

pub empty_value : (v : Option Value) (b : Bool) → v ≡ None → cond b None v ≡ None
empty_value None true h = refl
empty_value None false h = refl
empty_value (Some v) b h = cc

-- what is said of the places at and below keys without a tag is free
pub widen : (b : Bool) (c d : Context) (deps : List Id) (p r q : List Tagged → Key → Bool) → TidyAt b c → TakesAway c d deps p r
    → ((P : List Tagged) (l : Key) → is_tagged (first_key P l) c ≡ true → (p P l ≡ q P l) × (r P l ≡ q P l)) → TakesAway c d deps q q
widen b c d deps p r q t k same = record {
  tags = k.tags;
  ids = λ P l i. ids P l i (is_tagged (first_key P l) c) refl;
  values = λ P l i. values P l i (is_tagged (first_key P l) c) refl;
  links = k.links;
}
  where
    ids : (P : List Tagged) (l : Key) (i : Id) (x : Bool) → is_tagged (first_key P l) c ≡ x → has_id i (ids_at l (seen P d)) ≡ (has_id i (ids_at l (seen P c)) && not (q P l && has_id i deps))
    ids P l i true e = let s = same P l e in k.ids P l i ∙ ap (λ z. has_id i (ids_at l (seen P c)) && not (z && has_id i deps)) s.0
    ids P l i false e = let n = nothing_there b c t P l i e in k.ids P l i ∙ empty_ids _ (p P l) (has_id i deps) n.0 ∙ sym (empty_ids _ (q P l) (has_id i deps) n.0)

    values : (P : List Tagged) (l : Key) (i : Id) (x : Bool) → is_tagged (first_key P l) c ≡ x → value_seen_at i l (seen P d) ≡ cond (q P l && has_id i deps) None (value_seen_at i l (seen P c))
    values P l i true e = let s = same P l e in k.values P l i ∙ ap (λ z. cond (z && has_id i deps) None (value_seen_at i l (seen P c))) s.1
    values P l i false e = let n = nothing_there b c t P l i e in k.values P l i ∙ empty_value _ (r P l && has_id i deps) n.1 ∙ sym (empty_value _ (q P l && has_id i deps) n.1)
