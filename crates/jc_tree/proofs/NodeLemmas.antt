-- About Nested: the lists of a plain store's node, and the context that it is.
use Rattle.std.proofs.Common.{◌≡◌, ◌≢◌, List, ◌∷◌, ◌++◌, Bool, Option, Some, None, Bor, Result, Ok, Err, is_some, option_copied, IfSome, IsSomeAnd, OnOk, IfOk, refl, sym, ◌∙◌, ap}
use Rattle.jc_rules.specs.declared.id.Id.{Id}
use Rattle.jc_rules.specs.declared.key.Key.{Key}
use Rattle.jc_rules.specs.declared.key.Next.{Next}
use Rattle.jc_rules.specs.declared.key.Tagged.{Tagged}
use Rattle.jc_rules.specs.declared.key.Tagged.TheVariants.{MapT, ListT}
use Rattle.jc_rules.specs.Order.{key_cmp}
use Rattle.jc_rules.specs.Entries.{keys_of, find, put}
use Rattle.jc_rules.specs.Context.{Context, context, children, Register, Content, Node, node_of, content, with_content, keys, empty_list}
use Rattle.jc_rules.specs.ContextsAt.{node_in, node_at, with_node_at, context_at}
use Rattle.jc_rules.proofs.ContextsAtLemmas.{listed_children}
use Rattle.jc_tree.specs.Tree.{least_after}
use Rattle.jc_tree.specs.Change.{changed_by}
use Rattle.jc_tree.specs.declared.node.Change.TheVariants.{Child}
use Rattle.jc_tree.specs.declared.node.Former.{Former}
use Rattle.jc_tree.specs.declared.node.Former.TheVariants as F
use Rattle.jc_tree.specs.Undo.{removed, restored_by}
use Rattle.jc_tree.proofs.WalksLeastLemmas.{least_of, least_after-append}
use Rattle.jc_rules.proofs.ContextLemmas.{none_some}

module _ (m l : List (Key × Context)) (r : List (Key × Register)) (p : List (Key × List Id)) (n : List (Key × Next)) (s : Context) (v : context (children m) (children l) r p n ≡ s) where
  pub map_content : (k : Key) → content (MapT k) s ≡ node_of (find key_cmp k m)
  map_content k = rw (← v, listed_children) refl

  pub list_content : (k : Key) → content (ListT k) s ≡ node_of (find key_cmp k l)
  list_content k = rw (← v, listed_children) refl

  pub map_with : (k : Key) (y : Context) (m2 : List (Key × Context)) → m2 ≡ put key_cmp k y m → context (children m2) (children l) r p n ≡ with_content (MapT k) (Node y) s
  map_with k y m2 w = rw (w, ← v, listed_children) refl

  pub list_with : (k : Key) (y : Context) (l2 : List (Key × Context)) → l2 ≡ put key_cmp k y l → context (children m) (children l2) r p n ≡ with_content (ListT k) (Node y) s
  list_with k y l2 w = rw (w, ← v, listed_children) refl

  pub key_after : (k : Option Key) → least_after k (keys s) ≡ least_of (least_of (least_after k (keys_of m)) (least_after k (keys_of l))) (least_after k (keys_of r))
  key_after k = rw (← v, listed_children m, listed_children l, least_after-append k (keys_of m ++ keys_of l) (keys_of r), least_after-append k (keys_of m) (keys_of l)) refl

module _ (m l : List (Key × Context)) (r : List (Key × Register)) (p : List (Key × List Id)) (n : List (Key × Next)) (s : Context) (v : context (children m) (children l) r p n ≡ s) where
  pub map_restored : (f : Former) (k : Key) (m2 : List (Key × Context)) → f ≡ F.Map k → m2 ≡ removed key_cmp k m → context (children m2) (children l) r p n ≡ restored_by f s
  map_restored f k m2 e w = rw (e, w, ← v, listed_children) refl

  pub list_restored : (f : Former) (k : Key) (l2 : List (Key × Context)) → f ≡ F.List k → l2 ≡ removed key_cmp k l → context (children m) (children l2) r p n ≡ restored_by f s
  list_restored f k l2 e w = rw (e, w, ← v, listed_children) refl

pub has_child : (b : Bool) (o : Option (Bor Context)) (f : Option Context) (x : Option Content) → b ≡ is_some o → option_copied o ≡ f → x ≡ node_of f → b ≡ is_some x
has_child b None f x h g e = rw (h, e, ← g) refl
has_child b (Some d) f x h g e = rw (h, e, ← g) refl

pub lent_child : (o : Option (Bor Context)) (f : Option Context) (x : Option Content) → option_copied o ≡ f → x ≡ node_of f → option_copied o ≡ node_in x
lent_child o None x g e = rw (g, e) refl
lent_child o (Some d) x g e = rw (g, e) refl

module _ (m l : List (Key × Context)) (r : List (Key × Register)) (p : List (Key × List Id)) (n : List (Key × Next)) (s : Context) (v : context (children m) (children l) r p n ≡ s) where
  pub new_list : (k : Key) (new : Context) (l2 : List (Key × Context)) → new ≡ empty_list → l2 ≡ put key_cmp k new l → context (children m) (children l2) r p n ≡ changed_by (Child (ListT k)) s
  new_list k new l2 e w = list_with m l r p n s v k empty_list l2 (rw (← e) w)

  -- a place that begins under a map's key is in that child
  pub map_child : (k : Key) (ks : List Tagged) → node_at (MapT k ∷ ks) s ≢ None → IsSomeAnd (find key_cmp k m) (λ d. node_at ks d ≢ None)
  map_child k ks h = go (find key_cmp k m) refl
    where
      go : (o : Option Context) → find key_cmp k m ≡ o → IsSomeAnd o (λ d. node_at ks d ≢ None)
      go None e = h (rw (map_content m l r p n s v k, e) refl)
      go (Some d) e = λ f. h (rw (map_content m l r p n s v k, e) f)

  pub list_child : (k : Key) (ks : List Tagged) → node_at (ListT k ∷ ks) s ≢ None → IsSomeAnd (find key_cmp k l) (λ d. node_at ks d ≢ None)
  list_child k ks h = go (find key_cmp k l) refl
    where
      go : (o : Option Context) → find key_cmp k l ≡ o → IsSomeAnd o (λ d. node_at ks d ≢ None)
      go None e = h (rw (list_content m l r p n s v k, e) refl)
      go (Some d) e = λ f. h (rw (list_content m l r p n s v k, e) f)

  -- a context that is another in a child is another below its key
  pub map_changed : (k : Key) (ks : List Tagged) (f : Context → Context) (m2 : List (Key × Context)) → IfSome (find key_cmp k m) (λ d. m2 ≡ put key_cmp k (with_node_at ks (f (context_at ks d)) d) m) → (find key_cmp k m ≡ None → m2 ≡ m) → context (children m2) (children l) r p n ≡ with_node_at (MapT k ∷ ks) (f (context_at (MapT k ∷ ks) s)) s
  map_changed k ks f m2 = go (find key_cmp k m) refl
    where
      go : (o : Option Context) → find key_cmp k m ≡ o → IfSome o (λ d. m2 ≡ put key_cmp k (with_node_at ks (f (context_at ks d)) d) m) → (o ≡ None → m2 ≡ m) → context (children m2) (children l) r p n ≡ with_node_at (MapT k ∷ ks) (f (context_at (MapT k ∷ ks) s)) s
      go None e w a = ap (λ x. context (children x) (children l) r p n) (a refl) ∙ v ∙ rw (map_content m l r p n s v k, e) refl
      go (Some d) e w a = map_with m l r p n s v k (with_node_at ks (f (context_at ks d)) d) m2 w ∙ rw (map_content m l r p n s v k, e) refl

  pub list_changed : (k : Key) (ks : List Tagged) (f : Context → Context) (l2 : List (Key × Context)) → IfSome (find key_cmp k l) (λ d. l2 ≡ put key_cmp k (with_node_at ks (f (context_at ks d)) d) l) → (find key_cmp k l ≡ None → l2 ≡ l) → context (children m) (children l2) r p n ≡ with_node_at (ListT k ∷ ks) (f (context_at (ListT k ∷ ks) s)) s
  list_changed k ks f l2 = go (find key_cmp k l) refl
    where
      go : (o : Option Context) → find key_cmp k l ≡ o → IfSome o (λ d. l2 ≡ put key_cmp k (with_node_at ks (f (context_at ks d)) d) l) → (o ≡ None → l2 ≡ l) → context (children m) (children l2) r p n ≡ with_node_at (ListT k ∷ ks) (f (context_at (ListT k ∷ ks) s)) s
      go None e w a = ap (λ x. context (children m) (children x) r p n) (a refl) ∙ v ∙ rw (list_content m l r p n s v k, e) refl
      go (Some d) e w a = list_with m l r p n s v k (with_node_at ks (f (context_at ks d)) d) l2 w ∙ rw (list_content m l r p n s v k, e) refl

  -- what goes for the context at a place in a child goes for the one below its key
  pub map_below : (P : Context → Type 0) (k : Key) (ks : List Tagged) → IsSomeAnd (find key_cmp k m) (λ d. node_at ks d ≢ None) → IfSome (find key_cmp k m) (λ d. P (context_at ks d)) → P (context_at (MapT k ∷ ks) s)
  map_below P k ks = go (find key_cmp k m) refl
    where
      go : (o : Option Context) → find key_cmp k m ≡ o → IsSomeAnd o (λ d. node_at ks d ≢ None) → IfSome o (λ d. P (context_at ks d)) → P (context_at (MapT k ∷ ks) s)
      go None e t h = absurd t
      go (Some d) e t h = rw (map_content m l r p n s v k, e) h

  pub list_below : (P : Context → Type 0) (k : Key) (ks : List Tagged) → IsSomeAnd (find key_cmp k l) (λ d. node_at ks d ≢ None) → IfSome (find key_cmp k l) (λ d. P (context_at ks d)) → P (context_at (ListT k ∷ ks) s)
  list_below P k ks = go (find key_cmp k l) refl
    where
      go : (o : Option Context) → find key_cmp k l ≡ o → IsSomeAnd o (λ d. node_at ks d ≢ None) → IfSome o (λ d. P (context_at ks d)) → P (context_at (ListT k ∷ ks) s)
      go None e t h = absurd t
      go (Some d) e t h = rw (list_content m l r p n s v k, e) h

pub if_some : (P : Context → Type 0) (o : Option Context) (d : Context) → o ≡ Some d → P d → IfSome o P
if_some P None d e h = tt
if_some P (Some c) d e h = let same : c ≡ d = cc in rw same h

pub none_there : {A : Type 0} (P : Context → Type 0) (o : Option Context) → IsSomeAnd o P → o ≡ None → A
none_there P None h e = absurd h
none_there P (Some d) h e = none_some (sym e)

-- a child at a key's place that is another one
pub child_changed : (k : Key) (f : Context → Context) (es : List (Key × Context)) (ds : Context → List (Key × Context)) (d e : Context) → find key_cmp k es ≡ Some d → ((y : Context) → ds y ≡ put key_cmp k y es) → e ≡ f d → IfSome (find key_cmp k es) (λ d. ds e ≡ put key_cmp k (f d) es)
child_changed k f es ds d e found w h = if_some (λ d. ds e ≡ put key_cmp k (f d) es) (find key_cmp k es) d found (w e ∙ ap (λ y. put key_cmp k y es) h)

pub on_ok : {A E P Q : Type 0} (r : Result A E) → (P → Q) → OnOk r P → OnOk r Q
on_ok (Ok a) f h = f h
on_ok (Err e) f h = h

pub if_ok : {A E : Type 0} {P Q : A → Type 0} (r : Result A E) → ((a : A) → P a → Q a) → IfOk r P → IfOk r Q
if_ok (Ok a) f h = f a h
if_ok (Err e) f h = h
