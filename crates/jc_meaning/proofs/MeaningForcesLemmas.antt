-- About Meaning and ClearingEffects: what a meaning implies of its tree, and that it is tidy.
use Rattle.std.proofs.Common.{◌≡◌, List, [], ◌∷◌, ◌++◌, Bool, true, false, not, ◌||◌, ◌&&◌, cond, Option, Some, None, is_some, refl, sym, ◌∙◌, ap}
use Rattle.jc_rules.specs.declared.id.Id.{Id}
use Rattle.jc_rules.specs.declared.key.Key.{Key}
use Rattle.jc_rules.specs.declared.key.Key.TheVariants as K
use Rattle.jc_rules.specs.declared.key.Tagged.{Tagged}
use Rattle.jc_rules.specs.declared.key.Tagged.TheVariants.{MapT, ListT, RegT}
use Rattle.jc_rules.specs.declared.operation.Op.{Op}
use Rattle.jc_rules.specs.declared.operation.Mutation.{Mutation}
use Rattle.jc_rules.specs.declared.operation.Mutation.TheVariants as M
use Rattle.jc_rules.specs.declared.value.Value.{Value}
use Rattle.jc_rules.specs.declared.value.Value.TheVariants as V
use Rattle.jc_rules.specs.Order.{same_id, same_key}
use Rattle.jc_rules.specs.Ids.{has_id}
use Rattle.jc_rules.specs.Context.{Context, key_of_tagged}
use Rattle.jc_rules.specs.Table.{is_done, op_of}
use Rattle.jc_rules.specs.WellFormed.{LeadsThrough, chain_of}
use Rattle.jc_rules.proofs.BoolLemmas.{first_true}
use Rattle.jc_meaning.specs.Effects.{same_tagged, same_path, is_at_or_above, target, is_delete, is_clearing, touches, clears, value_in, primitive_in, written_by, overwrites, is_made_by, passed, goes_through, list_at}
use Rattle.jc_meaning.specs.Seen.{seen}
use Rattle.jc_meaning.proofs.ClearingEffectsLemmas.{seen_append}
use Rattle.jc_meaning.proofs.TagsLemmas.{tags_eq, tags_back}
use Rattle.jc_meaning.specs.Meaning.{some_op, holds_of, is_cleared, is_present, written_of, value_written, goes}
use Rattle.jc_meaning.proofs.MeaningLemmas.{above_lower}
use Rattle.jc_meaning.proofs.MeaningStepButLinksLemmas.{MeansAt}
use Rattle.jc_meaning.specs.ClearingEffects.{is_tagged, Tidy}
use Rattle.jc_meaning.proofs.OrdersLemmas.{keys_back, keys_self}

-- who touches a lower node touches the upper one
lower_above : (P : List Tagged) (u : Tagged) (l : Key) (Q : List Tagged) (q : Key) → is_at_or_above (P ++ u ∷ []) l Q q ≡ true → is_at_or_above P (key_of_tagged u) Q q ≡ true
lower_above [] u l [] q h = cc
lower_above [] u l (t ∷ ts) q h = rw (tags_eq u t (first_true (same_tagged u t) (is_at_or_above [] l ts q) h)) (keys_self (key_of_tagged t))
lower_above (s ∷ ss) u l [] q h = cc
lower_above (s ∷ ss) u l (t ∷ ts) q h = go (same_tagged s t) h (lower_above ss u l ts q)
  where
    go : (b : Bool) → (b && is_at_or_above (ss ++ u ∷ []) l ts q) ≡ true → (is_at_or_above (ss ++ u ∷ []) l ts q ≡ true → is_at_or_above ss (key_of_tagged u) ts q ≡ true) → (b && is_at_or_above ss (key_of_tagged u) ts q) ≡ true
    go true h f = f h
    go false h f = cc

some_more : (f g : Op → Bool) (S : List Op) → ((o : Op) → f o ≡ true → g o ≡ true) → some_op f S ≡ true → some_op g S ≡ true
some_more f g [] h x = cc
some_more f g (o ∷ os) h x = go (f o) refl x (some_more f g os h)
  where
    right : (b y : Bool) → y ≡ true → (b || y) ≡ true
    right true y e = refl
    right false y e = e

    go : (b : Bool) → f o ≡ b → (b || some_op f os) ≡ true → (some_op f os ≡ true → some_op g os ≡ true) → (g o || some_op g os) ≡ true
    go true e x k = rw (h o e) refl
    go false e x k = right (g o) (some_op g os) (k x)

and_map : (a b c d : Bool) → (a ≡ true → c ≡ true) → (b ≡ true → d ≡ true) → (a && b) ≡ true → (c && d) ≡ true
and_map true true c d f g h = rw (f refl, g refl) refl
and_map true false c d f g h = cc
and_map false b c d f g h = cc

not_map : (a b : Bool) → (b ≡ true → a ≡ true) → not a ≡ true → not b ≡ true
not_map a false f h = refl
not_map true true f h = cc
not_map false true f h = let z : false ≡ true = f refl in cc

held_more : (f g : Op → Bool) (x : Option Op) → ((o : Op) → f o ≡ true → g o ≡ true) → holds_of f x ≡ true → holds_of g x ≡ true
held_more f g None h e = cc
held_more f g (Some o) h e = h o e

-- what is present below a tagged key is present at it
pub present_above : (S : List Op) (P : List Tagged) (u : Tagged) (l : Key) (i : Id) → is_present S (P ++ u ∷ []) l i ≡ true → is_present S P (key_of_tagged u) i ≡ true
present_above S P u l i h = and_map (holds_of (λ o. touches o (P ++ u ∷ []) l) (op_of i S)) (not (is_cleared S (P ++ u ∷ []) l i)) (holds_of (λ o. touches o P (key_of_tagged u)) (op_of i S)) (not (is_cleared S P (key_of_tagged u) i))
    (held_more (λ o. touches o (P ++ u ∷ []) l) (λ o. touches o P (key_of_tagged u)) (op_of i S) (λ o. and_map (not (is_delete o.mutation)) (is_at_or_above (P ++ u ∷ []) l o.cursor.path (target o)) (not (is_delete o.mutation)) (is_at_or_above P (key_of_tagged u) o.cursor.path (target o)) (λ e. e) (lower_above P u l o.cursor.path (target o))))
    (not_map (is_cleared S (P ++ u ∷ []) l i) (is_cleared S P (key_of_tagged u) i) (some_more (λ c. clears c P (key_of_tagged u) && has_id i c.deps) (λ c. clears c (P ++ u ∷ []) l && has_id i c.deps) S (λ c. and_map (clears c P (key_of_tagged u)) (has_id i c.deps) (clears c (P ++ u ∷ []) l) (has_id i c.deps) (and_map (is_clearing c.mutation) (is_at_or_above c.cursor.path (target c) P (key_of_tagged u)) (is_clearing c.mutation) (is_at_or_above c.cursor.path (target c) (P ++ u ∷ []) l) (λ e. e) (above_lower c.cursor.path (target c) P u l)) (λ e. e))))
    h

pub path_above : (Q P : List Tagged) (q k : Key) → same_path Q P ≡ true → same_key q k ≡ true → is_at_or_above P k Q q ≡ true
path_above [] [] q k h g = keys_back k q ∙ g
path_above [] (t ∷ ts) q k h g = cc
path_above (t ∷ ts) [] q k h g = cc
path_above (t ∷ ts) (u ∷ us) q k h g = go (same_tagged t u) (tags_back u t) h (λ x. path_above ts us q k x g)
  where
    go : (b : Bool) → same_tagged u t ≡ b → (b && same_path ts us) ≡ true → (same_path ts us ≡ true → is_at_or_above us k ts q ≡ true) → (same_tagged u t && is_at_or_above us k ts q) ≡ true
    go true e x f = rw (e, f x) refl
    go false e x f = cc

-- who writes somewhere touches it
write_touches : (o : Op) (P : List Tagged) (k : Key) → is_some (written_by o P k) ≡ true → touches o P k ≡ true
write_touches o P k h = go (same_path o.cursor.path P) (same_key (target o) k) refl refl h
  where
    not_none : (m : Mutation) → is_some (primitive_in (value_in m)) ≡ true → not (is_delete m) ≡ true
    not_none M.Delete h = cc
    not_none (M.Assign v) h = refl
    not_none (M.Insert v) h = refl

    go : (a b : Bool) → same_path o.cursor.path P ≡ a → same_key (target o) k ≡ b → is_some (cond (a && b) (primitive_in (value_in o.mutation)) None) ≡ true → touches o P k ≡ true
    go true true e f x = rw (not_none o.mutation x, path_above o.cursor.path P (target o) k e f) refl
    go true false e f x = cc
    go false b e f x = cc

-- who has a value somewhere is present there
pub value_present : (S : List Op) (P : List Tagged) (k : Key) (i : Id) → is_some (value_written S P k i) ≡ true → is_present S P k i ≡ true
value_present S P k i h = go (is_cleared S P k i) (some_op (λ a. overwrites a P k && has_id i a.deps) S) h
  where
    held : (x : Option Op) → is_some (written_of x P k) ≡ true → holds_of (λ o. touches o P k) x ≡ true
    held None e = cc
    held (Some o) e = write_touches o P k e

    go : (a b : Bool) → is_some (cond (a || b) None (written_of (op_of i S) P k)) ≡ true → (holds_of (λ o. touches o P k) (op_of i S) && not a) ≡ true
    go true b x = cc
    go false true x = cc
    go false false x = rw (held (op_of i S) x) refl

makes_tag : (v : Value) (k q : Key) → same_key q k ≡ true → (is_made_by (Some v) k (MapT q) || (is_made_by (Some v) k (ListT q) || is_made_by (Some v) k (RegT q))) ≡ true
makes_tag V.EmptyMap k q h = rw (keys_back k q, h) refl
makes_tag V.EmptyList k q h = rw (keys_back k q, h) refl
makes_tag _ k q h = keys_back k q ∙ h

tag_there : (t : Tagged) (k : Key) → same_key k (key_of_tagged t) ≡ true → (same_tagged t (MapT k) || (same_tagged t (ListT k) || same_tagged t (RegT k))) ≡ true
tag_there (MapT j) k h = rw (keys_back j k, h) refl
tag_there (ListT j) k h = rw (keys_back j k, h) refl
tag_there (RegT j) k h = keys_back j k ∙ h

touch_tag : (v : Value) (P : List Tagged) (k : Key) (Q : List Tagged) (q : Key) → is_at_or_above P k Q q ≡ true → (passed Q q (Some v) P (MapT k) || (passed Q q (Some v) P (ListT k) || passed Q q (Some v) P (RegT k))) ≡ true
touch_tag v [] k [] q h = makes_tag v q k h
touch_tag v [] k (t ∷ ts) q h = tag_there t k h
touch_tag v (s ∷ ss) k [] q h = cc
touch_tag v (s ∷ ss) k (t ∷ ts) q h = rw (tags_back t s) (go (same_tagged s t) h (touch_tag v ss k ts q))
  where
    go : (b : Bool) → (b && is_at_or_above ss k ts q) ≡ true → (is_at_or_above ss k ts q ≡ true → (passed ts q (Some v) ss (MapT k) || (passed ts q (Some v) ss (ListT k) || passed ts q (Some v) ss (RegT k))) ≡ true)
        → ((b && passed ts q (Some v) ss (MapT k)) || ((b && passed ts q (Some v) ss (ListT k)) || (b && passed ts q (Some v) ss (RegT k)))) ≡ true
    go true h f = f h
    go false h f = cc

-- what is present has a tag
op_tag : (o : Op) (P : List Tagged) (k : Key) → touches o P k ≡ true → (goes_through o P (MapT k) || (goes_through o P (ListT k) || goes_through o P (RegT k))) ≡ true
op_tag o P k h = go o.mutation h
  where
    go : (m : Mutation) → (not (is_delete m) && is_at_or_above P k o.cursor.path (target o)) ≡ true → (passed o.cursor.path (target o) (value_in m) P (MapT k) || (passed o.cursor.path (target o) (value_in m) P (ListT k) || passed o.cursor.path (target o) (value_in m) P (RegT k))) ≡ true
    go M.Delete x = cc
    go (M.Assign v) x = touch_tag v P k o.cursor.path (target o) x
    go (M.Insert v) x = touch_tag v P k o.cursor.path (target o) x

found_some : (f : Op → Bool) (i : Id) (S : List Op) → holds_of f (op_of i S) ≡ true → some_op f S ≡ true
found_some f i [] h = cc
found_some f i (o ∷ os) h = go (same_id i o.id) h (found_some f i os)
  where
    right : (b : Bool) → (b || true) ≡ true
    right true = refl
    right false = refl

    go : (b : Bool) → holds_of f (cond b (Some o) (op_of i os)) ≡ true → (holds_of f (op_of i os) ≡ true → some_op f os ≡ true) → (f o || some_op f os) ≡ true
    go true x k = rw x refl
    go false x k = rw (k x) (right (f o))

some_or : (f g : Op → Bool) (S : List Op) → some_op (λ o. f o || g o) S ≡ (some_op f S || some_op g S)
some_or f g [] = refl
some_or f g (o ∷ os) = rw (some_or f g os) (swap (f o) (g o) (some_op f os) (some_op g os))
  where
    swap : (a b c d : Bool) → ((a || b) || (c || d)) ≡ ((a || c) || (b || d))
    swap true b c d = refl
    swap false true true d = refl
    swap false true false d = refl
    swap false false true true = refl
    swap false false true false = refl
    swap false false false d = refl

pub present_tagged : (S : List Op) (P : List Tagged) (k : Key) (i : Id) → is_present S P k i ≡ true → (goes S P (MapT k) || (goes S P (ListT k) || goes S P (RegT k))) ≡ true
present_tagged S P k i h =
    let one : holds_of (λ o. touches o P k) (op_of i S) ≡ true = first_true (holds_of (λ o. touches o P k) (op_of i S)) (not (is_cleared S P k i)) h in
    let all : some_op (λ o. goes_through o P (MapT k) || (goes_through o P (ListT k) || goes_through o P (RegT k))) S ≡ true =
    found_some (λ o. goes_through o P (MapT k) || (goes_through o P (ListT k) || goes_through o P (RegT k))) i S (held_more (λ o. touches o P k) (λ o. goes_through o P (MapT k) || (goes_through o P (ListT k) || goes_through o P (RegT k))) (op_of i S) (λ o. op_tag o P k) one) in
    ap (λ b. goes S P (MapT k) || b) (sym (some_or (λ o. goes_through o P (ListT k)) (λ o. goes_through o P (RegT k)) S)) ∙ sym (some_or (λ o. goes_through o P (MapT k)) (λ o. goes_through o P (ListT k) || goes_through o P (RegT k)) S) ∙ all

-- a tree that is what operations mean is tidy where each list's tagged keys are linked
pub tidy_means : (S : List Op) (t : Context) → MeansAt S t → ((P : List Tagged) → list_at false P ≡ true → (is : List Id) × LeadsThrough (seen P t) K.Head is × ((k : Key) → is_tagged k (seen P t) ≡ true → is_done (chain_of is) k ≡ true)) → Tidy false t
tidy_means S t m linked P = record {
  under = λ u l i h. m.ids P (key_of_tagged u) i ∙ present_above S P u l i (sym (m.ids (P ++ u ∷ []) l i) ∙ rw (seen_append P u t) h);
  written = λ k i h. m.ids P k i ∙ value_present S P k i (ap is_some (sym (m.values P k i)) ∙ h);
  tagged = λ k i h. rw (m.tags P (MapT k), m.tags P (ListT k), m.tags P (RegT k)) (present_tagged S P k i (sym (m.ids P k i) ∙ h));
  linked = linked P;
}
