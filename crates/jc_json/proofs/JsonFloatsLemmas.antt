-- About Json: no tree of a document has a float.
use Rattle.std.proofs.Common.{◌≡◌, ℕ, List, [], ◌∷◌, ◌++◌, map, false, refl}
use Rattle.std.specs.List.{AllByRecursion}
use Rattle.std.specs.Ordering.{match_ordering, nat_cmp}
use Rattle.std.specs.Cmp.Lexicographic.{slice_cmp}
use Rattle.std.specs.declared.cmp.Ordering.{Ordering}
use Rattle.std.specs.declared.cmp.Ordering.TheVariants.{Less, Equal, Greater}
use Rattle.serde_json.specs.Data.{Data, Members, no_members, member, put}
use Rattle.serde_json.specs.Written.{has_float, members_have_float}
use Rattle.jc_rules.specs.declared.id.Id.{Id}
use Rattle.jc_rules.specs.declared.key.Key.{Key}
use Rattle.jc_rules.specs.declared.key.Tagged.{Tagged}
use Rattle.jc_rules.specs.declared.key.Tagged.TheVariants.{MapT, ListT}
use Rattle.jc_rules.specs.declared.value.Value.{Value}
use Rattle.jc_rules.specs.declared.value.Value.TheVariants as V
use Rattle.jc_rules.specs.Context.{Context, context, Children, no_child, child, Register}
use Rattle.jc_json.specs.Json.{id_text, put_all, object_of, texts_data, ids_data, value_data, value_member, register_data, register_member, presence_member, next_member, context_data, child_members}
use Rattle.jc_rules.proofs.BoolLemmas.{neither}

put_at : (o : Ordering) (k l : List ℕ) (d e : Data) (ms new : Members) → has_float d ≡ false → has_float e ≡ false → members_have_float ms ≡ false → members_have_float new ≡ false
    → members_have_float (match_ordering o (member k d (member l e ms)) (member l d ms) (member l e new)) ≡ false
put_at Less k l d e ms new p q r s = rw (p, q) r
put_at Equal k l d e ms new p q r s = rw p r
put_at Greater k l d e ms new p q r s = rw q s

put_float : (k : List ℕ) (d : Data) (ms : Members) → has_float d ≡ false → members_have_float ms ≡ false → members_have_float (put k d ms) ≡ false
put_float k d no_members h hs = rw h refl
put_float k d (member l e ms) h hs =
    let parts = neither (has_float e) (members_have_float ms) hs in
    put_at (slice_cmp nat_cmp k l) k l d e ms (put k d ms) h parts.0 parts.1 (put_float k d ms h parts.1)

-- members whose data have no float
abbrev pub HaveNone : List (List ℕ × Data) → Type 0
HaveNone es = AllByRecursion (λ e. has_float e.1 ≡ false) es

put_all_float : (es : List (List ℕ × Data)) (ms : Members) → HaveNone es → members_have_float ms ≡ false → members_have_float (put_all es ms) ≡ false
put_all_float [] ms h hs = hs
put_all_float (e ∷ es) ms h hs = put_all_float es (put e.0 e.1 ms) h.1 (put_float e.0 e.1 ms h.0 hs)

pub object_float : (es : List (List ℕ × Data)) → HaveNone es → has_float (object_of es) ≡ false
object_float es h = put_all_float es no_members h refl

all-append : (es fs : List (List ℕ × Data)) → HaveNone es → HaveNone fs → HaveNone (es ++ fs)
all-append [] fs h g = g
all-append (e ∷ es) fs h g = (h.0, all-append es fs h.1 g)

pub all-map : {X : Type 0} (f : X → List ℕ × Data) → ((x : X) → has_float (f x).1 ≡ false) → (xs : List X) → HaveNone (map f xs)
all-map f h [] = tt
all-map f h (x ∷ xs) = (h x, all-map f h xs)

pub texts_float : (texts : List (List ℕ)) → has_float (texts_data texts) ≡ false
texts_float [] = refl
texts_float (t ∷ ts) = texts_float ts

pub ids_float : (names : List (List ℕ)) (ids : List Id) → has_float (ids_data names ids) ≡ false
ids_float names ids = texts_float (map (λ i. id_text names i) ids)

pub value_float : (v : Value) → has_float (value_data v) ≡ false
value_float (V.Number s) = refl
value_float _ = refl

register_float : (names : List (List ℕ)) (r : Register) → has_float (register_data names r) ≡ false
register_float names r = object_float (map (value_member names) r) (all-map (value_member names) (λ e. value_float e.1) r)

mutual
  pub context_float : (names : List (List ℕ)) (c : Context) → has_float (context_data names c) ≡ false
  context_float names (context m l r p n) =
      object_float _ (all-append _ _ (all-append _ _ (all-append _ _ (all-append _ _ (children_float names MapT m) (children_float names ListT l))
      (all-map (register_member names) (λ e. register_float names e.1) r))
      (all-map (presence_member names) (λ e. ids_float names e.1) p))
      (all-map (next_member names) (λ e. refl) n))

  children_float : (names : List (List ℕ)) (tag : Key → Tagged) (cs : Children) → HaveNone (child_members names tag cs)
  children_float names tag no_child = tt
  children_float names tag (child k c cs) = (context_float names c, children_float names tag cs)
