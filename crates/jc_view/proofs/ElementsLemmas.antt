-- About Visible and Parts: the elements of a list, written one after another.
use Rattle.std.proofs.Common.{◌≡◌, ◌≢◌, ℕ, zero, suc, ◌-◌, ◌<◌, ◌≤◌, List, [], ◌∷◌, ◌++◌, Bool, true, false, cond, Option, Some, None, is_some, length, append_assoc, refl, sym, ◌∙◌, ap, subst, arith}
use Rattle.json.specs.Json.{Json}
use Rattle.json.specs.Token as T
use Rattle.json.specs.Tree.{json_tokens, items_tokens}
use Rattle.json.specs.Written.{Written}
use Rattle.jc_rules.specs.declared.id.Id.{Id}
use Rattle.jc_rules.specs.declared.key.Key.{Key}
use Rattle.jc_rules.specs.declared.key.Key.TheVariants.{Head, Elem}
use Rattle.jc_rules.specs.declared.key.Next.{Next}
use Rattle.jc_rules.specs.declared.key.Next.TheVariants.{Tail, Elem as To}
use Rattle.jc_rules.specs.Order.{key_cmp}
use Rattle.jc_rules.specs.Entries.{find}
use Rattle.jc_rules.specs.Context.{Context, presences, links, next}
use Rattle.jc_rules.specs.WellFormed.{IsChainedList}
use Rattle.jc_tree.proofs.ChainedLeadsLemmas.{steps}
use Rattle.jc_cursor.proofs.ElementsLemmas.{nearer}
use Rattle.jc_view.specs.Visible.{present, followed, elements_after, visible_items_at}
use Rattle.jc_json.specs.Gains.{Gains}
use Rattle.jc_view.specs.Parts.{items_front, item_of}
use Rattle.jc_json.proofs.GainsLemmas.{Wrote, wrote_begins, wrote_more}

pub steps_le : (n : ℕ) (c : Context) (k : Key) → steps (Some k) n c ≤ n
steps_le zero c k = omega arith
steps_le (suc n) c k = go (next k c) refl (λ j. steps_le n c j)
  where
    go : (o : Option Next) → next k c ≡ o → ((j : Key) → steps (Some j) n c ≤ n) → steps (Some k) (suc n) c ≤ suc n
    go None e h = rw e (omega arith)
    go (Some Tail) e h = rw e (omega arith)
    go (Some (To i)) e h = rw e (omega (arith, h (Elem i)))

-- The elements after the key, of which the number is great enough, are still to be written.
pub record Along (show : Key → Json) (c : Context) (k : Key) (start now : Written) : Type 0 where
  pub most : ℕ
  pub enough : steps (Some k) (length (links c)) c ≤ most
  pub wrote : Wrote start now (items_front show (present (presences c)) (elements_after most k (links c)))
      (items_front show (present (presences c)) (elements_after (length (links c)) Head (links c)))

pub along_begins : (show : Key → Json) (c : Context) (a : Written) → Along show c Head a a
along_begins show c a = record { most = length (links c); enough = steps_le (length (links c)) c Head; wrote = wrote_begins a _ }

one_more : (show : Key → Json) (c : Context) (i : Id) (is : List Id) → items_front show (present (presences c)) (i ∷ is) ≡ item_of show (Elem i) c ++ items_front show (present (presences c)) is
one_more show c i is = go (is_some (find key_cmp (Elem i) (present (presences c))))
  where
    go : (b : Bool) → cond b (json_tokens (show (Elem i)) ++ items_front show (present (presences c)) is) (items_front show (present (presences c)) is)
        ≡ cond b (json_tokens (show (Elem i))) [] ++ items_front show (present (presences c)) is
    go true = refl
    go false = refl

next_after : (k : Key) (i : Id) (most : ℕ) (c : Context) → next k c ≡ Some (To i) → elements_after (suc most) k (links c) ≡ i ∷ elements_after most (Elem i) (links c)
next_after k i most c e = ap (λ o. followed o (λ j. elements_after most (Elem j) (links c))) e

pub along_on : (show : Key → Json) (c : Context) (k : Key) (i : Id) (a b d : Written) → (next k c ≡ Some (To i) → IsChainedList c) → next k c ≡ Some (To i) → Gains b d (item_of show (Elem i) c) → Along show c k a b → Along show c (Elem i) a d
along_on show c k i a b d h e g w =
    let near : steps (Some (Elem i)) (length (links c)) c < steps (Some k) (length (links c)) c = nearer c k (Elem i) i h e refl in
    let is : w.most ≡ suc (w.most - 1) = omega (arith, near, w.enough) in
    let left = elements_after (w.most - 1) (Elem i) (links c) in
    let here : elements_after w.most k (links c) ≡ i ∷ left = ap (λ m. elements_after m k (links c)) is ∙ next_after k i (w.most - 1) c e in
    let rest : items_front show (present (presences c)) (elements_after w.most k (links c)) ≡ item_of show (Elem i) c ++ items_front show (present (presences c)) left =
    ap (items_front show (present (presences c))) here ∙ one_more show c i left in
    record { most = w.most - 1; enough = omega (arith, near, w.enough); wrote = wrote_more a b d (item_of show (Elem i) c) _ _ _ rest g w.wrote }

no_more : (k : Key) (most : ℕ) (c : Context) → ((i : Id) → next k c ≢ Some (To i)) → elements_after most k (links c) ≡ []
no_more k zero c h = refl
no_more k (suc most) c h = go (next k c) refl
  where
    go : (o : Option Next) → next k c ≡ o → followed (next k c) (λ j. elements_after most (Elem j) (links c)) ≡ []
    go None e = rw e refl
    go (Some Tail) e = rw e refl
    go (Some (To i)) e = absurd (h i e)

pub along_ends : (show : Key → Json) (c : Context) (k : Key) (a b : Written) → ((i : Id) → next k c ≢ Some (To i)) → Along show c k a b
    → Wrote a b [] (items_front show (present (presences c)) (elements_after (length (links c)) Head (links c)))
along_ends show c k a b h w =
    subst (λ (is : List Id). Wrote a b (items_front show (present (presences c)) is) (items_front show (present (presences c)) (elements_after (length (links c)) Head (links c)))) (no_more k w.most c h) w.wrote

pub items_tokens_are : (show : Key → Json) (p : List (Key × List Id)) (is : List Id) → items_tokens (visible_items_at show p is) ≡ items_front show p is ++ T.end_array ∷ []
items_tokens_are show p [] = refl
items_tokens_are show p (i ∷ is) = go (is_some (find key_cmp (Elem i) p)) (items_tokens_are show p is)
  where
    go : (b : Bool) → items_tokens (visible_items_at show p is) ≡ items_front show p is ++ T.end_array ∷ []
        → items_tokens (cond b (Rattle.json.specs.Json.item (show (Elem i)) (visible_items_at show p is)) (visible_items_at show p is))
        ≡ cond b (json_tokens (show (Elem i)) ++ items_front show p is) (items_front show p is) ++ T.end_array ∷ []
    go true e = ap (λ x. json_tokens (show (Elem i)) ++ x) e ∙ sym (append_assoc (json_tokens (show (Elem i))) (items_front show p is) (T.end_array ∷ []))
    go false e = e
