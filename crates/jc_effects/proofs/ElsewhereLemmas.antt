-- About Laws: an operation leads to `Changes`, and these leave all else as it was.
use Rattle.std.proofs.Common.{◌≡◌, List, [], ◌∷◌, Bool, true, false, not, ◌||◌, ◌&&◌, cond, Option, Some, None, is_some, refl, ◌∙◌, ap}
use Rattle.jc_rules.specs.declared.key.Key.{Key}
use Rattle.jc_rules.specs.declared.key.Tagged.{Tagged}
use Rattle.jc_rules.specs.declared.key.Tagged.TheVariants.{MapT, ListT, RegT}
use Rattle.jc_rules.specs.declared.operation.Op.{Op}
use Rattle.jc_rules.specs.declared.value.Value.{Value}
use Rattle.jc_rules.specs.Order.{same_id, same_key}
use Rattle.jc_rules.specs.Ids.{has_id}
use Rattle.jc_rules.specs.Context.{Context, next}
use Rattle.jc_rules.specs.Derivation.{Operate, ToContext}
use Rattle.jc_rules.specs.Refused.{IsAnswered}
use Rattle.jc_rules.specs.declared.operation.Mutation.{Mutation}
use Rattle.jc_rules.specs.declared.operation.Mutation.TheVariants as M
use Rattle.jc_rules.proofs.BoolLemmas.{first_true, second_true, both_true}
use Rattle.jc_network.proofs.LinksKeptLemmas.{operates}
use Rattle.jc_meaning.specs.Effects.{same_tagged, same_path, is_at_or_above, is_insert, is_delete, touches, written_by, target, value_in, primitive_in, list_at}
use Rattle.jc_meaning.specs.Seen.{seen, ids_at, value_seen_at, has_tag}
use Rattle.jc_meaning.specs.Meaning.{LinksOf, Means}
use Rattle.jc_meaning.specs.ClearingEffects.{Tidy}
use Rattle.jc_meaning.proofs.OrdersLemmas.{keys_back}
use Rattle.jc_meaning.proofs.TagsLemmas.{tags_back}
use Rattle.jc_meaning.proofs.NextOperationLemmas.{is_insert-is}
use Rattle.jc_meaning.proofs.OperationActsLemmas.{or_else, Changes}
use Rattle.jc_meaning.proofs.InsertEffectsLemmas.{operation_changes}
use Rattle.jc_meaning.proofs.MeaningStepLemmas.{reached, is_tidy, but_links}
use Rattle.jc_meaning.proofs.RootedSetsLemmas.{next_new}
use Rattle.jc_meaning.proofs.RootsLemmas.{is_fresh}
use Rattle.jc_effects.specs.Difference.{IsSameAt}
use Rattle.jc_effects.specs.Laws.{IsNextTree, IsAway}

-- an insert's path ends in a list
pub insert_listed : (S : List Op) (o : Op) (t d : Context) → Means S t → IsAnswered (Operate t o) (ToContext d) → is_insert o.mutation ≡ true → list_at false o.cursor.path ≡ true
insert_listed S o t d m a is = go (list_at false o.cursor.path) (m.links o.cursor.path)
  where
    go : (b : Bool) → LinksOf b S o.cursor.path (seen o.cursor.path t) → b ≡ true
    go true l = refl
    go false l = absurd (reached o.cursor.path t o.cursor.last ((operates t o d a).wants (is_insert-is o.mutation is)) (l o.cursor.last))

pub tidy_before : (o : Op) (c d : Context) → IsNextTree o c d → Tidy false c
tidy_before o c d x = is_tidy x.set c (next_new x.set o x.next).good x.means

pub changes_of : (o : Op) (c d : Context) → IsNextTree o c d → Changes o.id o.deps o.cursor.path o.cursor.last o.mutation c d
changes_of o c d x = operation_changes false c d o (tidy_before o c d x) (λ is. is_fresh x.set o (next_new x.set o x.next) (insert_listed x.set o c d x.means x.leads is) c (but_links x.set c x.means)) x.leads

no_more : (x y : Bool) → y ≡ false → (x || y) ≡ x
no_more true y h = refl
no_more false y h = h

kept : (s t x cl y : Bool) → t ≡ false → cl ≡ false → ((s && t) || (x && not (cl && y))) ≡ x
kept true false true false y h g = refl
kept true false false false y h g = refl
kept false false true false y h g = refl
kept false false false false y h g = refl
kept s true x cl y h g = cc
kept s false x true y h g = cc

-- a place at which a value is written is touched
value_kept : (s cl ov y : Bool) (w v : Option Value) → w ≡ None → cl ≡ false → ov ≡ false → or_else (cond s w None) (cond ((cl || ov) && y) None v) ≡ v
value_kept true false false y None v h g k = refl
value_kept false false false y w v h g k = refl
value_kept true false false y (Some x) v h g k = cc
value_kept s true ov y w v h g k = cc
value_kept s false true y w v h g k = cc

-- the place itself is at or above it
same_above : (P Q : List Tagged) (k l : Key) → (same_path Q P && same_key l k) ≡ true → is_at_or_above P k Q l ≡ true
same_above [] [] k l e = keys_back k l ∙ e
same_above [] (u ∷ us) k l e = cc
same_above (t ∷ ts) [] k l e = cc
same_above (t ∷ ts) (u ∷ us) k l e =
    let x : same_tagged u t && same_path us ts ≡ true = first_true (same_tagged u t && same_path us ts) (same_key l k) e in
    let y : same_key l k ≡ true = second_true (same_tagged u t && same_path us ts) (same_key l k) e in
    both_true (same_tagged t u) (is_at_or_above ts k us l)
    (tags_back t u ∙ first_true (same_tagged u t) (same_path us ts) x)
    (same_above ts us k l (both_true (same_path us ts) (same_key l k) (second_true (same_tagged u t) (same_path us ts) x) y))

not_written : (m : Mutation) (b a : Bool) → (b ≡ true → a ≡ true) → (not (is_delete m) && a) ≡ false → cond b (primitive_in (value_in m)) None ≡ None
not_written m false a h e = refl
not_written M.Delete true a h e = refl
not_written (M.Assign v) true a h e = let x : a ≡ true = h refl in cc
not_written (M.Insert v) true a h e = let x : a ≡ true = h refl in cc

-- where nothing is touched, no value is written
unwritten : (o : Op) (P : List Tagged) (k : Key) → touches o P k ≡ false → written_by o P k ≡ None
unwritten o P k e = not_written o.mutation (same_path o.cursor.path P && same_key (target o) k) (is_at_or_above P k o.cursor.path (target o)) (same_above P o.cursor.path k (target o)) e

no_value : (x : Bool) (w : Option Value) → w ≡ None → (x && is_some w) ≡ false
no_value true w h = ap is_some h
no_value false w h = refl

links_kept : (b s : Bool) (X : Type 0) → (b && s) ≡ false → (b ≡ false → X) → (s ≡ false → X) → X
links_kept true true X h f g = cc
links_kept true false X h f g = g refl
links_kept false s X h f g = f refl

-- away from an operation, where the link is the same
pub same_but_link : (o : Op) (c d : Context) → IsNextTree o c d → (P : List Tagged) (k : Key) → IsAway o P k → next k (seen P d) ≡ next k (seen P c) → IsSameAt k (seen P c) (seen P d)
same_but_link o c d x P k away link =
    let m : Changes o.id o.deps o.cursor.path o.cursor.last o.mutation c d = changes_of o c d x in
    record {
      maps = m.tags P (MapT k) ∙ no_more (has_tag (MapT k) (seen P c)) _ away.no_map;
      lists = m.tags P (ListT k) ∙ no_more (has_tag (ListT k) (seen P c)) _ away.no_list;
      registers = m.tags P (RegT k) ∙ no_more (has_tag (RegT k) (seen P c)) _ away.no_register;
      ids = λ i. m.ids P k i ∙ kept (same_id i o.id) _ (has_id i (ids_at k (seen P c))) _ (has_id i o.deps) away.untouched away.uncleared;
      values = λ i. m.values P k i ∙ value_kept (same_id i o.id) _ _ (has_id i o.deps) (written_by o P k) (value_seen_at i k (seen P c)) (unwritten o P k away.untouched) away.uncleared (no_value (not (is_insert o.mutation)) (written_by o P k) (unwritten o P k away.untouched));
      links = link;
    }

pub elsewhere : (o : Op) (c d : Context) → IsNextTree o c d → (P : List Tagged) (k : Key) → IsAway o P k → (is_insert o.mutation && same_path o.cursor.path P) ≡ false → IsSameAt k (seen P c) (seen P d)
elsewhere o c d x P k away list =
    let m : Changes o.id o.deps o.cursor.path o.cursor.last o.mutation c d = changes_of o c d x in
    same_but_link o c d x P k away
    (links_kept (is_insert o.mutation) (same_path o.cursor.path P) (next k (seen P d) ≡ next k (seen P c)) list (λ h. m.links h P k) (λ h. m.elsewhere P k h))
