-- About Laws: what the laws need of sound, rooted and closed sets.
use Rattle.std.proofs.Common.{◌≡◌, ◌<◌, List, [], ◌∷◌, ◌++◌, Option, Some, None, is_some, Bool, true, false, ◌&&◌, not, cond, Contains, ◌⊎◌, inl, inr, refl, sym, ◌∙◌, ap, subst}
use Rattle.jc_rules.specs.declared.id.Id.{Id}
use Rattle.jc_rules.specs.declared.key.Key.{Key}
use Rattle.jc_rules.specs.declared.key.Key.TheVariants as K
use Rattle.jc_rules.specs.declared.key.Tagged.{Tagged}
use Rattle.jc_rules.specs.declared.key.Tagged.TheVariants.{ListT}
use Rattle.jc_rules.specs.declared.operation.Op.{Op}
use Rattle.jc_rules.specs.Order.{same_id}
use Rattle.jc_rules.specs.Ids.{has_id}
use Rattle.jc_rules.specs.Context.{Context, content}
use Rattle.jc_rules.specs.Derivation.{ClearElem, Cleared}
use Rattle.jc_rules.specs.ContextsAt.{IsAtOrAbove, node_at}
use Rattle.jc_rules.specs.Refused.{IsAnswered}
use Rattle.jc_rules.specs.Sound.{IsSound, IsRooted, IsRootedAt}
use Rattle.jc_rules.specs.Table.{op_of}
use Rattle.jc_rules.proofs.IdsLemmas.{same_id-true}
use Rattle.jc_network.proofs.MembersLemmas.{first_in, later_in, op_in}
use Rattle.jc_meaning.specs.Laws.{IsClosedSet, ComesNext}
use Rattle.jc_meaning.specs.Meaning.{Means}
use Rattle.jc_meaning.specs.Seen.{context_or_new, seen, ids_at}
use Rattle.jc_meaning.specs.ClearingEffects.{Tidy, TakesAway, in_key}
use Rattle.jc_meaning.specs.Effects.{list_at, is_list_tag, same_path}
use Rattle.jc_meaning.proofs.NextOperationLemmas.{at_list, paths_self, insert_is, inserted_by, DepsIn, DepsOlder, IsRoot, RootedIn, IsGood, NewFor}
use Rattle.jc_meaning.proofs.InsertEffectsLemmas.{clears_elem}
use Rattle.jc_meaning.proofs.MeaningStepLemmas.{is_tidy}
use Rattle.jc_meaning.proofs.SeenLemmas.{node_seen}
use Rattle.jc_vectors.proofs.StateShrinksLemmas.{some_of}

-- All is a sound and rooted set, S has the operation of each identifier of its own that All has.
module _ (All S : List Op) (sound : IsSound All) (rooted : IsRooted All) (same : (i : Id) → is_some (op_of i S) ≡ true → op_of i All ≡ op_of i S) (p : Op) (k : Contains All p) (deps : DepsIn S p) where
  pub older_of : DepsOlder p
  older_of i d =
      let x = sound.closed p k i d in
      subst (λ (j : Id). j.counter < p.id.counter) (op_in i All x.0 x.1).1 (x.2).earlier

  pub rooted_of : RootedIn S p
  rooted_of P l list above = at (at_list P l p.cursor.path p.cursor.last list above)
    where
      root : (R : List Tagged) → P ≡ R → (l ≡ K.Head) ⊎ IsRootedAt All p R l → IsRoot S p P l
      root R s (inl e) = subst (IsRoot S p P) (sym e) tt
      root R s (inr (i, e, d, o, found, inserts, path)) =
          let here : op_of i S ≡ Some o = sym (same i (deps i d)) ∙ found in
          subst (IsRoot S p P) (sym e) (d, inserted_by S P i o here (insert_is o.mutation inserts) (subst (λ Q. same_path Q P ≡ true) (sym (path ∙ sym s)) (paths_self P)))

      at : (above : List Tagged) × (t : Key) × (P ≡ above ++ ListT t ∷ []) × IsAtOrAbove (above ++ ListT t ∷ []) l p.cursor.path p.cursor.last → IsRoot S p P l
      at (above, t, s, x) = root (above ++ ListT t ∷ []) s (rooted p k above t l x)

pub closed_good : (set : List Op) → IsClosedSet set → IsGood set
closed_good set h =
    record {
      one = h.sound.one_each;
      closed = h.closed;
      older = λ p k. older_of set set h.sound h.rooted (λ i e. refl) p k (h.closed p k);
      rooted = λ p k. rooted_of set set h.sound h.rooted (λ i e. refl) p k (h.closed p k);
    }

pub next_new : (set : List Op) (o : Op) → ComesNext set o → NewFor set o
next_new set o h =
    record {
      outside = h.outside;
      deps_in = h.deps;
      older = older_of (o ∷ set) set h.sound h.rooted same o (first_in o set) h.deps;
      rooted = rooted_of (o ∷ set) set h.sound h.rooted same o (first_in o set) h.deps;
      good =
          record {
            one = one;
            closed = h.closed;
            older = λ p k. older_of (o ∷ set) set h.sound h.rooted same p (later_in p o set k) (h.closed p k);
            rooted = λ p k. rooted_of (o ∷ set) set h.sound h.rooted same p (later_in p o set k) (h.closed p k);
          };
    }
  where
    same : (i : Id) → is_some (op_of i set) ≡ true → op_of i (o ∷ set) ≡ op_of i set
    same i e = go (same_id i o.id) refl
      where
        go : (b : Bool) → same_id i o.id ≡ b → cond b (Some o) (op_of i set) ≡ op_of i set
        go true x =
            let none : op_of i set ≡ None = ap (λ j. op_of j set) (same_id-true i o.id x) ∙ h.outside in
            let z : true ≡ false = sym e ∙ ap is_some none in
            cc
        go false x = refl

    there : (p : Op) → Contains set p → is_some (op_of p.id set) ≡ true
    there p k = go (op_of p.id set) refl
      where
        go : (x : Option Op) → op_of p.id set ≡ x → is_some x ≡ true
        go None e = absurd (some_of set p k e)
        go (Some q) e = refl

    one : (p : Op) → Contains set p → op_of p.id set ≡ Some p
    one p k = sym (same p.id (there p k)) ∙ h.sound.one_each p (later_in p o set k)

tidy_below : (b : Bool) (P : List Tagged) (c : Context) → Tidy b c → Tidy (list_at b P) (seen P c)
tidy_below b [] c h = h
tidy_below b (t ∷ ts) c h = tidy_below (is_list_tag t) ts (context_or_new (content t c) t) (λ Q. h (t ∷ Q))

pub clearing_takes : (set : List Op) (t : Context) → IsClosedSet set → Means set t → (path : List Tagged) (c d : Context) (deps s : List Id) (k : Key) → node_at path t ≡ Some c → IsAnswered (ClearElem c deps k) (Cleared d s)
    → TakesAway c d deps (in_key k) (in_key k) × ((i : Id) → has_id i s ≡ (has_id i (ids_at k c) && not (has_id i deps)))
clearing_takes set t h m path c d deps s k there a = clears_elem (list_at false path) c d deps s k (subst (Tidy (list_at false path)) (node_seen path t c there) below) a
  where
    whole : Tidy false t
    whole = is_tidy set t (closed_good set h) m

    below : Tidy (list_at false path) (seen path t)
    below = tidy_below false path t whole
