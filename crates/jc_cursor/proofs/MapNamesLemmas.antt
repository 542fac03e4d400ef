-- About Evaluates: the names of a map, key by key.
use Rattle.std.proofs.Common.{◌≡◌, ◌≢◌, ℕ, zero, suc, ◌<◌, ◌≤◌, List, [], ◌∷◌, ◌++◌, length, take, get_or, filter_map, None, Contains, Bor, sym, ◌∙◌, ap, arith}
use Rattle.std.proofs.lemmas.List.{take_all, length-map}
use Rattle.std.proofs.lemmas.List.Elements.{filter_map-append}
use Rattle.std.specs.List.{AllByRecursion}
use Rattle.jc_rules.specs.declared.key.Key.{Key}
use Rattle.jc_rules.specs.declared.key.Tagged.{Tagged}
use Rattle.jc_rules.specs.Order.{key_cmp}
use Rattle.jc_rules.specs.Entries.{IsRising, keys_of}
use Rattle.jc_rules.specs.Context.{Context, keys, presences, presence, links}
use Rattle.jc_rules.specs.ContextsAt.{node_at, context_at}
use Rattle.jc_rules.specs.WellFormed.{IsWellFormedContext}
use Rattle.jc_rules.specs.Table.{name_in_presence, names_in}
use Rattle.jc_rules.proofs.ContextsAtLemmas.{there}
use Rattle.jc_tree.specs.declared.store.Hint.{Hint}
use Rattle.jc_tree.specs.Tree.{all_keys, keys_lent}
use Rattle.jc_tree.specs.Walks.{entry_of, entries_at}
use Rattle.jc_tree.proofs.WalksEntriesLemmas.{all-left, all-right, all_entries, entries_at-more}
use Rattle.jc_tree.proofs.WellFormedLemmas.{kept-node, presences_rise}

-- ---- the keys

rise_at : (at : List Tagged) (c : Context) → node_at at c ≢ None → IsWellFormedContext c → IsRising key_cmp (keys_of (presences (context_at at c)))
rise_at at c h k = presences_rise (context_at at c) (kept-node at c (context_at at c) k (there at c h))

of_presences : (P : Key → Type 0) (c : Context) → AllByRecursion P (all_keys c) → AllByRecursion P (keys_of (presences c))
of_presences P c a = all-right P (keys c) (keys_of (presences c)) (all-left P (keys c ++ keys_of (presences c)) (keys_of (links c)) a)

pub one_lent_more : (lent : List (Bor Key × Hint)) (n : ℕ) (x : Bor Key × Hint) → n < length lent → x ≡ get_or lent n x → take (suc n) (keys_lent lent) ≡ take n (keys_lent lent) ++ x.0.now ∷ []
one_lent_more [] n x h e = absurd (omega arith)
one_lent_more (l ∷ lent) zero x h e = ap (λ (y : Bor Key × Hint). y.0.now ∷ []) (sym e)
one_lent_more (l ∷ lent) (suc n) x h e = ap (λ ks. l.0.now ∷ ks) (one_lent_more lent n x (omega arith) e)

-- ---- the loop over them

-- these are the names among the first n keys
abbrev pub AreNamed : List (Bor Key × Hint) → ℕ → Context → List (List ℕ) → Type 0
AreNamed lent n c names = names ≡ filter_map name_in_presence (entries_at (take n (keys_lent lent)) (presences c))

pub named_on : (lent : List (Bor Key × Hint)) (n : ℕ) (x : Bor Key × Hint) (c : Context) (names more : List (List ℕ)) → n < length lent → x ≡ get_or lent n x → AreNamed lent n c names → more ≡ names ++ filter_map name_in_presence (entry_of x.0.now (presence x.0.now c)) → AreNamed lent (suc n) c more
named_on lent n x c names more h is before e =
    e
    ∙ ap (λ ns. ns ++ filter_map name_in_presence (entry_of x.0.now (presence x.0.now c))) before
    ∙ sym (filter_map-append name_in_presence (entries_at (take n (keys_lent lent)) (presences c)) (entry_of x.0.now (presence x.0.now c)))
    ∙ ap (filter_map name_in_presence) (sym (entries_at-more (take n (keys_lent lent)) x.0.now (presences c)))
    ∙ ap (λ ks. filter_map name_in_presence (entries_at ks (presences c))) (sym (one_lent_more lent n x h is))

pub named_all : (lent : List (Bor Key × Hint)) (n : ℕ) (at : List Tagged) (c : Context) (names : List (List ℕ)) → length lent ≤ n → node_at at c ≢ None → IsWellFormedContext c → IsRising key_cmp (keys_lent lent) → AllByRecursion (Contains (keys_lent lent)) (all_keys (context_at at c)) → AreNamed lent n (context_at at c) names → names ≡ names_in (context_at at c)
named_all lent n at c names h p k r all e =
    let d = context_at at c in
    let whole : take n (keys_lent lent) ≡ keys_lent lent = take_all n (keys_lent lent) (omega (arith, h, length-map lent (λ (l : Bor Key × Hint). l.0.now))) in
    e
    ∙ ap (λ ks. filter_map name_in_presence (entries_at ks (presences d))) whole
    ∙ ap (filter_map name_in_presence) (all_entries (keys_lent lent) (presences d) r (rise_at at c p k) (of_presences (Contains (keys_lent lent)) d all))
