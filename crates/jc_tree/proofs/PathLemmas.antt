-- About Tree: the way down a path, key by key.
use Rattle.std.proofs.Common.{◌≡◌, ◌≢◌, ℕ, ◌+◌, ◌<◌, List, [], ◌∷◌, ◌++◌, length, take, drop, get_or, Option, Some, None, is_some, true, refl, subst}
use Rattle.std.proofs.Math.ListN.{take-append-drop}
use Rattle.std.proofs.lemmas.List.{take_more}
use Rattle.jc_rules.specs.declared.key.Tagged.{Tagged}
use Rattle.jc_rules.specs.declared.key.Tagged.TheVariants.{MapT, ListT, RegT}
use Rattle.jc_rules.specs.Order.{key_cmp}
use Rattle.jc_rules.specs.Entries.{find}
use Rattle.jc_rules.specs.Context.{Context, Content, Node, Values, node_of, content, maps, lists}
use Rattle.jc_rules.specs.ContextsAt.{at_node, node_in, node_at, context_at}
use Rattle.jc_rules.specs.Paths.{HasContext}
use Rattle.jc_rules.proofs.ContextsAtLemmas.{there}
use Rattle.jc_tree.proofs.TreeLemmas.{node-further}

-- one key further down
further : (at : List Tagged) (i : ℕ) (t : Tagged) (c : Context) → i < length at → t ≡ get_or at i t → node_at (take i at) c ≢ None → node_at (take (i + 1) at) c ≡ node_in (content t (context_at (take i at) c))
further at i t c h e p = rw (take_more at i t h, ← e) (node-further (take i at) t (context_at (take i at) c) c (there (take i at) c p))

-- where the first keys lead nowhere, the whole path leads nowhere
nowhere : (ks js : List Tagged) (c : Context) → node_at ks c ≡ None → node_at (ks ++ js) c ≡ None
nowhere [] js c e = let no : ⊥ = cc in absurd no
nowhere (k ∷ ks) js c e = go (content k c) (λ d. nowhere ks js d) e
  where
    go : (o : Option Content) → ((d : Context) → node_at ks d ≡ None → node_at (ks ++ js) d ≡ None) → at_node o (λ d. node_at ks d) None ≡ None → at_node o (λ d. node_at (ks ++ js) d) None ≡ None
    go None ih f = refl
    go (Some (Values r)) ih f = refl
    go (Some (Node d)) ih f = ih d f

no_way : (at : List Tagged) (i : ℕ) (t : Tagged) (c : Context) → i < length at → t ≡ get_or at i t → node_at (take i at) c ≢ None → node_in (content t (context_at (take i at) c)) ≡ None → node_at at c ≡ None
no_way at i t c h e p none =
    subst (λ (ks : List Tagged). node_at ks c ≡ None) (take-append-drop (i + 1) at) (nowhere (take (i + 1) at) (drop (i + 1) at) c (rw (further at i t c h e p) none))

-- where a path leads to a context, so does each front of it
pub front_there : (at : List Tagged) (i : ℕ) (c : Context) → node_at at c ≢ None → node_at (take i at) c ≢ None
front_there at i c p e =
    p (subst (λ (ks : List Tagged). node_at ks c ≡ None) (take-append-drop i at) (nowhere (take i at) (drop i at) c e))

-- and its next key leads on
pub leads_on : (at : List Tagged) (i : ℕ) (t : Tagged) (c : Context) → i < length at → t ≡ get_or at i t → node_at at c ≢ None → is_some (node_in (content t (context_at (take i at) c))) ≡ true
leads_on at i t c h e p =
    go (node_in (content t (context_at (take i at) c))) (λ none. p (no_way at i t c h e (front_there at i c p) none))
  where
    go : (o : Option Context) → (o ≡ None → ⊥) → is_some o ≡ true
    go None n = absurd (n refl)
    go (Some d) n = refl

-- a map or a list that is there is a context
pub found_node : (x : Option Context) → is_some (node_of x) ≡ true → (d : Context) × (node_of x ≡ Some (Node d))
found_node None h = cc
found_node (Some d) h = (d, refl)

pub found_context : (k : Tagged) (c : Context) → HasContext k → is_some (content k c) ≡ true → (d : Context) × (content k c ≡ Some (Node d))
found_context (MapT k) c h s = found_node (find key_cmp k (maps c)) s
found_context (ListT k) c h s = found_node (find key_cmp k (lists c)) s
found_context (RegT k) c h s = absurd h
