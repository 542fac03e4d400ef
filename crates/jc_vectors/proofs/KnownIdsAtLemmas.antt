-- About specs/KnownIds: identifiers known in a document and in the context at a path.
use Rattle.std.proofs.Common.{◌≡◌, List, [], ◌∷◌, Option, Some, None, refl}
use Rattle.jc_rules.specs.declared.id.Id.{Id}
use Rattle.jc_rules.specs.declared.key.Tagged.{Tagged}
use Rattle.jc_rules.specs.Context.{Context, Content, Node, Values, content}
use Rattle.jc_rules.specs.ContextsAt.{node_at, with_node_at}
use Rattle.jc_vectors.specs.KnownIds.{EachId}
use Rattle.jc_vectors.proofs.KnownIdsLemmas.{each_content, each-with_content}

module _ (P : Id → Type 0) where
  none_some : {A : Type 0} {x : Context} → None ≡ Some x → A
  none_some e = absurd (let f : ⊥ = cc in f)

  -- down to a place
  pub each_node : (ks : List Tagged) (c d : Context) → node_at ks c ≡ Some d → EachId P c → EachId P d
  each_node [] c d e h = let same : c ≡ d = cc in rw (← same) h
  each_node (k ∷ ks) c d e h = go (content k c) refl (λ b g. each_node ks b d g) e
    where
      go : (o : Option Content) → content k c ≡ o → ((b : Context) → node_at ks b ≡ Some d → EachId P b → EachId P d) → node_at (k ∷ ks) c ≡ Some d → EachId P d
      go None f ih g = none_some (rw f at g)
      go (Some (Values r)) f ih g = none_some (rw f at g)
      go (Some (Node b)) f ih g = ih b (rw f at g) (each_content P k c (Node b) f h)

  -- and back, with another context there
  pub each-with_node : (ks : List Tagged) (d c : Context) → EachId P c → EachId P d → EachId P (with_node_at ks d c)
  each-with_node [] d c h g = g
  each-with_node (k ∷ ks) d c h g = go (content k c) refl (λ b f. each-with_node ks d b f g)
    where
      go : (o : Option Content) → content k c ≡ o → ((b : Context) → EachId P b → EachId P (with_node_at ks d b)) → EachId P (with_node_at (k ∷ ks) d c)
      go None f ih = rw f h
      go (Some (Values r)) f ih = rw f h
      go (Some (Node b)) f ih = rw f (each-with_content P k (Node (with_node_at ks d b)) c h (ih b (each_content P k c (Node b) f h)))
