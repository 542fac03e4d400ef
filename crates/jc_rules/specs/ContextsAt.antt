-- The context at a path of tagged keys, and the document with another one there.
use Rattle.std.specs.Prelude.{◌≡◌, List, [], ◌∷◌, ◌++◌, Option, Some, None}
use Rattle.jc_rules.specs.declared.key.Key.{Key}
use Rattle.jc_rules.specs.declared.key.Tagged.{Tagged}
use Rattle.jc_rules.specs.Context.{Context, Content, Node, content, with_content, empty, key_of_tagged}

-- by whether there is a context
abbrev pub at_node : {A : Type 0} → Option Content → (Context → A) → A → A
at_node (Some (Node d)) f a = f d
at_node _ f a = a

abbrev pub node_in : Option Content → Option Context
node_in (Some (Node d)) = Some d
node_in _ = None

-- the context below the path
abbrev pub node_at : List Tagged → Context → Option Context
node_at [] c = Some c
node_at (k ∷ ks) c = at_node (content k c) (λ d. node_at ks d) None

-- with y below the path, where there is a context
abbrev pub with_node_at : List Tagged → Context → Context → Context
with_node_at [] y c = y
with_node_at (k ∷ ks) y c = at_node (content k c) (λ d. with_content k (Node (with_node_at ks y d)) c) c

abbrev pub or_empty : Option Context → Context
or_empty None = empty
or_empty (Some c) = c

-- the context at a path that leads to one
abbrev pub context_at : List Tagged → Context → Context
context_at ks c = or_empty (node_at ks c)

-- the first key on the way down a path to a last key
abbrev pub first_key : List Tagged → Key → Key
first_key [] k = k
first_key (t ∷ ts) k = key_of_tagged t

-- The place of key j below the path q is at or above the place of key k below the path p: the way to k goes through j
-- there.
abbrev pub IsAtOrAbove : List Tagged → Key → List Tagged → Key → Type 0
IsAtOrAbove q j p k = (rest : List Tagged) × (p ≡ q ++ rest) × (first_key rest k ≡ j)
