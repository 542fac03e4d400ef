-- A property of the links of each context of a tree, by the path to it. RunInvariant has the one that trees keep.
use Rattle.std.specs.Prelude.{◌≢◌, List, [], ◌∷◌, None}
use Rattle.jc_rules.specs.declared.key.Key.{Key}
use Rattle.jc_rules.specs.declared.key.Next.{Next}
use Rattle.jc_rules.specs.declared.key.Tagged.{Tagged}
use Rattle.jc_rules.specs.declared.key.Tagged.TheVariants.{MapT, ListT}
use Rattle.jc_rules.specs.Context.{Context, context, Children, no_child, child, next}
use Rattle.jc_apply.specs.Fits.{child_context, InChild}

abbrev pub LinksHold : Type 0
LinksHold = List (Key × Next)

-- what is said of the links of the context below a path
abbrev pub LinksAt : Type 1
LinksAt = List Tagged → LinksHold → Type 0

-- the same, said from below a tagged key
abbrev pub links_below : Tagged → LinksAt → LinksAt
links_below t Q = λ P n. Q (t ∷ P) n

-- it holds of each context of the tree
abbrev mutual
  pub Everywhere : LinksAt → Context → Type 0
  Everywhere Q (context m l r p n) = Q [] n × InMaps Q m × InLists Q l

  pub InMaps : LinksAt → Children → Type 0
  InMaps Q no_child = Unit {0}
  InMaps Q (child k c cs) = Everywhere (links_below (MapT k) Q) c × InMaps Q cs

  pub InLists : LinksAt → Children → Type 0
  InLists Q no_child = Unit {0}
  InLists Q (child k c cs) = Everywhere (links_below (ListT k) Q) c × InLists Q cs

-- the path leads through contexts, some of them new, to one where something follows the key
abbrev pub Reach : Context → List Tagged → Key → Type 0
Reach c [] k = next k c ≢ None
Reach c (t ∷ ts) k = InChild (child_context t c) (λ d. Reach d ts k)
