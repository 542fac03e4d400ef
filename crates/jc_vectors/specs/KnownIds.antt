-- Which identifiers a document has, and where two sets of identifiers agree on them.
use Rattle.std.specs.Prelude.{◌≡◌, List, true}
use Rattle.std.specs.List.{AllByRecursion}
use Rattle.jc_rules.specs.declared.id.Id.{Id}
use Rattle.jc_rules.specs.Context.{Context, context, Children, no_child, child, Content, Node, Values}
use Rattle.jc_rules.specs.Ids.{has_id}

-- each identifier in a register or a presence set of the context, at every depth
abbrev mutual
  pub EachId : (Id → Type 0) → Context → Type 0
  EachId P (context m l r p n) =
      EachIdIn P m
      × EachIdIn P l
      × AllByRecursion (λ e. AllByRecursion (λ v. P v.0) e.1) r
      × AllByRecursion (λ e. AllByRecursion P e.1) p

  pub EachIdIn : (Id → Type 0) → Children → Type 0
  EachIdIn P no_child = Unit {0}
  EachIdIn P (child k c cs) = EachId P c × EachIdIn P cs

-- the same of what is under a tagged key
abbrev pub EachOf : (Id → Type 0) → Content → Type 0
EachOf P (Node c) = EachId P c
EachOf P (Values r) = AllByRecursion (λ v. P v.0) r

-- each identifier in registers and presence sets is one of these
abbrev pub KnowsOnly : List Id → Context → Type 0
KnowsOnly ids c = EachId (λ i. has_id i ids ≡ true) c

-- the two sets have the same of these identifiers
abbrev pub Agree : List Id → List Id → List Id → Type 0
Agree ids d e = (i : Id) → has_id i ids ≡ true → has_id i d ≡ has_id i e
