-- Well-formed documents: entries in order, lists chained; and a document without its empty presence sets.
use Rattle.std.specs.Prelude.{◌≡◌, ◌≢◌, List, [], ◌∷◌, Some, Contains, filter, Bool, true, false}
use Rattle.std.specs.List.{AllByRecursion}
use Rattle.jc_rules.specs.declared.id.Id.{Id}
use Rattle.jc_rules.specs.declared.key.Key.{Key}
use Rattle.jc_rules.specs.declared.key.Key.TheVariants.{Head, Elem as ElemKey}
use Rattle.jc_rules.specs.declared.key.Next.TheVariants.{Tail, Elem as To}
use Rattle.jc_rules.specs.Order.{key_cmp, id_cmp}
use Rattle.jc_rules.specs.Entries.{IsRising, keys_of}
use Rattle.jc_rules.specs.Ids.{AreRising}
use Rattle.jc_rules.specs.Context.{Context, context, Children, no_child, child, Register, IsPrimitive, listed, links, next}

-- From a key, the links lead through these elements to the list's end.
abbrev pub LeadsThrough : Context → Key → List Id → Type 0
LeadsThrough c k [] = next k c ≡ Some Tail
LeadsThrough c k (i ∷ is) = (next k c ≡ Some (To i)) × LeadsThrough c (ElemKey i) is

abbrev pub elements : List Id → List Key
elements [] = []
elements (i ∷ is) = ElemKey i ∷ elements is

-- none twice
abbrev pub AreDistinct : {X : Type 0} → List X → Type 0
AreDistinct [] = Unit {0}
AreDistinct (x ∷ xs) = AllByRecursion (λ y. y ≢ x) xs × AreDistinct xs

-- the keys of a list that has these elements
abbrev pub chain_of : List Id → List Key
chain_of is = Head ∷ elements is

-- The links of the context are one chain from its head through these elements to its end, none twice, and there is no
-- other link.
pub record IsChain (c : Context) (is : List Id) : Type 0 where
  pub leads : LeadsThrough c Head is
  pub distinct : AreDistinct (chain_of is)
  pub no_other : AllByRecursion (λ k. Contains (chain_of is) k) (keys_of (links c))

-- In each list below the context the links are one chain, and no other context has a link.
abbrev mutual
  pub IsChained : Context → Type 0
  IsChained (context m l r p n) = (n ≡ []) × AreChained m × AreLists l

  pub AreChained : Children → Type 0
  AreChained no_child = Unit {0}
  AreChained (child k c cs) = IsChained c × AreChained cs

  pub AreLists : Children → Type 0
  AreLists no_child = Unit {0}
  AreLists (child k c cs) = IsChainedList c × AreLists cs

  pub IsChainedList : Context → Type 0
  IsChainedList (context m l r p n) = ((is : List Id) × IsChain (context m l r p n) is) × AreChained m × AreLists l

-- a register's identifiers rise, and its values are primitive
abbrev pub IsWellFormedRegister : Register → Type 0
IsWellFormedRegister r = IsRising id_cmp (keys_of r) × AllByRecursion (λ e. IsPrimitive e.1) r

-- The entries of each kind rise by key, at every depth; the identifiers in presence sets and registers rise; registers
-- keep primitive values.
abbrev mutual
  pub IsWellFormedContext : Context → Type 0
  IsWellFormedContext (context m l r p n) =
      IsRising key_cmp (keys_of (listed m))
      × IsRising key_cmp (keys_of (listed l))
      × IsRising key_cmp (keys_of r)
      × IsRising key_cmp (keys_of p)
      × IsRising key_cmp (keys_of n)
      × AllByRecursion (λ e. IsWellFormedRegister e.1) r
      × AllByRecursion (λ e. AreRising e.1) p
      × AreWellFormedContexts m
      × AreWellFormedContexts l

  pub AreWellFormedContexts : Children → Type 0
  AreWellFormedContexts no_child = Unit {0}
  AreWellFormedContexts (child k c cs) = IsWellFormedContext c × AreWellFormedContexts cs

abbrev pub is_some_id : List Id → Bool
is_some_id [] = false
is_some_id (i ∷ is) = true

-- without the empty presence sets, at every depth
abbrev mutual
  pub drop : Context → Context
  drop (context m l r p n) = context (drop_all m) (drop_all l) r (filter (λ e. is_some_id e.1) p) n

  pub drop_all : Children → Children
  drop_all no_child = no_child
  drop_all (child k c cs) = child k (drop c) (drop_all cs)
