-- About Fits: the context that a path leads to, some on the way new; an operation fits where it fits there.
use Rattle.std.proofs.Common.{◌≡◌, ◌≢◌, ◌↔◌, ℕ, ◌+◌, ◌-◌, ◌<◌, ◌≤◌, IsTrue, get_or, add-one, List, [], ◌∷◌, ◌++◌, length, take, slice_get, Option, Some, None, is_some, Bool, true, false, refl, sym, ◌∙◌, ap, subst, arith}
use Rattle.std.proofs.Math.Seq.{take-suc}
use Rattle.std.proofs.lemmas.List.{take_all}
use Rattle.std.proofs.lemmas.Option.{slice_get-get_or}
use Rattle.std.specs.List.{AllByRecursion}
use Rattle.std.specs.Option.{IfSome, option_and_then}
use Rattle.jc_rules.specs.declared.key.Key.{Key}
use Rattle.jc_rules.specs.declared.key.Next.{Next}
use Rattle.jc_rules.specs.declared.key.Tagged.{Tagged}
use Rattle.jc_rules.specs.declared.key.Tagged.TheVariants.{MapT, ListT, RegT}
use Rattle.jc_rules.specs.declared.operation.Mutation.{Mutation}
use Rattle.jc_rules.specs.declared.operation.Mutation.TheVariants.{Assign, Insert, Delete}
use Rattle.jc_rules.specs.declared.value.Value.{Value}
use Rattle.jc_rules.specs.Order.{key_cmp}
use Rattle.jc_rules.specs.Entries.{find}
use Rattle.jc_rules.specs.Context.{Context, Content, Node, Values, Register, values_of, content, new_content, next, registers}
use Rattle.jc_rules.specs.ContextsAt.{at_node, node_in, node_at, context_at}
use Rattle.jc_rules.specs.Paths.{HasContext, IsPath}
use Rattle.jc_rules.proofs.ContextsAtLemmas.{there}
use Rattle.jc_rules.proofs.RisingLemmas.{all_at}
use Rattle.jc_tree.proofs.PlacesLemmas.{some_content}
use Rattle.jc_apply.proofs.FitsRefusedLemmas.{child_node}
use Rattle.jc_apply.specs.Fits.{Fits, FitsHere, InChild, content_or_new, child_context, made_under}
use Rattle.jc_rules.proofs.BoolLemmas.{none_of, no_truth}

-- the context at the path's end, where those that aren't there are new
abbrev pub reached : List Tagged → Context → Option Context
reached [] c = Some c
reached (t ∷ ts) c = option_and_then (λ d. reached ts d) (child_context t c)

-- it fits where it fits at the path's end
fits-reached : (ts : List Tagged) (c d : Context) (k : Key) (m : Mutation) → reached ts c ≡ Some d → Fits c ts k m ↔ FitsHere d k m
fits-reached [] c d k m e = let same : c ≡ d = cc in subst (λ (x : Context). FitsHere c k m ↔ FitsHere x k m) same (λ h. h, λ h. h)
fits-reached (t ∷ ts) c d k m e = go (child_context t c) (λ x f. fits-reached ts x d k m f) e
  where
    go : (o : Option Context) → ((x : Context) → reached ts x ≡ Some d → Fits x ts k m ↔ FitsHere d k m) → option_and_then (λ x. reached ts x) o ≡ Some d → InChild o (λ x. Fits x ts k m) ↔ FitsHere d k m
    go None below f = cc
    go (Some x) below f = below x f

-- where the path leads to a context, that is the one
reached-there : (ts : List Tagged) (c d : Context) → node_at ts c ≡ Some d → reached ts c ≡ Some d
reached-there [] c d e = e
reached-there (t ∷ ts) c d e = go (content t c) (λ x f. reached-there ts x d f) e
  where
    go : (o : Option Content) → ((x : Context) → node_at ts x ≡ Some d → reached ts x ≡ Some d) → at_node o (λ x. node_at ts x) None ≡ Some d → option_and_then (λ x. reached ts x) (node_in (Some (content_or_new t o))) ≡ Some d
    go None below f = cc
    go (Some (Values r)) below f = cc
    go (Some (Node x)) below f = below x f

-- below one more key
some_again : (o : Option Context) → option_and_then (λ x. Some x) o ≡ o
some_again None = refl
some_again (Some x) = refl

reached-below : (ts : List Tagged) (t : Tagged) (c d : Context) → reached ts c ≡ Some d → reached (ts ++ t ∷ []) c ≡ child_context t d
reached-below [] t c d e = let same : c ≡ d = cc in some_again (child_context t c) ∙ ap (child_context t) same
reached-below (s ∷ ts) t c d e = go (child_context s c) (λ x f. reached-below ts t x d f) e
  where
    go : (o : Option Context) → ((x : Context) → reached ts x ≡ Some d → reached (ts ++ t ∷ []) x ≡ child_context t d) → option_and_then (λ x. reached ts x) o ≡ Some d → option_and_then (λ x. reached (ts ++ t ∷ []) x) o ≡ child_context t d
    go None below f = cc
    go (Some x) below f = below x f

node-below : (ts : List Tagged) (t : Tagged) (c : Context) → node_at (ts ++ t ∷ []) c ≡ option_and_then (λ d. node_in (content t d)) (node_at ts c)
node-below [] t c = go (content t c)
  where
    go : (o : Option Content) → at_node o (λ d. Some d) None ≡ node_in o
    go None = refl
    go (Some (Values r)) = refl
    go (Some (Node d)) = refl
node-below (s ∷ ts) t c = go (content s c) (λ d. node-below ts t d)
  where
    go : (o : Option Content) → ((d : Context) → node_at (ts ++ t ∷ []) d ≡ option_and_then (λ x. node_in (content t x)) (node_at ts d)) → at_node o (λ d. node_at (ts ++ t ∷ []) d) None ≡ option_and_then (λ d. node_in (content t d)) (at_node o (λ d. node_at ts d) None)
    go None below = refl
    go (Some (Values r)) below = refl
    go (Some (Node d)) below = below d

-- what is made below a context that was just made
made_below : (o : Option Tagged) (t : Tagged) → HasContext t → child_context t (made_under o) ≡ Some (made_under (Some t))
made_below None (MapT k) h = refl
made_below None (ListT k) h = refl
made_below (Some (MapT j)) (MapT k) h = refl
made_below (Some (MapT j)) (ListT k) h = refl
made_below (Some (ListT j)) (MapT k) h = refl
made_below (Some (ListT j)) (ListT k) h = refl
made_below (Some (RegT j)) (MapT k) h = refl
made_below (Some (RegT j)) (ListT k) h = refl
made_below o (RegT k) h = absurd h

-- where it fits, no key of the path is a register's
no_node : (k : Key) (c : Context) → child_context (RegT k) c ≡ None
no_node k c = go (find key_cmp k (registers c))
  where
    go : (o : Option Register) → node_in (Some (content_or_new (RegT k) (values_of o))) ≡ None
    go None = refl
    go (Some r) = refl

pub has_context : (t : Tagged) (c : Context) (P : Context → Type 0) → InChild (child_context t c) P → HasContext t
has_context (MapT k) c P h = tt
has_context (ListT k) c P h = tt
has_context (RegT k) c P h = subst (λ (o : Option Context). InChild o P) (no_node k c) h

-- on a path each key is a context's
pub key_on : (path ts : List Tagged) (n : ℕ) (t : Tagged) → path ≡ ts → IsPath ts → n < length path → t ≡ get_or path n t → HasContext t
key_on path ts n t same h within is =
    subst HasContext (sym is) (all_at HasContext path (subst (AllByRecursion HasContext) (sym same) h.contexts) n t within)

-- the way down a path

-- After so many keys: whether their context is there, and if not, what was made under the last of them.
pub record Walked (c : Context) (path : List Tagged) (n : ℕ) (there : Bool) : Type 0 where
  pub place : there ≡ is_some (node_at (take n path) c)
  pub made : there ≡ false → reached (take n path) c ≡ Some (made_under (slice_get path (n - 1)))

some_there : {X : Type 0} (o : Option X) → is_some o ≡ true → o ≢ None
some_there None e f = no_truth e
some_there (Some x) e f = cc

made_child : (t : Tagged) → HasContext t → node_in (Some (new_content t)) ≡ Some (made_under (Some t))
made_child (MapT k) h = refl
made_child (ListT k) h = refl
made_child (RegT k) h = absurd h

-- below a key, where its parent is there
module _ (c : Context) (ps : List Tagged) (t : Tagged) (h : HasContext t) where
  place_below : true ≡ is_some (node_at ps c) → is_some (node_in (content t (context_at ps c))) ≡ is_some (node_at (ps ++ t ∷ []) c)
  place_below e =
      let parent = there ps c (some_there (node_at ps c) (sym e)) in
      sym (ap is_some (node-below ps t c ∙ ap (λ (o : Option Context). option_and_then (λ d. node_in (content t d)) o) parent))

  made_in_place : true ≡ is_some (node_at ps c) → is_some (node_in (content t (context_at ps c))) ≡ false → reached (ps ++ t ∷ []) c ≡ Some (made_under (Some t))
  made_in_place e f =
      let parent = there ps c (some_there (node_at ps c) (sym e)) in
      reached-below ps t c (context_at ps c) (reached-there ps c (context_at ps c) parent)
      ∙ ap (λ (o : Option Content). node_in (Some (content_or_new t o))) (none_of (content t (context_at ps c)) (sym (some_content t (context_at ps c) h) ∙ f))
      ∙ made_child t h

  -- and where its parent is new
  no_place_below : false ≡ is_some (node_at ps c) → false ≡ is_some (node_at (ps ++ t ∷ []) c)
  no_place_below e = sym (ap is_some (node-below ps t c ∙ ap (λ (o : Option Context). option_and_then (λ d. node_in (content t d)) o) (none_of (node_at ps c) (sym e))))

  made_in_new : (o : Option Tagged) → reached ps c ≡ Some (made_under o) → reached (ps ++ t ∷ []) c ≡ Some (made_under (Some t))
  made_in_new o e = reached-below ps t c (made_under o) e ∙ made_below o t h

-- one key further down a path

pub further : (path : List Tagged) (n : ℕ) (t : Tagged) → n < length path → t ≡ get_or path n t → take (n + 1) path ≡ take n path ++ t ∷ []
further path n t within is = ap (λ (i : ℕ). take i path) (add-one n) ∙ take-suc path n t within ∙ ap (λ (x : Tagged). take n path ++ x ∷ []) (sym is)

last_key : (path : List Tagged) (n : ℕ) (t : Tagged) → n < length path → t ≡ get_or path n t → slice_get path (n + 1 - 1) ≡ Some t
last_key path n t within is = ap (slice_get path) (omega arith) ∙ slice_get-get_or path n t within ∙ ap (λ (x : Tagged). Some x) (sym is)

-- after one more key
walked : (c : Context) (path : List Tagged) (n : ℕ) (t : Tagged) (now : Bool) → n < length path → t ≡ get_or path n t → now ≡ is_some (node_at (take n path ++ t ∷ []) c) → (now ≡ false → reached (take n path ++ t ∷ []) c ≡ Some (made_under (Some t))) → Walked c path (n + 1) now
walked c path n t now within is place made = record {
  place = place ∙ ap (λ (ps : List Tagged). is_some (node_at ps c)) (sym (further path n t within is));
  made = λ e. ap (λ (ps : List Tagged). reached ps c) (further path n t within is) ∙ made e ∙ ap (λ (o : Option Tagged). Some (made_under o)) (sym (last_key path n t within is));
}

pub walked_there : (c : Context) (path : List Tagged) (n : ℕ) (t : Tagged) (before now : Bool) → n < length path → t ≡ get_or path n t → HasContext t → Walked c path n before → before ≡ true → now ≡ is_some (node_in (content t (context_at (take n path) c))) → Walked c path (n + 1) now
walked_there c path n t before now within is h w was has =
    let parent : true ≡ is_some (node_at (take n path) c) = sym was ∙ w.place in
    walked c path n t now within is (has ∙ place_below c (take n path) t h parent) (λ e. made_in_place c (take n path) t h parent (sym has ∙ e))

pub walked_new : (c : Context) (path : List Tagged) (n : ℕ) (t : Tagged) (before now : Bool) → n < length path → t ≡ get_or path n t → HasContext t → Walked c path n before → before ≡ false → now ≡ false → Walked c path (n + 1) now
walked_new c path n t before now within is h w was is_new =
    walked c path n t now within is (is_new ∙ no_place_below c (take n path) t h (sym was ∙ w.place)) (λ e. made_in_new c (take n path) t h _ (w.made was))

-- what is there has its name
pub named_there : (P : Type 0) (N : P → List Tagged → Type 0) (path : List Tagged) (n : ℕ) (t : Tagged) (o now : Option P) → n < length path → t ≡ get_or path n t → now ≡ o → IfSome o (λ p. N p (take n path ++ t ∷ [])) → IfSome now (λ p. N p (take (n + 1) path))
named_there P N path n t o now within is e h =
    let further_on = subst (λ (ps : List Tagged). IfSome o (λ p. N p ps)) (sym (further path n t within is)) h in
    subst (λ (x : Option P). IfSome x (λ p. N p (take (n + 1) path))) (sym e) further_on

-- the name that is there, and that of the whole path
pub named_so : (P : Type 0) (N : P → Type 0) (o : Option P) (p : P) → o ≡ Some p → IfSome o N → N p
named_so P N o p e h = subst (λ (x : Option P). IfSome x N) e h

pub named_whole : (P : Type 0) (N : P → List Tagged → Type 0) (path : List Tagged) (n : ℕ) (o : Option P) (p : P) → length path ≤ n → o ≡ Some p → IfSome o (λ q. N q (take n path)) → N p path
named_whole P N path n o p all e h = subst (λ (ps : List Tagged). N p ps) (take_all n path all) (named_so P (λ q. N q (take n path)) o p e h)

pub named_none : (P : Type 0) (N : P → Type 0) (now : Option P) → now ≡ None → IfSome now N
named_none P N now e = subst (λ (x : Option P). IfSome x N) (sym e) tt

-- at the path's end

reached_place : (c : Context) (path : List Tagged) (n : ℕ) (before : Bool) → length path ≤ n → Walked c path n before → before ≡ true → reached path c ≡ Some (context_at path c)
reached_place c path n before all w was =
    let place : before ≡ is_some (node_at path c) = w.place ∙ ap (λ (ps : List Tagged). is_some (node_at ps c)) (take_all n path all) in
    reached-there path c (context_at path c) (there path c (some_there (node_at path c) (sym place ∙ was)))

reached_new : (c : Context) (path : List Tagged) (n : ℕ) (before : Bool) → length path ≤ n → n ≤ length path → Walked c path n before → before ≡ false → reached path c ≡ Some (made_under (slice_get path (length path - 1)))
reached_new c path n before all within w was =
    let end : n ≡ length path = omega arith in
    ap (λ (ps : List Tagged). reached ps c) (sym (take_all n path all)) ∙ w.made was ∙ ap (λ (i : ℕ). Some (made_under (slice_get path (i - 1)))) end

-- an assignment and a delete fit anywhere
pub fits_all : (m : Mutation) (c : Context) (k : Key) → ((v : Value) → m ≢ Insert v) → FitsHere c k m
fits_all (Assign v) c k h = tt
fits_all (Insert v) c k h = absurd (h v refl)
fits_all Delete c k h = tt

-- an insert fits where its key is linked
insert_fits : (c d : Context) (path ts : List Tagged) (k : Key) (m : Mutation) (v : Value) → path ≡ ts → reached path c ≡ Some d → m ≡ Insert v → (next k d ≢ None) ↔ Fits c ts k m
insert_fits c d path ts k m v same e is =
    let h = fits-reached ts c d k m (ap (λ (ps : List Tagged). reached ps c) (sym same) ∙ e) in
    (λ f. h.1 (subst (FitsHere d k) (sym is) f), λ f. subst (FitsHere d k) is (h.0 f))

linked_some : (o : Option Next) → IsTrue (is_some o) ↔ (o ≢ None)
linked_some None = (λ e. some_there None e, λ f. absurd (f refl))
linked_some (Some n) = (λ e. some_there (Some n) e, λ f. refl)

-- an insert at a place that is there
pub insert_there : (c : Context) (path ts : List Tagged) (n : ℕ) (before : Bool) (k : Key) (m : Mutation) (v : Value) (o : Option Next) (r : Bool) → path ≡ ts → length path ≤ n → Walked c path n before → before ≡ true → m ≡ Insert v → o ≡ next k (context_at path c) → r ≡ is_some o → IsTrue r ↔ Fits c ts k m
insert_there c path ts n before k m v o r same all w was is found tells =
    let test : r ≡ is_some (next k (context_at path c)) = tells ∙ ap is_some found in
    let linked = linked_some (next k (context_at path c)) in
    let fit = insert_fits c (context_at path c) path ts k m v same (reached_place c path n before all w was) is in
    (λ e. fit.0 (linked.0 (sym test ∙ e)), λ f. test ∙ linked.1 (fit.1 f))

-- an insert at a new place
pub insert_new : (c : Context) (path ts : List Tagged) (n : ℕ) (before : Bool) (k : Key) (m : Mutation) (v : Value) (o : Option Tagged) (r : Bool) → path ≡ ts → length path ≤ n → n ≤ length path → Walked c path n before → before ≡ false → m ≡ Insert v → o ≡ slice_get path (length path - 1) → IsTrue r ↔ (next k (made_under o) ≢ None) → IsTrue r ↔ Fits c ts k m
insert_new c path ts n before k m v o r same all within w was is parent tells =
    let fit = insert_fits c (made_under o) path ts k m v same (reached_new c path n before all within w was ∙ ap (λ (x : Option Tagged). Some (made_under x)) (sym parent)) is in
    (λ e. fit.0 (tells.0 e), λ f. tells.1 (fit.1 f))

-- what isn't an insert fits on each path
pub other_fits : (path : List Tagged) (c : Context) (k : Key) (m : Mutation) → AllByRecursion HasContext path → ((v : Value) → m ≢ Insert v) → Fits c path k m
other_fits [] c k m all h = fits_all m c k h
other_fits (t ∷ ts) c k m all h =
    let child = child_node t c all.0 in
    let is : child_context t c ≡ Some child.0 = ap (λ (x : Content). node_in (Some x)) child.1 in
    subst (λ (o : Option Context). InChild o (λ d. Fits d ts k m)) (sym is) (other_fits ts child.0 k m all.1 h)
