-- About WayDown: the way down a path, key by key.
use Rattle.std.proofs.Common.{◌≡◌, ◌≢◌, ℕ, suc, ◌+◌, ◌<◌, ◌≤◌, List, [], ◌∷◌, ◌++◌, length, take, drop, get_or, Some, None, is_some, true, false, refl, sym, ◌∙◌, ap, subst, add-one, drop-cons}
use Rattle.std.proofs.Math.Seq.{take-suc}
use Rattle.std.proofs.lemmas.List.{take_all, drop_all}
use Rattle.std.specs.List.{AllByRecursion}
use Rattle.jc_rules.specs.declared.key.Key.{Key}
use Rattle.jc_rules.specs.declared.key.Tagged.{Tagged}
use Rattle.jc_rules.specs.declared.key.Tagged.TheVariants.{MapT}
use Rattle.jc_rules.specs.declared.rule.Rule.{Rule}
use Rattle.jc_rules.specs.Context.{Context, Node, content}
use Rattle.jc_rules.specs.ContextsAt.{node_at, node_in, context_at, or_empty}
use Rattle.jc_rules.specs.Derivation.{Question, Answer}
use Rattle.jc_rules.specs.Derives.{Derives}
use Rattle.jc_rules.specs.Refused.{Cause, no_node, Refused}
use Rattle.jc_rules.specs.Trace.{Rows, pushed, one_deeper, at_depth}
use Rattle.jc_rules.proofs.ContextsAtLemmas.{there, node-below}
use Rattle.jc_rules.proofs.RisingLemmas.{all_at}
use Rattle.jc_rules.proofs.DerivesLemmas.{one_premise}
use Rattle.jc_rules.specs.Paths.{HasContext}
use Rattle.jc_cursor.specs.WayDown.{IsGrown, Descends, Refuses, LeadsDown, RefusesDown, RefusedOnWay}
use Rattle.jc_cursor.proofs.TraceGrowsLemmas.{grown_below}
use Rattle.jc_rules.proofs.BoolLemmas.{none_of}
use Rattle.jc_tree.proofs.PlacesLemmas.{some_content}
use Rattle.jc_tree.proofs.PathLemmas.{found_context}

-- what the loop down a path keeps: what is derived or refused where it has come is so for the whole
pub record Down (r : Rule) (path : List Tagged) (n : ℕ) (c : Context) (t u : Rows) : Type 0 where
  pub place : node_at (take n path) c ≢ None
  pub leads : (Q : List Tagged → Context → Question) (A : List Tagged → Answer) (v : Rows) → Descends r Q A → Derives (Q (drop n path) (context_at (take n path) c)) (A (drop n path)) u v → Derives (Q path c) (A path) t (at_depth t.depth v)
  pub refuses : (Q : List Tagged → Context → Question) (why : Cause) → Refuses Q → Refused (Q (drop n path) (context_at (take n path) c)) why → Refused (Q path c) why
  pub grown : IsGrown t u

module _ (path : List Tagged) (n : ℕ) (k : Tagged) (within : n < length path) (is : k ≡ get_or path n k) where
  front : take (n + 1) path ≡ take n path ++ k ∷ []
  front = ap (λ (i : ℕ). take i path) (add-one n) ∙ take-suc path n k within ∙ ap (λ (x : Tagged). take n path ++ x ∷ []) (sym is)

  rest : drop n path ≡ k ∷ drop (n + 1) path
  rest = drop-cons path n k within ∙ ap (λ (x : Tagged). x ∷ drop (suc n) path) (sym is) ∙ ap (λ (m : ℕ). k ∷ drop m path) (sym (add-one n))

  -- the name of what is there is the name of the longer path
  pub down_named : (P : Type 0) (N : P → List Tagged → Type 0) (p : P) → N p (take n path ++ k ∷ []) → N p (take (n + 1) path)
  down_named P N p h = subst (λ (ps : List Tagged). N p ps) (sym front) h

  -- one key further down
  pub down_on : (r : Rule) (c : Context) (t u v : Rows) → AllByRecursion HasContext path → Down r path n c t u → true ≡ is_some (node_in (content k (context_at (take n path) c))) → v ≡ one_deeper (pushed u r) → Down r path (n + 1) c t v
  down_on r c t u v h w e ve =
      let here = context_at (take n path) c in
      let parent : node_at (take n path) c ≡ Some here = there (take n path) c w.place in
      let fit : HasContext k = subst HasContext (sym is) (all_at HasContext path h n k within) in
      let found = found_context k here fit (sym (e ∙ some_content k here fit)) in
      let node : node_at (take (n + 1) path) c ≡ Some found.0 = ap (λ (p : List Tagged). node_at p c) front ∙ node-below (take n path) k here found.0 c parent found.1 in
      let same : context_at (take (n + 1) path) c ≡ found.0 = ap or_empty node in
      rw ve (record {
        place = λ f. let g : Some found.0 ≡ None = sym node ∙ f in cc;
        leads = λ Q A y D x.
            let x2 : Derives (Q (drop (n + 1) path) found.0) (A (drop (n + 1) path)) (one_deeper (pushed u r)) y = subst (λ (d : Context). Derives (Q (drop (n + 1) path) d) (A (drop (n + 1) path)) (one_deeper (pushed u r)) y) same x in
            let z : Derives (Q (k ∷ drop (n + 1) path) here) (A (k ∷ drop (n + 1) path)) u (at_depth u.depth y) = one_premise r _ _ _ _ u y x2 (D.follows k (drop (n + 1) path) here found.0 found.1) in
            w.leads Q A (at_depth u.depth y) D (subst (λ (p : List Tagged). Derives (Q p here) (A p) u (at_depth u.depth y)) (sym rest) z);
        refuses = λ Q why R x.
            let x2 : Refused (Q (drop (n + 1) path) found.0) why = subst (λ (d : Context). Refused (Q (drop (n + 1) path) d) why) same x in
            w.refuses Q why R (subst (λ (p : List Tagged). Refused (Q p here) why) (sym rest) (R.below k (drop (n + 1) path) here found.0 why found.1 x2));
        grown = grown_below t u (one_deeper (pushed u r)) r w.grown refl;
      })

  -- a key under which nothing is
  pub down_missing : (r : Rule) (c : Context) (t u : Rows) → AllByRecursion HasContext path → Down r path n c t u → false ≡ is_some (node_in (content k (context_at (take n path) c))) → RefusedOnWay path c (no_node k)
  down_missing r c t u h w e = λ Q R.
      let here = context_at (take n path) c in
      let fit : HasContext k = subst HasContext (sym is) (all_at HasContext path h n k within) in
      let none : content k here ≡ None = none_of (content k here) (sym (e ∙ some_content k here fit)) in
      w.refuses Q (no_node k) R (subst (λ (p : List Tagged). Refused (Q p here) (no_node k)) (sym rest) (R.missing k (drop (n + 1) path) here none))

-- at the end of the path
module _ (r : Rule) (path : List Tagged) (n : ℕ) (c : Context) (t u : Rows) (all : length path ≤ n) (w : Down r path n c t u) where
  at_end : take n path ≡ path
  at_end = take_all n path all

  no_rest : drop n path ≡ []
  no_rest = drop_all n path all

  pub down_place : node_at path c ≢ None
  down_place = subst (λ (p : List Tagged). node_at p c ≢ None) at_end w.place

  pub down_leads : LeadsDown r path c t u
  down_leads = λ Q A v D x.
      w.leads Q A v D (subst (λ (p : List Tagged). Derives (Q p (context_at (take n path) c)) (A p) u v) (sym no_rest) (subst (λ (p : List Tagged). Derives (Q [] (context_at p c)) (A []) u v) (sym at_end) x))

  pub down_refuses : RefusesDown path c
  down_refuses = λ Q why R x.
      w.refuses Q why R (subst (λ (p : List Tagged). Refused (Q p (context_at (take n path) c)) why) (sym no_rest) (subst (λ (p : List Tagged). Refused (Q [] (context_at p c)) why) (sym at_end) x))

-- the map under a key of the context that the path leads to
pub map_below : (path : List Tagged) (k : Key) (c : Context) → node_at path c ≢ None → true ≡ is_some (content (MapT k) (context_at path c)) → content (MapT k) (context_at path c) ≡ Some (Node (context_at (path ++ MapT k ∷ []) c))
map_below path k c p e =
    let found = found_context (MapT k) (context_at path c) tt (sym e) in
    let node : node_at (path ++ MapT k ∷ []) c ≡ Some found.0 = node-below path (MapT k) (context_at path c) found.0 c (there path c p) found.1 in
    found.1 ∙ ap (λ (x : Context). Some (Node x)) (sym (ap or_empty node))
