use Rattle.std.proofs.Common.{◌≡◌, ◌+◌, List, [], ◌∷◌, ◌++◌, drop, filter, true, false, append-nil, true-eqb, sym, ◌∙◌, ap, subst, refl, arith}
use Rattle.std.proofs.lemmas.List.{drop_more, drop_all, nil_from_length}
use Rattle.jc_rules.specs.declared.id.Id.{Id}
use Rattle.jc_rules.specs.declared.key.Key.{Key}
use Rattle.jc_rules.specs.declared.key.Tagged.{Tagged}
use Rattle.jc_rules.specs.declared.rule.Rule.TheVariants as R
use Rattle.jc_rules.specs.Entries.{keys_of}
use Rattle.jc_tree.specs.CanGoBack.{TreeCanGoBack}
use Rattle.jc_tree.specs.Tree.{here, keys_lent}
use Rattle.jc_tree.proofs.CanGoBackLemmas.{nothing, then, rule_opened}
use Rattle.jc_clear.specs.ContentKeys.{has_content}
use Rattle.jc_clear.specs.Turns.{ThroughKeys}
use Rattle.jc_clear.proofs.ClearMapLemmas.{first_keys, cleared_on, listed_on, left_over}
use Rattle.jc_clear.proofs.ContentKeysLemmas.{AreContentKeys, content_keys}
use Rattle.jc_clear.proofs.clearing.clear_first.Goals.{then-is_empty+then-is_cleared+in_ok-open+in_ok-push_cleared, else-is_empty+then-has_content+in_ok-copy+in_ok-push, else-is_empty+else-has_content}
use Rattle.jc_clear.proofs.clearing.clear_first.Goals as goal

pub loop-lent-init : goal.loop-lent-init
loop-lent-init g c =
    let tree = g.S.TreeStore.tree c.args.store.now in
    let lent = c.as_slice-lent-items.result.now in
    let listed : List Tagged → List Key = λ at. keys_of c.new-left.result.items ++ filter (λ k. has_content (here at tree) k) (keys_lent lent) in
    let keys : (at : List Tagged) → g.S.TreeStore.names c.args.store.now c.args.place at → AreContentKeys (listed at) (here at tree) = λ at n. content_keys (listed at) (keys_lent c.in_ok-keys.keys.items) (here at tree) c.in_ok-keys.ensures.rising (c.in_ok-keys.ensures.all at n) (ap (λ es. keys_of es ++ filter (λ k. has_content (here at tree) k) (keys_lent lent)) c.new-left.ensures.items ∙ ap (λ ks. filter (λ k. has_content (here at tree) k) (keys_lent ks)) c.as_slice-lent-items.ensures.value) in
    record { through = λ at n deps. first_keys deps at tree c.args.trace.now (listed at) [] (g.met.S.TreeStore.there _ _ _ n) (keys at n) refl; kept = nothing _ _ _ _ refl refl }

pub returns-in_err-push_cleared-clause-kept : goal.returns-in_err-push_cleared-clause-kept
returns-in_err-push_cleared-clause-kept g c =
    then _ _ _ _ _ _ c.loop-lent.invariant.kept (then _ _ _ _ _ _ (rule_opened _ _ _ _ R.ClearMap2 refl c.in_ok-open.ensures.ok) (c.in_err-push_cleared.ensures.kept (g.S.TreeStore.tree c.args.store.now)))

pub loop-lent-preserved : goal.loop-lent-preserved
loop-lent-preserved g c =
    let tree = g.S.TreeStore.tree c.args.store.now in
    let lent = c.as_slice-lent-items.result.now in
    let es = c.loop-lent.left.items in
    let k = c.lent-item.result.0.now in
    let rest = keys_lent (drop (c.loop-lent.lent-index + 1) lent) in
    let split : keys_lent (drop c.loop-lent.lent-index lent) ≡ k ∷ rest = ap (λ x. keys_lent x) (drop_more lent c.loop-lent.lent-index c.lent-item.result c.loop-lent-test.true ∙ ap (λ e. e ∷ drop (c.loop-lent.lent-index + 1) lent) (sym c.lent-item.is)) in
    let through : (at : List Tagged) → g.S.TreeStore.names c.args.store.now c.args.place at → (deps : List Id) → ThroughKeys deps at tree c.args.trace.now tree (keys_of c.if-is_empty.left.items ++ filter (λ j. has_content (here at tree) j) rest) [] c.if-is_empty.trace = elim c.if-is_empty.branch [
      | then-is_empty+then-is_cleared+in_ok-open+in_ok-push_cleared w ↦ λ at n deps.
          let d = here at tree in
          let there = g.met.S.TreeStore.there _ _ _ n in
          let empty : es ≡ [] = nil_from_length es (let none = true-eqb _ 0 w.if-is_empty.ensures in omega (arith, none, c.loop-lent.left.ok.0)) in
          let left : keys_of es ++ filter (λ j. has_content d j) (keys_lent (drop c.loop-lent.lent-index lent)) ≡ filter (λ j. has_content d j) (k ∷ rest) = ap (λ x. keys_of x ++ filter (λ j. has_content d j) (keys_lent (drop c.loop-lent.lent-index lent))) empty ∙ ap (λ ks. filter (λ j. has_content d j) ks) split in
          let is = w.is_cleared.ensures at n w.if-is_cleared.true in
          rw (w.trace-is, w.left-is, empty) (cleared_on deps at tree c.args.trace.now k rest _ _ _ _ there is left (c.loop-lent.invariant.through at n deps) (w.in_ok-push_cleared.ensures.ok at tree deps k there is) w.in_ok-open.ensures.ok)
      | else-is_empty+then-has_content+in_ok-copy+in_ok-push w ↦ λ at n deps.
          let has : has_content (here at tree) k ≡ true = sym (w.has_content.ensures at n) ∙ w.if-has_content.true in
          let same = ap (λ ks. keys_of es ++ filter (λ j. has_content (here at tree) j) ks) split ∙ listed_on (λ j. has_content (here at tree) j) es w.push.new.self.items _ k rest w.in_ok-push.ensures.items w.in_ok-copy.ensures has in
          rw (w.trace-is, w.left-is) (subst (λ (ks : List Key). ThroughKeys deps at tree c.args.trace.now tree ks [] c.loop-lent.trace) same (c.loop-lent.invariant.through at n deps))
      | else-is_empty+else-has_content w ↦ λ at n deps.
          let has : has_content (here at tree) k ≡ false = sym (w.has_content.ensures at n) ∙ w.if-has_content.false in
          let same = ap (λ ks. keys_of es ++ filter (λ j. has_content (here at tree) j) ks) split ∙ left_over (λ j. has_content (here at tree) j) es k rest has in
          rw (w.trace-is, w.left-is) (subst (λ (ks : List Key). ThroughKeys deps at tree c.args.trace.now tree ks [] c.loop-lent.trace) same (c.loop-lent.invariant.through at n deps))
    ] in
    let kept : TreeCanGoBack tree tree c.args.trace.now c.if-is_empty.trace = elim c.if-is_empty.branch [
      | then-is_empty+then-is_cleared+in_ok-open+in_ok-push_cleared w ↦ rw w.trace-is (then _ _ _ _ _ _ c.loop-lent.invariant.kept (then _ _ _ _ _ _ (rule_opened _ _ _ _ R.ClearMap2 refl w.in_ok-open.ensures.ok) (w.in_ok-push_cleared.ensures.kept tree)))
      | else-is_empty+then-has_content+in_ok-copy+in_ok-push w ↦ rw w.trace-is c.loop-lent.invariant.kept
      | else-is_empty+else-has_content w ↦ rw w.trace-is c.loop-lent.invariant.kept
    ] in
    record { through = through; kept = kept }

pub returns-clause-through : goal.returns-clause-through
returns-clause-through g c at n =
    let tree = g.S.TreeStore.tree c.args.store.now in
    let lent = c.as_slice-lent-items.result.now in
    let es = c.loop-lent.left.items in
    let same : keys_of es ++ filter (λ j. has_content (here at tree) j) (keys_lent (drop c.loop-lent.lent-index lent)) ≡ keys_of es = ap (λ x. keys_of es ++ filter (λ j. has_content (here at tree) j) (keys_lent x)) (drop_all c.loop-lent.lent-index lent c.loop-lent-test.false) ∙ append-nil (keys_of es) in
    λ deps. subst (λ (ks : List Key). ThroughKeys deps at tree c.args.trace.now tree ks [] c.loop-lent.trace) same (c.loop-lent.invariant.through at n deps)
