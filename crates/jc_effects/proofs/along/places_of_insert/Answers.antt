use Rattle.std.proofs.Common.{◌≡◌, [], ◌∷◌, sym, ◌∙◌}
use Rattle.std.specs.declared.cmp.Ordering.TheVariants.{Less}
use Rattle.std.proofs.lemmas.Result.{IfOk-weaker}
use Rattle.jc_rules.specs.declared.key.Key.TheVariants as K
use Rattle.jc_rules.specs.Order.{key_cmp}
use Rattle.jc_meaning.specs.Seen.{seen}
use Rattle.jc_effects.specs.Parts.{IsDifferenceAmong, differences_of}
use Rattle.jc_effects.proofs.OneLemmas.{is_less}
use Rattle.jc_effects.proofs.PartsAmongLemmas.{none_among}
use Rattle.jc_effects.proofs.PartsAlongLemmas.{link_first, element_first, element_lesser}
use Rattle.jc_effects.proofs.PartsInsertLemmas.{before_other}
use Rattle.jc_effects.proofs.along.places_of_insert.Goals as goal

pub returns-then-is_lt : goal.returns-then-is_lt
returns-then-is_lt g c =
    let o = c.args.change.now.op.now in
    let old = (g.S.TreeStore.tree c.args.change.now.old.now).now in
    let new = (g.S.TreeStore.tree c.args.change.now.new.now).now in
    let k = c.in_ok-before.before in
    let lesser : key_cmp k (K.Elem o.id) ≡ Less = sym c.compare_keys.ensures ∙ is_less c.compare_keys.result (sym c.is_lt.ensures ∙ c.if-is_lt.true) in
    let among : IsDifferenceAmong (K.Elem o.id ∷ []) (seen o.cursor.path old) (seen o.cursor.path new) (differences_of c.in_ok-rest.rest) = c.in_ok-rest.ensures [] tt (none_among _ _) in
    IfOk-weaker c.place_of_link.result _ _
    (λ e f. link_first o old new c.requires.changed c.requires.inserts k c.in_ok-before.ensures (differences_of e) (f (K.Elem o.id ∷ []) (lesser, tt) among))
    c.place_of_link.ensures

pub place_of_link-requires-else-is_lt-clause-other : goal.place_of_link-requires-else-is_lt-clause-other
place_of_link-requires-else-is_lt-clause-other g c =
    let o = c.args.change.now.op.now in
    before_other o (seen o.cursor.path (g.S.TreeStore.tree c.args.change.now.old.now).now) c.in_ok-before.before c.requires.inserts c.in_ok-before.ensures

pub returns : goal.returns
returns g c =
    let o = c.args.change.now.op.now in
    let old = (g.S.TreeStore.tree c.args.change.now.old.now).now in
    let new = (g.S.TreeStore.tree c.args.change.now.new.now).now in
    let k = c.in_ok-before.before in
    let lesser : key_cmp (K.Elem o.id) k ≡ Less = element_lesser o (seen o.cursor.path old) k c.requires.inserts c.in_ok-before.ensures c.compare_keys.result c.compare_keys.ensures (sym c.is_lt.ensures ∙ c.if-is_lt.false) in
    let among : IsDifferenceAmong (k ∷ []) (seen o.cursor.path old) (seen o.cursor.path new) (differences_of c.in_ok-rest-2.rest) = c.in_ok-rest-2.ensures [] tt (none_among _ _) in
    IfOk-weaker c.place_at_target-else-is_lt.result _ _
    (λ e f. element_first o old new c.requires.changed c.requires.inserts k c.in_ok-before.ensures (differences_of e) (f (k ∷ []) (lesser, tt) among))
    c.place_at_target-else-is_lt.ensures
