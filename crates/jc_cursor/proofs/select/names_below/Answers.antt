use Rattle.std.proofs.Common.{◌++◌, ◌∷◌, [], sym}
use Rattle.jc_rules.specs.declared.key.Tagged.TheVariants.{MapT}
use Rattle.jc_rules.specs.Context.{content}
use Rattle.jc_rules.proofs.BoolLemmas.{none_of}
use Rattle.jc_tree.specs.Tree.{here}
use Rattle.jc_cursor.proofs.WayDownLemmas.{map_below}
use Rattle.jc_cursor.proofs.SelectLemmas.{keys_down, keys_on_way, keys_no_map, handed_up}
use Rattle.jc_cursor.proofs.select.names_below.Goals as goal

pub returns-in_err-place-clause-refused : goal.returns-in_err-place-clause-refused
returns-in_err-place-clause-refused g c =
    handed_up _ _ _ _ c.from_residual.ensures.1 (λ why r. keys_on_way _ c.args.cursor.now c.as_slice-at.result.now c.as_slice-at.ensures.keys why r) c.in_err-place.ensures.refused

pub returns-in_default-clause-refused : goal.returns-in_default-clause-refused
returns-in_default-clause-refused g c =
    let at = c.as_slice-at.result.now in
    let child = content (MapT c.args.cursor.now.last) (here at (g.S.TreeStore.tree c.args.store.now)) in
    keys_no_map _ c.args.cursor.now at c.as_slice-at.ensures.keys c.in_ok-place.ensures.refuses (none_of child (sym (c.in_default.ensures.some at c.in_ok-place.ensures.named)))

pub returns-clause-ok : goal.returns-clause-ok
returns-clause-ok g c =
    let tree = g.S.TreeStore.tree c.args.store.now in
    let at = c.as_slice-at.result.now in
    let last = c.args.cursor.now.last in
    let named = c.in_ok-place.ensures.named in
    let down = at ++ MapT last ∷ [] in
    keys_down _ c.args.cursor.now at c.as_slice-at.ensures.keys (here down tree) _ c.args.trace.now c.go_down.new.trace c.push.new.self c.in_ok-place.ensures.leads (map_below at last tree.now c.in_ok-place.ensures.place (c.in-Some.ensures.some at named)) (c.in_ok-names_at.ensures down (c.in-Some.ensures.named at named)) c.in_ok-push.ensures.ok
