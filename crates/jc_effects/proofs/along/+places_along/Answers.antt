use Rattle.std.proofs.Common.{◌+◌, ◌<◌, List, length, take, drop, sym, ap, subst, arith}
use Rattle.jc_rules.specs.declared.key.Tagged.{Tagged}
use Rattle.jc_meaning.specs.Seen.{seen}
use Rattle.jc_effects.specs.Difference.{IsDifference}
use Rattle.jc_effects.specs.Parts.{AreContexts, differences_of}
use Rattle.jc_effects.proofs.PartsAlongLemmas.{below_longer, key_at}
use Rattle.jc_effects.proofs.along.+places_along.Goals as goal

pub places_along-requires : goal.places_along-requires
places_along-requires g t c κs h =
    let old = c.args.change.now.old.now in
    let new = c.args.change.now.new.now in
    let path = c.args.change.now.op.now.cursor.path in
    let within : c.args.depth < length path = omega (arith, ap length c.as_slice-path.ensures.keys) in
    let key = key_at c.as_slice-path.result.now path c.args.depth c.index-path-depth.result c.as_slice-path.ensures.keys (omega (arith, ap length c.as_slice-path.ensures.keys)) c.index-path-depth.is in
    let contexts = subst (λ (p : List Tagged). AreContexts (g.S.TreeStore.names old) (g.S.TreeStore.names new) (g.S.TreeStore.tree old) (g.S.TreeStore.tree new) p c.contexts_below-inside.result) (sym key.longer) (c.contexts_below-inside.ensures (take c.args.depth path) c.requires.contexts) in
    (omega (arith, within), (h, (c.requires.changed, (contexts, omega (arith, within)))))

pub returns : goal.returns
returns g t c =
    let old = (g.S.TreeStore.tree c.args.change.now.old.now).now in
    let new = (g.S.TreeStore.tree c.args.change.now.new.now).now in
    let at = take c.args.depth c.args.change.now.op.now.cursor.path in
    let rest = drop (c.args.depth + 1) c.args.change.now.op.now.cursor.path in
    let effects = differences_of c.in_ok-effects.effects in
    let key = key_at c.as_slice-path.result.now c.args.change.now.op.now.cursor.path c.args.depth c.index-path-depth.result c.as_slice-path.ensures.keys (omega (arith, ap length c.as_slice-path.ensures.keys)) c.index-path-depth.is in
    let inside = below_longer at c.index-path-depth.result old new effects (subst (λ (p : List Tagged). IsDifference (seen p old) (seen p new) effects) key.longer c.in_ok-effects.ensures) in
    c.place_on_path.ensures at rest c.requires.contexts key.split inside
