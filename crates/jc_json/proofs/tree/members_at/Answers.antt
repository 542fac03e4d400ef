use Rattle.std.proofs.Common.{rules}
use Rattle.jc_tree.specs.Tree.{here}
use Rattle.jc_json.specs.Parts.{by_place}
use Rattle.jc_json.proofs.PartsKindsLemmas.{all_kinds}
use Rattle.jc_json.proofs.tree.members_at.Goals as goal

pub returns : goal.returns
returns g c = λ at named names texts.
    let tree = g.S.TreeStore.tree c.args.store.now in
    all_kinds (g.S.TreeStore.names c.args.store.now) (by_place (g.S.TreeStore.path c.args.store.now) tree) at (here at tree) names c.args.texts.now.items _ _ _ _ _ _
    (c.in_ok-members.ensures at named) (c.in_ok-members_of.ensures at named) (c.in_ok-members_of-2.ensures at named) (c.in_ok-members_of-3.ensures at named) (c.in_ok-members_of-4.ensures at named) (search rules) texts
