use Rattle.std.proofs.Common.{List, drop}
use Rattle.jc_rules.specs.declared.key.Tagged.{Tagged}
use Rattle.jc_tree.specs.Tree.{here}
use Rattle.jc_json.specs.Parts.{by_place}
use Rattle.jc_json.proofs.PartsMembersLemmas.{AreSoFar}
use Rattle.jc_json.proofs.tree.members_of.Given as goal

abbrev pub invariant-loop-text : goal.invariant-loop-text
invariant-loop-text g l =
    let named = g.S.TreeStore.names l.store in
    let tree = g.S.TreeStore.tree l.store in
    (at : List Tagged) → named l.place at → AreSoFar named (by_place (g.S.TreeStore.path l.store) tree) at (here at tree) l.kind l.texts.items (drop l.text-index l.text-items) l.members.items
