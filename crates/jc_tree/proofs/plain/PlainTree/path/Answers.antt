use Rattle.jc_tree.proofs.NamedLemmas.{index_inside, path_of_number}
use Rattle.std.proofs.Common.{sym, ◌∙◌, ap, Some}
use Rattle.jc_tree.proofs.plain.PlainTree.path.Goals as goal

pub index-requires : goal.index-requires
index-requires c =
    let paths = c.args.self.now.paths in
    rw paths.ok.0 (index_inside paths.items c.args.place.number c.if-place-eq0.false c.requires)

pub returns : goal.returns
returns c =
    let paths = c.args.self.now.paths.items in
    path_of_number paths c.args.place.number c.index.result.now c.if-place-eq0.false (index_inside paths c.args.place.number c.if-place-eq0.false c.requires) c.index.ensures ∙ ap (λ at. Some at) (sym c.as_slice.ensures.value)
