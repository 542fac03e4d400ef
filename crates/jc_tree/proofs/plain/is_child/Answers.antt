use Rattle.std.proofs.Common.{◌≡◌, [], ◌∷◌, ◌++◌, true, false, sym, ◌∙◌, refl}
use Rattle.jc_rules.proofs.PathLemmas.{paths_compared}
use Rattle.jc_tree.specs.Named.{child_key}
use Rattle.jc_tree.proofs.NamedLemmas.{last_same}
use Rattle.jc_tree.proofs.plain.is_child.Goals as goal

pub returns-then-eq : goal.returns-then-eq
returns-then-eq c =
    let front = c.in-Some.front.now in
    let last = c.in-Some.last.now in
    let whole : c.args.path.now ≡ front ++ last ∷ [] = c.in-Some.ensures.cases.0 in
    let same : front ≡ c.args.at.now = (paths_compared front c.args.at.now c.eq.result c.eq.ensures).0 c.if-eq.true in
    (λ is. whole ∙ rw (same, c.is_tagged.ensures.0 is) refl, λ e. c.is_tagged.ensures.1 (last_same front c.args.at.now last (child_key c.args.is_list c.args.key.now) (sym whole ∙ e)).1)

pub returns-else-eq : goal.returns-else-eq
returns-else-eq c =
    let front = c.in-Some.front.now in
    let last = c.in-Some.last.now in
    let whole : c.args.path.now ≡ front ++ last ∷ [] = c.in-Some.ensures.cases.0 in
    (λ is. let no : false ≡ true = sym c.if-eq.false ∙ is in cc, λ e. (paths_compared front c.args.at.now c.eq.result c.eq.ensures).1 (last_same front c.args.at.now last (child_key c.args.is_list c.args.key.now) (sym whole ∙ e)).0)
