use Rattle.std.proofs.Common.{rules, ◌≡◌, [], ◌∷◌, ◌++◌, true, false, nat_eq, sym, ◌∙◌, ap, arith}
use Rattle.std.specs.Cmp.Lexicographic.{pointwise}
use Rattle.std.proofs.lemmas.List.{nil_from_length}
use Rattle.jc_json.specs.Parts.{with_last}
use Rattle.jc_json.proofs.PartsMembersLemmas.{gives_way, stays}
use Rattle.jc_json.proofs.tree.put_last.Goals as goal
use Rattle.jc_json.proofs.tree.put_last.Goals.{in-Some+then-ne+in_ok-push, in-Some+else-ne, in_default}

pub returns : goal.returns
returns c =
    let m = c.args.member in
    let front = c.pop.new.self.items in
    let now : c.push-2.new.self.items ≡ c.match-pop.members.items ++ m ∷ [] = search rules in
    elim c.match-pop.branch [
      | in-Some+then-ne+in_ok-push w ↦
          let last = w.in-Some.last in
          let was : c.args.members.now.items ≡ front ++ last ∷ [] = search rules in
          let kept : c.match-pop.members.items ≡ front ++ last ∷ [] = search rules in
          let other : pointwise nat_eq last.text.now m.text.now ≡ false = search rules in
          now ∙ ap (λ ms. ms ++ m ∷ []) kept ∙ sym (stays m last front other) ∙ ap (with_last m) (sym was)
      | in-Some+else-ne w ↦
          let last = w.in-Some.last in
          let was : c.args.members.now.items ≡ front ++ last ∷ [] = search rules in
          let kept : c.match-pop.members.items ≡ front = search rules in
          let same : pointwise nat_eq last.text.now m.text.now ≡ true = search rules in
          now ∙ ap (λ ms. ms ++ m ∷ []) kept ∙ sym (gives_way m last front same) ∙ ap (with_last m) (sym was)
      | in_default w ↦
          let none : c.args.members.now.items ≡ [] = nil_from_length c.args.members.now.items (grind arith) in
          let kept : c.match-pop.members.items ≡ [] = search rules in
          now ∙ ap (λ ms. ms ++ m ∷ []) kept ∙ ap (with_last m) (sym none)
    ]
