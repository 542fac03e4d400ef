use Rattle.std.proofs.Common.{rules, ◌≡◌, List, [], Option, Some, None, Bor, option_copied, refl, ◌∙◌, ap}
use Rattle.std.specs.Option.{unwrap_or}
use Rattle.std.proofs.lemmas.Slice.Eq.{slice_eq-Decides}
use Rattle.jc_rules.specs.declared.id.Id.{Id}
use Rattle.jc_meaning.specs.Seen.{ids_of_some}
use Rattle.jc_meaning.proofs.sameness.same_ids.Goals as goal

ids_now : (o : Option (Bor (List Id))) (d : Bor (List Id)) → d.now ≡ [] → (unwrap_or o d).now ≡ ids_of_some (option_copied o)
ids_now None d e = e
ids_now (Some s) d e = refl

pub returns : goal.returns
returns c =
    let left : c.unwrap_or.result.now ≡ ids_of_some (option_copied c.args.left) = ap (λ b. b.now) c.unwrap_or.ensures ∙ ids_now c.args.left _ refl in
    let right : c.unwrap_or-2.result.now ≡ ids_of_some (option_copied c.args.right) = ap (λ b. b.now) c.unwrap_or-2.ensures ∙ ids_now c.args.right _ refl in
    rw (← left, ← right) (slice_eq-Decides (λ a b. search rules) _ _ _ c.eq.ensures)
