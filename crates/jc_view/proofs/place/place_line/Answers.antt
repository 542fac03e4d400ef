use Rattle.std.proofs.Common.{rules, ◌≡◌, List, ℕ, [], ◌∷◌, ◌++◌, codes, ap, sym, ◌∙◌, subst}
use Rattle.json.specs.Print.{print}
use Rattle.json.specs.Token as T
use Rattle.json.specs.Tree.{json_tokens}
use Rattle.jc_rules.specs.Context.{Context}
use Rattle.jc_rules.specs.ContextsAt.{node_at}
use Rattle.jc_rules.specs.WellFormed.{IsChained}
use Rattle.jc_json.specs.Gains.{Gains}
use Rattle.jc_json.proofs.GainsLemmas.{gains_one, gains_then}
use Rattle.jc_view.specs.Parts.{member_tokens}
use Rattle.jc_view.specs.Places.{shown_at, shown_in, place_line}
use Rattle.jc_view.specs.Visible.{goes_by, line_json}
use Rattle.jc_view.proofs.MembersLemmas.{printed}
use Rattle.jc_view.proofs.PlacesLemmas.{line_tokens}
use Rattle.jc_view.proofs.place.place_line.Goals as goal

pub write_shown-requires : goal.write_shown-requires
write_shown-requires g c = subst IsChained (sym c.tree.ensures) c.requires

pub returns : goal.returns
unfolding place_line
returns g c =
    let state = c.args.replica.now.history.now in
    let cursor = c.args.cursor.now in
    let names = c.args.names.now in
    let name = c.args.name.now in
    let shown = shown_at names state cursor in
    let a = c.new-out.result in
    let g1 : Gains a c.begin_object.new.self (T.begin_object ∷ []) = gains_one _ _ _ _ _ c.in_ok-begin_object.was c.begin_object.ensures in
    let g2 : Gains c.begin_object.new.self c.write_shown.new.out (member_tokens (codes "doc") shown) =
    subst (λ (x : Context). Gains c.begin_object.new.self c.write_shown.new.out (member_tokens (codes "doc") (shown_in names (goes_by state) cursor.path (node_at cursor.path x) cursor.last))) c.tree.ensures c.in_ok-write_shown.ensures in
    let g3 : Gains c.write_shown.new.out c.key.new.self (T.key (codes "name") ∷ []) = gains_one _ _ _ _ _ c.in_ok-key.was c.key.ensures in
    let g4 : Gains c.key.new.self c.string.new.self (T.string name ∷ []) = gains_one _ _ _ _ _ c.in_ok-string.was c.string.ensures in
    let g5 : Gains c.string.new.self c.end_object.new.self (T.end_object ∷ []) = gains_one _ _ _ _ _ c.in_ok-end_object.was c.end_object.ensures in
    let all = gains_then _ _ _ _ _ (gains_then _ _ _ _ _ (gains_then _ _ _ _ _ (gains_then _ _ _ _ _ g1 g2) g3) g4) g5 in
    let all_is : Gains a c.end_object.new.self (json_tokens (line_json name shown)) = subst (Gains a c.end_object.new.self) (sym (line_tokens name shown)) all in
    let line : c.into_inner-line.result.items ≡ print (json_tokens (line_json name shown)) =
    printed a c.end_object.new.self _ _ (c.new-out.ensures.before ∙ c.new.ensures.items) c.new-out.ensures.tokens all_is c.into_inner-line.ensures.items in
    let pushed : c.push.new.self.items ≡ c.into_inner-line.result.items ++ 10 ∷ [] = search rules in
    pushed ∙ ap (λ (x : List ℕ). x ++ 10 ∷ []) line
