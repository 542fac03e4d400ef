use Rattle.std.proofs.Common.{◌≡◌, List, [], ◌∷◌, Some, get_or, sym, ap, subst, ◌∙◌}
use Rattle.std.proofs.lemmas.Option.{get_or_from_slice_get}
use Rattle.jc_rules.specs.declared.operation.Op.{Op}
use Rattle.jc_rules.specs.Table.{op_of}
use Rattle.jc_rules.proofs.RepresentationLemmas.{looked_up}
use Rattle.jc_replica.specs.Received.{IsOpPlace, IsOpAt, IsKeptList}
use Rattle.jc_replica.specs.Undo.{without_ops}
use Rattle.jc_replica.proofs.ReceivedLemmas.{without_absent, without_standing, standing_within, taken_out_kept, place_absent}
use Rattle.jc_replica.proofs.received.Received.take_out.Goals as goal

pub returns-in_default : goal.returns-in_default
returns-in_default c =
    let place = subst (λ (os : List Op). IsOpPlace c.args.id os c.place_of.result) (c.as_slice.ensures ∙ c.self.view_is) c.place_of.ensures in
    sym (without_absent c.args.id c.args.self.now (place_absent c.args.id c.args.self.now c.place_of.result place (λ n e. c.in_default.not-Ok n e)))

pub remove-requires : goal.remove-requires
remove-requires c =
    let stands : IsOpAt c.args.id c.self.inside.ops.items c.in-Ok.place = subst (λ (os : List Op). IsOpAt c.args.id os c.in-Ok.place) c.as_slice.ensures c.in-Ok.ensures in
    standing_within c.args.id c.self.inside.ops.items c.in-Ok.place stands

pub invariant_of-self : goal.invariant_of-self
invariant_of-self c =
    let os = c.self.inside.ops.items in
    let stands : IsOpAt c.args.id os c.in-Ok.place = subst (λ (x : List Op). IsOpAt c.args.id x c.in-Ok.place) c.as_slice.ensures c.in-Ok.ensures in
    let o = stands.operation in
    let own : o.id ≡ c.args.id = (looked_up c.args.id os o stands.found).0 in
    let same : c.index-ops-place.result ≡ o = c.index-ops-place.is ∙ ap (λ (x : List Op). get_or x c.in-Ok.place c.index-ops-place.result) c.as_slice-ops.ensures ∙ get_or_from_slice_get os c.in-Ok.place o c.index-ops-place.result stands.entry in
    let found : op_of c.index-ops-place.result.id os ≡ Some c.index-ops-place.result = subst (λ (x : Op). op_of x.id os ≡ Some x) (sym same) (ap (λ j. op_of j os) own ∙ stands.found) in
    let left : c.remove.new.self.items ≡ without_ops (c.index-ops-place.result.id ∷ []) os = c.remove.ensures ∙ sym (without_standing c.index-ops-place.result.id os c.in-Ok.place o c.self.invariant.order stands.entry (ap (λ (x : Op). x.id) (sym same))) in
    subst (λ (x : List Op). IsKeptList x c.lower.new.contiguous) (sym left) (taken_out_kept c.index-ops-place.result os c.self.inside.contiguous c.lower.new.contiguous c.self.invariant found c.lower.ensures.filled c.lower.ensures.missing)

pub returns : goal.returns
returns c =
    let os = c.self.inside.ops.items in
    let stands : IsOpAt c.args.id os c.in-Ok.place = subst (λ (x : List Op). IsOpAt c.args.id x c.in-Ok.place) c.as_slice.ensures c.in-Ok.ensures in
    let own = (looked_up c.args.id os stands.operation stands.found).0 in
    c.remove.ensures ∙ sym (without_standing c.args.id os c.in-Ok.place stands.operation c.self.invariant.order stands.entry own) ∙ ap (without_ops (c.args.id ∷ [])) c.self.view_is
