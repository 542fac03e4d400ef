use Rattle.std.proofs.Common.{◌≡◌, ◌+◌, ◌-◌, List, ◌++◌, length, take, drop, remove, length-drop, refl, ap, ◌∙◌, arith}
use Rattle.std.proofs.lemmas.List.{take_at}
use Rattle.jc_rules.specs.declared.operation.Op.{Op}
use Rattle.jc_replica.specs.OpLists.{OpsWithRoom}
use Rattle.jc_replica.proofs.OpListsLemmas.{removed_behind, removed_before, turned_long}
use Rattle.jc_replica.proofs.op_list.OpList.remove.Goals as goal

pub returns-then-place-len : goal.returns-then-place-len
returns-then-place-len c =
    let s = c.self.inside.spare in
    let p = c.args.place in
    let k = s + p + 1 - s in
    let os = c.deref_mut.result.now in
    let ws = c.rotate_left.new.self in
    let same : os ≡ c.self.inside.slots.items = c.deref_mut.ensures.value in
    let seen = ap (λ (r : OpsWithRoom). length r.items) c.self.view_is in
    let long : length (take s os ++ (ws ++ drop k (drop s os))) ≡ length os = turned_long s k os ws c.rotate_left.ensures.len in
    let all = take s os ++ (ws ++ drop k (drop s os)) in
    ap (drop (s + 1)) (take_at all (drop (length all) c.self.inside.slots.items) c.self.inside.slots.len (omega (arith, long, ap length same, c.self.inside.slots.ok.0)))
    ∙ removed_before s p (s + 1) k os ws refl (omega arith) (omega (arith, c.requires, seen, length-drop s c.self.inside.slots.items, ap length same)) c.rotate_left.ensures.after
    ∙ ap (λ (x : List Op). remove (drop s x) p) same
    ∙ ap (λ (r : OpsWithRoom). remove r.items p) c.self.view_is

pub returns-else-place-len : goal.returns-else-place-len
returns-else-place-len c =
    ap (drop c.self.inside.spare) c.remove.ensures.items ∙ removed_behind c.self.inside.spare c.args.place (c.self.inside.spare + c.args.place) c.self.inside.slots.items refl c.self.invariant ∙ ap (λ (r : OpsWithRoom). remove r.items c.args.place) c.self.view_is
