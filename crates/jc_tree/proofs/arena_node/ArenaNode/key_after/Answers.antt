use Rattle.std.proofs.Common.{◌≡◌, ◌++◌, Option, option_copied, sym, ◌∙◌, ap}
use Rattle.jc_rules.specs.declared.key.Key.{Key}
use Rattle.jc_rules.specs.Entries.{keys_of}
use Rattle.jc_tree.specs.Arena.{Flat}
use Rattle.jc_tree.specs.Tree.{least_after}
use Rattle.jc_tree.proofs.WalksLemmas.{IsNext, next_is}
use Rattle.jc_tree.proofs.ArenaNodeLemmas.{tag_there, no_tag_there, no_tag_above}
use Rattle.jc_tree.proofs.arena_node.ArenaNode.key_after.Goals as goal

ends : (c : Flat) (d : Flat) (after : Option Key) → c ≡ d → least_after after (keys_of c.maps ++ keys_of c.lists ++ keys_of c.registers) ≡ least_after after (keys_of d.maps ++ keys_of d.lists ++ keys_of d.registers)
ends c d after e = ap (λ (f : Flat). least_after after (keys_of f.maps ++ keys_of f.lists ++ keys_of f.registers)) e

pub returns-then-has_tag : goal.returns-then-has_tag
returns-then-has_tag c =
    sym (sym (ends _ c.args.self.now (option_copied c.args.after) c.self.view_is) ∙ sym c.loop-key.invariant ∙ tag_there (option_copied c.loop-key.last) c.self.inside.keys c.above.ensures.numbered c.self.inside.maps.items c.self.inside.lists.items c.self.inside.registers.items c.in-Some.key.now c.in-Some.number (sym c.in-Some.ensures.key) c.in-Some.ensures.number (rw (← c.as_slice.ensures.value, ← c.as_slice-in-Some.ensures.value, ← c.as_slice-in-Some-2.ensures.value) (sym c.has_tag.ensures ∙ c.if-has_tag.true)))

pub loop-key-smaller : goal.loop-key-smaller
loop-key-smaller c =
    let n : IsNext (option_copied c.loop-key.last) (keys_of c.self.inside.keys.order) c.in-Some.key.now = next_is (option_copied c.loop-key.last) (keys_of c.self.inside.keys.order) c.in-Some.key.now (sym c.in-Some.ensures.key) in
    n.fewer

pub loop-key-preserved : goal.loop-key-preserved
loop-key-preserved c =
    sym (no_tag_there (option_copied c.loop-key.last) c.self.inside.keys c.above.ensures.numbered c.self.inside.maps.items c.self.inside.lists.items c.self.inside.registers.items c.in-Some.key.now c.in-Some.number (sym c.in-Some.ensures.key) c.in-Some.ensures.number (rw (← c.as_slice.ensures.value, ← c.as_slice-in-Some.ensures.value, ← c.as_slice-in-Some-2.ensures.value) (sym c.has_tag.ensures ∙ c.if-has_tag.false))) ∙ c.loop-key.invariant

pub returns : goal.returns
returns c =
    sym (sym (ends _ c.args.self.now (option_copied c.args.after) c.self.view_is) ∙ sym c.loop-key.invariant ∙ no_tag_above (option_copied c.loop-key.last) c.self.inside.keys c.above.ensures.numbered c.self.inside.maps.items c.self.inside.lists.items c.self.inside.registers.items (sym c.in_default.ensures.key))
